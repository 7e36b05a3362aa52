-- A fact that doesn't show what the probe asks has no match: each slot keeps what is settled before it.
use Rattle.std.proofs.Common.{◌≡◌, refl, sym, ap, ◌∙◌, ℕ, zero, suc, ◌<◌, Bool, true, false, cond}
use Rattle.std.proofs.Common.{List, [], ◌∷◌, length, ℤ, pos, get_or, eqb, ltb, Option, Some, None, arith}
use Rattle.std.proofs.Math.Seq.{get_or-set_other}
use Rattle.std.proofs.lemmas.Option.{none-some, same_Some}
use Rattle.numbers.specs.Numbers.{equal}
use Rattle.model.specs.declared.Fact.{Fact}
use Rattle.model.specs.declared.Binding.{Binding}
use Rattle.model.specs.declared.Slot.{Slot}
use Rattle.model.specs.declared.Slot.TheVariants.{Unused, Constant, Variable, Bad}
use Rattle.model.specs.Guards.{variable_value}
use Rattle.model.specs.Matching.{bound_if, with_variable, match_value, match_variable, match_slot, and_slot, match_slots, arguments, match_head}
use Rattle.model.specs.Table.{Head}
use Rattle.matching.specs.declared.Asked.{Asked}
use Rattle.matching.specs.declared.Probe.{Probe}
use Rattle.matching.proofs.Slots.{argument-of, none-more}
use Rattle.matching.specs.Views.{settled_of, shows, passes_of, Probing}

-- ---- what b settles, c settles too

abbrev Keeps : Binding → Binding → Type 0
Keeps b c = (v : ℕ) (x : ℤ) → get_or b.values v None ≡ Some x → get_or c.values v None ≡ Some x

abbrev KeepsIn : Binding → Option Binding → Type 0
KeepsIn b None = Unit {0}
KeepsIn b (Some c) = Keeps b c

keeps-bound : (b c : Binding) (v : ℕ) (z : ℤ) → Keeps b c → get_or c.values v None ≡ None → Keeps b (with_variable c v z)
unfolding with_variable
keeps-bound b c v z k free u x e =
    let at = k u x e in
    let other : u ≡ v → ⊥ = λ (q : u ≡ v). none-some x (sym free ∙ ap (λ (w : ℕ). get_or c.values w None) (sym q) ∙ at) in
    get_or-set_other c.values v u (Some z) None other ∙ at

keeps-if : (b c : Binding) (x : Bool) → Keeps b c → KeepsIn b (bound_if x c)
keeps-if b c true k = k
keeps-if b c false k = tt

keeps-variable : (b c : Binding) (v : ℕ) (z : ℤ) → Keeps b c → KeepsIn b (match_variable c v z)
unfolding match_variable
keeps-variable b c v z k = go (ltb v 16)
  where
    value : (o : Option ℤ) → get_or c.values v None ≡ o → KeepsIn b (match_value o c v z)
    value (Some x) e = keeps-if b c (equal x z) k
    value None e = keeps-bound b c v z k e

    go : (x : Bool) → KeepsIn b (cond x (match_value (get_or c.values v None) c v z) None)
    go true = value (get_or c.values v None) refl
    go false = tt

keeps-slot : (b c : Binding) (s : Slot) (z : ℤ) → Keeps b c → KeepsIn b (match_slot s z c)
unfolding match_slot
keeps-slot b c Unused z k = k
keeps-slot b c (Constant d) z k = keeps-if b c (equal d z) k
keeps-slot b c (Variable v) z k = keeps-variable b c v z k
keeps-slot b c Bad z k = tt

keeps-and : (b : Binding) (s : Slot) (z : ℤ) (m : Option Binding) → KeepsIn b m → KeepsIn b (and_slot s z m)
unfolding and_slot
keeps-and b s z None k = tt
keeps-and b s z (Some c) k = keeps-slot b c s z k

-- ---- an argument that is not the settled one

miss-variable : (b c : Binding) (v : ℕ) (z a : ℤ) → Keeps b c → variable_value b v ≡ Some z → equal z a ≡ false → match_variable c v a ≡ None
unfolding variable_value match_variable
miss-variable b c v z a k = go (ltb v 16)
  where
    go : (x : Bool) → cond {A = Option ℤ} x (get_or b.values v None) None ≡ Some z → equal z a ≡ false
        → cond {A = Option Binding} x (match_value (get_or c.values v None) c v a) None ≡ None
    go true q n = rw (k v z q, n) refl
    go false q n = refl

miss-slot : (b c : Binding) (s : Slot) (z a : ℤ) → Keeps b c → settled_of b s ≡ Some z → equal z a ≡ false → match_slot s a c ≡ None
unfolding settled_of match_slot
miss-slot b c Unused z a k q n = absurd (none-some z q)
miss-slot b c (Constant d) z a k q n = rw (same_Some d z q, n) refl
miss-slot b c (Variable v) z a k q n = miss-variable b c v z a k q n
miss-slot b c Bad z a k q n = refl

miss-and : (b : Binding) (s : Slot) (z a : ℤ) (m : Option Binding) → KeepsIn b m → settled_of b s ≡ Some z → equal z a ≡ false → and_slot s a m ≡ None
unfolding and_slot
miss-and b s z a None k q n = refl
miss-and b s z a (Some c) k q n = miss-slot b c s z a k q n

miss-slots : (b : Binding) (ss : List Slot) (zs : List ℤ) (m : Option Binding) (k : ℕ) (z : ℤ) → KeepsIn b m → k < length zs
    → settled_of b (get_or ss k Unused) ≡ Some z → equal z (get_or zs k (pos 0)) ≡ false
    → match_slots ss zs m ≡ None
unfolding match_slots settled_of
miss-slots b [] zs m k z g l q n = absurd (none-some z q)
miss-slots b (s ∷ ss) [] m k z g l q n = absurd (omega arith)
miss-slots b (s ∷ ss) (y ∷ zs) m zero z g l q n = ap (match_slots ss zs) (miss-and b s z y m g q n) ∙ none-more ss zs
miss-slots b (s ∷ ss) (y ∷ zs) m (suc k) z g l q n = miss-slots b ss zs (and_slot s y m) k z (keeps-and b s y m g) (omega arith) q n

-- ---- a fact

module _ (h : Head) (b : Binding) (r : Probe) (p : Probing h b r) (f : Fact) where
  slots-miss : (o : Option Asked) → r.asked ≡ o → shows o f ≡ false → match_slots h.slots (arguments f) (Some b) ≡ None
  slots-miss None e n = absurd (never n)
    where
      never : true ≡ false → ⊥
      never e = let z : ◌≡◌ {A = ℕ} 0 1 = cc in omega arith
  slots-miss (Some a) e n =
      let other = ap (equal a.value) (argument-of f a.place a.within) ∙ n in
      miss-slots b h.slots (arguments f) (Some b) a.place a.value (λ v x q. q) a.within (p.settles a e) other

  pub no-pass : passes_of r f ≡ false → match_head h f b ≡ None
  unfolding passes_of match_head
  no-pass q = go (eqb h.symbol.0 f.symbol.0) (rw p.symbol_is at q)
    where
      go : (x : Bool) → cond x (shows r.asked f) false ≡ false → cond {A = Option Binding} x (match_slots h.slots (arguments f) (Some b)) None ≡ None
      go true n = slots-miss r.asked refl n
      go false n = refl
