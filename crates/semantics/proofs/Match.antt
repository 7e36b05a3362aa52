-- The definition's matching against the substitutions of the instances: what a match gives is the least binding that has what was bound before it
-- and makes the head equal to the fact, and where there is no match there is no such binding. One slot is a case each; slots and heads follow one
-- behind the other.
use Prim.Native.Nat.{ℕ, zero, suc, ◌<◌}
use native.Mathlib.Omega.{arith}
use mathlib.Core.Path.{◌≡◌, refl, sym, ◌∙◌, ap}
use mathlib.Core.Bool.{Bool, true, false, cond}
use Rattle.std.proofs.lemmas.Option.{same_Some}
use Rattle.std.specs.Prelude.{Option, Some, None}
use mathlib.Core.List.{List, [], ◌∷◌}
use lib.IntN.{ℤ}
use lib.Dec.{eqb, ltb}
use lib.ListN.{length, get_or, length-set, replicate}
use lib.Seq.{get_or-set_same, get_or-set_other}
use borrow.Author.Tests.{eqb-true, eqb-false, eq-eqb, ltb-true}
use Rattle.numbers.specs.Numbers.{equal}
use Rattle.numbers.proofs.Laws.{equal-same, equal-is}
use Rattle.model.specs.declared.Fact.{Fact}
use Rattle.model.specs.declared.Binding.{Binding}
use Rattle.model.specs.declared.Slot.{Slot}
use Rattle.model.specs.declared.Slot.TheVariants.{Unused, Constant, Variable, Bad}
use Rattle.model.specs.declared.Expression.{Expression}
use Rattle.model.specs.Table.{Head, Guard, same_symbol}
use Rattle.model.specs.Guards.{unbound, variable_value, slot_value, expression_value, comparison_value, guard_value}
use Rattle.model.specs.Matching.{bound_if, match_value, with_variable, match_variable, match_slot, and_slot, match_slots, arguments, match_head}
use Rattle.model.proofs.Every.{every}
use Rattle.model.proofs.Sound.{same-symbol}
use Rattle.model.proofs.Lists.{never}
use Rattle.semantics.specs.Instances.{PartOf, SlotIs, SlotsAre, HeadIs}

-- ---- bindings

pub record Sized (b : Binding) : Type 0 where
  pub values : length b.values ≡ 16

pub part-refl : (b : Binding) → PartOf b b
part-refl b v z e = e

pub part-trans : (a b c : Binding) → PartOf a b → PartOf b c → PartOf a c
part-trans a b c p q v z e = q v z (p v z e)

pub unbound-part : (b : Binding) → PartOf unbound b
unfolding variable_value
unbound-part b v z e = go (ltb v 16) (rw (blank 16 v) at e)
  where
    blank : (n u : ℕ) → get_or {A = Option ℤ} (replicate n None) u None ≡ None
    blank zero u = refl
    blank (suc n) zero = refl
    blank (suc n) (suc u) = blank n u

    go : (x : Bool) → cond {A = Option ℤ} x None None ≡ Some z → variable_value b v ≡ Some z
    go true e = absurd cc
    go false e = absurd cc

-- ---- a variable that is bound now

module _ (b : Binding) (v : ℕ) (z : ℤ) where
  with-same : Sized b → ltb v 16 ≡ true → variable_value (with_variable b v z) v ≡ Some z
  unfolding variable_value with_variable
  with-same k l =
      let h : v < 16 = ltb-true v 16 l in
      rw (l, get_or-set_same b.values v (Some z) None (omega (arith, k.values)))

  with-other : (u : ℕ) → (u ≡ v → ⊥) → variable_value (with_variable b v z) u ≡ variable_value b u
  unfolding variable_value with_variable
  with-other u d = rw (get_or-set_other b.values v u (Some z) None d)

  with-sized : Sized b → Sized (with_variable b v z)
  unfolding with_variable
  with-sized k = record { values = length-set b.values v (Some z) ∙ k.values }

-- ---- what a match is: Q is what it makes true

pub record Extends (Q : Binding → Type 0) (b c : Binding) : Type 0 where
  pub sized : Sized c
  pub part : PartOf b c
  pub fits : Q c
  pub least : (η : Binding) → PartOf b η → Q η → PartOf c η

abbrev pub Matched : (Binding → Type 0) → Binding → Option Binding → Type 0
Matched Q b None = (η : Binding) → PartOf b η → Q η → ⊥
Matched Q b (Some c) = Extends Q b c

-- ---- one slot

test-matched : (Q : Binding → Type 0) (b : Binding) (x : Bool) → Sized b → (x ≡ true → Q b) → ((η : Binding) → PartOf b η → Q η → x ≡ true)
    → Matched Q b (bound_if x b)
test-matched Q b true k is must = record { sized = k; part = part-refl b; fits = is refl; least = λ η p q. p }
test-matched Q b false k is must = λ η p q. never (sym (must η p q))

variable-is : (b : Binding) (v : ℕ) (o : Option ℤ) → ltb v 16 ≡ true → get_or b.values v None ≡ o → variable_value b v ≡ o
unfolding variable_value
variable-is b v o p q = rw p q

variable-outside : (b : Binding) (v : ℕ) (z : ℤ) → ltb v 16 ≡ false → variable_value b v ≡ Some z → ⊥
unfolding variable_value
variable-outside b v z p e = let f = rw p at e in cc

variable-matched : (b : Binding) (v : ℕ) (z : ℤ) → Sized b → Matched (λ η. variable_value η v ≡ Some z) b (match_variable b v z)
unfolding match_variable
variable-matched b v z k = go (ltb v 16) (get_or b.values v None) refl refl
  where
    fresh : variable_value b v ≡ None → ltb v 16 ≡ true → Extends (λ η. variable_value η v ≡ Some z) b (with_variable b v z)
    fresh u p = record {
      sized = with-sized b v z k;
      part = λ w x e. at w x e (eqb w v) refl;
      fits = with-same b v z k p;
      least = λ η h q w x e. back η h q w x e (eqb w v) refl;
    }
      where
        at : (w : ℕ) (x : ℤ) → variable_value b w ≡ Some x → (o : Bool) → eqb w v ≡ o → variable_value (with_variable b v z) w ≡ Some x
        at w x e true o = absurd (let f = ap (variable_value b) (eqb-true w v o) in cc)
        at w x e false o = with-other b v z w (eqb-false w v o) ∙ e

        back : (η : Binding) → PartOf b η → variable_value η v ≡ Some z → (w : ℕ) (x : ℤ) → variable_value (with_variable b v z) w ≡ Some x → (o : Bool)
            → eqb w v ≡ o → variable_value η w ≡ Some x
        back η h q w x e true o =
            let f = eqb-true w v o in
            ap (variable_value η) f ∙ q ∙ sym (with-same b v z k p) ∙ ap (variable_value (with_variable b v z)) (sym f) ∙ e
        back η h q w x e false o = h w x (sym (with-other b v z w (eqb-false w v o)) ∙ e)

    go : (y : Bool) (o : Option ℤ) → ltb v 16 ≡ y → get_or b.values v None ≡ o
        → Matched (λ η. variable_value η v ≡ Some z) b (cond y (match_value o b v z) None)
    go true (Some x) p q =
        let e = variable-is b v (Some x) p q in
        test-matched (λ η. variable_value η v ≡ Some z) b (equal x z) k
        (λ s. e ∙ ap Some (equal-is x z s))
        (λ η h s. let f : x ≡ z = same_Some x z (sym (h v x e) ∙ s) in rw f (equal-same z))
    go true None p q = fresh (variable-is b v None p q) p
    go false o p q = λ η h s. variable-outside η v z p s

slot-matched : (s : Slot) (z : ℤ) (b : Binding) → Sized b → Matched (λ η. SlotIs η s z) b (match_slot s z b)
unfolding match_slot
slot-matched Unused z b k = record { sized = k; part = part-refl b; fits = tt; least = λ η p q. p }
slot-matched (Constant c) z b k = test-matched (λ η. SlotIs η (Constant c) z) b (equal c z) k (equal-is c z) (λ η p q. rw q (equal-same z))
slot-matched (Variable v) z b k = variable-matched b v z k
slot-matched Bad z b k = λ η p q. q

-- ---- more than one: what fits goes on fitting when more is bound

slot-later : (s : Slot) (z : ℤ) (b c : Binding) → PartOf b c → SlotIs b s z → SlotIs c s z
slot-later Unused z b c p q = q
slot-later (Constant d) z b c p q = q
slot-later (Variable v) z b c p q = p v z q
slot-later Bad z b c p q = q

slots-later : (ss : List Slot) (zs : List ℤ) (b c : Binding) → PartOf b c → SlotsAre b ss zs → SlotsAre c ss zs
slots-later [] zs b c p q = tt
slots-later (s ∷ ss) [] b c p q = tt
slots-later (s ∷ ss) (z ∷ zs) b c p q = (slot-later s z b c p q.0, slots-later ss zs b c p q.1)

pub head-later : (h : Head) (f : Fact) (b c : Binding) → PartOf b c → HeadIs b h f → HeadIs c h f
head-later h f b c p q = record { symbol = q.symbol; slots = slots-later h.slots (arguments f) b c p q.slots }

slots-none : (ss : List Slot) (zs : List ℤ) → match_slots ss zs None ≡ None
unfolding match_slots and_slot
slots-none [] zs = refl
slots-none (s ∷ ss) [] = refl
slots-none (s ∷ ss) (z ∷ zs) = slots-none ss zs

slots-matched : (ss : List Slot) (zs : List ℤ) (b : Binding) → Sized b → Matched (λ η. SlotsAre η ss zs) b (match_slots ss zs (Some b))
unfolding match_slots and_slot
slots-matched [] zs b k = record { sized = k; part = part-refl b; fits = tt; least = λ η p q. p }
slots-matched (s ∷ ss) [] b k = record { sized = k; part = part-refl b; fits = tt; least = λ η p q. p }
slots-matched (s ∷ ss) (z ∷ zs) b k = go (match_slot s z b) (slot-matched s z b k) (λ c l. slots-matched ss zs c l)
  where
    both : (c : Binding) → Extends (λ η. SlotIs η s z) b c → (o : Option Binding) → Matched (λ η. SlotsAre η ss zs) c o
        → Matched (λ η. SlotsAre η (s ∷ ss) (z ∷ zs)) b o
    both c u None w = λ η p q. w η (u.least η p q.0) q.1
    both c u (Some d) w = record {
      sized = w.sized;
      part = part-trans b c d u.part w.part;
      fits = (slot-later s z c d w.part u.fits, w.fits);
      least = λ η p q. w.least η (u.least η p q.0) q.1;
    }

    go : (o : Option Binding) → Matched (λ η. SlotIs η s z) b o → ((c : Binding) → Sized c → Matched (λ η. SlotsAre η ss zs) c (match_slots ss zs (Some c)))
        → Matched (λ η. SlotsAre η (s ∷ ss) (z ∷ zs)) b (match_slots ss zs o)
    go None u ih = rw (slots-none ss zs) (λ η p q. u η p q.0)
    go (Some c) u ih = both c u (match_slots ss zs (Some c)) (ih c u.sized)

pub head-matched : (h : Head) (f : Fact) (b : Binding) → Sized b → Matched (λ η. HeadIs η h f) b (match_head h f b)
unfolding match_head
head-matched h f b k = go (same_symbol h.symbol f.symbol) refl
  where
    all : (o : Option Binding) → h.symbol ≡ f.symbol → Matched (λ η. SlotsAre η h.slots (arguments f)) b o → Matched (λ η. HeadIs η h f) b o
    all None e u = λ η p q. u η p q.slots
    all (Some c) e u = record { sized = u.sized; part = u.part; fits = record { symbol = e; slots = u.fits }; least = λ η p q. u.least η p q.slots }

    go : (x : Bool) → same_symbol h.symbol f.symbol ≡ x → Matched (λ η. HeadIs η h f) b (cond x (match_slots h.slots (arguments f) (Some b)) None)
    go true e = all (match_slots h.slots (arguments f) (Some b)) (same-symbol h.symbol f.symbol e) (slots-matched h.slots (arguments f) b k)
    go false e = λ η p q. never (sym (eq-eqb h.symbol.0 f.symbol.0 (ap (λ s. s.0) q.symbol)) ∙ e)

-- ---- guards

-- what a guard list comes to behind its first comparison
abbrev pub behind_first : Binding → List Guard → Option Bool → Option Bool
behind_first b gs v = elim v [ Some true ↦ guard_value b gs | Some false ↦ Some false | None ↦ None ]

-- where each comparison has the same value, so has the guard list
pub guards-by : (b c : Binding) (gs : List Guard) → every (λ (g : Guard). comparison_value b g ≡ comparison_value c g) gs → guard_value b gs ≡ guard_value c gs
unfolding guard_value
guards-by b c [] u = refl
guards-by b c (g ∷ gs) u = ap (behind_first b gs) u.0 ∙ same (comparison_value c g) (guards-by b c gs u.1)
  where
    same : (x : Option Bool) → guard_value b gs ≡ guard_value c gs → behind_first b gs x ≡ behind_first c gs x
    same (Some true) e = e
    same (Some false) e = refl
    same None e = refl

-- two bindings, each part of the other, give a guard the same value

module _ (b c : Binding) (p : PartOf b c) (q : PartOf c b) where
  variable-same : (v : ℕ) → variable_value b v ≡ variable_value c v
  variable-same v = go (variable_value b v) (variable_value c v) refl refl
    where
      go : (x y : Option ℤ) → variable_value b v ≡ x → variable_value c v ≡ y → x ≡ y
      go (Some x) y e f = sym (p v x e) ∙ f
      go None (Some y) e f = sym e ∙ q v y f
      go None None e f = refl

  slot-same : (s : Slot) → slot_value b s ≡ slot_value c s
  unfolding slot_value
  slot-same Unused = refl
  slot-same (Constant z) = refl
  slot-same (Variable v) = variable-same v
  slot-same Bad = refl

  pub expression-same : (e : Expression) → expression_value b e ≡ expression_value c e
  unfolding expression_value
  expression-same e = rw (slot-same e.left, slot-same e.right)

  comparison-same : (g : Guard) → comparison_value b g ≡ comparison_value c g
  unfolding comparison_value
  comparison-same g = rw (expression-same g.left, expression-same g.right)

  pub guard-same : (gs : List Guard) → guard_value b gs ≡ guard_value c gs
  guard-same gs = guards-by b c gs (all gs)
    where
      all : (gs : List Guard) → every (λ (g : Guard). comparison_value b g ≡ comparison_value c g) gs
      all [] = tt
      all (g ∷ gs) = (comparison-same g, all gs)
