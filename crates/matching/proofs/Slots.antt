-- The four slots of a head where they lie, and a match over those that are left.
use Rattle.std.proofs.Common.{◌≡◌, refl, add-one, drop-cons, sym, ap, subst, ◌∙◌, ℕ, zero, suc, ◌+◌, ◌*◌, ◌<◌}
use Rattle.std.proofs.Common.{◌≤◌, Bool, true, false, List, [], ◌∷◌, drop, ℤ, pos, get_or, Option, Some, None, arith}
use Rattle.model.specs.declared.Fact.{Fact}
use Rattle.model.specs.declared.Binding.{Binding}
use Rattle.model.specs.declared.Slot.{Slot}
use Rattle.model.specs.declared.Slot.TheVariants.{Unused}
use Rattle.model.specs.Matching.{bound_if, match_slot, and_slot, match_slots, arguments, match_head}
use Rattle.model.specs.Slots.{slot_at}
use Rattle.model.specs.Table.{head_at, symbol_at}
use Rattle.matching.specs.declared.Asked.{Asked}
use Rattle.matching.specs.declared.Probe.{Probe}
use borrow.Author.Tests.{eq-eqb, ne_eqb}
use Rattle.std.proofs.Math.ListN.{drop_of_length-le}
use Rattle.std.proofs.lemmas.Option.{none-some, same_Some}
use Rattle.matching.specs.Views.{settled_of, Probing}

pub slot-of : (t : List ℕ) (p k : ℕ) → k < 4 → get_or (head_at t p).slots k Unused ≡ slot_at t (p + 2 + 5 * k)
unfolding head_at
slot-of t p zero l = ap (slot_at t) (omega arith)
slot-of t p (suc zero) l = ap (slot_at t) (omega arith)
slot-of t p (suc (suc zero)) l = ap (slot_at t) (omega arith)
slot-of t p (suc (suc (suc zero))) l = ap (slot_at t) (omega arith)
slot-of t p (suc (suc (suc (suc k)))) l = absurd (omega arith)

-- a probe of the head's symbol, and of the first slot that is settled
module _ (t : List ℕ) (p : ℕ) (b : Binding) where
  abbrev probed : Option Asked → Probe
  probed asked = record { symbol = symbol_at t (p + 1); asked = asked }

  pub asked-here : (a : Asked) {o : Option ℤ} → o ≡ settled_of b (slot_at t (p + 2 + 5 * a.place)) → {z : ℤ} → o ≡ Some z → a.value ≡ z
      → Probing (head_at t p) b (probed (Some a))
  unfolding head_at
  asked-here a s n v = record {
    symbol_is = refl;
    settles = λ x k. subst (λ (y : Asked). settled_of b (get_or (head_at t p).slots y.place Unused) ≡ Some y.value) (same_Some a x k) here;
  }
    where
      here : settled_of b (get_or (head_at t p).slots a.place Unused) ≡ Some a.value
      here = ap (settled_of b) (slot-of t p a.place a.within) ∙ sym s ∙ n ∙ ap Some (sym v)

  pub asked-nowhere : Probing (head_at t p) b (probed None)
  unfolding head_at
  asked-nowhere = record { symbol_is = refl; settles = λ x k. absurd (none-some x k) }

-- ---- a match over the slots that are left

pub argument-of : (f : Fact) (k : ℕ) → k < 4 → get_or (arguments f) k (pos 0) ≡ get_or f.arguments k (pos 0)
argument-of f zero l = refl
argument-of f (suc zero) l = refl
argument-of f (suc (suc zero)) l = refl
argument-of f (suc (suc (suc zero))) l = refl
argument-of f (suc (suc (suc (suc k)))) l = absurd (omega arith)

pub none-more : (ss : List Slot) (zs : List ℤ) → match_slots ss zs None ≡ None
unfolding match_slots and_slot
none-more [] zs = refl
none-more (s ∷ ss) [] = refl
none-more (s ∷ ss) (z ∷ zs) = none-more ss zs

-- what the slots from k on make of a binding
abbrev left : List ℕ → ℕ → Fact → ℕ → Option Binding → Option Binding
left t p f k m = match_slots (drop k (head_at t p).slots) (drop k (arguments f)) m

-- the slots before k made b of b₀
pub record Matching (t : List ℕ) (p : ℕ) (f : Fact) (b₀ b : Binding) (k : ℕ) : Type 0 where
  pub same : left t p f k (Some b) ≡ left t p f 0 (Some b₀)

module _ {t : List ℕ} {p : ℕ} {f : Fact} {b₀ b : Binding} {k : ℕ} (w : Matching t p f b₀ b k) where
  module _ (l : k < 4) {z : ℤ} (o : Bool) (c : Binding) (m : bound_if o c ≡ match_slot (slot_at t (p + 2 + 5 * k)) z b)
      (e : z ≡ get_or f.arguments k (pos 0)) where
    passed : left t p f (k + 1) (bound_if o c) ≡ left t p f 0 (Some b₀)
    unfolding match_slots and_slot head_at
    passed =
        let ss : drop k (head_at t p).slots ≡ slot_at t (p + 2 + 5 * k) ∷ drop (k + 1) (head_at t p).slots
        = drop-cons (head_at t p).slots k Unused l ∙ rw (slot-of t p k l, add-one k) in
        let zs : drop k (arguments f) ≡ get_or f.arguments k (pos 0) ∷ drop (k + 1) (arguments f)
        = drop-cons (arguments f) k (pos 0) l ∙ rw (argument-of f k l, add-one k) in
        rw (m, e) (rw (ss, zs) at w.same)

    pub head-next : o ≡ true → Matching t p f b₀ c (k + 1)
    head-next q = record { same = rw q at passed }

    pub head-miss : o ≡ false → get_or t (p + 1) 0 ≡ f.symbol.0 → None ≡ match_head (head_at t p) f b₀
    unfolding match_head head_at
    head-miss q s = rw (eq-eqb _ _ s) (sym (none-more _ _) ∙ rw q at passed)

  pub head-done : 4 ≤ k → get_or t (p + 1) 0 ≡ f.symbol.0 → Some b ≡ match_head (head_at t p) f b₀
  unfolding match_head head_at match_slots
  head-done l s =
      let none : drop k (head_at t p).slots ≡ [] = drop_of_length-le (head_at t p).slots l in
      rw (eq-eqb _ _ s) (rw none at w.same)

pub head-other : (t : List ℕ) (p : ℕ) (f : Fact) (b : Binding) → (get_or t (p + 1) 0 ≡ f.symbol.0 → ⊥) → None ≡ match_head (head_at t p) f b
unfolding match_head head_at
head-other t p f b d = rw (ne_eqb _ _ d)
