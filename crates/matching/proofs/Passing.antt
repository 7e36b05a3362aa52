-- A walk over facts to the first one that passes: one that does not pass leaves what the others leave.
use Rattle.std.proofs.Common.{◌≡◌, refl, sym, ap, ◌∙◌, ℕ, suc, ◌+◌, ◌-◌, ◌<◌, ◌≤◌}
use Rattle.std.proofs.Common.{Bool, true, false, List, [], ◌∷◌, length, take, drop, get_or, drop-cons, add-one}
use Rattle.std.proofs.Common.{arith, take_all, length-drop}
use Rattle.std.proofs.Math.ListN.{drop_of_length-le}
use Rattle.model.specs.declared.Stored.{Stored}
use Rattle.matching.specs.declared.Probe.{Probe}
use Rattle.matching.specs.Views.{passes_of, from_passing}

pub passes-here : (r : Probe) (s : Stored) (ss : List Stored) → passes_of r s.fact ≡ true → from_passing r (s ∷ ss) ≡ s ∷ ss
unfolding from_passing
passes-here r s ss e = rw (from_passing, e) refl

pub passes-behind : (r : Probe) (s : Stored) (ss : List Stored) → passes_of r s.fact ≡ false → from_passing r (s ∷ ss) ≡ from_passing r ss
unfolding from_passing
passes-behind r s ss e = rw (from_passing, e) refl

module _ (r : Probe) (ss : List Stored) (i : ℕ) (known : from_passing r (drop i ss) ≡ from_passing r ss) where
  module _ (h : i < length ss) (d : Stored) {b : Bool} (e : b ≡ passes_of r (get_or ss i d).fact) where
    one-at : drop i ss ≡ get_or ss i d ∷ drop (i + 1) ss
    one-at = drop-cons ss i d h ∙ rw (add-one i)

    pub first-passes : b ≡ true → take (length ss - i) (drop i ss) ≡ from_passing r ss
    first-passes t =
        take_all _ (drop i ss) (omega (arith, length-drop i ss)) ∙ one-at
        ∙ sym (ap (from_passing r) one-at ∙ passes-here r (get_or ss i d) (drop (i + 1) ss) (sym e ∙ t)) ∙ known

    pub passed-over : b ≡ false → from_passing r (drop (i + 1) ss) ≡ from_passing r ss
    passed-over t = sym (ap (from_passing r) one-at ∙ passes-behind r (get_or ss i d) (drop (i + 1) ss) (sym e ∙ t)) ∙ known

  pub none-passes : length ss ≤ i → [] ≡ from_passing r ss
  unfolding from_passing
  none-passes l = sym (rw (drop_of_length-le ss l) refl) ∙ known

pub passing-long : (r : Probe) (ss : List Stored) → length (from_passing r ss) ≤ length ss
unfolding from_passing
passing-long r [] = omega arith
passing-long r (s ∷ ss) = go (passes_of r s.fact) refl (passing-long r ss)
  where
    go : (b : Bool) → passes_of r s.fact ≡ b → length (from_passing r ss) ≤ length ss → length (from_passing r (s ∷ ss)) ≤ suc (length ss)
    go true e l = let q = ap length (passes-here r s ss e) in omega arith
    go false e l = let q = ap length (passes-behind r s ss e) in omega arith
