-- The mission's third demand of a weighing's result: any result that the contract of `weigh` allows, where its number is 0, bounds the steps and
-- the firings of every run of the same table and goal, and its bound is a legal step limit. The contract allows one result alone.
use Prim.Native.Nat.{ℕ}
use mathlib.Core.Path.{◌≡◌, sym, ap, subst, ◌∙◌}
use mathlib.Core.List.{List}
use Rattle.model.specs.declared.Weighing.{Weighing}
use Rattle.model.specs.Calls.{weigh_of, run_of}
use Rattle.model.proofs.Ranges.{AreBytes}
use Rattle.model.proofs.Demand3.{Promise, Legal, weighed-run, legal-bound}

module _ (t weights g : List ℕ) (r : Weighing) (e : r ≡ weigh_of t weights g) where
  pub one-weighing : (q : Weighing) → q ≡ weigh_of t weights g → r ≡ q
  one-weighing q d = e ∙ sym d

  module _ (z : r.result.number ≡ 0) where
    number : (weigh_of t weights g).result.number ≡ 0
    number = ap (λ (r : Weighing). r.result.number) (sym e) ∙ z

    pub every-run : (limit : ℕ) (buffer : List ℕ) → Promise r.weight r.bound limit (run_of t g limit buffer).result
    every-run limit buffer =
        subst (λ (x : Weighing). Promise x.weight x.bound limit (run_of t g limit buffer).result) (sym e) (weighed-run t weights g number limit buffer)

    pub legal : AreBytes weights → Legal r
    legal b = subst Legal (sym e) (legal-bound t weights g b number)
