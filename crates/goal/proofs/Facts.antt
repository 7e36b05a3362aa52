-- The facts of a goal, one after the other: what a turn of `facts_verdict` finds; and a fact of its five parts.
use Prim.Native.Nat.{ℕ, suc, ◌+◌, ◌-◌, ◌*◌, ◌<◌, ◌≤◌}
use mathlib.Core.Path.{◌≡◌, sym, ◌∙◌}
use mathlib.Core.List.{List}
use mathlib.Core.Bool.{Bool, true, false, not}
use native.Mathlib.Omega.{arith}
use lib.Dec.{eqb}
use borrow.Author.Tests.{eq-eqb, ne_eqb}
use Rattle.records.proofs.Tests.{flag}
use Rattle.std.specs.Prelude.{Ok}
use Rattle.model.specs.Goal.{goal_fact_bad, facts_verdict}
use Rattle.model.specs.declared.Reason.TheVariants.{BadGoalFact}
use Rattle.model.specs.Refusals.{Verdict, refused}

-- a test that two numbers differ
pub differ : {a b : ℕ} → (a ≡ b → ⊥) → not (eqb a b) ≡ true
differ {a} {b} h = rw (ne_eqb a b h)

pub agree : {a b : ℕ} → a ≡ b → not (eqb a b) ≡ false
agree {a} {b} e = rw (eq-eqb a b e)

-- the facts from k on answer for all n of them
pub record FactsLeft (t : List ℕ) (symbols : ℕ) (g : List ℕ) (n k : ℕ) : Type 0 where
  pub same : facts_verdict t symbols g 0 n ≡ facts_verdict t symbols g k (n - k)
  pub few : k ≤ n

pub facts-begin : (t : List ℕ) (symbols : ℕ) (g : List ℕ) (n : ℕ) → FactsLeft t symbols g n 0
facts-begin t symbols g n = let e : n - 0 ≡ n = omega arith in record { same = rw e; few = omega arith }

module _ {t : List ℕ} {symbols : ℕ} {g : List ℕ} {n k : ℕ} (l : FactsLeft t symbols g n k) where
  module _ (h : k < n) {b : Bool} (e : b ≡ goal_fact_bad t symbols g (18 * k)) where
    one-left : n - k ≡ suc (n - (k + 1))
    one-left = omega arith

    pub fact-bad : b ≡ true → refused BadGoalFact k ≡ facts_verdict t symbols g 0 n
    unfolding facts_verdict
    fact-bad d = sym (l.same ∙ rw one-left (rw (flag e d, facts_verdict)))

    pub fact-passed : b ≡ false → FactsLeft t symbols g n (k + 1)
    unfolding facts_verdict
    fact-passed d = record { same = l.same ∙ rw one-left (rw (flag e d, facts_verdict)); few = omega arith }

  pub facts-end : n ≤ k → ◌≡◌ {A = Verdict} (Ok tt) (facts_verdict t symbols g 0 n)
  unfolding facts_verdict
  facts-end h = let e : n - k ≡ 0 = omega arith in sym (l.same ∙ rw e)
