-- The call of a run: its tests in document 01's order, each as the definition's case, and what is written only for 0.
use mathlib.Core.Path.{◌≡◌, refl, sym, ap, ap₂, ◌∙◌}
use mathlib.Core.List.{List, ◌++◌, map}
use Prim.Native.Nat.{ℕ, zero, suc, ◌/◌, ◌<◌, ◌≤◌}
use native.Mathlib.Omega.{arith}
use lib.ListN.{length, take}
use borrow.Author.Tests.{le-leb, lt-leb}
use Rattle.std.proofs.Common.{true, append-nil}
use Rattle.std.specs.Prelude.{Ok, Err}
use Rattle.model.specs.declared.Stored.{Stored}
use Rattle.model.specs.declared.Fact.{Fact}
use Rattle.model.specs.declared.Reading.{Reading}
use Rattle.model.specs.declared.CallResult.{CallResult}
use Rattle.model.specs.declared.Refusal.{Refusal}
use Rattle.model.specs.declared.Reason.TheVariants.{StepLimit, ShortAnswer}
use Rattle.model.specs.Reading.{read_of}
use Rattle.model.specs.Table.{table_of}
use Rattle.model.specs.Goal.{goal_verdict, goal_of}
use Rattle.model.specs.Steps.{State, waiting, start}
use Rattle.model.specs.Run.{Ended, run}
use Rattle.model.specs.Answer.{answered}
use Rattle.model.specs.Results.{refused_result}
use Rattle.model.specs.Calls.{RunOutput, answer_if, output_of, refused_run, if_limit, if_goal, if_table, if_room, run_of}
use Rattle.model.proofs.Good.{good-goal, good-table}
use Rattle.table.proofs.Verdicts.{verdict-read}
use Rattle.steps.specs.declared.Run.{Run}
use Rattle.steps.specs.States.{stack_of, state_of, stacked, Goes, Finished}
use Rattle.engine.specs.Called.{Ran}

-- ---- the tests

module _ (t g : List ℕ) (limit : ℕ) (buffer : List ℕ) {r : Reading} (e : r ≡ read_of t) where
  pub table-refused : {a : Refusal} → r.verdict ≡ Err a → refused_run a buffer ≡ run_of t g limit buffer
  unfolding run_of
  table-refused d = ap (if_table t g limit buffer) (sym (verdict-read t e d))

  -- the table is good
  module _ (good : r.verdict ≡ Ok tt) where
    goals : if_goal t g limit buffer (goal_verdict t r.symbols g) ≡ run_of t g limit buffer
    unfolding run_of
    goals =
        ap (λ (x : Reading). if_goal t g limit buffer (goal_verdict t x.symbols g)) e ∙ ap (if_table t g limit buffer) (sym (verdict-read t e good))

    pub few-rules : r.rules ≤ 64
    few-rules = omega (arith, (good-table t (verdict-read t e good)).few_rules, ap (λ (x : Reading). x.rules) e)

    pub goal-refused : {a : Refusal} → Err a ≡ goal_verdict t r.symbols g → refused_run a buffer ≡ run_of t g limit buffer
    goal-refused d = ap (if_goal t g limit buffer) d ∙ goals

    -- the goal is good
    module _ (fine : Ok tt ≡ goal_verdict t r.symbols g) where
      pub limit-refused : 20000000 < limit → refused_run (record { reason = StepLimit; place = 0 }) buffer ≡ run_of t g limit buffer
      limit-refused h = ap (if_limit t g limit buffer) (sym (lt-leb _ _ h)) ∙ ap (if_goal t g limit buffer) fine ∙ goals

      module _ (legal : limit ≤ 20000000) where
        rooms : if_limit t g limit buffer true ≡ run_of t g limit buffer
        rooms = ap (if_limit t g limit buffer) (sym (le-leb _ _ legal)) ∙ ap (if_goal t g limit buffer) fine ∙ goals

        pub room-refused : length buffer < 2816 → refused_run (record { reason = ShortAnswer; place = 0 }) buffer ≡ run_of t g limit buffer
        room-refused h = ap (if_room t g limit buffer) (sym (lt-leb _ _ h)) ∙ rooms

        pub all-passed : 2816 ≤ length buffer → output_of (run (table_of t) limit (start (goal_of g))) buffer ≡ run_of t g limit buffer
        all-passed h = ap (if_room t g limit buffer) (sym (le-leb _ _ h)) ∙ rooms

-- what a refusal gives, and what a run gives
pub refused-ran : {out : RunOutput} {buffer : List ℕ} {a b : Refusal} → b ≡ a → refused_run a buffer ≡ out → Ran out (refused_result b) buffer
refused-ran {buffer = buffer} {b = b} q e = record {
  result = ap refused_result q ∙ ap (λ (o : RunOutput). o.result) e;
  answered = ap (λ (o : RunOutput). o.answer) e;
}

pub passed-ran : {out end : RunOutput} {r : CallResult} {after : List ℕ} → Ran end r after → end ≡ out → Ran out r after
passed-ran u e = record { result = u.result ∙ ap (λ (o : RunOutput). o.result) e; answered = u.answered ∙ ap (λ (o : RunOutput). o.answer) e }

-- ---- the state at the beginning

pub goal-fits : (t : List ℕ) (symbols : ℕ) (g : List ℕ) → goal_verdict t symbols g ≡ Ok tt → length g / 18 ≤ 64
goal-fits t symbols g e = (good-goal t symbols g e).few

-- nothing is on the stack, stored, noted or given
module _ (r : Run) (stack : r.stack.len ≡ 0) (store : r.store.len ≡ 0) (history : r.history.len ≡ 0) (given : r.given ≡ 0) where
  begins : (goal : List Fact) → stacked (state_of r) (map waiting goal ++ stack_of r) ≡ start goal
  unfolding start
  begins goal = rw (stack, store, history, given, append-nil)

  -- and the goal is loaded
  pub run-is : {loaded : Run} (goal : List Fact) {n : ℕ} → Goes r loaded (stacked (state_of r) (map waiting goal ++ stack_of r)) n → {t : List ℕ}
      → r.places.rules.table.now ≡ t → (limit : ℕ)
      → run (table_of loaded.places.rules.table.now) limit (state_of loaded) ≡ run (table_of t) limit (start goal)
  run-is goal u q limit =
      ap₂ (λ (x : List ℕ) (st : State). run (table_of x) limit st) (ap (λ x. x.table.now) u.rules ∙ q) (u.state ∙ begins goal)

-- ---- the answer

module _ {end : Ended} {r : Run} {result : CallResult} (f : Finished end r result) (buffer : List ℕ) where
  number-is : {n : ℕ} → result.number ≡ n → end.result.number ≡ n
  number-is e = ap (λ (x : CallResult). x.number) (sym f.result_is) ∙ e

  pub done-output : result.number ≡ 0 → {facts : List Stored} → facts ≡ take r.store.len r.store.places.now → {after : List ℕ} → after ≡ answered facts buffer
      → Ran (output_of end buffer) result after
  unfolding output_of
  done-output e q w = record {
    result = f.result_is;
    answered = w ∙ ap (λ (x : List Stored). answered x buffer) (q ∙ f.facts) ∙ sym (rw (number-is e) refl);
  }

  pub other-output : (result.number ≡ 0 → ⊥) → Ran (output_of end buffer) result buffer
  unfolding output_of
  other-output e = record { result = f.result_is; answered = go end.result.number refl }
    where
      go : (n : ℕ) → end.result.number ≡ n → buffer ≡ answer_if end.result.number end.store buffer
      go zero q = absurd (e (ap (λ (x : CallResult). x.number) f.result_is ∙ q))
      go (suc n) q = rw q refl
