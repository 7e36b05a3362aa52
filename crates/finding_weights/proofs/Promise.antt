-- What the call that looks for weights promises, from bytes: weights that it gives are accepted by weighing whatever the goal; where it gives 42, the
-- place is a rule that could not be raised; unless it gives 0, the buffer is as it was. Its contract allows one outcome alone.
use Prim.Native.Nat.{ℕ, ◌≤◌, ◌<◌}
use mathlib.Core.Path.{◌≡◌, refl, sym, ap, ◌∙◌}
use mathlib.Core.Bool.{Bool, true, false}
use mathlib.Core.List.{List}
use native.Mathlib.Omega.{arith}
use lib.Dec.{eqb}
use lib.ListN.{length}
use borrow.Author.Tests.{eq-eqb}
use Rattle.model.specs.declared.CallResult.{CallResult}
use Rattle.std.specs.Prelude.{Ok, Err}
use Rattle.model.specs.Refusals.{Verdict, number_of}
use Rattle.model.specs.Reading.{read_of}
use Rattle.model.specs.Table.{Head, Rule, heads, table_of}
use Rattle.model.specs.Goal.{goal_verdict}
use Rattle.model.specs.Results.{refusal}
use Rattle.model.specs.Calls.{weighed, weigh_goal, weigh_rules, weigh_zero, weigh_count, weigh_table, weigh_of}
use Rattle.model.proofs.Every.{every, every-right, every-weaken}
use Rattle.model.proofs.Good.{GoodTable, good-table, refusal-small, goal-places}
use Rattle.model.proofs.Decoded.{table-symbols, every-head-declared}
use Rattle.raises.specs.Search.{Sought, found, stopped, search_of}
use Rattle.raises.proofs.Accepted.{Declared, Accepted, Stuck, Settled, search-settles}
use Rattle.finding_weights.specs.Find.{Finding, finding, find_ended, find_count, find_table, find_of, Gives}

-- each removed head's symbol is declared, and there are at most 32
pub removed-declared : (t : List ℕ) → GoodTable t → Declared (table_of t).rules (read_of t).symbols
removed-declared t g =
    rw (← table-symbols t)
    (every-weaken (λ (r : Rule). every (λ (h : Head). h.symbol.0 < (table_of t).symbols) (heads r))
    (λ (r : Rule). every (λ (h : Head). h.symbol.0 < (table_of t).symbols) r.removed)
    (λ r. every-right (λ (h : Head). h.symbol.0 < (table_of t).symbols) r.kept r.removed) (table_of t).rules (every-head-declared t g))

-- ---- what each number says

-- the weights given are accepted
pub record Usable (t ws : List ℕ) : Type 0 where
  pub table : (read_of t).verdict ≡ Ok tt
  pub accepted : Accepted (table_of t).rules (read_of t).symbols ws

-- the weights at which the search stopped
pub record StoppedAt (t : List ℕ) (r : ℕ) : Type 0 where
  pub table : (read_of t).verdict ≡ Ok tt
  pub weights : List ℕ
  pub stuck : Stuck (table_of t).rules r weights

pub record Says (t buffer : List ℕ) (o : Finding) : Type 0 where
  pub zero : o.result.number ≡ 0 → Usable t o.weights
  pub heavy : o.result.number ≡ 42 → StoppedAt t o.result.place
  pub kept : (o.result.number ≡ 0 → ⊥) → o.weights ≡ buffer

module _ (t buffer : List ℕ) where
  refused-says : (n p : ℕ) → (n ≡ 0 → ⊥) → (n ≡ 42 → ⊥) → Says t buffer (finding (refusal n p) buffer)
  refused-says n p a b = record { zero = λ e. absurd (a e); heavy = λ e. absurd (b e); kept = λ h. refl }

  ended-says : (read_of t).verdict ≡ Ok tt → (s : Sought) → Settled (table_of t).rules (read_of t).symbols s → Says t buffer (find_ended buffer s)
  unfolding find_ended
  ended-says g (found ws) a = record { zero = λ e. record { table = g; accepted = a }; heavy = λ e. absurd (omega arith); kept = λ h. absurd (h refl) }
  ended-says g (stopped r ws) a = record { zero = λ e. absurd (omega arith); heavy = λ e. record { table = g; weights = ws; stuck = a }; kept = λ h. refl }

  count-says : (read_of t).verdict ≡ Ok tt → (b : Bool) → Says t buffer (find_count t buffer b)
  unfolding find_count
  count-says g true =
      let k = good-table t g in
      ended-says g (search_of (table_of t).rules (read_of t).symbols)
      (search-settles (table_of t).rules (read_of t).symbols (removed-declared t k) k.few_symbols)
  count-says g false = refused-says 40 0 (λ e. omega arith) (λ e. omega arith)

  table-says : (v : Verdict) → (read_of t).verdict ≡ v → Says t buffer (find_table t buffer v)
  unfolding find_table
  table-says (Ok u) e = count-says e (eqb (length buffer) (read_of t).symbols)
  table-says (Err a) e =
      let r = refusal-small t a e in
      refused-says (number_of a.reason) a.place (λ (z : number_of a.reason ≡ 0). omega (arith, r.low)) (λ (z : number_of a.reason ≡ 42). omega (arith, r.high))

  pub find-says : Says t buffer (find_of t buffer)
  unfolding find_of
  find-says = table-says (read_of t).verdict refl

-- ---- weighing accepts what is found

-- a weighing refuses the goal, if anything
pub record GoalAlone (number : ℕ) : Type 0 where
  pub not_table : 16 ≤ number → number ≤ 23 → ⊥
  pub not_count : number ≡ 40 → ⊥
  pub not_zero : number ≡ 41 → ⊥
  pub not_heavy : number ≡ 42 → ⊥

module _ (t ws g : List ℕ) where
  -- the goal alone decides
  pub weigh-accepts : Usable t ws → weigh_of t ws g ≡ weigh_goal t ws g (goal_verdict t (read_of t).symbols g)
  unfolding weigh_of
  weigh-accepts a =
      ap (weigh_table t ws g) a.table
      ∙ ap (weigh_count t ws g) (eq-eqb (length ws) (read_of t).symbols a.accepted.long)
      ∙ ap (weigh_zero t ws g) a.accepted.something
      ∙ ap (weigh_rules t ws g) a.accepted.loses

  goal-alone : (v : Verdict) → goal_verdict t (read_of t).symbols g ≡ v → GoalAlone (weigh_goal t ws g v).result.number
  unfolding weighed
  goal-alone (Ok u) e = record { not_table = λ a b. omega arith; not_count = λ a. omega arith; not_zero = λ a. omega arith; not_heavy = λ a. omega arith }
  goal-alone (Err a) e =
      let r = goal-places t (read_of t).symbols g a e in
      record {
        not_table = λ a b. omega (arith, r.low);
        not_count = λ a. omega (arith, r.high);
        not_zero = λ a. omega (arith, r.high);
        not_heavy = λ a. omega (arith, r.high);
      }

  pub accepted-weighs : Usable t ws → GoalAlone (weigh_of t ws g).result.number
  accepted-weighs a = rw (weigh-accepts a) (goal-alone (goal_verdict t (read_of t).symbols g) refl)

-- Weights that are found: never a refused table, never 40, 41 or 42, whatever the goal.
pub found-weighs : (t buffer g : List ℕ) → (find_of t buffer).result.number ≡ 0 → GoalAlone (weigh_of t (find_of t buffer).weights g).result.number
found-weighs t buffer g e = accepted-weighs t (find_of t buffer).weights g ((find-says t buffer).zero e)

-- ---- one outcome

pub record SameFinding (r q : CallResult) (ws vs : List ℕ) : Type 0 where
  pub result : r ≡ q
  pub bytes : ws ≡ vs

pub one-finding : {o : Finding} {r q : CallResult} {ws vs : List ℕ} → Gives o r ws → Gives o q vs → SameFinding r q ws vs
one-finding a b = record { result = a.result ∙ sym b.result; bytes = a.bytes ∙ sym b.bytes }
