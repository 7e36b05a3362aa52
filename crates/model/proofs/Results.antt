-- Every result of a run's call, from bytes: each number has a bound, so that it fits its type, and the answer buffer keeps its length. A refusal
-- has small numbers and no counts, and a run that is not refused is the definition's, of a good table and goal.
use Prim.Native.Nat.{ℕ, zero, suc, ◌*◌, ◌≤◌}
use native.Mathlib.Omega.{arith}
use mathlib.Core.Path.{◌≡◌, refl}
use mathlib.Core.Logic.{◌⊎◌, inl, inr}
use mathlib.Core.Bool.{Bool, true, false}
use mathlib.Core.List.{List, [], ◌∷◌}
use lib.Dec.{leb}
use lib.ListN.{length, length-append, length-drop}
use borrow.Author.Tests.{leb-true}
use Rattle.model.specs.declared.Stored.{Stored}
use Rattle.model.specs.declared.Reason.{Reason}
use Rattle.model.specs.declared.Reason.TheVariants.{StepLimit, ShortAnswer}
use Rattle.model.specs.declared.Refusal.{Refusal}
use Rattle.std.specs.Prelude.{Ok, Err}
use Rattle.model.specs.Refusals.{Verdict, number_of}
use Rattle.model.specs.Limits.{store_room, greatest_limit, least_answer}
use Rattle.model.specs.Reading.{read_of}
use Rattle.model.specs.Table.{table_of}
use Rattle.model.specs.Results.{no_counts}
use Rattle.model.specs.Steps.{start}
use Rattle.model.specs.Run.{Ended, run}
use Rattle.model.specs.Goal.{goal_verdict, goal_of}
use Rattle.model.specs.Answer.{stored_bytes, answer_bytes, answered}
use Rattle.model.specs.Calls.{RunOutput, refused_run, answer_if, output_of, if_room, if_limit, if_goal, if_table, run_of}
use Rattle.model.proofs.Good.{refusal-small, goal-places, good-table, good-goal}
use Rattle.model.proofs.Decoded.{rules-few, goal-few}
use Rattle.model.proofs.Ranges.{AreBytes, table-ranged, goal-ranged}
use Rattle.model.proofs.Endings.{place-few}
use Rattle.model.proofs.Kept.{EndKept, run-kept}
use Rattle.wire.specs.Wire.{bytes4}

-- ---- what a run's call comes to

-- what is known of a run that is not refused
pub record Runs (t g : List ℕ) (limit : ℕ) (buffer : List ℕ) : Type 0 where
  pub table : (read_of t).verdict ≡ Ok tt
  pub goal : goal_verdict t (read_of t).symbols g ≡ Ok tt
  pub limited : limit ≤ greatest_limit
  pub roomy : least_answer ≤ length buffer

-- what is known of a refusal: it is the table's, or one of 32 to 36
pub record Refuses (t : List ℕ) (r : Refusal) : Type 0 where
  pub low : 16 ≤ number_of r.reason
  pub high : number_of r.reason ≤ 36
  pub sort : ((read_of t).verdict ≡ Err r) ⊎ (32 ≤ number_of r.reason)
  pub near : r.place ≤ 23681

module _ (P : RunOutput → Type 0) (t g : List ℕ) (limit : ℕ) (buffer : List ℕ)
    (refuses : (r : Refusal) → Refuses t r → P (refused_run r buffer))
    (goes : Runs t g limit buffer → P (output_of (run (table_of t) limit (start (goal_of g))) buffer)) where
  own : (n : Reason) → Refuses t (record { reason = n; place = 0 }) → P (refused_run (record { reason = n; place = 0 }) buffer)
  own n = refuses (record { reason = n; place = 0 })

  module _ (a : (read_of t).verdict ≡ Ok tt) where
    module _ (b : goal_verdict t (read_of t).symbols g ≡ Ok tt) where
      room-case : limit ≤ greatest_limit → (x : Bool) → leb least_answer (length buffer) ≡ x → P (if_room t g limit buffer x)
      room-case l true q = goes (record { table = a; goal = b; limited = l; roomy = leb-true least_answer (length buffer) q })
      room-case l false q = own ShortAnswer (record { low = omega arith; high = omega arith; sort = inr (omega arith); near = omega arith })

      limit-case : (x : Bool) → leb limit greatest_limit ≡ x → P (if_limit t g limit buffer x)
      limit-case true q = room-case (leb-true limit greatest_limit q) (leb least_answer (length buffer)) refl
      limit-case false q = own StepLimit (record { low = omega arith; high = omega arith; sort = inr (omega arith); near = omega arith })

    goal-case : (v : Verdict) → goal_verdict t (read_of t).symbols g ≡ v → P (if_goal t g limit buffer v)
    goal-case (Ok u) q = limit-case q (leb limit greatest_limit) refl
    goal-case (Err r) q =
        let k = goal-places t (read_of t).symbols g r q in
        refuses r (record { low = omega (arith, k.low); high = omega (arith, k.high); sort = inr k.low; near = omega (arith, k.near) })

  table-case : (v : Verdict) → (read_of t).verdict ≡ v → P (if_table t g limit buffer v)
  table-case (Ok u) q = goal-case q (goal_verdict t (read_of t).symbols g) refl
  table-case (Err r) q =
      let k = refusal-small t r q in
      refuses r (record { low = k.low; high = omega (arith, k.high); sort = inl q; near = k.near })

  -- what holds of each refusal, and of the definition's run, holds of the call
  pub call-cases : P (run_of t g limit buffer)
  unfolding run_of
  call-cases = table-case (read_of t).verdict refl

-- the same, of a refusal that is known less of
pub run-cases : (P : RunOutput → Type 0) (t g : List ℕ) (limit : ℕ) (buffer : List ℕ)
    → ((r : Refusal) → 16 ≤ number_of r.reason → number_of r.reason ≤ 36 → r.place ≤ 23681 → P (refused_run r buffer))
    → (Runs t g limit buffer → P (output_of (run (table_of t) limit (start (goal_of g))) buffer))
    → P (run_of t g limit buffer)
run-cases P t g limit buffer refuses goes = call-cases P t g limit buffer (λ r k. refuses r k.low k.high k.near) goes

-- ---- the answer

pub stored-length : (s : Stored) → length (stored_bytes s) ≡ 22
unfolding stored_bytes bytes4
stored-length s = refl

pub answer-bytes-length : (ss : List Stored) → length (answer_bytes ss) ≡ 22 * length ss
unfolding answer_bytes
answer-bytes-length [] = omega arith
answer-bytes-length (s ∷ ss) = simp length-append (omega (arith, stored-length s, answer-bytes-length ss))

pub answered-length : (ss : List Stored) (buffer : List ℕ) → 22 * length ss ≤ length buffer → length (answered ss buffer) ≡ length buffer
unfolding answered
answered-length ss buffer h = simp (length-append, length-drop) (omega (arith, answer-bytes-length ss))

answer-if-length : (n : ℕ) (ss : List Stored) (buffer : List ℕ) → 22 * length ss ≤ length buffer → length (answer_if n ss buffer) ≡ length buffer
answer-if-length zero ss buffer h = answered-length ss buffer h
answer-if-length (suc n) ss buffer h = refl

-- ---- every result

pub record OutputKept (limit : ℕ) (buffer : List ℕ) (o : RunOutput) : Type 0 where
  pub number : o.result.number ≤ 36
  pub place : o.result.place ≤ 23681
  pub steps : o.result.steps ≤ limit
  pub limited : o.result.steps ≤ greatest_limit
  pub firings : o.result.firings ≤ o.result.steps
  pub identifiers : o.result.identifiers ≤ o.result.steps
  pub stored : o.result.stored ≤ store_room
  pub answer : length o.answer ≡ length buffer

-- a run that is not refused
ran-kept : (t g : List ℕ) (limit : ℕ) (buffer : List ℕ) (r : Ended) → length (table_of t).rules ≤ 64 → EndKept (table_of t) limit no_counts r
    → Runs t g limit buffer
    → OutputKept limit buffer (output_of r buffer)
unfolding output_of
ran-kept t g limit buffer r few e k = record {
  number = omega (arith, e.ends.number);
  place = omega (arith, place-few e.ends);
  steps = omega (arith, e.steps);
  limited = omega (arith, e.steps, k.limited);
  firings = omega (arith, e.firings);
  identifiers = e.identifiers;
  stored = omega (arith, e.stored, e.room);
  answer = answer-if-length r.result.number r.store buffer (omega (arith, e.room, k.roomy));
}

pub run-output-kept : (t g : List ℕ) → AreBytes t → AreBytes g → (limit : ℕ) (buffer : List ℕ) → OutputKept limit buffer (run_of t g limit buffer)
run-output-kept t g bt bg limit buffer =
    run-cases (OutputKept limit buffer) t g limit buffer
    (λ r low high near. record {
      number = high;
      place = near;
      steps = omega arith;
      limited = omega arith;
      firings = omega arith;
      identifiers = omega arith;
      stored = omega arith;
      answer = refl;
    })
    (λ k. ran-kept t g limit buffer (run (table_of t) limit (start (goal_of g))) (rules-few t (good-table t k.table))
    (run-kept (table_of t) (table-ranged t bt) (goal_of g) (goal-few (read_of t).symbols g (good-goal t (read_of t).symbols g k.goal))
    (goal-ranged g bg) limit) k)
