-- An answer is read back to the stored facts, record by record. From bytes: of a run's call that ends in 0 the first records of the answer buffer, as
-- many as the result says, are read back to the run's store; identifiers are no more than steps, and arguments stay in the range (Kept).
use Prim.Native.Nat.{ℕ, zero, suc, ◌+◌, ◌≤◌, ◌<◌}
use mathlib.Core.Path.{◌≡◌, refl, sym}
use mathlib.Core.Bool.{Bool, true, false}
use mathlib.Core.List.{List, [], ◌∷◌, ◌++◌}
use native.Mathlib.Omega.{arith}
use lib.Dec.{eqb}
use lib.IntN.{pos}
use lib.ListN.{length, get_or}
use borrow.Author.Tests.{eq-eqb}
use Rattle.numbers.proofs.Laws.{InRange}
use Rattle.wire.specs.Wire.{bytes4, bits_of, i32_at}
use Rattle.model.specs.declared.Stored.{Stored}
use Rattle.model.specs.Reading.{read_of}
use Rattle.model.specs.Matching.{arguments}
use Rattle.model.specs.Table.{table_of}
use Rattle.model.specs.Results.{no_counts}
use Rattle.model.specs.Steps.{start}
use Rattle.model.specs.Run.{Ended, run}
use Rattle.model.specs.Goal.{goal_of}
use Rattle.model.specs.Answer.{argument, stored_bytes, answer_bytes, answered}
use Rattle.model.specs.Calls.{RunOutput, answer_if, output_of, run_of}
use Rattle.model.proofs.Every.{every, every-weaken, every-both}
use Rattle.model.proofs.Lists.{of-four}
use Rattle.model.proofs.Good.{good-goal}
use Rattle.model.proofs.Decoded.{goal-few}
use Rattle.model.proofs.Ranges.{AreBytes, table-ranged, goal-ranged}
use Rattle.model.proofs.Kept.{EndKept, StoredKept, rising-within, run-kept}
use Rattle.model.proofs.Results.{run-cases, stored-length}
use Rattle.grammar.specs.Answers.{stored_at, answer_from, read_answer}
use Rattle.grammar.proofs.Same.{Same, same-first, same-rest, same-left, same-right, same-at, same-self, word-decodes, word-long}
use Rattle.grammar.proofs.Tests.{no-test}
use Rattle.grammar.proofs.Goals.{argument-decodes}

-- ---- one stored fact

-- a stored fact whose numbers have room in a record
pub record StoredFits (s : Stored) : Type 0 where
  pub id : s.id.0 < 4294967296
  pub four : length s.fact.arguments ≡ 4
  pub arguments : every InRange (arguments s.fact)

-- a word, and what stands behind it
word-first : (a : List ℕ) (p n : ℕ) (bs : List ℕ) → Same a p (bytes4 n ++ bs) → Same a p (bytes4 n)
word-first a p n bs s = same-left a p (bytes4 n) bs s

word-rest : (a : List ℕ) (p q n : ℕ) (bs : List ℕ) → p + 4 ≡ q → Same a p (bytes4 n ++ bs) → Same a q bs
word-rest a p q n bs e s = same-at a (p + length (bytes4 n)) q bs (omega (arith, word-long n)) (same-right a p (bytes4 n) bs s)

stored-decodes : (a : List ℕ) (p : ℕ) (s : Stored) → StoredFits s → Same a p (stored_bytes s) → stored_at a p ≡ s
unfolding stored_bytes stored_at
stored-decodes a p s f b =
    let z = λ (k : ℕ). argument s.fact k in
    let r = f.arguments in
    let b1 = same-rest a p 17 _ b in
    let b5 = word-rest a (p + 1) (p + 5) s.id.0 _ (omega arith) b1 in
    let b6 = same-at a (p + 5 + 1) (p + 6) _ (omega arith) (same-rest a (p + 5) s.fact.symbol.0 _ b5) in
    let b10 = word-rest a (p + 6) (p + 10) (bits_of (z 0)) _ (omega arith) b6 in
    let b14 = word-rest a (p + 10) (p + 14) (bits_of (z 1)) _ (omega arith) b10 in
    let b18 = word-rest a (p + 14) (p + 18) (bits_of (z 2)) _ (omega arith) b14 in
    let id = word-decodes a (p + 1) s.id.0 f.id (word-first a (p + 1) s.id.0 _ b1) in
    let symbol = same-first a (p + 5) s.fact.symbol.0 _ b5 in
    let z0 = argument-decodes a (p + 6) (z 0) r.0 (word-first a (p + 6) (bits_of (z 0)) _ b6) in
    let z1 = argument-decodes a (p + 10) (z 1) r.1.0 (word-first a (p + 10) (bits_of (z 1)) _ b10) in
    let z2 = argument-decodes a (p + 14) (z 2) r.1.1.0 (word-first a (p + 14) (bits_of (z 2)) _ b14) in
    let z3 = argument-decodes a (p + 18) (z 3) r.1.1.1.0 b18 in
    let arguments : (i32_at a (p + 6) ∷ i32_at a (p + 10) ∷ i32_at a (p + 14) ∷ i32_at a (p + 18) ∷ []) ≡ s.fact.arguments =
    rw (z0, z1, z2, z3) (of-four s.fact.arguments (pos 0) f.four) in
    λ i. record { id = record { 0 = id i }; fact = record { symbol = record { 0 = symbol i }; arguments = arguments i } }

-- ---- an answer

stored-kind : (a : List ℕ) (p : ℕ) (s : Stored) → Same a p (stored_bytes s) → eqb (get_or a p 0) 17 ≡ true
unfolding stored_bytes
stored-kind a p s b = eq-eqb (get_or a p 0) 17 (same-first a p 17 _ b)

answer-from : (a : List ℕ) (p : ℕ) (ss : List Stored) → every StoredFits ss → Same a p (answer_bytes ss) → answer_from a p (length ss) ≡ ss
unfolding answer_bytes answer_from
answer-from a p [] f b = refl
answer-from a p (s ∷ ss) f b =
    let here = same-left a p (stored_bytes s) (answer_bytes ss) b in
    go (eqb (get_or a p 0) 17) (stored-kind a p s here) (stored-decodes a p s f.0 here)
    (answer-from a (p + 22) ss f.1
    (same-at a (p + length (stored_bytes s)) (p + 22) (answer_bytes ss) (omega (arith, stored-length s)) (same-right a p (stored_bytes s) (answer_bytes ss) b)))
  where
    go : (k : Bool) → k ≡ true → stored_at a p ≡ s → answer_from a (p + 22) (length ss) ≡ ss
        → ◌≡◌ {A = List Stored} (elim k [ true ↦ stored_at a p ∷ answer_from a (p + 22) (length ss) | false ↦ [] ]) (s ∷ ss)
    go true e x y = rw (x, y)
    go false e x y = no-test (sym e)

-- An answer's bytes, and whatever stands behind them, are read back to the stored facts.
pub answer-reads-back : (ss : List Stored) (rest : List ℕ) → every StoredFits ss → read_answer (length ss) (answer_bytes ss ++ rest) ≡ ss
unfolding read_answer
answer-reads-back ss rest f =
    answer-from (answer_bytes ss ++ rest) 0 ss f
    (same-left (answer_bytes ss ++ rest) 0 (answer_bytes ss) rest (same-self (answer_bytes ss ++ rest)))

-- ---- of a run's call

-- the stored facts at the end of a run
store-fits : (t : List ℕ) (limit : ℕ) (r : Ended) → limit ≤ 20000000 → EndKept (table_of t) limit no_counts r → every StoredFits r.store
store-fits t limit r l k =
    let ids = rising-within 1 (suc r.result.identifiers) r.store k.rising in
    every-weaken (λ (s : Stored). ((1 ≤ s.id.0) × (s.id.0 < suc r.result.identifiers)) × StoredKept s) StoredFits
    (λ s q. record { id = omega (arith, q.0.1, k.identifiers, k.steps); four = q.1.four; arguments = q.1.each }) r.store
    (every-both (λ (s : Stored). (1 ≤ s.id.0) × (s.id.0 < suc r.result.identifiers)) StoredKept r.store ids k.facts)

-- what a call that ends in 0 leaves in the buffer
output-reads : (r : Ended) (buffer : List ℕ) (n : ℕ) → n ≡ 0 → every StoredFits r.store → r.result.stored ≡ length r.store
    → read_answer r.result.stored (answer_if n r.store buffer) ≡ r.store
unfolding answered
output-reads r buffer zero e f k = rw k (answer-reads-back r.store _ f)
output-reads r buffer (suc n) e f k = absurd (omega arith)

-- no refusal is 0
refused-not-zero : {X : Type 0} (n : ℕ) → 16 ≤ n → n ≡ 0 → X
refused-not-zero n low e = absurd (omega arith)

-- From bytes: where a run's call ends in 0, the first records of the answer, as many as the result says are stored, are read back to the run's store.
pub answer-read : (t g : List ℕ) → AreBytes t → AreBytes g → (limit : ℕ) (buffer : List ℕ) → (run_of t g limit buffer).result.number ≡ 0
    → read_answer (run_of t g limit buffer).result.stored (run_of t g limit buffer).answer ≡ (run (table_of t) limit (start (goal_of g))).store
unfolding output_of
answer-read t g bt bg limit buffer =
    let r = run (table_of t) limit (start (goal_of g)) in
    run-cases (λ (o : RunOutput). o.result.number ≡ 0 → read_answer o.result.stored o.answer ≡ r.store) t g limit buffer
    (λ n p. search refused-not-zero)
    (λ k e.
    let kept = run-kept (table_of t) (table-ranged t bt) (goal_of g) (goal-few (read_of t).symbols g (good-goal t (read_of t).symbols g k.goal))
    (goal-ranged g bg) limit in
    output-reads r buffer r.result.number e (store-fits t limit r k.limited kept) kept.stored)
