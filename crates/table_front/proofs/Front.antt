-- Reading a table looks at its first 23,727 bytes alone: as many as the longest good table has, 23,681, and one record more, 46. A scan whose records are good
-- so far stands no further than 23,680 bytes behind the start, so that the next record lies in the front, and what is tested of it is the same. An end record
-- that lies in the front has bytes behind it in both, and since neither runs out of bytes, the bound on the number of records is never met. Last, what a good
-- verdict tells of the length, and the check's number of the verdict.
use Prim.Native.Nat.{ℕ, zero, suc, ◌+◌, ◌*◌, ◌≤◌}
use mathlib.Core.Path.{◌≡◌, refl, ap}
use mathlib.Core.Bool.{Bool, true, false, cond}
use mathlib.Core.List.{List}
use native.Mathlib.Omega.{arith}
use lib.ListN.{length, get_or, take}
use lib.Seq.{get_or-take, length-take-le}
use borrow.Author.Tests.{lt-ltb, le-ltb, lt-leb}
use Rattle.model.specs.declared.Kind.{Kind}
use Rattle.model.specs.declared.Kind.TheVariants.{NextSymbol, NextRule, KeptHead, RemovedHead, Comparison, BodyFact, BodyFail, EndOfTable}
use Rattle.model.specs.declared.RuleShape.{RuleShape}
use Rattle.model.specs.declared.Scan.{Scan}
use Rattle.std.specs.Prelude.{Option, Some, None, Ok, Err}
use Rattle.model.specs.declared.Behind.TheVariants.{Next, Done}
use Rattle.model.specs.declared.Reading.{Reading}
use Rattle.model.specs.Refusals.{Verdict}
use Rattle.model.specs.Records.{kind_of, size_of, earliest_of, out_of_order, headless, too_many}
use Rattle.model.specs.Reading.{RecordStep, fields_of, ordered_of, tested_of, known_of, record_of}
use Rattle.model.specs.Reading.{noted, ended, go_on, read_from, first_scan, no_shapes, read_of}
use Rattle.model.specs.Calls.{verdict_result, check_of}
use Rattle.model.proofs.Good.{Sane, first-sane, at-near, not-early, StepIs, record-is, good-table, refusal-small}
use Rattle.table_front.proofs.Tests.{Agree, field-same, strange-same}

-- a test behind one that refuses counts where that one is false
cond-same : {A : Type 0} (b : Bool) (x y z : A) → (b ≡ false → y ≡ z) → cond b x y ≡ cond b x z
cond-same true x y z q = refl
cond-same false x y z q = q refl

size-most : (k : Kind) → size_of k ≤ 46
size-most NextSymbol = omega arith
size-most NextRule = omega arith
size-most KeptHead = omega arith
size-most RemovedHead = omega arith
size-most Comparison = omega arith
size-most BodyFact = omega arith
size-most BodyFail = omega arith
size-most EndOfTable = omega arith

module _ {n : ℕ} {t u : List ℕ} (a : Agree n t u) (wide : 23727 ≤ n) where
  -- ---- one record

  module _ (s : Scan) (shapes : List RuleShape) (h : Sane t s shapes) where
    at-front : s.at + 46 ≤ n
    at-front = omega (arith, at-near t s shapes h, h.few_rules)

    heads-front : 1 ≤ s.stage → s.shape.start + 1 + 22 * s.shape.heads ≤ n
    heads-front l = let r = h.in_rule l in omega (arith, h.few_rules)

    fields-same : (k : Kind) → out_of_order k s.stage ≡ false → fields_of t s k ≡ fields_of u s k
    unfolding fields_of
    fields-same k e =
        let low : earliest_of k ≤ s.stage = not-early k s.stage e in
        let front = at-front in
        rw (
          field-same a s (omega (arith, h.few_symbols)) (omega arith) k,
          strange-same a s (omega arith) k (λ (l : 1 ≤ earliest_of k). heads-front (omega arith)),
        )

    tested-same : (k : Kind) → tested_of t s k ≡ tested_of u s k
    unfolding tested_of ordered_of
    tested-same k =
        let front = at-front in
        let few = size-most k in
        rw (
          le-ltb (length t) (s.at + size_of k) (omega (arith, a.long)),
          le-ltb (length u) (s.at + size_of k) (omega (arith, a.alike)),
        ) (cond-same (out_of_order k s.stage) _ _ _ (λ ordered. ap (cond (headless k s.stage) _) (ap (cond (too_many k s) _) (fields-same k ordered))))

    known-same : (o : Option Kind) → known_of t s o ≡ known_of u s o
    unfolding known_of
    known-same None = refl
    known-same (Some k) = tested-same k

    record-same : record_of t s ≡ record_of u s
    unfolding record_of
    record-same =
        let front = at-front in
        rw (
          lt-leb (length t) s.at (omega (arith, a.long)),
          lt-leb (length u) s.at (omega (arith, a.alike)),
          a.bytes s.at (omega arith),
        ) (known-same (kind_of (get_or u s.at 0)))

    -- both have bytes behind the end record
    ended-same : (p : ℕ) → p ≡ s.at + 1 → ended t p ≡ ended u p
    unfolding ended
    ended-same p e =
        let front = at-front in
        rw (lt-ltb p (length t) (omega (arith, a.long)), lt-ltb p (length u) (omega (arith, a.alike)))

  -- ---- the whole reading

  on-same : (i j : ℕ) (s : Scan) (shapes : List RuleShape) → Sane t s shapes → n ≤ suc i + s.at → n ≤ suc j + s.at
      → ((s' : Scan) (shapes' : List RuleShape) → Sane t s' shapes' → n ≤ i + s'.at → n ≤ j + s'.at → read_from i t s' shapes' ≡ read_from j u s' shapes')
      → (r : RecordStep) → StepIs t s shapes r → go_on t s shapes (read_from i t) r ≡ go_on u s shapes (read_from j u) r
  unfolding go_on
  on-same i j s shapes h l m ih (Ok (Next s')) q = ih s' (noted shapes s') q.1 (omega (arith, q.0)) (omega (arith, q.0))
  on-same i j s shapes h l m ih (Err r) q = refl
  on-same i j s shapes h l m ih (Ok (Done p)) q = rw (ended-same s shapes h p q.0)

  from-same : (i j : ℕ) (s : Scan) (shapes : List RuleShape) → Sane t s shapes → n ≤ i + s.at → n ≤ j + s.at → read_from i t s shapes ≡ read_from j u s shapes
  unfolding read_from
  from-same zero j s shapes h l m = absurd (omega (arith, at-front s shapes h))
  from-same (suc i) zero s shapes h l m = absurd (omega (arith, at-front s shapes h))
  from-same (suc i) (suc j) s shapes h l m =
      rw (← record-same s shapes h) (on-same i j s shapes h l m (from-same i j) (record_of t s) (record-is t s shapes h))

  -- two tables that agree on so many bytes have the same reading
  pub agree-reading : read_of t ≡ read_of u
  unfolding read_of
  agree-reading = from-same (length t) (length u) first_scan no_shapes (first-sane t) (omega (arith, a.long)) (omega (arith, a.alike))

-- ---- a table and its front

front-agrees : (t : List ℕ) → 23727 ≤ length t → Agree 23727 (take 23727 t) t
front-agrees t l = record {
  bytes = λ i h. get_or-take 23727 t i 0 h;
  long = rw (length-take-le 23727 t l) (omega arith);
  alike = l;
}

-- the reading of the front is that of the whole table, however long
pub front-reading : (t : List ℕ) → 23727 ≤ length t → read_of (take 23727 t) ≡ read_of t
front-reading t l = agree-reading (front-agrees t l) (omega arith)

pub front-verdict : (t : List ℕ) → 23727 ≤ length t → (read_of (take 23727 t)).verdict ≡ (read_of t).verdict
front-verdict t l = ap (λ (r : Reading). r.verdict) (front-reading t l)

pub front-check : (t : List ℕ) → 23727 ≤ length t → check_of (take 23727 t) ≡ check_of t
unfolding check_of
front-check t l = ap verdict_result (front-verdict t l)

-- ---- a table that is good

-- "The longest good table has 23,681 bytes."
pub good-short : (t : List ℕ) → (read_of t).verdict ≡ Ok tt → length t ≤ 23681
good-short t e = (good-table t e).short

-- a refusal's number is 16 at least, so that 0 is a good table's
pub check-good : (t : List ℕ) → (check_of t).number ≡ 0 → (read_of t).verdict ≡ Ok tt
unfolding check_of verdict_result
check-good t e = go (read_of t).verdict refl e
  where
    go : (v : Verdict) → (read_of t).verdict ≡ v → (verdict_result v).number ≡ 0 → v ≡ Ok tt
    go (Ok u) q e = refl
    go (Err r) q e = absurd (omega (arith, (refusal-small t r q).low))
