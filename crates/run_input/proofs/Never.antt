-- "the table ends at its first end record, so 23 never shows there": of what the program *run* takes as the table, no byte lies behind the end record.
-- Reading the table and looking for its end go over the same records, so that both come to the same end record, and the table ends right there.
use Prim.Native.Nat.{ℕ, zero, suc, ◌+◌, ◌-◌, ◌≤◌, ◌<◌}
use native.Mathlib.Omega.{arith}
use mathlib.Core.Path.{◌≡◌, refl, sym, ap, subst, ◌∙◌}
use mathlib.Core.Logic.{◌⊎◌, inl, inr, ◌≢◌}
use mathlib.Core.Bool.{Bool, true, false, cond}
use mathlib.Core.List.{List}
use lib.Dec.{leb, ltb}
use lib.ListN.{length, get_or, take, length-take}
use lib.Seq.{get_or-take}
use borrow.Author.Tests.{leb-false, ltb-true}
use Rattle.model.specs.declared.Kind.{Kind}
use Rattle.model.specs.declared.Kind.TheVariants.{NextSymbol, NextRule, KeptHead, RemovedHead, Comparison, BodyFact, BodyFail, EndOfTable}
use Rattle.model.specs.declared.RuleShape.{RuleShape}
use Rattle.model.specs.declared.Scan.{Scan}
use Rattle.std.specs.Prelude.{Option, Some, None, Ok, Err}
use Rattle.model.specs.declared.Behind.TheVariants.{Next, Done}
use Rattle.model.specs.declared.Reason.{Reason}
use Rattle.model.specs.declared.Reason.TheVariants.{CutShort, OutOfOrder, TooMany, BadField, Headless, StrangeVariable, BytesBehind}
use Rattle.model.specs.declared.Refusal.{Refusal}
use Rattle.model.specs.Refusals.{Verdict, number_of, refused}
use Rattle.model.specs.declared.Reading.{Reading}
use Rattle.model.specs.Records.{kind_of, size_of, out_of_order, headless, too_many}
use Rattle.model.specs.Fields.{bad_field}
use Rattle.model.specs.Variables.{strange}
use Rattle.model.specs.Reading.{RecordStep, behind, fields_of, ordered_of, tested_of, known_of, record_of}
use Rattle.model.specs.Reading.{reading, noted, ended, go_on, read_from, first_scan, no_shapes, read_of}
use Rattle.model.specs.Table.{table_of}
use Rattle.model.specs.Steps.{start}
use Rattle.model.specs.Goal.{goal_of}
use Rattle.model.specs.Calls.{RunOutput, output_of, run_of}
use Rattle.model.proofs.Endings.{run-ends}
use Rattle.model.proofs.Results.{call-cases}
use Rattle.run_input.specs.Input.{known_size, table_end}
use Rattle.run_input.proofs.KindBytes.{kind-end, end-kind}
use Rattle.run_input.proofs.Turns.{Left, first, end-record, next}

-- ---- what one record comes to, as far as the end of the table goes

-- a record of kind k at p
abbrev KindStep : ℕ → Option Kind → RecordStep → Type 0
KindStep p k (Ok (Next s)) = (s.at ≡ p + known_size k) × (known_size k ≢ 0) × (k ≡ Some EndOfTable → ⊥)
KindStep p k (Err r) = number_of r.reason ≤ 22
KindStep p k (Ok (Done q)) = (q ≡ p + 1) × (k ≡ Some EndOfTable)

behind-step : (s : Scan) (k : Kind) → KindStep s.at (Some k) (Ok (behind s k))
unfolding behind
behind-step s NextSymbol = (refl, (λ e. omega arith), λ e. let z : ◌≡◌ {A = ℕ} 0 1 = cc in omega arith)
behind-step s NextRule = (refl, (λ e. omega arith), λ e. let z : ◌≡◌ {A = ℕ} 0 1 = cc in omega arith)
behind-step s KeptHead = (refl, (λ e. omega arith), λ e. let z : ◌≡◌ {A = ℕ} 0 1 = cc in omega arith)
behind-step s RemovedHead = (refl, (λ e. omega arith), λ e. let z : ◌≡◌ {A = ℕ} 0 1 = cc in omega arith)
behind-step s Comparison = (refl, (λ e. omega arith), λ e. let z : ◌≡◌ {A = ℕ} 0 1 = cc in omega arith)
behind-step s BodyFact = (refl, (λ e. omega arith), λ e. let z : ◌≡◌ {A = ℕ} 0 1 = cc in omega arith)
behind-step s BodyFail = (refl, (λ e. omega arith), λ e. let z : ◌≡◌ {A = ℕ} 0 1 = cc in omega arith)
behind-step s EndOfTable = (refl, refl)

unless : (p : ℕ) (k : Option Kind) (b : Bool) (n : Reason) (q : ℕ) (r : RecordStep) → number_of n ≤ 22 → KindStep p k r → KindStep p k (cond b (refused n q) r)
unless p k true n q r l w = l
unless p k false n q r l w = w

tested-step : (t : List ℕ) (s : Scan) (k : Kind) → KindStep s.at (Some k) (tested_of t s k)
unfolding tested_of ordered_of fields_of
tested-step t s k =
    unless s.at (Some k) (ltb (length t) (s.at + size_of k)) CutShort s.at _ (omega arith)
    (unless s.at (Some k) (out_of_order k s.stage) OutOfOrder s.at _ (omega arith)
    (unless s.at (Some k) (headless k s.stage) Headless s.at _ (omega arith)
    (unless s.at (Some k) (too_many k s) TooMany s.at _ (omega arith)
    (unless s.at (Some k) (bad_field t s k) BadField s.at _ (omega arith)
    (unless s.at (Some k) (strange t s k) StrangeVariable s.at _ (omega arith) (behind-step s k))))))

known-step : (t : List ℕ) (s : Scan) (o : Option Kind) → KindStep s.at o (known_of t s o)
unfolding known_of
known-step t s None = omega arith
known-step t s (Some k) = tested-step t s k

-- ---- the two go over the same records

module _ (input : List ℕ) where
  -- what the program takes as the table
  abbrev pub table_part : List ℕ
  table_part = take (table_end input) input

  abbrev Fine : Reading → Type 0
  Fine r = (x : Refusal) → r.verdict ≡ Err x → number_of x.reason ≡ 23 → ⊥

  other-number : (r : Refusal) (symbols rules : ℕ) (shapes : List RuleShape) → number_of r.reason ≤ 22 → Fine (reading (Err r) symbols rules shapes)
  other-number r symbols rules shapes l x e f = let z : number_of r.reason ≡ number_of x.reason = ap number_in e in omega arith
    where
      number_in : Verdict → ℕ
      number_in (Ok u) = 0
      number_in (Err y) = number_of y.reason

  module _ (s : Scan) (m : ℕ) (left : Left input s.at m) (enough : length input ≤ s.at + m) (inside : s.at < length table_part) where
    within : s.at < table_end input
    within = omega (arith, length-take (table_end input) input)

    short : s.at < length input
    short = omega (arith, length-take (table_end input) input)

    same-byte : get_or table_part s.at 0 ≡ get_or input s.at 0
    same-byte = get_or-take (table_end input) input s.at 0 within

    -- the end record is the last one
    at-end : kind_of (get_or table_part s.at 0) ≡ Some EndOfTable → length table_part ≤ s.at + 1
    at-end e =
        let byte : get_or input s.at 0 ≡ 8 = sym same-byte ∙ kind-end (get_or table_part s.at 0) e in
        let last = (end-record left (omega (arith, short)) short byte).is in
        omega (arith, length-take (table_end input) input)

    -- and any other has its successor in common
    go-on : known_size (kind_of (get_or table_part s.at 0)) ≢ 0 → (kind_of (get_or table_part s.at 0) ≡ Some EndOfTable → ⊥)
        → Left input (s.at + known_size (kind_of (get_or table_part s.at 0))) (m - 1)
    go-on some other =
        next left (omega (arith, short)) short (λ (e : get_or input s.at 0 ≡ 8). other (end-kind (get_or table_part s.at 0) (same-byte ∙ e)))
        (ap (λ (b : ℕ). known_size (kind_of b)) same-byte) some

    ended-fine : (q : ℕ) → q ≡ s.at + 1 → kind_of (get_or table_part s.at 0) ≡ Some EndOfTable → (symbols rules : ℕ) (shapes : List RuleShape)
        → Fine (reading (ended table_part q) symbols rules shapes)
    unfolding ended
    ended-fine q e k symbols rules shapes = go (ltb q (length table_part)) refl
      where
        go : (b : Bool) → ltb q (length table_part) ≡ b → Fine (reading (cond b (refused BytesBehind q) (Ok tt)) symbols rules shapes)
        go true h x z f = omega (arith, ltb-true q (length table_part) h, at-end k)
        go false h x z f = let o : ◌≡◌ {A = ℕ} 0 1 = cc in omega arith

  abbrev NeverFrom : ℕ → Type 0
  NeverFrom n = (m : ℕ) (s : Scan) (shapes : List RuleShape) → Left input s.at m → length input ≤ s.at + m → Fine (read_from n table_part s shapes)

  step-never : (n m : ℕ) (s : Scan) (shapes : List RuleShape) → Left input s.at m → length input ≤ s.at + m → s.at < length table_part
      → NeverFrom n → (r : RecordStep)
      → KindStep s.at (kind_of (get_or table_part s.at 0)) r → Fine (go_on table_part s shapes (read_from n table_part) r)
  unfolding go_on
  step-never n m s shapes left enough inside ih (Ok (Next s')) w =
      ih (m - 1) s' (noted shapes s')
      (subst (λ (p : ℕ). Left input p (m - 1)) (sym w.0) (go-on s m left enough inside w.1 w.2))
      (omega (arith, w.0, w.1))
  step-never n m s shapes left enough inside ih (Err r) w = other-number r s.symbols s.rules shapes w
  step-never n m s shapes left enough inside ih (Ok (Done q)) w = ended-fine s m left enough inside q w.0 w.1 s.symbols s.rules shapes

  never-from : (n : ℕ) → NeverFrom n
  unfolding read_from record_of go_on
  never-from zero m s shapes left enough = other-number (record { reason = CutShort; place = length table_part }) s.symbols s.rules shapes (omega arith)
  never-from (suc n) m s shapes left enough = go (never-from n) (leb (length table_part) s.at) refl
    where
      go : NeverFrom n → (b : Bool) → leb (length table_part) s.at ≡ b
          → Fine (go_on table_part s shapes (read_from n table_part)
          (cond b (refused CutShort (length table_part)) (known_of table_part s (kind_of (get_or table_part s.at 0)))))
      go ih true e = other-number (record { reason = CutShort; place = length table_part }) s.symbols s.rules shapes (omega arith)
      go ih false e =
          step-never n m s shapes left enough (leb-false (length table_part) s.at e) ih
          (known_of table_part s (kind_of (get_or table_part s.at 0))) (known-step table_part s (kind_of (get_or table_part s.at 0)))

  -- No input's table part is refused with 23,
  pub never-behind : (r : Refusal) → (read_of table_part).verdict ≡ Err r → number_of r.reason ≡ 23 → ⊥
  unfolding read_of
  never-behind = never-from (length table_part) (length input) first_scan no_shapes (first input) (omega arith)

  -- and so no run of the program ends with it, whatever its goal, limit and buffer.
  pub never-23 : (goal : List ℕ) (limit : ℕ) (buffer : List ℕ) → (run_of table_part goal limit buffer).result.number ≡ 23 → ⊥
  unfolding output_of
  never-23 goal limit buffer =
      call-cases (λ (o : RunOutput). o.result.number ≡ 23 → ⊥) table_part goal limit buffer (λ r k e. refuses r e k.sort)
      (λ k e. omega (arith, (run-ends (table_of table_part) limit (start (goal_of goal))).number))
    where
      refuses : (r : Refusal) → number_of r.reason ≡ 23 → ((read_of table_part).verdict ≡ Err r) ⊎ (32 ≤ number_of r.reason) → ⊥
      refuses r e (inl v) = never-behind r v e
      refuses r e (inr l) = omega arith
