-- What `table::read` keeps of the rule that it reads: up to the last head of a rule the next record stands right behind its heads, so that a
-- head that is read is the next one of its rule.
use Prim.Native.Nat.{ℕ, ◌+◌, ◌*◌, ◌≤◌}
use mathlib.Core.Path.{◌≡◌, refl, sym, ◌∙◌, subst}
use mathlib.Core.List.{List}
use mathlib.Core.Bool.{Bool, true, false, cond}
use native.Mathlib.Omega.{arith}
use lib.ListN.{length, get_or}
use lib.Dec.{ltb, leb}
use borrow.Author.Tests.{ltb-false}
use Rattle.variables.specs.Named.{Follows, headless, head, same}
use Rattle.model.specs.Records.{kind_of, size_of, earliest_of, latest_of, out_of_order}
use Rattle.model.specs.Reading.{RecordStep, behind, fields_of, ordered_of, tested_of, known_of, record_of}
use Rattle.model.specs.declared.Kind.{Kind}
use Rattle.model.specs.declared.Kind.TheVariants.{NextSymbol, NextRule, KeptHead, RemovedHead, Comparison, BodyFact, BodyFail, EndOfTable}
use Rattle.model.specs.declared.RuleShape.{RuleShape}
use Rattle.model.specs.declared.Scan.{Scan}
use Rattle.std.specs.Prelude.{Option, Some, None, Ok, Err}
use Rattle.model.specs.declared.Behind.TheVariants.{Next, Done}
use Rattle.model.specs.declared.Reason.{Reason}
use Rattle.model.specs.declared.Reason.TheVariants.{CutShort}
use Rattle.model.specs.Refusals.{refused}
use Rattle.model.proofs.Good.{Sane, not-early, not-late}

-- a good record followed the rule's heads, or was none
abbrev After : List ℕ → Scan → RecordStep → Type 0
After t s (Ok (Next s')) = Follows t s.at s.shape s'.shape
After t s (Err r) = Unit {0}
After t s (Ok (Done p)) = Unit {0}

stopped : (t : List ℕ) (s : Scan) (b : Bool) (n : Reason) (p : ℕ) (y : RecordStep) → (b ≡ false → After t s y) → After t s (cond b (refused n p) y)
stopped t s true n p y q = tt
stopped t s false n p y q = q refl

-- a record that stands where it may and lies in the table
module _ (t : List ℕ) (s : Scan) (shapes : List RuleShape) (w : Sane t s shapes) where
  at-heads : (k : Kind) → out_of_order k s.stage ≡ false → 1 ≤ earliest_of k → latest_of k ≤ 3 → s.at ≡ s.shape.start + 1 + 22 * s.shape.heads
  at-heads k e low high =
      let late : s.stage ≤ 3 = omega (arith, not-late k s.stage e) in
      let r = w.in_rule (omega (arith, not-early k s.stage e)) in
      omega (arith, r.at_items (omega arith), r.no_guard late)

  behind-follows : (k : Kind) → ltb (length t) (s.at + size_of k) ≡ false → out_of_order k s.stage ≡ false → After t s (Ok (behind s k))
  unfolding behind
  behind-follows NextSymbol l o = same refl refl
  behind-follows NextRule l o = headless refl
  behind-follows KeptHead l o = head refl refl (at-heads KeptHead o (omega arith) (omega arith)) (ltb-false (length t) (s.at + 22) l)
  behind-follows RemovedHead l o = head refl refl (at-heads RemovedHead o (omega arith) (omega arith)) (ltb-false (length t) (s.at + 22) l)
  behind-follows Comparison l o = same refl refl
  behind-follows BodyFact l o = same refl refl
  behind-follows BodyFail l o = same refl refl
  behind-follows EndOfTable l o = tt

  tested-follows : (k : Kind) → After t s (tested_of t s k)
  unfolding tested_of ordered_of fields_of
  tested-follows k = search (stopped, behind-follows) depth 20

  known-follows : (o : Option Kind) → After t s (known_of t s o)
  unfolding known_of
  known-follows None = tt
  known-follows (Some k) = tested-follows k

  record-follows : After t s (record_of t s)
  unfolding record_of
  record-follows = stopped t s (leb (length t) s.at) CutShort (length t) _ (λ e. known-follows (kind_of (get_or t s.at 0)))

  pub next-follows : {r : RecordStep} {s' : Scan} → r ≡ record_of t s → r ≡ Ok (Next s') → Follows t s.at s.shape s'.shape
  next-follows e d = subst (After t s) (sym e ∙ d) record-follows
