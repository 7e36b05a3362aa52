-- One turn of `table::read`, as the definition has it. The loop's invariant: reading goes on from the scan, which keeps what one of a good table keeps,
-- and the variables of the heads of the rule that is being read are marked.
use Prim.Native.Nat.{ℕ, ◌-◌, ◌^◌, ◌<◌, ◌≤◌}
use mathlib.Core.Path.{◌≡◌, refl, sym, ap, ◌∙◌, subst}
use mathlib.Core.List.{List}
use mathlib.Core.Bool.{Bool, false}
use native.Mathlib.Omega.{arith}
use lib.ListN.{length, set, replicate}
use Rattle.std.specs.Prelude.{Ok, Err}
use Rattle.model.specs.Limits.{most_rules}
use Rattle.model.specs.Refusals.{Verdict}
use Rattle.model.specs.Reading.{RecordStep, no_shape, first_scan, record_of, reading, noted, ended, go_on, read_from, read_of}
use Rattle.model.specs.declared.RuleShape.{RuleShape}
use Rattle.model.specs.declared.Scan.{Scan}
use Rattle.model.specs.declared.Behind.{Behind}
use Rattle.model.specs.declared.Behind.TheVariants.{Next, Done}
use Rattle.model.specs.declared.Refusal.{Refusal}
use Rattle.model.specs.declared.Reading.{Reading}
use Rattle.model.proofs.Good.{Sane, first-sane, at-near, noted-some, noted-none, StepIs, record-is}
use Rattle.variables.specs.Named.{Named, Follows}
use Rattle.variables.proofs.Marks.{none-named}
use Rattle.table.proofs.Scans.{next-follows}
use Rattle.table.proofs.Enough.{enough}

-- what is left answers for the whole table: of no scan are there more records left than the table has bytes
pub record Left (t : List ℕ) (shapes : List RuleShape) (s : Scan) (named : List Bool) : Type 0 where
  pub same : read_of t ≡ read_from (length t) t s shapes
  pub sane : Sane t s shapes
  pub marks : Named t s.shape named

pub left-begins : (t : List ℕ) {none : RuleShape} {s : Scan} {named : List Bool} → none ≡ no_shape → s ≡ first_scan → named ≡ replicate 16 false
    → Left t (replicate most_rules none) s named
unfolding read_of
left-begins t e f g = rw (e, f, g) (record { same = refl; sane = first-sane t; marks = none-named t no_shape refl })

module _ {t : List ℕ} {shapes : List RuleShape} {s : Scan} {named : List Bool} (l : Left t shapes s named) where
  pub near : s.at < 2 ^ 32
  near = omega (arith, at-near t s shapes l.sane, l.sane.few_rules)

  -- r is what the record came to, and r' the case that it is
  go : {r r' : RecordStep} → r ≡ record_of t s → r ≡ r' → read_of t ≡ go_on t s shapes (read_from (length t) t) r'
  unfolding read_from
  go e d = l.same ∙ enough (length t) t s shapes (omega arith) ∙ ap (go_on t s shapes (read_from (length t) t)) (sym e ∙ d)

  module _ {r : RecordStep} {b : Behind} {s' : Scan} (e : r ≡ record_of t s) (d : r ≡ Ok b) (f : b ≡ Next s') where
    came : r ≡ Ok (Next s')
    came = d ∙ ap Ok f

    pub follows : Follows t s.at s.shape s'.shape
    follows = next-follows t s shapes l.sane e came

    step : (s.at < s'.at) × Sane t s' (noted shapes s')
    step = subst (StepIs t s shapes) (sym e ∙ came) (record-is t s shapes l.sane)

    pub rule-among : 0 < s'.rules → s'.rules - 1 < most_rules
    rule-among h = omega (arith, step.1.few_rules)

    pub smaller : length t - s'.at < length t - s.at
    smaller = omega (arith, step.0, step.1.within)

    -- the shapes behind the record, as the code has them
    with-shapes : {shapes' : List RuleShape} {named' : List Bool} → noted shapes s' ≡ shapes' → Named t s'.shape named' → Left t shapes' s' named'
    unfolding go_on
    with-shapes q w = record {
      same = go e came ∙ ap (read_from (length t) t s') q;
      sane = subst (Sane t s') q step.1;
      marks = w;
    }

    pub next-none : {named' : List Bool} → Named t s'.shape named' → s'.rules ≤ 0 → Left t shapes s' named'
    next-none w z = with-shapes (noted-none shapes s' (omega arith)) w

    pub next-rule : {named' : List Bool} → Named t s'.shape named' → 0 < s'.rules → Left t (set shapes (s'.rules - 1) s'.shape) s' named'
    next-rule w z = with-shapes (noted-some shapes s' (omega arith)) w

  -- what ends the reading
  module _ {r : RecordStep} (e : r ≡ record_of t s) where
    pub read-stopped : {x : Reading} {a : Refusal} → r ≡ Err a → x ≡ reading (Err a) s.symbols s.rules shapes → x ≡ read_of t
    unfolding go_on
    read-stopped d q = q ∙ sym (go e d)

    pub end-near : {b : Behind} {p : ℕ} → r ≡ Ok b → b ≡ Done p → p < 2 ^ 32
    end-near d f =
        let w = subst (StepIs t s shapes) (sym e ∙ d ∙ ap Ok f) (record-is t s shapes l.sane) in
        omega (arith, w.0, at-near t s shapes l.sane, l.sane.few_rules)

    pub read-done : {x : Reading} {b : Behind} {p : ℕ} {v : Verdict} → r ≡ Ok b → b ≡ Done p → v ≡ ended t p
        → x ≡ reading v s.symbols s.rules shapes → x ≡ read_of t
    unfolding go_on
    read-done d f w q = q ∙ rw w (sym (go e (d ∙ ap Ok f)))
