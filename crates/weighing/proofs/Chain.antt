-- The tests of a weighing, one after the other: what each finds decides the definition's case. On 0 the parts make the definition's W and bound.
use Prim.Native.Nat.{ℕ, ◌/◌, ◌≤◌}
use mathlib.Core.Path.{◌≡◌, sym, ap, ◌∙◌}
use mathlib.Core.List.{List}
use lib.Dec.{eqb}
use lib.ListN.{length}
use Rattle.std.specs.Prelude.{Some, None, Ok, Err}
use Rattle.model.specs.declared.Symbol.{Symbol}
use Rattle.model.specs.declared.RuleNumber.{RuleNumber}
use Rattle.model.specs.declared.Reading.{Reading}
use Rattle.model.specs.declared.Refusal.{Refusal}
use Rattle.model.specs.declared.Reason.TheVariants.{WeightCount, ZeroWeight, HeavyRule}
use Rattle.model.specs.declared.CallResult.{CallResult}
use Rattle.model.specs.Limits.{most_goal_facts}
use Rattle.model.specs.Reading.{read_of}
use Rattle.model.specs.Table.{table_of}
use Rattle.model.specs.Goal.{goal_verdict, goal_of}
use Rattle.model.specs.Weights.{weight_in, goal_weight, most_facts, most_places, step_bound, first_zero, first_heavy}
use Rattle.model.specs.Results.{refusal}
use Rattle.model.specs.Calls.{refused_weighing, weighed, weigh_goal, weigh_rules, weigh_zero, weigh_count, weigh_table, weigh_of}
use Rattle.model.proofs.Decoded.{table-symbols}
use Rattle.model.proofs.Good.{good-goal}
use Rattle.table.proofs.Verdicts.{verdict-read}
use Rattle.rule_weights.specs.Views.{Counted, Known}
use Rattle.rule_weights.proofs.Turns.{symbols-same, count-same, count-differs}

-- what each test finds, as the definition's case
module _ (t weights g : List ℕ) {r : Reading} (e : r ≡ read_of t) where
  pub table-refused : {a : Refusal} → r.verdict ≡ Err a → refused_weighing a ≡ weigh_of t weights g
  unfolding weigh_of
  table-refused d = ap (weigh_table t weights g) (sym (verdict-read t e d))

  -- the table is good
  module _ (good : r.verdict ≡ Ok tt) where
    known : Known t r
    known = record { same = e; good = good }

    counted : weigh_count t weights g (eqb (length weights) (read_of t).symbols) ≡ weigh_of t weights g
    unfolding weigh_of
    counted = ap (weigh_table t weights g) (sym (verdict-read t e good))

    pub other-count : {n : ℕ} → n ≡ r.symbols → (length weights ≡ n → ⊥) → refused_weighing (record { reason = WeightCount; place = 0 }) ≡ weigh_of t weights g
    other-count q d = ap (weigh_count t weights g) (sym (count-differs known weights (λ z. d (z ∙ sym q)))) ∙ counted

    -- there are as many weights as symbols
    module _ {n : ℕ} (q : n ≡ r.symbols) (same : length weights ≡ n) where
      zeros : weigh_zero t weights g (first_zero 0 weights) ≡ weigh_of t weights g
      zeros = ap (weigh_count t weights g) (sym (count-same known weights (same ∙ q))) ∙ counted

      pub zero-weight : {s : Symbol} {p : ℕ} → Some s ≡ first_zero 0 weights → p ≡ s.0
          → refused_weighing (record { reason = ZeroWeight; place = p }) ≡ weigh_of t weights g
      zero-weight d z = ap (λ (p : ℕ). refused_weighing (record { reason = ZeroWeight; place = p })) z ∙ ap (weigh_zero t weights g) d ∙ zeros

      -- no weight is zero
      module _ (some : None ≡ first_zero 0 weights) where
        heavies : weigh_rules t weights g (first_heavy (weight_in weights) 0 (table_of t).rules) ≡ weigh_of t weights g
        heavies = ap (weigh_zero t weights g) some ∙ zeros

        pub heavy-rule : {n : RuleNumber} {p : ℕ} → Some n ≡ first_heavy (weight_in weights) 0 (table_of t).rules → p ≡ n.0
            → refused_weighing (record { reason = HeavyRule; place = p }) ≡ weigh_of t weights g
        heavy-rule d z = ap (λ (p : ℕ). refused_weighing (record { reason = HeavyRule; place = p })) z ∙ ap (weigh_rules t weights g) d ∙ heavies

        -- every rule loses weight
        module _ (light : None ≡ first_heavy (weight_in weights) 0 (table_of t).rules) where
          goals : weigh_goal t weights g (goal_verdict t r.symbols g) ≡ weigh_of t weights g
          goals =
              ap (λ (n : ℕ). weigh_goal t weights g (goal_verdict t n g)) (symbols-same known) ∙ ap (weigh_rules t weights g) light ∙ heavies

          pub goal-refused : {a : Refusal} → Err a ≡ goal_verdict t r.symbols g → refused_weighing a ≡ weigh_of t weights g
          goal-refused d = ap (weigh_goal t weights g) d ∙ goals

          pub all-good : Ok tt ≡ goal_verdict t r.symbols g → weighed t weights g ≡ weigh_of t weights g
          all-good d = ap (weigh_goal t weights g) d ∙ goals

pub few-facts : (t : List ℕ) (symbols : ℕ) (g : List ℕ) → goal_verdict t symbols g ≡ Ok tt → length g / 18 ≤ most_goal_facts
few-facts t symbols g e = (good-goal t symbols g e).few

pub weighed-is : (t weights g : List ℕ) {x : CallResult} {facts weight body places bound : ℕ}
    → x ≡ refusal 0 0
    → bound ≡ step_bound facts body weight places
    → Counted (length (goal_of g)) 64 facts
    → Counted (goal_weight (weight_in weights) (goal_of g)) 16320 weight
    → Counted (most_facts (table_of t).rules) 4 body
    → Counted (most_places (table_of t) (read_of t).symbols) 256 places
    → record { result = x; weight = weight; bound = bound } ≡ weighed t weights g
unfolding weighed
weighed-is t weights g {places = places} e d f w b m =
    let p : places ≡ most_places (table_of t) (table_of t).symbols = m.same ∙ ap (most_places (table_of t)) (sym (table-symbols t)) in
    rw (e, d, f.same, w.same, b.same, p)
