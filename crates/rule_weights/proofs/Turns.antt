-- The rules of a good table, one after the other: what is known of each, and what a turn of the loop finds that looks for the first that does not lose
-- weight.
use Prim.Native.Nat.{ℕ, zero, suc, ◌+◌, ◌-◌, ◌*◌, ◌<◌, ◌≤◌}
use mathlib.Core.Path.{◌≡◌, refl, sym, ap, ◌∙◌}
use mathlib.Core.Bool.{Bool, true, false, cond}
use mathlib.Core.List.{List, [], ◌∷◌}
use native.Mathlib.Omega.{arith}
use native.Mathlib.Numerals.{add-one}
use lib.Dec.{eqb, ltb}
use lib.ListN.{length, get_or, drop, drop_of_length-le}
use lib.Seq.{drop-cons}
use borrow.Author.Tests.{eq-eqb, ne_eqb}
use Rattle.std.specs.Prelude.{Option, Some, None, MatchOption, IsSomeAnd}
use Rattle.model.specs.declared.Symbol.{Symbol}
use Rattle.model.specs.declared.RuleNumber.{RuleNumber}
use Rattle.model.specs.declared.Reading.{Reading}
use Rattle.model.specs.declared.RuleShape.{RuleShape}
use Rattle.model.specs.Limits.{most_rules}
use Rattle.model.specs.Reading.{no_shape, read_of}
use Rattle.model.specs.Table.{Rule, heads_start, heads_from, items_start, items_from, no_rule, table_of, rule_of, rule_at}
use Rattle.model.specs.Weights.{body_weight, heads_weight, first_heavy}
use Rattle.model.proofs.Good.{GoodRule, GoodTable, good-table}
use Rattle.model.proofs.Decoded.{rule-body, rule-removed, rules-length, rule-at}
use Rattle.records.proofs.PartsLie.{items-lie}
use Rattle.rule_weights.specs.declared.rules.RuleWeights.{RuleWeights}
use Rattle.rule_weights.specs.Views.{Counted, Known, FewItems, Lies, Weighs, loses_weight}

-- ---- what is known of a good table

module _ {t : List ℕ} {r : Reading} (k : Known t r) where
  pub known-good : GoodTable t
  known-good = good-table t (sym (ap (λ (r : Reading). r.verdict) k.same) ∙ k.good)

  pub few-rules : r.rules ≤ most_rules
  few-rules = rw k.same known-good.few_rules

  module _ {i : ℕ} (h : i < r.rules) where
    abbrev shape : RuleShape
    shape = get_or r.shapes i no_shape

    pub read : i < (read_of t).rules
    read = rw k.same at h

    pub rule-good : GoodRule t (read_of t).symbols shape
    rule-good = rw k.same (known-good.each i read)

    pub lies : Lies t shape
    lies = record {
      parts_in = rule-good.parts_in;
      few_heads = rule-good.few_heads;
      kept_few = rule-good.kept_few;
      body = record { lie = items-lie t (read_of t).symbols (items_start shape) shape.items rule-good.body_in; few = rule-good.few_items };
    }

    pub rule-among : i < most_rules
    rule-among = omega (arith, few-rules)

    pub first : drop i (table_of t).rules ≡ rule_of t shape ∷ drop (i + 1) (table_of t).rules
    unfolding rule_at
    first =
        rw (add-one i, k.same)
        (drop-cons (table_of t).rules i no_rule (omega (arith, rules-length t known-good.shapes known-good.few_rules, read))
        ∙ ap (λ (x : Rule). x ∷ drop (suc i) (table_of t).rules) (rule-at t known-good.shapes known-good.few_rules (record { 0 = i }) read))

  pub last : {i : ℕ} → r.rules ≤ i → drop i (table_of t).rules ≡ []
  last {i} h =
      let n : (read_of t).rules ≤ i = rw k.same at h in
      drop_of_length-le (table_of t).rules {i = i} (omega (arith, rules-length t known-good.shapes known-good.few_rules))

  -- as many weights as symbols
  pub symbols-same : r.symbols ≡ (read_of t).symbols
  symbols-same = ap (λ (r : Reading). r.symbols) k.same

  pub count-same : (weights : List ℕ) → length weights ≡ r.symbols → eqb (length weights) (read_of t).symbols ≡ true
  count-same weights e = eq-eqb _ _ (e ∙ symbols-same)

  pub count-differs : (weights : List ℕ) → (length weights ≡ r.symbols → ⊥) → eqb (length weights) (read_of t).symbols ≡ false
  count-differs weights d = ne_eqb _ _ (λ (e : length weights ≡ (read_of t).symbols). d (e ∙ sym symbols-same))

-- ---- 42

heavy-cons : (w : Symbol → ℕ) (k : ℕ) (x : Rule) (rs : List Rule) (b : Bool) → loses_weight w x ≡ b
    → first_heavy w k (x ∷ rs) ≡ cond b (first_heavy w (suc k) rs) (Some (record { 0 = k }))
unfolding loses_weight first_heavy
heavy-cons w k x rs b e = rw (e, first_heavy) (go b)
  where
    go : (b : Bool) → ◌≡◌ {A = Option RuleNumber} (elim b [ true ↦ first_heavy w (suc k) rs | false ↦ Some (record { 0 = k }) ])
        (cond b (first_heavy w (suc k) rs) (Some (record { 0 = k })))
    go true = refl
    go false = refl

module _ {t : List ℕ} {r : Reading} (k : Known t r) (w : Symbol → ℕ) where
  -- whether the rule i does
  abbrev pub Loses : ℕ → Bool → Type 0
  Loses i b = loses_weight w (rule_of t (get_or r.shapes i no_shape)) ≡ b

  heavy-turn : (i : ℕ) → i < r.rules → (b : Bool) → Loses i b
      → first_heavy w i (drop i (table_of t).rules) ≡ cond b (first_heavy w (suc i) (drop (suc i) (table_of t).rules)) (Some (record { 0 = i }))
  heavy-turn i h b e = rw (first k {i = i} h, add-one i) (heavy-cons w i _ _ b e)

  -- the rules from i on answer for all, where those before lose weight
  heavy-from : (i : ℕ) → i ≤ r.rules → ((j : ℕ) → j < i → Loses j true) → first_heavy w 0 (table_of t).rules ≡ first_heavy w i (drop i (table_of t).rules)
  heavy-from zero h e = refl
  heavy-from (suc i) h e = heavy-from i (omega arith) (λ j l. e j (omega arith)) ∙ heavy-turn i (omega arith) true (e i (omega arith))

  -- what a search over the numbers of the rules finds
  abbrev pub FirstHeavy : Option ℕ → Type 0
  FirstHeavy o =
      MatchOption o ((i : ℕ) → 0 ≤ i → i < r.rules → Loses i true)
      (λ n. (0 ≤ n) × (n < r.rules) × Loses n false × ((i : ℕ) → 0 ≤ i → i < n → Loses i true))

  pub heavy-found : (o : Option ℕ) → FirstHeavy o → {P : ℕ → RuleNumber → Type 0} (m : Option RuleNumber) → MatchOption o (m ≡ None) (λ n. IsSomeAnd m (P n))
      → ((n : ℕ) (x : RuleNumber) → P n x → x ≡ record { 0 = n }) → m ≡ first_heavy w 0 (table_of t).rules
  unfolding first_heavy
  heavy-found None f m e p =
      e ∙ sym (heavy-from r.rules (omega arith) (λ j l. f j (omega arith) l) ∙ ap (first_heavy w r.rules) (last k {i = r.rules} (omega arith)))
  heavy-found (Some n) f None e p = absurd e
  heavy-found (Some n) f (Some x) e p =
      ap Some (p n x e) ∙ sym (heavy-from n (omega (arith, f.1)) (λ j l. f.3 j (omega arith) l) ∙ heavy-turn n f.1 false f.2)

-- ---- a rule by where it stands

module _ {t : List ℕ} {r : RuleShape} (l : Lies t r) {p : ℕ} where
  pub body-lies : p ≡ items_start r → FewItems t p r.items
  body-lies e = rw e l.body

  pub rule-weighs : (w : Symbol → ℕ) {k q m n : ℕ} → k ≡ r.kept → p ≡ heads_start r + 22 * k
      → Counted (heads_weight w (heads_from t p (r.heads - r.kept))) 1020 m
      → q ≡ items_start r → Counted (body_weight w (items_from t q r.items)) 1020 n → Weighs w (rule_of t r) (record { removed = m; body = n })
  rule-weighs w z e a d b =
      let f : p ≡ heads_start r + 22 * r.kept = e ∙ ap (λ (k : ℕ). heads_start r + 22 * k) z in
      record { removed = rw (rule-removed t r, ← f) a; body = rw (rule-body t r, ← d) b }

pub rule-loses : (w : Symbol → ℕ) (x : Rule) {sides : RuleWeights} → Weighs w x sides → ltb sides.body sides.removed ≡ loses_weight w x
unfolding loses_weight
rule-loses w x s = rw (s.removed.same, s.body.same)
