-- Each turn of the search is one of the definition's, and every index that the search uses is in range, since the first rule that does not lose
-- weight is a rule of the table, and its heads' symbols are declared.
use Prim.Native.Nat.{ℕ, zero, suc, ◌-◌, ◌<◌, ◌≤◌}
use mathlib.Core.Path.{◌≡◌, refl, sym, ap, ◌∙◌}
use mathlib.Core.List.{List}
use native.Mathlib.Omega.{arith}
use lib.ListN.{length, get_or, set, length-set}
use Rattle.std.specs.Prelude.{Option, Some, None}
use Rattle.model.specs.declared.Symbol.{Symbol}
use Rattle.model.specs.declared.RuleNumber.{RuleNumber}
use Rattle.model.specs.declared.Reading.{Reading}
use Rattle.model.specs.Reading.{no_shape, read_of}
use Rattle.model.specs.Table.{Rule, no_rule, table_of, rule_of, rule_at}
use Rattle.model.specs.Weights.{weight_in, first_heavy}
use Rattle.model.proofs.Good.{GoodRule}
use Rattle.model.proofs.Decoded.{rules-length, rule-at}
use Rattle.rule_weights.specs.Views.{Known}
use Rattle.rule_weights.proofs.Turns.{known-good}
use Rattle.raise.specs.declared.NewWeight.{NewWeight}
use Rattle.raise.specs.Raise.{to, raise_of}
use Rattle.raise.proofs.Raising.{to-head, first-removed, lack}
use Rattle.raises.specs.Search.{Sought, sought_as, raise_then, heavy_then, search_from}
use Rattle.raises.proofs.Ends.{heavy-at}

-- ---- the search

module _ {t : List ℕ} {r : Reading} (k : Known t r) where
  rules-long : length (table_of t).rules ≡ r.rules
  rules-long = rules-length t (known-good k).shapes (known-good k).few_rules ∙ ap (λ (r : Reading). r.rules) (sym k.same)

  pub heavy-rule : (w : Symbol → ℕ) (n : RuleNumber) → first_heavy w 0 (table_of t).rules ≡ Some n → n.0 < r.rules
  heavy-rule w n e = omega (arith, (heavy-at w (table_of t).rules n.0 e).inside, rules-long)

  pub rule-here : (n : ℕ) → n < r.rules → get_or (table_of t).rules n no_rule ≡ rule_of t (get_or r.shapes n no_shape)
  unfolding rule_at
  rule-here n h =
      let m : n < (read_of t).rules = rw k.same at h in
      rw k.same (rule-at t (known-good k).shapes (known-good k).few_rules (record { 0 = n }) m)

  -- the symbol that is raised is declared
  pub raise-declared : (ws : List ℕ) (n : ℕ) {c : Option NewWeight} {s x : ℕ} → n < r.rules → c ≡ raise_of ws (rule_of t (get_or r.shapes n no_shape))
      → c ≡ to s x → s < r.symbols
  unfolding raise_of
  raise-declared ws n {s = s} {x} h e d =
      let m : n < (read_of t).rules = rw k.same at h in
      let good : GoodRule t (read_of t).symbols (get_or r.shapes n no_shape) = rw k.same ((known-good k).each n m) in
      let shape = get_or r.shapes n no_shape in
      let raised = to-head ws t _ _ (shape.heads - shape.kept) s x (sym (first-removed ws t shape (lack ws (rule_of t shape))) ∙ sym e ∙ d) in
      omega (arith, raised.0, raised.1, good.heads_declared shape.kept (omega (arith, raised.0)), ap (λ (r : Reading). r.symbols) k.same)

-- ---- one turn of the search

module _ (rules : List Rule) (ws : List ℕ) where
  search-turn : (n : ℕ) → 0 < n → search_from n rules ws ≡ heavy_then rules ws (search_from (n - 1) rules) (first_heavy (weight_in ws) 0 rules)
  unfolding search_from
  search-turn zero h = absurd (omega arith)
  search-turn (suc n) h = let k : suc n - 1 ≡ n = omega arith in rw k

  search-out : (n : ℕ) → n ≤ 0 → search_from n rules ws ≡ sought_as ws (first_heavy (weight_in ws) 0 rules)
  unfolding search_from
  search-out zero h = refl
  search-out (suc n) h = absurd (omega arith)

-- what is left of the search, with n raises from ws on, answers for the whole of it
pub record Left (t : List ℕ) (whole : Sought) (symbols : ℕ) (ws : List ℕ) (n : ℕ) : Type 0 where
  pub long : length ws ≡ symbols
  pub same : whole ≡ search_from n (table_of t).rules ws

module _ {t : List ℕ} {r : Reading} (k : Known t r) {whole : Sought} {ws : List ℕ} {n : ℕ} (l : Left t whole r.symbols ws n) where
  pub search-ends : {o : Option RuleNumber} → o ≡ first_heavy (weight_in ws) 0 (table_of t).rules → n ≤ 0 → sought_as ws o ≡ whole
  search-ends e h = ap (sought_as ws) e ∙ sym (l.same ∙ search-out (table_of t).rules ws n h)

  module _ (h : 0 < n) where
    turn : (o : Option RuleNumber) → o ≡ first_heavy (weight_in ws) 0 (table_of t).rules
        → whole ≡ heavy_then (table_of t).rules ws (search_from (n - 1) (table_of t).rules) o
    turn o q = l.same ∙ search-turn (table_of t).rules ws n h ∙ ap (heavy_then (table_of t).rules ws (search_from (n - 1) (table_of t).rules)) (sym q)

    pub search-finds : None ≡ first_heavy (weight_in ws) 0 (table_of t).rules → sought_as ws None ≡ whole
    unfolding heavy_then sought_as
    search-finds e = sym (turn None e)

    module _ {i : RuleNumber} (e : Some i ≡ first_heavy (weight_in ws) 0 (table_of t).rules) where
      pub inside : i.0 < r.rules
      inside = heavy-rule k (weight_in ws) i (sym e)

      module _ {c : Option NewWeight} (d : c ≡ raise_of ws (rule_of t (get_or r.shapes i.0 no_shape))) where
        raised : whole ≡ raise_then ws i.0 (search_from (n - 1) (table_of t).rules) c
        unfolding heavy_then
        raised =
            turn (Some i) e
            ∙ ap (λ (x : Rule). raise_then ws i.0 (search_from (n - 1) (table_of t).rules) (raise_of ws x)) (rule-here k i.0 inside)
            ∙ ap (raise_then ws i.0 (search_from (n - 1) (table_of t).rules)) (sym d)

        pub search-stops : c ≡ None → sought_as ws (Some i) ≡ whole
        unfolding raise_then sought_as
        search-stops z = sym (raised ∙ ap (raise_then ws i.0 (search_from (n - 1) (table_of t).rules)) z)

        module _ {x : NewWeight} (z : c ≡ Some x) where
          pub symbol-inside : x.symbol.0 < length ws
          symbol-inside = omega (arith, raise-declared k ws i.0 inside d z, l.long)

          pub search-goes-on : {s m : ℕ} → s ≡ x.symbol.0 → m ≡ n - 1 → Left t whole r.symbols (set ws s x.weight) m
          unfolding raise_then
          search-goes-on {s} {m} f g =
              rw (f, g)
              (record {
                long = length-set ws x.symbol.0 x.weight ∙ l.long;
                same = raised ∙ ap (raise_then ws i.0 (search_from (n - 1) (table_of t).rules)) z;
              })
