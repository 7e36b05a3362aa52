-- A table is good exactly if it is the encoding of a well-formed tree. Here, from a good table: by Whole each of its records passed its tests, so each
-- part is the bytes of the tree that is read back (Parts), one behind the other from the first symbol to the end record.
use Prim.Native.Nat.{ℕ, zero, suc, ◌+◌, ◌-◌, ◌*◌, ◌≤◌, ◌<◌}
use mathlib.Core.Path.{◌≡◌, refl, sym, ap, ◌∙◌, subst}
use mathlib.Core.Logic.{◌↔◌, ◌⊎◌, inl, inr}
use mathlib.Core.Bool.{true, false, ◌||◌}
use mathlib.Core.List.{List, [], ◌∷◌, ◌++◌, map}
use native.Mathlib.Omega.{arith}
use lib.ListN.{length, get_or, take, length-append, length-map}
use Rattle.model.specs.declared.Symbol.{Symbol}
use Rattle.model.specs.declared.Expression.{Expression}
use Rattle.model.specs.declared.RuleShape.{RuleShape}
use Rattle.std.specs.Prelude.{Ok}
use Rattle.model.specs.Fields.{arity_at, head_bad}
use Rattle.model.specs.Reading.{read_of}
use Rattle.model.specs.Table.{Head, head_at, guard_at, is_fact, item_at, behind_item, heads_from, guards_from, items_from, heads_start, guards_start}
use Rattle.model.specs.Table.{items_start}
use Rattle.model.specs.Table.{rule_of, Guard, body_fact, body_fail, symbol_at, table_by, table_of}
use Rattle.model.proofs.Every.{every}
use Rattle.model.proofs.Lists.{or-false-left, or-false-right}
use Rattle.model.proofs.Ranges.{AreBytes}
use Rattle.model.proofs.Good.{GoodRule, GoodTable, good-table, behind-fact, behind-fail, six-fact, seven-fail}
use Rattle.model.proofs.Decoded.{rules-few, every-shape, heads-append, heads-length, guards-length, items-length, item-fail}
use Rattle.model.proofs.Whole.{ItemWhole, ItemsWhole, GuardWhole, RuleWhole, RulesWhole, TableWhole, whole-table}
use Rattle.grammar.specs.Tree.{HeadTree, fact, fail, RuleTree, TableTree, heads_of, head_terms}
use Rattle.grammar.specs.Encode.{each_bytes, symbol_bytes, head_bytes, guard_bytes, item_bytes, rule_bytes, encode}
use Rattle.grammar.specs.WellFormed.{FormulaKnown, HeadGood, GuardGood, FactGood, ItemGood, RuleGood, WellFormed}
use Rattle.grammar.specs.Layout.{expression_of, no_expression, laid_places, laid_head, laid_guard, used_of, formulas_in, head_tree, guard_tree, item_tree}
use Rattle.grammar.specs.Layout.{rule_tree, arities_from, arities_of, tree_of}
use Rattle.grammar.proofs.Same.{Same, same-more, same-both, same-at, same-none, same-whole}
use Rattle.grammar.proofs.Places.{rows_at}
use Rattle.grammar.proofs.Tests.{any_of, any-laid}
use Rattle.grammar.proofs.Parts.{each-long, each-encode, each-good, each-laid, heads-rows, guards-rows, head-long, head-encodes, HeadFits}
use Rattle.grammar.proofs.Parts.{head-fits, guard-long, guard-encodes, guard-fits, guard-strange, known-formula, expression_strange, formulas_at}
use Rattle.grammar.proofs.Parts.{fact-strange, item-fact, fact-long, fact-encodes, fact-fits, uses-few}
use Rattle.grammar.proofs.Reading.{map-append, fail-long}
use Rattle.grammar.proofs.Bytes.{encoding-bytes}
use Rattle.grammar.proofs.Encoded.{encoding-good, tree-back}

-- ---- trees that are written from p to q

pub record Written {A : Type 0} (bytes : A → List ℕ) (Fit : A → Type 0) (t : List ℕ) (p q : ℕ) (xs : List A) : Type 0 where
  pub same : Same t p (each_bytes bytes xs)
  pub ends : p + length (each_bytes bytes xs) ≡ q
  pub good : every Fit xs

-- one more, before the others
written-more : {A : Type 0} (bytes : A → List ℕ) (Fit : A → Type 0) (t : List ℕ) (p m q : ℕ) (x : A) (xs : List A) → Same t p (bytes x)
    → p + length (bytes x) ≡ m → Fit x → Written bytes Fit t m q xs → Written bytes Fit t p q (x ∷ xs)
unfolding each_bytes
written-more bytes Fit t p m q x xs s e g w = record {
  same = same-both t p (bytes x) (each_bytes bytes xs) s (same-at t m (p + length (bytes x)) (each_bytes bytes xs) (sym e) w.same);
  ends = omega (arith, length-append (bytes x) (each_bytes bytes xs), w.ends);
  good = (g, w.good);
}

written-none : {A : Type 0} (bytes : A → List ℕ) (Fit : A → Type 0) (t : List ℕ) (p q : ℕ) → p ≡ q → Written bytes Fit t p q []
unfolding each_bytes
written-none bytes Fit t p q e = record { same = same-none t p; ends = omega arith; good = tt }

-- rows of one size
pub rows-long : {A B : Type 0} (at : ℕ → B) (size : ℕ) (back : B → A) (p n : ℕ) → length (map back (rows_at at size p n)) ≡ n
rows-long at size back p zero = refl
rows-long at size back p (suc n) = ap suc (rows-long at size back (p + size) n)

pub rows-written : {A B : Type 0} (bytes : A → List ℕ) (size : ℕ) → ((x : A) → length (bytes x) ≡ size) → (t : List ℕ) (at : ℕ → B)
    → (Fit : A → Type 0) (back : B → A) (p n : ℕ) → ((i : ℕ) → i < n → Same t (p + size * i) (bytes (back (at (p + size * i)))))
    → ((i : ℕ) → i < n → Fit (back (at (p + size * i)))) → Written bytes Fit t p (p + size * n) (map back (rows_at at size p n))
rows-written bytes size long t at Fit back p n same fit = record {
  same = each-encode bytes size long t at back p n same;
  ends = ap (λ (k : ℕ). p + k)
      (each-long bytes size long (map back (rows_at at size p n)) ∙ ap (λ (k : ℕ). size * k) (rows-long at size back p n));
  good = each-good size at back Fit p n fit;
}

-- ---- the arities

module _ (t : List ℕ) where
  arities-long : (j n : ℕ) → length (arities_from t j n) ≡ n
  unfolding arities_from
  arities-long j zero = refl
  arities-long j (suc n) = ap suc (arities-long (suc j) n)

  pub arities-at : (j n k : ℕ) → k < n → get_or (arities_from t j n) k 0 ≡ arity_at t (j + k)
  unfolding arities_from
  arities-at j zero k h = absurd (omega arith)
  arities-at j (suc n) zero h = let e : j + 0 ≡ j = omega arith in rw e
  arities-at j (suc n) (suc k) h = let e : j + suc k ≡ suc j + k = omega arith in rw e (arities-at (suc j) n k (omega arith))

  symbols-written : (j n : ℕ) → ((i : ℕ) → i < n → get_or t (2 * (j + i)) 0 ≡ 1) → ((i : ℕ) → i < n → get_or t (2 * (j + i) + 1) 0 ≤ 4)
      → Written symbol_bytes (λ (a : ℕ). a ≤ 4) t (2 * j) (2 * (j + n)) (arities_from t j n)
  unfolding arities_from symbol_bytes arity_at
  symbols-written j zero kinds few = written-none symbol_bytes (λ (a : ℕ). a ≤ 4) t (2 * j) (2 * (j + 0)) (omega arith)
  symbols-written j (suc n) kinds few =
      let z : j + 0 ≡ j = omega arith in
      let d : j + suc n ≡ suc j + n = omega arith in
      let later : (i : ℕ) → j + suc i ≡ suc j + i = λ i. omega arith in
      rw d (written-more symbol_bytes (λ (a : ℕ). a ≤ 4) t (2 * j) (2 * suc j) (2 * (suc j + n)) (get_or t (2 * j + 1) 0) (arities_from t (suc j) n)
      (same-more t (2 * j) 1 (get_or t (2 * j + 1) 0 ∷ []) (rw z at (kinds 0 (omega arith)))
      (same-more t (2 * j + 1) (get_or t (2 * j + 1) 0) [] refl (same-none t (2 * j + 1 + 1))))
      (omega arith) (rw z at (few 0 (omega arith)))
      (symbols-written (suc j) n (λ i h. rw (later i) at (kinds (suc i) (omega arith))) (λ i h. rw (later i) at (few (suc i) (omega arith)))))

-- ---- a rule

fact-tree : (s : Symbol) (es : List Expression) → item_tree (body_fact s es) ≡ fact s.0 (used_of formulas_in es)
unfolding item_tree
fact-tree s es = refl

fail-tree : item_tree body_fail ≡ fail
unfolding item_tree
fail-tree = refl

fail-encodes : (t : List ℕ) (p : ℕ) → get_or t p 0 ≡ 7 → Same t p (item_bytes fail)
unfolding item_bytes
fail-encodes t p e = same-more t p 7 [] e (same-none t (p + 1))

module _ (t : List ℕ) (u : AreBytes t) (arities : List ℕ) (declared : (k : ℕ) → k < length arities → arity_at t k ≡ get_or arities k 0)
    (small : every (λ (a : ℕ). a ≤ 4) arities) where
  -- n heads of one kind
  heads-written : (byte p n : ℕ) → ((i : ℕ) → i < n → get_or t (p + 22 * i) 0 ≡ byte) → ((i : ℕ) → i < n → head_bad t (p + 22 * i) (length arities) ≡ false)
      → Written (head_bytes byte) (HeadGood arities) t p (p + 22 * n) (map head_tree (heads_from t p n))
  heads-written byte p n kinds fields =
      let fits : (i : ℕ) (h : i < n) → HeadFits t arities declared small (p + 22 * i) (head_tree (head_at t (p + 22 * i))) =
      λ i h. head-fits t arities declared small u (p + 22 * i) (fields i h) in
      rw (heads-rows t p n)
      (rows-written (head_bytes byte) 22 (head-long byte) t (head_at t) (HeadGood arities) head_tree p n
      (λ i h. head-encodes t u (p + 22 * i) byte (head_tree (head_at t (p + 22 * i))) (kinds i h) (fits i h).same) (λ i h. (fits i h).good))

  -- what they are read back to is laid out as they are read
  heads-laid : (p n : ℕ) → ((i : ℕ) → i < n → head_bad t (p + 22 * i) (length arities) ≡ false)
      → heads_from t p n ≡ map laid_head (map head_tree (heads_from t p n))
  heads-laid p n fields =
      rw (heads-rows t p n)
      (each-laid 22 (head_at t) head_tree laid_head p n
      (λ i h. (head-fits t arities declared small u (p + 22 * i) (fields i h)).same))

  -- guards and items, behind heads that are read as those of hs
  module _ (start heads : ℕ) (hs : List HeadTree) (read : heads_from t (start + 1) heads ≡ map laid_head hs) where
    guard-good : (p : ℕ) → GuardWhole t start heads p → GuardGood (head_terms hs) (guard_tree (guard_at t p))
    unfolding laid_guard
    guard-good p w =
        let f = guard-fits t u p w.fields in
        let g = guard_tree (guard_at t p) in
        let q = sym (guard-strange t start heads p) ∙ w.usual in
        let q' : (expression_strange t start heads (expression_of g.left) || expression_strange t start heads (expression_of g.right)) ≡ false =
        sym (ap (λ (x : Guard). expression_strange t start heads x.left || expression_strange t start heads x.right) f.same) ∙ q in
        record {
          left = f.left;
          right = f.right;
          left_known = known-formula t start heads hs read g.left (or-false-left (expression_strange t start heads (expression_of g.left)) _ q');
          right_known = known-formula t start heads hs read g.right (or-false-right (expression_strange t start heads (expression_of g.left)) _ q');
        }

    guards-written : (p n : ℕ) → ((i : ℕ) → i < n → GuardWhole t start heads (p + 24 * i))
        → Written guard_bytes (GuardGood (head_terms hs)) t p (p + 24 * n) (map guard_tree (guards_from t p n))
    guards-written p n w =
        rw (guards-rows t p n)
        (rows-written guard_bytes 24 guard-long t (guard_at t) (GuardGood (head_terms hs)) guard_tree p n
        (λ i h. guard-encodes t u (p + 24 * i) (guard_tree (guard_at t (p + 24 * i))) (w i h).kind (guard-fits t u (p + 24 * i) (w i h).fields).same)
        (λ i h. guard-good (p + 24 * i) (w i h)))

    fact-good : (p : ℕ) → ItemWhole t (length arities) start heads p → is_fact t p ≡ true
        → FactGood arities (head_terms hs) (get_or t (p + 1) 0) (used_of formulas_in (formulas_at t p))
    fact-good p w k =
        let f = fact-fits t arities declared small u p (w.fields k) in
        let es = used_of formulas_in (formulas_at t p) in
        let q : any_of (expression_strange t start heads) (laid_places expression_of no_expression 4 es) ≡ false =
        sym (ap (any_of (expression_strange t start heads)) f.reads.formulas) ∙ sym (fact-strange t start heads p) ∙ w.usual k in
        record {
          symbol = f.uses;
          formulas = f.good;
          known = any-laid expression_of no_expression (expression_strange t start heads) (FormulaKnown (head_terms hs))
              (known-formula t start heads hs read) 4 es
              (uses-few arities small (get_or t (p + 1) 0) (length es) f.uses) q;
        }

    items-written : (p n q : ℕ) → ItemsWhole t (length arities) start heads p n q
        → Written item_bytes (ItemGood arities (head_terms hs)) t p q (map item_tree (items_from t p n))
    unfolding items_from
    items-written p zero q w = written-none item_bytes (ItemGood arities (head_terms hs)) t p q w
    items-written p (suc n) q w = go w.0.kind (items-written (behind_item t p) n q w.1)
      where
        go : (get_or t p 0 ≡ 6) ⊎ (get_or t p 0 ≡ 7)
            → Written item_bytes (ItemGood arities (head_terms hs)) t (behind_item t p) q (map item_tree (items_from t (behind_item t p) n))
            → Written item_bytes (ItemGood arities (head_terms hs)) t p q (item_tree (item_at t p) ∷ map item_tree (items_from t (behind_item t p) n))
        go (inl e) later =
            let k = six-fact t p e in
            let es = used_of formulas_in (formulas_at t p) in
            let item : item_tree (item_at t p) ≡ fact (get_or t (p + 1) 0) es =
            ap item_tree (item-fact t p k) ∙ fact-tree (symbol_at t (p + 1)) (formulas_at t p) in
            rw item
            (written-more item_bytes (ItemGood arities (head_terms hs)) t p (behind_item t p) q (fact (get_or t (p + 1) 0) es) _
            (fact-encodes t u p (get_or t (p + 1) 0) es e (fact-fits t arities declared small u p (w.0.fields k)).reads)
            (omega (arith, fact-long (get_or t (p + 1) 0) es, behind-fact t p k)) (fact-good p w.0 k) later)
        go (inr e) later =
            let k = seven-fail t p e in
            let item : item_tree (item_at t p) ≡ fail = ap item_tree (item-fail t p k) ∙ fail-tree in
            rw item
            (written-more item_bytes (ItemGood arities (head_terms hs)) t p (behind_item t p) q fail _ (fail-encodes t p e)
            (omega (arith, fail-long, behind-fail t p k)) tt later)

  pub record RuleWritten (p q : ℕ) (w : RuleTree) : Type 0 where
    pub same : Same t p (rule_bytes w)
    pub ends : p + length (rule_bytes w) ≡ q
    pub good : RuleGood arities w

  module _ (r : RuleShape) (q : ℕ) (g : GoodRule t (length arities) r) (w : RuleWhole t (length arities) r q) where
    kept-written : Written (head_bytes 3) (HeadGood arities) t (heads_start r) (heads_start r + 22 * r.kept)
        (map head_tree (heads_from t (heads_start r) r.kept))
    kept-written = heads-written 3 (heads_start r) r.kept w.kept (λ i h. w.heads i (omega (arith, g.kept_few)))

    removed-written : Written (head_bytes 4) (HeadGood arities) t (heads_start r + 22 * r.kept) (heads_start r + 22 * r.kept + 22 * (r.heads - r.kept))
        (map head_tree (heads_from t (heads_start r + 22 * r.kept) (r.heads - r.kept)))
    removed-written =
        let e : (i : ℕ) → heads_start r + 22 * r.kept + 22 * i ≡ heads_start r + 22 * (r.kept + i) = λ i. omega arith in
        heads-written 4 (heads_start r + 22 * r.kept) (r.heads - r.kept)
        (λ i h. rw (e i) (w.removed (r.kept + i) (omega arith) (omega arith)))
        (λ i h. rw (e i) (w.heads (r.kept + i) (omega arith)))

    rule-read : heads_from t (r.start + 1) r.heads ≡ map laid_head (heads_of (rule_tree (rule_of t r)))
    unfolding rule_tree rule_of
    rule-read =
        let n : r.kept + (r.heads - r.kept) ≡ r.heads = omega (arith, g.kept_few) in
        let split : heads_from t (heads_start r) r.heads
        ≡ heads_from t (heads_start r) r.kept ++ heads_from t (heads_start r + 22 * r.kept) (r.heads - r.kept) =
        ap (heads_from t (heads_start r)) (sym n) ∙ heads-append t (heads_start r) r.kept (r.heads - r.kept) in
        heads-laid (heads_start r) r.heads w.heads
        ∙ ap (λ (l : List Head). map laid_head (map head_tree l)) split
        ∙ ap (map laid_head)
        (sym (map-append head_tree (heads_from t (heads_start r) r.kept) (heads_from t (heads_start r + 22 * r.kept) (r.heads - r.kept))))

    rule-written : RuleWritten r.start q (rule_tree (rule_of t r))
    unfolding rule_tree rule_of rule_bytes
    rule-written =
        let tree = rule_tree (rule_of t r) in
        let guards = guards-written r.start r.heads (heads_of tree) rule-read (guards_start r) r.guards w.guards in
        let items = items-written r.start r.heads (heads_of tree) rule-read (items_start r) r.items q w.items in
        let x = each_bytes (head_bytes 3) tree.kept in
        let y = each_bytes (head_bytes 4) tree.removed in
        let z = each_bytes guard_bytes tree.guards in
        let v = each_bytes item_bytes tree.items in
        let kept_few : r.kept ≤ r.heads = g.kept_few in
        let ex : heads_start r + length x ≡ heads_start r + 22 * r.kept = kept-written.ends in
        let ey : heads_start r + 22 * r.kept + length y ≡ heads_start r + 22 * r.kept + 22 * (r.heads - r.kept) = removed-written.ends in
        let ez : guards_start r + length z ≡ guards_start r + 24 * r.guards = guards.ends in
        let ev : items_start r + length v ≡ q = items.ends in
        let nk : length tree.kept ≡ r.kept = length-map (rule_of t r).kept head_tree ∙ heads-length t (heads_start r) r.kept in
        let nr : length tree.removed ≡ r.heads - r.kept = length-map (rule_of t r).removed head_tree
        ∙ heads-length t (heads_start r + 22 * r.kept) (r.heads - r.kept) in
        let ng : length tree.guards ≡ r.guards = length-map (rule_of t r).guards guard_tree ∙ guards-length t (guards_start r) r.guards in
        let ni : length tree.items ≡ r.items = length-map (rule_of t r).body item_tree ∙ items-length t (items_start r) r.items in
        record {
          same = same-more t r.start 2 (x ++ (y ++ (z ++ v))) w.begins
              (same-both t (heads_start r) x (y ++ (z ++ v)) kept-written.same
              (same-at t (heads_start r + 22 * r.kept) (heads_start r + length x) (y ++ (z ++ v)) (omega arith)
              (same-both t (heads_start r + 22 * r.kept) y (z ++ v) removed-written.same
              (same-at t (guards_start r) (heads_start r + 22 * r.kept + length y) (z ++ v) (omega arith)
              (same-both t (guards_start r) z v guards.same (same-at t (items_start r) (guards_start r + length z) v (omega arith) items.same))))));
          ends = omega (arith, length-append x (y ++ (z ++ v)), length-append y (z ++ v), length-append z v);
          good = record {
            some_head = omega (arith, g.some_head);
            few_heads = omega (arith, g.few_heads);
            few_guards = omega (arith, g.few_guards);
            few_items = omega (arith, g.few_items);
            kept = kept-written.good;
            removed = removed-written.good;
            guards = guards.good;
            items = items.good;
          };
        }

  rules-written : (rs : List RuleShape) (p q : ℕ) → every (GoodRule t (length arities)) rs → RulesWhole t (length arities) p rs q
      → Written rule_bytes (RuleGood arities) t p q (map rule_tree (map (rule_of t) rs))
  rules-written [] p q g w = written-none rule_bytes (RuleGood arities) t p q w
  rules-written (r ∷ rs) p q g w =
      let one = rule-written r w.1.0 g.0 w.1.1 in
      let here : r.start ≡ p = w.0 in
      written-more rule_bytes (RuleGood arities) t p w.1.0 q (rule_tree (rule_of t r)) _
      (same-at t r.start p (rule_bytes (rule_tree (rule_of t r))) here one.same) (omega (arith, one.ends)) one.good
      (rules-written rs w.1.0 q g.1 w.1.2)

-- ---- the whole table

module _ (t : List ℕ) (e : (read_of t).verdict ≡ Ok tt) where
  good : GoodTable t
  good = good-table t e

  whole : TableWhole t
  whole = whole-table t e

  arities-written : Written symbol_bytes (λ (a : ℕ). a ≤ 4) t 0 (2 * (read_of t).symbols) (arities_of t)
  unfolding arities_of
  arities-written =
      let z : (i : ℕ) → 0 + i ≡ i = λ i. omega arith in
      rw (z (read_of t).symbols) at
      (symbols-written t 0 (read_of t).symbols (λ i h. rw (z i) (whole.symbols i h)) (λ i h. rw (z i) (whole.arities i h)))

  pub arities-count : length (arities_of t) ≡ (read_of t).symbols
  unfolding arities_of
  arities-count = arities-long t 0 (read_of t).symbols

  pub arities-declared : (k : ℕ) → k < length (arities_of t) → arity_at t k ≡ get_or (arities_of t) k 0
  unfolding arities_of
  arities-declared k h =
      let n : length (arities_from t 0 (read_of t).symbols) ≡ (read_of t).symbols = arities-long t 0 (read_of t).symbols in
      let z : 0 + k ≡ k = omega arith in
      sym (rw z at (arities-at t 0 (read_of t).symbols k (omega arith)))

  pub arities-few : length (arities_of t) ≤ 32
  arities-few = omega (arith, arities-count, good.few_symbols)

  pub arities-small : every (λ (a : ℕ). a ≤ 4) (arities_of t)
  arities-small = arities-written.good

module _ (t : List ℕ) (u : AreBytes t) (e : (read_of t).verdict ≡ Ok tt) where
  table-written : Written rule_bytes (RuleGood (arities_of t)) t (2 * (read_of t).symbols) (whole t e).last (tree_of t).rules
  unfolding tree_of table_of table_by
  table-written =
      rules-written t u (arities_of t) (arities-declared t e) (arities-small t e) (take (read_of t).rules (read_of t).shapes)
      (2 * (read_of t).symbols) (whole t e).last
      (rw (arities-count t e) (every-shape t (good t e))) (rw (arities-count t e) (whole t e).rules)

  tree-formed : WellFormed (tree_of t)
  unfolding tree_of
  tree-formed = record {
    few_symbols = arities-few t e;
    arities = arities-small t e;
    few_rules = omega (arith, length-map (table_of t).rules rule_tree, rules-few t (good t e));
    rules = table-written.good;
  }

  tree-bytes : encode (tree_of t) ≡ t
  unfolding encode tree_of
  tree-bytes =
      let x = each_bytes symbol_bytes (arities_of t) in
      let y = each_bytes rule_bytes (tree_of t).rules in
      let ex : 0 + length x ≡ 2 * (read_of t).symbols = (arities-written t e).ends in
      let ey : 2 * (read_of t).symbols + length y ≡ (whole t e).last = table-written.ends in
      let last : length t ≡ suc (whole t e).last = (whole t e).long in
      same-whole t (x ++ (y ++ (8 ∷ []))) (omega (arith, length-append x (y ++ (8 ∷ [])), length-append y (8 ∷ [])))
      (same-both t 0 x (y ++ (8 ∷ [])) (arities-written t e).same
      (same-at t (2 * (read_of t).symbols) (0 + length x) (y ++ (8 ∷ [])) (sym ex)
      (same-both t (2 * (read_of t).symbols) y (8 ∷ []) table-written.same
      (same-at t (whole t e).last (2 * (read_of t).symbols + length y) (8 ∷ []) (sym ey)
      (same-more t (whole t e).last 8 [] (whole t e).ends (same-none t ((whole t e).last + 1)))))))

-- ---- the theorem

-- w is a well-formed tree whose encoding is t
pub record Encodes (t : List ℕ) (w : TableTree) : Type 0 where
  pub formed : WellFormed w
  pub bytes : encode w ≡ t

-- A good table is the encoding of a well-formed tree: of the one that is read from it.
pub good-encodes : (t : List ℕ) → AreBytes t → (read_of t).verdict ≡ Ok tt → Encodes t (tree_of t)
good-encodes t u e = record { formed = tree-formed t u e; bytes = tree-bytes t u e }

-- There is no other.
pub only-tree : (t : List ℕ) (w : TableTree) → Encodes t w → w ≡ tree_of t
only-tree t w q = sym (tree-back w q.formed) ∙ ap tree_of q.bytes

-- A list of numbers is made of bytes and is a good table exactly if it is the encoding of a well-formed tree. (Of one: only-tree.)
pub good-exactly : (t : List ℕ) → (AreBytes t × ((read_of t).verdict ≡ Ok tt)) ↔ ((w : TableTree) × Encodes t w)
good-exactly t = (
  λ q. (tree_of t, good-encodes t q.0 q.1),
  λ q. subst (λ (b : List ℕ). AreBytes b × ((read_of b).verdict ≡ Ok tt)) q.1.bytes
      (encoding-bytes q.0 q.1.formed, encoding-good q.0 q.1.formed),
)
