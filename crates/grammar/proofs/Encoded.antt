-- The encoding of a well-formed tree is a good table, and reading it back gives the tree: its Table is the tree laid out, and so no two well-formed
-- trees have one encoding. By the reading of its records (Reading), and by what each part is read to (Parts).
use Prim.Native.Nat.{ℕ, zero, suc, ◌+◌, ◌-◌, ◌*◌, ◌≤◌, ◌<◌}
use mathlib.Core.Path.{◌≡◌, refl, sym, ap, ◌∙◌}
use mathlib.Core.Bool.{true, false}
use mathlib.Core.List.{List, [], ◌∷◌, ◌++◌, map, append-nil}
use native.Mathlib.Omega.{arith}
use native.Mathlib.Numerals.{add-one}
use lib.ListN.{length, get_or, take, set, length-append, length-set, length-replicate}
use lib.Seq.{take-suc-set, append_snoc}
use Rattle.model.specs.declared.Slot.TheVariants.{Unused}
use Rattle.model.specs.declared.RuleShape.{RuleShape}
use Rattle.model.specs.declared.Reading.{Reading}
use Rattle.std.specs.Prelude.{Ok}
use Rattle.model.specs.Fields.{arity_at}
use Rattle.model.specs.Reading.{no_shape, no_shapes, reading, read_of}
use Rattle.model.specs.Table.{Table, guard_at, is_fact, heads_from, guards_from, items_from, rule_of, table_by, table_of}
use Rattle.model.proofs.Every.{every}
use Rattle.model.proofs.Good.{behind-fact, behind-fail, six-fact, seven-fail}
use Rattle.grammar.specs.Tree.{Term, Formula, HeadTree, GuardTree, ItemTree, fact, fail, RuleTree, TableTree, heads_of, head_terms}
use Rattle.grammar.specs.Encode.{each_bytes, symbol_bytes, guard_bytes, item_bytes, rule_bytes, encode}
use Rattle.grammar.specs.WellFormed.{HeadGood, GuardGood, ItemGood, RuleGood, WellFormed}
use Rattle.grammar.specs.Layout.{slot_of, expression_of, no_expression, laid_head, laid_guard, laid_item, laid_rule, laid, terms_in, formulas_in, formula_in}
use Rattle.grammar.specs.Layout.{head_tree, guard_tree, item_tree, rule_tree, arities_from, arities_of, tree_of}
use Rattle.grammar.proofs.Same.{Same, same-first, same-rest, same-left, same-right, same-at, same-self}
use Rattle.grammar.proofs.Places.{used-back}
use Rattle.grammar.proofs.Tests.{term-back, unused-back, formula-back, none-back, comparator-back}
use Rattle.grammar.proofs.Parts.{each-decode, guards-rows, guard-long, guard-decodes, fact-long, fact-decodes, fact-laid}
use Rattle.grammar.proofs.Parts.{fail-laid, uses-few}
use Rattle.grammar.proofs.Reading.{At, at-left, at-right, at-at, shape_at, shapes_behind, rule-at, heads-decode, reads-symbols, reads-rules}
use Rattle.grammar.proofs.Reading.{reads-end, fail-long}

-- ---- the arities

module _ (t : List ℕ) where
  pub symbols-long : (ns : List ℕ) → length (each_bytes symbol_bytes ns) ≡ 2 * length ns
  unfolding each_bytes symbol_bytes
  symbols-long [] = refl
  symbols-long (a ∷ ns) = omega (arith, symbols-long ns)

  arity-read : (ns : List ℕ) (j k : ℕ) → Same t (2 * j) (each_bytes symbol_bytes ns) → k < length ns → arity_at t (j + k) ≡ get_or ns k 0
  unfolding each_bytes symbol_bytes arity_at
  arity-read [] j k s h = absurd (omega arith)
  arity-read (a ∷ ns) j zero s h =
      let e : j + 0 ≡ j = omega arith in
      rw e (same-first t (2 * j + 1) a (each_bytes symbol_bytes ns) (same-rest t (2 * j) 1 (a ∷ each_bytes symbol_bytes ns) s))
  arity-read (a ∷ ns) j (suc k) s h =
      let e : j + suc k ≡ suc j + k = omega arith in
      rw e (arity-read ns (suc j) k
      (same-at t (2 * j + 1 + 1) (2 * suc j) (each_bytes symbol_bytes ns) (omega arith)
      (same-rest t (2 * j + 1) a (each_bytes symbol_bytes ns) (same-rest t (2 * j) 1 (a ∷ each_bytes symbol_bytes ns) s))) (omega arith))

  pub arities-back : (ns : List ℕ) (j : ℕ) → ((k : ℕ) → k < length ns → arity_at t (j + k) ≡ get_or ns k 0) → arities_from t j (length ns) ≡ ns
  unfolding arities_from
  arities-back [] j h = refl
  arities-back (a ∷ ns) j h =
      let z : j + 0 ≡ j = omega arith in
      let first : arity_at t j ≡ a = rw z at (h 0 (omega arith)) in
      rw (first, arities-back ns (suc j) (λ k l. let e : j + suc k ≡ suc j + k = omega arith in rw e at (h (suc k) (omega arith))))

-- ---- the shapes of the rules

abbrev shapes_from : ℕ → List RuleTree → List RuleShape
shapes_from p [] = []
shapes_from p (w ∷ ws) = shape_at p w ∷ shapes_from (p + length (rule_bytes w)) ws

shapes-taken : (shapes : List RuleShape) (k p : ℕ) (ws : List RuleTree) → k + length ws ≤ length shapes
    → take (k + length ws) (shapes_behind shapes k p ws) ≡ take k shapes ++ shapes_from p ws
shapes-taken shapes k p [] h =
    let e : k + 0 ≡ k = omega arith in
    rw (e, append-nil (take k shapes))
shapes-taken shapes k p (w ∷ ws) h =
    let e : k + suc (length ws) ≡ k + 1 + length ws = omega arith in
    let x = shape_at p w in
    ap (λ (n : ℕ). take n (shapes_behind (set shapes k x) (k + 1) (p + length (rule_bytes w)) ws)) e
    ∙ shapes-taken (set shapes k x) (k + 1) (p + length (rule_bytes w)) ws (omega (arith, length-set shapes k x))
    ∙ ap (λ (n : ℕ). take n (set shapes k x) ++ shapes_from (p + length (rule_bytes w)) ws) (add-one k)
    ∙ ap (λ (l : List RuleShape). l ++ shapes_from (p + length (rule_bytes w)) ws) (take-suc-set shapes k x (omega arith))
    ∙ append_snoc (take k shapes) x (shapes_from (p + length (rule_bytes w)) ws)

-- ---- each rule is read as it is laid out

module _ (t arities : List ℕ) where
  guards-decode : (hs : List Term) (p : ℕ) (gs : List GuardTree) → every (GuardGood hs) gs → Same t p (each_bytes guard_bytes gs)
      → guards_from t p (length gs) ≡ map laid_guard gs
  guards-decode hs p gs g s =
      guards-rows t p (length gs)
      ∙ each-decode guard_bytes 24 guard-long t (guard_at t) laid_guard (GuardGood hs) (λ q x w. guard-decodes t q x w.left w.right) p gs g s

  fact-first : (p x : ℕ) (es : List Formula) → Same t p (item_bytes (fact x es)) → is_fact t p ≡ true
  unfolding item_bytes
  fact-first p x es s = six-fact t p (same-first t p 6 _ s)

  fail-first : (p : ℕ) → Same t p (item_bytes fail) → is_fact t p ≡ false
  unfolding item_bytes
  fail-first p s = seven-fail t p (same-first t p 7 [] s)

  items-decode : (hs : List Term) (p : ℕ) (is : List ItemTree) → every (ItemGood arities hs) is → Same t p (each_bytes item_bytes is)
      → items_from t p (length is) ≡ map laid_item is
  unfolding each_bytes items_from
  items-decode hs p [] g s = refl
  items-decode hs p (fact x es ∷ is) g s =
      let here = same-left t p (item_bytes (fact x es)) (each_bytes item_bytes is) s in
      let known : is_fact t p ≡ true = fact-first p x es here in
      let item = fact-laid t p x es known (fact-decodes t p x es g.0.formulas here) in
      let later = items-decode hs (p + 46) is g.1
      (same-at t (p + length (item_bytes (fact x es))) (p + 46) _ (omega (arith, fact-long x es)) (same-right t p (item_bytes (fact x es)) _ s)) in
      rw (item, behind-fact t p known, later)
  items-decode hs p (fail ∷ is) g s =
      let known : is_fact t p ≡ false = fail-first p (same-left t p (item_bytes fail) (each_bytes item_bytes is) s) in
      let item = fail-laid t p known in
      let later = items-decode hs (p + 1) is g.1
      (same-at t (p + length (item_bytes fail)) (p + 1) _ (omega (arith, fail-long)) (same-right t p (item_bytes fail) _ s)) in
      rw (item, behind-fail t p known, later)

  rule-read : (p : ℕ) (w : RuleTree) → RuleGood arities w → At t p (rule_bytes w) → rule_of t (shape_at p w) ≡ laid_rule w
  unfolding rule_of laid_rule
  rule-read p w g a =
      let q = rule-at t p w a in
      let n : length w.kept + length w.removed - length w.kept ≡ length w.removed = omega arith in
      let kept = heads-decode t arities (p + 1) 3 w.kept g.kept q.kept in
      let removed = ap (heads_from t (p + 1 + 22 * length w.kept)) n
      ∙ heads-decode t arities (p + 1 + 22 * length w.kept) 4 w.removed g.removed q.removed in
      let guards = guards-decode (head_terms (heads_of w)) _ w.guards g.guards q.guards.same in
      let items = items-decode (head_terms (heads_of w)) _ w.items g.items q.items.same in
      λ i. record { kept = kept i; removed = removed i; guards = guards i; body = items i }

  rules-read : (p : ℕ) (ws : List RuleTree) → every (RuleGood arities) ws → At t p (each_bytes rule_bytes ws)
      → map (rule_of t) (shapes_from p ws) ≡ map laid_rule ws
  unfolding each_bytes
  rules-read p [] g a = refl
  rules-read p (w ∷ ws) g a =
      rw (
        rule-read p w g.0 (at-left t p (rule_bytes w) (each_bytes rule_bytes ws) a),
        rules-read (p + length (rule_bytes w)) ws g.1 (at-right t p (p + length (rule_bytes w)) (rule_bytes w) (each_bytes rule_bytes ws) refl a),
      )

-- ---- the whole table

module _ (w : TableTree) (g : WellFormed w) where
  -- where the parts of the table stand
  symbols-at : At (encode w) 0 (each_bytes symbol_bytes w.arities)
  unfolding encode
  symbols-at = at-left (encode w) 0 (each_bytes symbol_bytes w.arities) _ (record { same = same-self (encode w); lies = omega arith })

  behind-symbols : At (encode w) (2 * length w.arities) (each_bytes rule_bytes w.rules ++ (8 ∷ []))
  unfolding encode
  behind-symbols =
      at-right (encode w) 0 (2 * length w.arities) (each_bytes symbol_bytes w.arities) _ (omega (arith, symbols-long [] w.arities))
      (record { same = same-self (encode w); lies = omega arith })

  rules-at : At (encode w) (2 * length w.arities) (each_bytes rule_bytes w.rules)
  rules-at = at-left (encode w) (2 * length w.arities) (each_bytes rule_bytes w.rules) (8 ∷ []) behind-symbols

  encode-long : length (encode w) ≡ 2 * length w.arities + length (each_bytes rule_bytes w.rules) + 1
  unfolding encode
  encode-long =
      omega (
        arith,
        length-append (each_bytes symbol_bytes w.arities) (each_bytes rule_bytes w.rules ++ (8 ∷ [])),
        length-append (each_bytes rule_bytes w.rules) (8 ∷ []),
        symbols-long [] w.arities,
      )

  pub encoded-arity : (k : ℕ) → k < length w.arities → arity_at (encode w) k ≡ get_or w.arities k 0
  encoded-arity k h = let e : 0 + k ≡ k = omega arith in rw e at (arity-read (encode w) w.arities 0 k symbols-at.same h)

  read-encoding : read_of (encode w)
      ≡ reading (Ok tt) (length w.arities) (length w.rules) (shapes_behind no_shapes 0 (2 * length w.arities) w.rules)
  unfolding read_of
  read-encoding =
      let r = reading (Ok tt) (length w.arities) (length w.rules) (shapes_behind no_shapes 0 (2 * length w.arities) w.rules) in
      (reads-symbols (encode w) r w.arities 0 0 no_shape no_shapes g.arities (omega (arith, g.few_symbols)) symbols-at
      (λ at k e d.
      let here : at ≡ 2 * length w.arities = omega arith in
      let all : k ≡ length w.arities = omega arith in
      rw (here, all)
      (reads-rules (encode w) w.arities encoded-arity g.arities r w.rules (2 * length w.arities) 0 0 no_shape no_shapes g.rules rules-at
      (omega arith) refl (omega (arith, g.few_rules))
      (λ at' stage k' shape e' l one d'.
      let every-rule : k' ≡ length w.rules = omega arith in
      let last = at-at (encode w) (2 * length w.arities + length (each_bytes rule_bytes w.rules)) at' (8 ∷ []) e'
      (at-right (encode w) (2 * length w.arities) _ (each_bytes rule_bytes w.rules) (8 ∷ []) refl behind-symbols) in
      rw every-rule
      (reads-end (encode w) at' stage (length w.arities) (length w.rules) shape (shapes_behind no_shapes 0 (2 * length w.arities) w.rules) last
      (omega (arith, encode-long)) l one))))
      ).reads (length (encode w)) (omega arith)

  -- A well-formed tree's encoding is a good table.
  pub encoding-good : (read_of (encode w)).verdict ≡ Ok tt
  encoding-good = ap (λ (r : Reading). r.verdict) read-encoding

  pub encoded-symbols : (read_of (encode w)).symbols ≡ length w.arities
  encoded-symbols = ap (λ (r : Reading). r.symbols) read-encoding

  pub encoded-table : table_of (encode w) ≡ laid w
  unfolding table_of table_by laid
  encoded-table =
      ap (table_by (encode w)) read-encoding
      ∙ (λ i. record { symbols = length w.arities; rules = rules i })
    where
      rules : map (rule_of (encode w)) (take (length w.rules) (shapes_behind no_shapes 0 (2 * length w.arities) w.rules)) ≡ map laid_rule w.rules
      rules =
          let e : 0 + length w.rules ≡ length w.rules = omega arith in
          ap (map (rule_of (encode w)))
          (rw e at (shapes-taken no_shapes 0 (2 * length w.arities) w.rules (omega (arith, g.few_rules, length-replicate 64 no_shape))))
          ∙ rules-read (encode w) w.arities (2 * length w.arities) w.rules g.rules rules-at

-- ---- and back

-- what is read back of each part that was laid out is the part
pub head-back : (h : HeadTree) → length h.terms ≤ 4 → head_tree (laid_head h) ≡ h
unfolding head_tree laid_head
head-back h few = λ i. record { symbol = h.symbol; terms = used-back slot_of Unused terms_in term-back unused-back 4 h.terms few i }

formula-in-back : (e : Formula) → formula_in (expression_of e) ≡ e
unfolding formula_in
formula-in-back e = rw (formula-back e)

pub guard-back : (g : GuardTree) → guard_tree (laid_guard g) ≡ g
unfolding guard_tree laid_guard
guard-back g = λ i. record { comparator = comparator-back g.comparator i; left = formula-in-back g.left i; right = formula-in-back g.right i }

abbrev FewIn : ItemTree → Type 0
FewIn (fact s es) = length es ≤ 4
FewIn fail = Unit {0}

item-back : (i : ItemTree) → FewIn i → item_tree (laid_item i) ≡ i
unfolding item_tree laid_item
item-back (fact s es) few = ap (fact s) (used-back expression_of no_expression formulas_in formula-back none-back 4 es few)
item-back fail few = refl

pub map-back : {A B : Type 0} (lay : A → B) (back : B → A) (Few : A → Type 0) → ((x : A) → Few x → back (lay x) ≡ x) → (xs : List A) → every Few xs
    → map back (map lay xs) ≡ xs
map-back lay back Few one [] u = refl
map-back lay back Few one (x ∷ xs) u = rw (one x u.0, map-back lay back Few one xs u.1)

module _ (arities : List ℕ) (small : every (λ (a : ℕ). a ≤ 4) arities) where
  item-few : (hs : List Term) (i : ItemTree) → ItemGood arities hs i → FewIn i
  item-few hs (fact s es) g = uses-few arities small s (length es) g.symbol
  item-few hs fail g = tt

  rule-back : (w : RuleTree) → RuleGood arities w → rule_tree (laid_rule w) ≡ w
  unfolding rule_tree laid_rule
  rule-back w g =
      let heads = map-back laid_head head_tree (HeadGood arities) (λ h q. head-back h (uses-few arities small h.symbol (length h.terms) q.symbol)) in
      let hs = head_terms (heads_of w) in
      let kept = heads w.kept g.kept in
      let removed = heads w.removed g.removed in
      let guards = map-back laid_guard guard_tree (GuardGood hs) (λ x q. guard-back x) w.guards g.guards in
      let items = map-back laid_item item_tree (ItemGood arities hs) (λ x q. item-back x (item-few hs x q)) w.items g.items in
      λ i. record { kept = kept i; removed = removed i; guards = guards i; items = items i }

pub encoded-arities : (w : TableTree) → WellFormed w → arities_of (encode w) ≡ w.arities
unfolding arities_of
encoded-arities w g =
    ap (arities_from (encode w) 0) (encoded-symbols w g)
    ∙ arities-back (encode w) w.arities 0 (λ k h. let e : 0 + k ≡ k = omega arith in rw e (encoded-arity w g k h))

pub tree-back : (w : TableTree) → WellFormed w → tree_of (encode w) ≡ w
unfolding tree_of laid
tree-back w g =
    let arities = encoded-arities w g in
    let rules = ap (λ (x : Table). map rule_tree x.rules) (encoded-table w g)
    ∙ map-back laid_rule rule_tree (RuleGood w.arities) (rule-back w.arities g.arities) w.rules g.rules in
    λ i. record { arities = arities i; rules = rules i }

-- Reading back the encoding of a well-formed tree gives the tree.
pub record ReadsBack (w : TableTree) : Type 0 where
  pub table : table_of (encode w) ≡ laid w
  pub symbols : (read_of (encode w)).symbols ≡ length w.arities
  pub arities : (k : ℕ) → k < length w.arities → arity_at (encode w) k ≡ get_or w.arities k 0
  pub tree : tree_of (encode w) ≡ w

pub reads-back : (w : TableTree) → WellFormed w → ReadsBack w
reads-back w g = record { table = encoded-table w g; symbols = encoded-symbols w g; arities = encoded-arity w g; tree = tree-back w g }

-- Two well-formed trees with one encoding are equal.
pub one-tree : (v w : TableTree) → WellFormed v → WellFormed w → encode v ≡ encode w → v ≡ w
one-tree v w f g e = sym (tree-back v f) ∙ ap tree_of e ∙ tree-back w g
