-- The text of each part of a rule: the bytes that its tokens print (Rattle.text.specs.Printed), with no tokens in between.
use Rattle.std.specs.Prelude.{ℕ, ◌+◌, ◌*◌, ◌≤◌, ◌≡◌, Bool, true, false, List, [], ◌∷◌, ◌++◌, map, length}
use Rattle.model.specs.declared.Slot.{Slot}
use Rattle.model.specs.declared.Expression.{Expression}
use Rattle.model.specs.declared.RuleShape.{RuleShape}
use Rattle.model.specs.Limits.{most_heads, most_guards, most_items}
use Rattle.model.specs.Table.{Guard, heads_from, guards_from, items_from, heads_start, guards_start, items_start}
use Rattle.model.proofs.Every.{every}
use Rattle.records.specs.Geometry.{ItemsLie}
use Rattle.grammar.specs.Tree.{Formula, alone, applied, HeadTree, GuardTree, ItemTree, fact, fail, RuleTree}
use Rattle.grammar.specs.Layout.{terms_in, formulas_in, head_tree, guard_tree, item_tree}
use Rattle.text.specs.Token.{backslash, simplifies, propagates, bar, comma, stop, true_word, fail_word}
use Rattle.text.specs.Printed.{term_text, symbol_text, comparator_text, operation_text, mark_text}

-- ---- lists of texts

-- { "," x }
unfoldable pub more_text : List (List ℕ) → List ℕ
more_text [] = []
more_text (x ∷ xs) = mark_text comma ++ (x ++ more_text xs)

-- x { "," x }
unfoldable pub list_text : List (List ℕ) → List ℕ
list_text [] = []
list_text (x ∷ xs) = x ++ more_text xs

-- "(" x { "," x }
unfoldable pub open_text : List (List ℕ) → List ℕ
open_text [] = []
open_text (x ∷ xs) = 40 ∷ (x ++ more_text xs)

-- ")"
unfoldable pub close_text : List (List ℕ) → List ℕ
close_text [] = []
close_text (x ∷ xs) = 41 ∷ []

-- [ "(" x { "," x } ")" ]
unfoldable pub bracket_text : List (List ℕ) → List ℕ
bracket_text xs = open_text xs ++ close_text xs

-- x*
unfoldable pub each_text : List (List ℕ) → List ℕ
each_text [] = []
each_text (x ∷ xs) = x ++ each_text xs

-- ---- one more argument, of a place that is used or not

-- whether there is any
unfoldable pub some : List (List ℕ) → Bool
some [] = false
some (x ∷ xs) = true

-- the first
unfoldable pub first_text : List (List ℕ) → List ℕ
first_text [] = []
first_text (x ∷ xs) = x

-- what stands before it: it opens the brackets, or it follows another
unfoldable pub separator_text : Bool → List ℕ
separator_text true = 40 ∷ []
separator_text false = mark_text comma

-- ---- expressions

unfoldable pub formula_text : Formula → List ℕ
formula_text (alone a) = term_text a
formula_text (applied o a b) = term_text a ++ (operation_text o ++ term_text b)

-- the text of a place, if it is used
unfoldable pub slot_texts : Slot → List (List ℕ)
slot_texts s = map term_text (terms_in s)

unfoldable pub expression_texts : Expression → List (List ℕ)
expression_texts e = map formula_text (formulas_in e)

-- both sides of a comparison are used
pub record BothUsed (g : Guard) : Type 0 where
  pub left : some (expression_texts g.left) ≡ true
  pub right : some (expression_texts g.right) ≡ true

-- ---- the parts of a rule

unfoldable pub head_text : HeadTree → List ℕ
head_text h = symbol_text h.symbol ++ bracket_text (map term_text h.terms)

unfoldable pub guard_text : GuardTree → List ℕ
guard_text g = formula_text g.left ++ (comparator_text g.comparator ++ formula_text g.right)

unfoldable pub item_text : ItemTree → List ℕ
item_text (fact s es) = symbol_text s ++ bracket_text (map formula_text es)
item_text fail = mark_text fail_word

unfoldable pub heads_text : List HeadTree → List HeadTree → List ℕ
heads_text [] removed = list_text (map head_text removed) ++ mark_text simplifies
heads_text (k ∷ kept) [] = list_text (map head_text (k ∷ kept)) ++ mark_text propagates
heads_text (k ∷ kept) (r ∷ removed) =
    list_text (map head_text (k ∷ kept)) ++ (mark_text backslash ++ (list_text (map head_text (r ∷ removed)) ++ mark_text simplifies))

unfoldable pub guards_text : List GuardTree → List ℕ
guards_text [] = []
guards_text (g ∷ gs) = list_text (map guard_text (g ∷ gs)) ++ mark_text bar

unfoldable pub body_text : List ItemTree → List ℕ
body_text [] = mark_text true_word
body_text (i ∷ is) = list_text (map item_text (i ∷ is))

unfoldable pub rule_text : RuleTree → List ℕ
rule_text r = heads_text r.kept r.removed ++ (guards_text r.guards ++ (body_text r.items ++ mark_text stop))

-- ---- where they lie in a table's bytes

-- the texts of n parts, one behind the other from p on
unfoldable pub head_texts : List ℕ → ℕ → ℕ → List (List ℕ)
head_texts t p n = map head_text (map head_tree (heads_from t p n))

unfoldable pub guard_texts : List ℕ → ℕ → ℕ → List (List ℕ)
guard_texts t p n = map guard_text (map guard_tree (guards_from t p n))

unfoldable pub item_texts : List ℕ → ℕ → ℕ → List (List ℕ)
item_texts t p n = map item_text (map item_tree (items_from t p n))

-- n comparisons from p on lie in the table, and both sides of each are used
pub record GuardsLie (t : List ℕ) (p n : ℕ) : Type 0 where
  pub lie : p + 24 * n ≤ length t
  pub used : every BothUsed (guards_from t p n)

-- a rule of a good table
pub record Printable (t : List ℕ) (r : RuleShape) : Type 0 where
  pub some_head : 1 ≤ r.heads
  pub few_heads : r.heads ≤ most_heads
  pub kept_few : r.kept ≤ r.heads
  pub few_guards : r.guards ≤ most_guards
  pub few_items : r.items ≤ most_items
  pub heads_lie : heads_start r + 22 * r.heads ≤ length t
  pub guards : GuardsLie t (guards_start r) r.guards
  pub items : ItemsLie t (items_start r) r.items
