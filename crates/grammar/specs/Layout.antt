-- A tree as the definition's own Table: four slots a head and four expressions a body fact, the later ones unused. And back: a tree read from bytes.
use Rattle.std.specs.Prelude.{ℕ, zero, suc, List, [], ◌∷◌, ◌++◌, map, pos, length, get_or, take}
use Rattle.model.specs.declared.Slot.{Slot}
use Rattle.model.specs.declared.Slot.TheVariants.{Unused, Constant, Variable, Bad}
use Rattle.model.specs.declared.Expression.{Expression}
use Rattle.model.specs.declared.Symbol.{Symbol}
use Rattle.model.specs.declared.Fact.{Fact}
use Rattle.model.specs.Fields.{arity_at}
use Rattle.model.specs.Reading.{read_of}
use Rattle.model.specs.Matching.{arguments}
use Rattle.model.specs.Table.{Head, Guard, BodyItem, body_fact, body_fail, Rule, Table, table_of}
use Rattle.model.specs.Goal.{goal_of}
use Rattle.grammar.specs.Tree.{Term, constant, variable, Operation, sum, difference, product, quotient, remainder, operation_number, Formula, alone}
use Rattle.grammar.specs.Tree.{applied, Comparator, equal, unequal, less, at_most, greater, at_least, comparator_number, HeadTree, GuardTree, ItemTree}
use Rattle.grammar.specs.Tree.{fact, fail, RuleTree, TableTree, GoalFact}

-- ---- a tree, laid out

-- the first of n places are used, and each later one is blank
module _ {A B : Type 0} (lay : A → B) (blank : B) where
  unfoldable pub laid_places : ℕ → List A → List B
  laid_places zero xs = []
  laid_places (suc n) [] = blank ∷ laid_places n []
  laid_places (suc n) (x ∷ xs) = lay x ∷ laid_places n xs

abbrev pub slot_of : Term → Slot
slot_of (constant z) = Constant z
slot_of (variable v) = Variable v

abbrev pub expression_of : Formula → Expression
expression_of (alone a) = record { operation = 0; left = slot_of a; right = Unused }
expression_of (applied o a b) = record { operation = operation_number o; left = slot_of a; right = slot_of b }

abbrev pub no_expression : Expression
no_expression = record { operation = 0; left = Unused; right = Unused }

abbrev pub numbered : ℕ → Symbol
numbered s = record { 0 = s }

unfoldable pub laid_head : HeadTree → Head
laid_head h = record { symbol = numbered h.symbol; slots = laid_places slot_of Unused 4 h.terms }

unfoldable pub laid_guard : GuardTree → Guard
laid_guard g = record { comparator = comparator_number g.comparator; left = expression_of g.left; right = expression_of g.right }

unfoldable pub laid_item : ItemTree → BodyItem
laid_item (fact s es) = body_fact (numbered s) (laid_places expression_of no_expression 4 es)
laid_item fail = body_fail

unfoldable pub laid_rule : RuleTree → Rule
laid_rule r = record {
  kept = map laid_head r.kept;
  removed = map laid_head r.removed;
  guards = map laid_guard r.guards;
  body = map laid_item r.items;
}

unfoldable pub laid : TableTree → Table
laid w = record { symbols = length w.arities; rules = map laid_rule w.rules }

-- a goal fact, with 0 for each argument that its symbol does not use
unfoldable pub laid_fact : GoalFact → Fact
laid_fact f = record {
  symbol = numbered f.symbol;
  arguments = get_or f.arguments 0 (pos 0) ∷ get_or f.arguments 1 (pos 0) ∷ get_or f.arguments 2 (pos 0) ∷ get_or f.arguments 3 (pos 0) ∷ [];
}

-- ---- and back: what is used of each part. No good table has what is Bad

unfoldable pub terms_in : Slot → List Term
terms_in Unused = []
terms_in (Constant z) = constant z ∷ []
terms_in (Variable v) = variable v ∷ []
terms_in Bad = []

-- of every place
module _ {A B : Type 0} (used : B → List A) where
  unfoldable pub used_of : List B → List A
  used_of [] = []
  used_of (b ∷ bs) = used b ++ used_of bs

-- "1 sum, 2 difference, 3 product, 4 quotient, 5 remainder"
unfoldable pub operation_of : ℕ → Operation
operation_of n = get_or (sum ∷ sum ∷ difference ∷ product ∷ quotient ∷ remainder ∷ []) n sum

unfoldable pub formulas_by : ℕ → List Term → List Term → List Formula
formulas_by zero [] bs = []
formulas_by zero (a ∷ more) bs = alone a ∷ []
formulas_by (suc n) [] bs = []
formulas_by (suc n) (a ∷ more) [] = []
formulas_by (suc n) (a ∷ more) (b ∷ bs) = applied (operation_of (suc n)) a b ∷ []

unfoldable pub formulas_in : Expression → List Formula
formulas_in e = formulas_by e.operation (terms_in e.left) (terms_in e.right)

-- a side of a guard is used
unfoldable pub formula_in : Expression → Formula
formula_in e = get_or (formulas_in e) 0 (alone (constant (pos 0)))

-- "Comparators 0..5: equal, unequal, less, at most, greater, at least."
unfoldable pub comparator_of : ℕ → Comparator
comparator_of n = get_or (equal ∷ unequal ∷ less ∷ at_most ∷ greater ∷ at_least ∷ []) n equal

unfoldable pub head_tree : Head → HeadTree
head_tree h = record { symbol = h.symbol.0; terms = used_of terms_in h.slots }

unfoldable pub guard_tree : Guard → GuardTree
guard_tree g = record { comparator = comparator_of g.comparator; left = formula_in g.left; right = formula_in g.right }

unfoldable pub item_tree : BodyItem → ItemTree
item_tree (body_fact s es) = fact s.0 (used_of formulas_in es)
item_tree body_fail = fail

unfoldable pub rule_tree : Rule → RuleTree
rule_tree r = record {
  kept = map head_tree r.kept;
  removed = map head_tree r.removed;
  guards = map guard_tree r.guards;
  items = map item_tree r.body;
}

-- the arities of n symbols from symbol k on
unfoldable pub arities_from : List ℕ → ℕ → ℕ → List ℕ
arities_from t k zero = []
arities_from t k (suc n) = arity_at t k ∷ arities_from t (suc k) n

unfoldable pub arities_of : List ℕ → List ℕ
arities_of t = arities_from t 0 (read_of t).symbols

-- the tree that is read from a table's bytes
unfoldable pub tree_of : List ℕ → TableTree
tree_of t = record { arities = arities_of t; rules = map rule_tree (table_of t).rules }

-- the goal that is read from a goal's bytes, over the arities of the symbols
unfoldable pub goal_fact_tree : List ℕ → Fact → GoalFact
goal_fact_tree arities f = record { symbol = f.symbol.0; arguments = take (get_or arities f.symbol.0 0) (arguments f) }

unfoldable pub goal_tree : List ℕ → List ℕ → List GoalFact
goal_tree arities g = map (goal_fact_tree arities) (goal_of g)
