-- The bytes of a tree: "Each record is one byte of kind, then a body whose length the kind fixes. Numbers are little-endian; facts' arguments are
-- two's complement."
use Rattle.std.specs.Prelude.{ℕ, zero, suc, List, [], ◌∷◌, ◌++◌, ℤ, replicate}
use Rattle.wire.specs.Wire.{bytes4, bits_of}
use Rattle.grammar.specs.Tree.{Term, constant, variable, operation_number, Formula, alone, applied, comparator_number, HeadTree, GuardTree, ItemTree}
use Rattle.grammar.specs.Tree.{fact, fail, RuleTree, TableTree, GoalFact}

-- ---- one behind the other, and in places

module _ {A : Type 0} (bytes : A → List ℕ) where
  -- the bytes of each, one behind the other
  unfoldable pub each_bytes : List A → List ℕ
  each_bytes [] = []
  each_bytes (x ∷ xs) = bytes x ++ each_bytes xs

  -- "A symbol of arity a uses the first a places. Each later place is zero in every byte.": n places of one size
  unfoldable pub places_bytes : ℕ → ℕ → List A → List ℕ
  places_bytes size zero xs = []
  places_bytes size (suc n) [] = replicate size 0 ++ places_bytes size n []
  places_bytes size (suc n) (x ∷ xs) = bytes x ++ places_bytes size n xs

-- ---- slots and expressions

-- "A slot is a tag and four value bytes: tag 0 unused, value zero; 1 constant; 2 variable, value 0..15. The constant zero has tag 1, so it is never
-- taken for an unused slot."
unfoldable pub term_bytes : Term → List ℕ
term_bytes (constant z) = 1 ∷ bytes4 (bits_of z)
term_bytes (variable v) = 2 ∷ bytes4 v

abbrev pub unused_slot : List ℕ
unused_slot = replicate 5 0

-- "An expression is an operation byte and two slots: 0 the first slot alone (the second unused), 1 sum, 2 difference, 3 product, 4 quotient,
-- 5 remainder."
unfoldable pub formula_bytes : Formula → List ℕ
formula_bytes (alone a) = 0 ∷ (term_bytes a ++ unused_slot)
formula_bytes (applied o a b) = operation_number o ∷ (term_bytes a ++ term_bytes b)

-- ---- records, by the table of kinds

-- "1 next symbol: arity 0..4"
unfoldable pub symbol_bytes : ℕ → List ℕ
symbol_bytes arity = 1 ∷ arity ∷ []

-- "3 / 4 kept / removed head: symbol, four slots"
unfoldable pub head_bytes : ℕ → HeadTree → List ℕ
head_bytes kind h = kind ∷ h.symbol ∷ places_bytes term_bytes 5 4 h.terms

-- "5 guard comparison: comparator, two expressions"
unfoldable pub guard_bytes : GuardTree → List ℕ
guard_bytes g = 5 ∷ comparator_number g.comparator ∷ (formula_bytes g.left ++ formula_bytes g.right)

-- "6 body fact: symbol, four expressions", "7 body fail"
unfoldable pub item_bytes : ItemTree → List ℕ
item_bytes (fact s es) = 6 ∷ s ∷ places_bytes formula_bytes 11 4 es
item_bytes fail = 7 ∷ []

-- "2 next rule", and "Inside a rule: kept heads, removed heads, guards, body items"
unfoldable pub rule_bytes : RuleTree → List ℕ
rule_bytes r =
    2
    ∷ (each_bytes (head_bytes 3) r.kept
    ++ (each_bytes (head_bytes 4) r.removed
    ++ (each_bytes guard_bytes r.guards
    ++ each_bytes item_bytes r.items)))

-- "Symbols stand before all rules.", and "8 end of table"
unfoldable pub encode : TableTree → List ℕ
encode w = each_bytes symbol_bytes w.arities ++ (each_bytes rule_bytes w.rules ++ (8 ∷ []))

-- ---- goals

abbrev pub argument_bytes : ℤ → List ℕ
argument_bytes z = bytes4 (bits_of z)

-- "16 goal fact: symbol, four arguments"
unfoldable pub goal_fact_bytes : GoalFact → List ℕ
goal_fact_bytes f = 16 ∷ f.symbol ∷ places_bytes argument_bytes 4 4 f.arguments

unfoldable pub encode_goal : List GoalFact → List ℕ
encode_goal fs = each_bytes goal_fact_bytes fs
