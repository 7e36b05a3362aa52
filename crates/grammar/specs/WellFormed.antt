-- Which trees are well formed: within the limits, over declared symbols, with as many places as the arity, and with no variable of a guard or a body
-- that stands in no head.
use Rattle.std.specs.Prelude.{ℕ, ◌+◌, ◌≤◌, ◌<◌, ◌≡◌, length, get_or}
use mathlib.Core.List.{List, Memᴰ}
use Rattle.numbers.specs.Laws.{InRange}
use Rattle.model.specs.Limits.{most_symbols, most_rules, most_heads, most_guards, most_items, most_goal_facts}
use Rattle.model.proofs.Every.{every}
use Rattle.grammar.specs.Tree.{Term, constant, variable, Formula, alone, applied, HeadTree, GuardTree, ItemTree, fact, fail, RuleTree, TableTree}
use Rattle.grammar.specs.Tree.{GoalFact, heads_of, head_terms}

-- ---- terms and expressions

-- "-2,147,483,648..2,147,483,647"; "2 variable, value 0..15"
abbrev pub TermGood : Term → Type 0
TermGood (constant z) = InRange z
TermGood (variable v) = v ≤ 15

abbrev pub FormulaGood : Formula → Type 0
FormulaGood (alone a) = TermGood a
FormulaGood (applied o a b) = TermGood a × TermGood b

-- 22: "guard or body variable in no head". A variable is known if it stands among the terms of the heads
abbrev pub TermKnown : List Term → Term → Type 0
TermKnown hs (constant z) = Unit {0}
TermKnown hs (variable v) = Memᴰ (variable v) hs

abbrev pub FormulaKnown : List Term → Formula → Type 0
FormulaKnown hs (alone a) = TermKnown hs a
FormulaKnown hs (applied o a b) = TermKnown hs a × TermKnown hs b

-- ---- symbols

-- a symbol that is declared, at as many places as its arity: "A symbol of arity a uses the first a places."
pub record Uses (arities : List ℕ) (symbol places : ℕ) : Type 0 where
  pub declared : symbol < length arities
  pub uses : places ≡ get_or arities symbol 0

-- ---- the parts of a rule

pub record HeadGood (arities : List ℕ) (h : HeadTree) : Type 0 where
  pub symbol : Uses arities h.symbol (length h.terms)
  pub terms : every TermGood h.terms

pub record GuardGood (hs : List Term) (g : GuardTree) : Type 0 where
  pub left : FormulaGood g.left
  pub right : FormulaGood g.right
  pub left_known : FormulaKnown hs g.left
  pub right_known : FormulaKnown hs g.right

pub record FactGood (arities : List ℕ) (hs : List Term) (s : ℕ) (es : List Formula) : Type 0 where
  pub symbol : Uses arities s (length es)
  pub formulas : every FormulaGood es
  pub known : every (FormulaKnown hs) es

abbrev pub ItemGood : List ℕ → List Term → ItemTree → Type 0
ItemGood arities hs (fact s es) = FactGood arities hs s es
ItemGood arities hs fail = Unit {0}

-- "per rule 1..4 heads, 0..4 guards, 0..4 body items"
pub record RuleGood (arities : List ℕ) (r : RuleTree) : Type 0 where
  pub some_head : 1 ≤ length r.kept + length r.removed
  pub few_heads : length r.kept + length r.removed ≤ most_heads
  pub few_guards : length r.guards ≤ most_guards
  pub few_items : length r.items ≤ most_items
  pub kept : every (HeadGood arities) r.kept
  pub removed : every (HeadGood arities) r.removed
  pub guards : every (GuardGood (head_terms (heads_of r))) r.guards
  pub items : every (ItemGood arities (head_terms (heads_of r))) r.items

-- ---- a table: "32 symbols, 64 rules", "arity 0..4"

pub record WellFormed (w : TableTree) : Type 0 where
  pub few_symbols : length w.arities ≤ most_symbols
  pub arities : every (λ (a : ℕ). a ≤ 4) w.arities
  pub few_rules : length w.rules ≤ most_rules
  pub rules : every (RuleGood w.arities) w.rules

-- ---- a goal over declared symbols: "Goal 0..64 facts."

pub record GoalFactGood (arities : List ℕ) (f : GoalFact) : Type 0 where
  pub symbol : Uses arities f.symbol (length f.arguments)
  pub arguments : every InRange f.arguments

pub record GoalGood (arities : List ℕ) (fs : List GoalFact) : Type 0 where
  pub few : length fs ≤ most_goal_facts
  pub facts : every (GoalFactGood arities) fs
