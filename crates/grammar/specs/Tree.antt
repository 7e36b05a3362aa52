-- A table, and a goal, as trees, before their limits are asked: what a rule says, with no padding and no bytes.
use Rattle.std.specs.Prelude.{ℕ, List, [], ◌∷◌, ◌++◌, ℤ}

-- a used slot: "1 constant; 2 variable"
pub data Term : Type 0 where
  constant : ℤ → Term
  variable : ℕ → Term

-- "1 sum, 2 difference, 3 product, 4 quotient, 5 remainder"
pub data Operation : Type 0 where
  sum difference product quotient remainder : Operation

abbrev pub operation_number : Operation → ℕ
operation_number sum = 1
operation_number difference = 2
operation_number product = 3
operation_number quotient = 4
operation_number remainder = 5

-- an expression: "0 the first slot alone", or an operation on two terms
pub data Formula : Type 0 where
  alone : Term → Formula
  applied : Operation → Term → Term → Formula

-- "Comparators 0..5: equal, unequal, less, at most, greater, at least."
pub data Comparator : Type 0 where
  equal unequal less at_most greater at_least : Comparator

abbrev pub comparator_number : Comparator → ℕ
comparator_number equal = 0
comparator_number unequal = 1
comparator_number less = 2
comparator_number at_most = 3
comparator_number greater = 4
comparator_number at_least = 5

-- a head: its symbol, and a term for each place that the symbol uses
pub record HeadTree : Type 0 where
  pub symbol : ℕ
  pub terms : List Term

pub record GuardTree : Type 0 where
  pub comparator : Comparator
  pub left : Formula
  pub right : Formula

-- a body item: a fact, with an expression for each place that its symbol uses, or fail
pub data ItemTree : Type 0 where
  fact : ℕ → List Formula → ItemTree
  fail : ItemTree

-- "Inside a rule: kept heads, removed heads, guards, body items (kinds 6 and 7 in any order)."
pub record RuleTree : Type 0 where
  pub kept : List HeadTree
  pub removed : List HeadTree
  pub guards : List GuardTree
  pub items : List ItemTree

-- "Symbols and rules are numbered from 0.": the arity of each symbol, and the rules
pub record TableTree : Type 0 where
  pub arities : List ℕ
  pub rules : List RuleTree

-- a goal fact: its symbol, and an argument for each place that the symbol uses
pub record GoalFact : Type 0 where
  pub symbol : ℕ
  pub arguments : List ℤ

-- ---- what stands where

-- written head order: "kept heads, removed heads"
abbrev pub heads_of : RuleTree → List HeadTree
heads_of r = r.kept ++ r.removed

-- the terms of some heads
abbrev pub head_terms : List HeadTree → List Term
head_terms [] = []
head_terms (h ∷ hs) = h.terms ++ head_terms hs
