-- The encoding of a well-formed tree, or goal, is made of bytes: words are by their making, and the other numbers are small.
use Prim.Native.Nat.{ℕ, zero, suc, ◌≤◌, ◌<◌}
use mathlib.Core.List.{List, [], ◌∷◌, ◌++◌}
use native.Mathlib.Omega.{arith}
use lib.IntN.{ℤ}
use lib.ListN.{length, replicate}
use Rattle.wire.specs.Wire.{bytes4, bits_of}
use Rattle.model.proofs.Every.{every, every-append, every-weaken}
use Rattle.model.proofs.Lists.{every-replicate}
use Rattle.model.proofs.Ranges.{AreBytes}
use Rattle.grammar.specs.Tree.{Term, constant, variable, Operation, sum, difference, product, quotient, remainder, operation_number, Formula, alone}
use Rattle.grammar.specs.Tree.{applied, Comparator, equal, unequal, less, at_most, greater, at_least, comparator_number, HeadTree, GuardTree, ItemTree}
use Rattle.grammar.specs.Tree.{fact, fail, RuleTree, TableTree, GoalFact, heads_of, head_terms}
use Rattle.grammar.specs.Encode.{each_bytes, places_bytes, term_bytes, unused_slot, formula_bytes, symbol_bytes, head_bytes, guard_bytes, item_bytes}
use Rattle.grammar.specs.Encode.{rule_bytes, encode, argument_bytes, goal_fact_bytes, encode_goal}
use Rattle.grammar.specs.WellFormed.{HeadGood, GuardGood, ItemGood, RuleGood, WellFormed, GoalFactGood, GoalGood}

abbrev pub Byte : ℕ → Type 0
Byte b = b < 256

pub both : (xs ys : List ℕ) → AreBytes xs → AreBytes ys → AreBytes (xs ++ ys)
both xs ys u v = every-append Byte xs ys u v

word : (n : ℕ) → AreBytes (bytes4 n)
unfolding bytes4
word n = (omega arith, (omega arith, (omega arith, (omega arith, tt))))

argument : (z : ℤ) → AreBytes (argument_bytes z)
unfolding bytes4
argument z = (omega arith, (omega arith, (omega arith, (omega arith, tt))))

zeros : (n : ℕ) → AreBytes (replicate n 0)
zeros n = every-replicate Byte n 0 (omega arith)

module _ {A : Type 0} (bytes : A → List ℕ) (Fit : A → Type 0) (one : (x : A) → Fit x → AreBytes (bytes x)) where
  pub each : (xs : List A) → every Fit xs → AreBytes (each_bytes bytes xs)
  unfolding each_bytes
  each [] u = tt
  each (x ∷ xs) u = both (bytes x) (each_bytes bytes xs) (one x u.0) (each xs u.1)

module _ {A : Type 0} (bytes : A → List ℕ) (size : ℕ) (one : (x : A) → AreBytes (bytes x)) where
  pub places : (n : ℕ) (xs : List A) → AreBytes (places_bytes bytes size n xs)
  unfolding places_bytes
  places zero xs = tt
  places (suc n) [] = both (replicate size 0) _ (zeros size) (places n [])
  places (suc n) (x ∷ xs) = both (bytes x) _ (one x) (places n xs)

pub term : (a : Term) → AreBytes (term_bytes a)
unfolding term_bytes
term (constant z) = (omega arith, word (bits_of z))
term (variable v) = (omega arith, word v)

operation : (o : Operation) → operation_number o < 256
operation sum = omega arith
operation difference = omega arith
operation product = omega arith
operation quotient = omega arith
operation remainder = omega arith

comparator : (c : Comparator) → comparator_number c < 256
comparator equal = omega arith
comparator unequal = omega arith
comparator less = omega arith
comparator at_most = omega arith
comparator greater = omega arith
comparator at_least = omega arith

pub formula : (e : Formula) → AreBytes (formula_bytes e)
unfolding formula_bytes
formula (alone a) = (omega arith, both (term_bytes a) unused_slot (term a) (zeros 5))
formula (applied o a b) = (operation o, both (term_bytes a) (term_bytes b) (term a) (term b))

pub guard : (g : GuardTree) → AreBytes (guard_bytes g)
unfolding guard_bytes
guard g = (omega arith, (comparator g.comparator, both (formula_bytes g.left) (formula_bytes g.right) (formula g.left) (formula g.right)))

module _ (arities : List ℕ) (few : length arities ≤ 32) where
  head : (kind : ℕ) → kind < 256 → (h : HeadTree) → HeadGood arities h → AreBytes (head_bytes kind h)
  unfolding head_bytes
  head kind k h g = (k, (omega (arith, g.symbol.declared), places term_bytes 5 term 4 h.terms))

  item : (hs : List Term) (i : ItemTree) → ItemGood arities hs i → AreBytes (item_bytes i)
  unfolding item_bytes
  item hs (fact s es) g = (omega arith, (omega (arith, g.symbol.declared), places formula_bytes 11 formula 4 es))
  item hs fail g = (omega arith, tt)

  rule : (w : RuleTree) → RuleGood arities w → AreBytes (rule_bytes w)
  unfolding rule_bytes
  rule w g =
      let hs = head_terms (heads_of w) in
      let kept = each (head_bytes 3) (HeadGood arities) (head 3 (omega arith)) w.kept g.kept in
      let removed = each (head_bytes 4) (HeadGood arities) (head 4 (omega arith)) w.removed g.removed in
      let guards = each guard_bytes (GuardGood hs) (λ x k. guard x) w.guards g.guards in
      let items = each item_bytes (ItemGood arities hs) (item hs) w.items g.items in
      (omega arith, search both)

  goal-fact : (f : GoalFact) → GoalFactGood arities f → AreBytes (goal_fact_bytes f)
  unfolding goal_fact_bytes
  goal-fact f g = (omega arith, (omega (arith, g.symbol.declared), places argument_bytes 4 argument 4 f.arguments))

  -- and so of a goal over at most 32 symbols
  pub goal-encoding-bytes : (fs : List GoalFact) → GoalGood arities fs → AreBytes (encode_goal fs)
  unfolding encode_goal
  goal-encoding-bytes fs g = each goal_fact_bytes (GoalFactGood arities) goal-fact fs g.facts

pub symbol : (a : ℕ) → a < 256 → AreBytes (symbol_bytes a)
unfolding symbol_bytes
symbol a h = (omega arith, (h, tt))

-- The encoding of a well-formed tree is made of bytes.
pub encoding-bytes : (w : TableTree) → WellFormed w → AreBytes (encode w)
unfolding encode
encoding-bytes w g =
    both (each_bytes symbol_bytes w.arities) _ (each symbol_bytes Byte symbol w.arities (every-weaken _ Byte (λ a h. omega arith) w.arities g.arities))
    (both (each_bytes rule_bytes w.rules) (8 ∷ []) (each rule_bytes (RuleGood w.arities) (rule w.arities g.few_symbols) w.rules g.rules)
    (omega arith, tt))
