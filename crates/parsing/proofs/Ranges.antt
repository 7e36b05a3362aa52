-- The tree of a text whose tokens have a spelling: its symbols, terms and expressions are in range, and it has at most 32 declarations, since the last
-- one's symbol is in range. Each part's tokens stand among the text's.
use Prim.Native.Nat.{ℕ, suc, ◌+◌, ◌≤◌}
use native.Mathlib.Omega.{arith}
use mathlib.Core.Path.{◌≡◌}
use mathlib.Core.List.{List, [], ◌∷◌, ◌++◌}
use lib.ListN.{length}
use Rattle.model.proofs.Every.{every, every-left, every-right}
use Rattle.grammar.specs.Tree.{Term, Formula, alone, applied, HeadTree, GuardTree, ItemTree, fact, fail, RuleTree, TableTree}
use Rattle.grammar.specs.WellFormed.{TermGood, FormulaGood}
use Rattle.text.specs.Token.{Token, compares, mark, backslash, simplifies, propagates, bar, closes, stop, TokenGood}
use Rattle.text.specs.Text.{more_tokens, list_tokens, bracket_tokens, each_tokens, term_tokens, formula_tokens, head_tokens, guard_tokens}
use Rattle.text.specs.Text.{item_tokens, heads_tokens}
use Rattle.text.specs.Text.{guards_tokens, body_tokens, rule_tokens, declaration_tokens, declarations_tokens, text_tokens}
use Rattle.text.specs.Tokens.{Lexed, tokens_in}
use Rattle.parsing.specs.Parsed.{tree, parsed}
use Rattle.parsing.proofs.Exactly.{text-exactly}

-- ---- in range

pub record HeadRanged (h : HeadTree) : Type 0 where
  pub symbol : h.symbol ≤ 31
  pub terms : every TermGood h.terms

pub record GuardRanged (g : GuardTree) : Type 0 where
  pub left : FormulaGood g.left
  pub right : FormulaGood g.right

pub record FactRanged (s : ℕ) (es : List Formula) : Type 0 where
  pub symbol : s ≤ 31
  pub formulas : every FormulaGood es

abbrev pub ItemRanged : ItemTree → Type 0
ItemRanged (fact s es) = FactRanged s es
ItemRanged fail = Unit {0}

pub record RuleRanged (r : RuleTree) : Type 0 where
  pub kept : every HeadRanged r.kept
  pub removed : every HeadRanged r.removed
  pub guards : every GuardRanged r.guards
  pub items : every ItemRanged r.items

pub record Ranged (w : TableTree) : Type 0 where
  pub arities : length w.arities ≤ 32
  pub rules : every RuleRanged w.rules

-- ---- lists

abbrev Good : List Token → Type 0
Good ts = every TokenGood ts

left : (ts us : List Token) → Good (ts ++ us) → Good ts
left ts us u = every-left TokenGood ts us u

right : (ts us : List Token) → Good (ts ++ us) → Good us
right ts us u = every-right TokenGood ts us u

module _ {A : Type 0} (tokens : A → List Token) (P : A → Type 0) (part : (x : A) → Good (tokens x) → P x) where
  more-ranged : (xs : List A) → Good (more_tokens tokens xs) → every P xs
  unfolding more_tokens
  more-ranged [] u = tt
  more-ranged (x ∷ xs) u = (part x (left (tokens x) (more_tokens tokens xs) u.1), more-ranged xs (right (tokens x) (more_tokens tokens xs) u.1))

  list-ranged : (xs : List A) → Good (list_tokens tokens xs) → every P xs
  unfolding list_tokens
  list-ranged [] u = tt
  list-ranged (x ∷ xs) u = (part x (left (tokens x) (more_tokens tokens xs) u), more-ranged xs (right (tokens x) (more_tokens tokens xs) u))

  bracket-ranged : (xs : List A) → Good (bracket_tokens tokens xs) → every P xs
  unfolding bracket_tokens
  bracket-ranged [] u = tt
  bracket-ranged (x ∷ xs) u = list-ranged (x ∷ xs) (left (list_tokens tokens (x ∷ xs)) (mark closes ∷ []) u.1)

  each-ranged : (xs : List A) → Good (each_tokens tokens xs) → every P xs
  unfolding each_tokens
  each-ranged [] u = tt
  each-ranged (x ∷ xs) u = (part x (left (tokens x) (each_tokens tokens xs) u), each-ranged xs (right (tokens x) (each_tokens tokens xs) u))

-- ---- parts

term-ranged : (a : Term) → Good (term_tokens a) → TermGood a
unfolding term_tokens
term-ranged a u = u.0

formula-ranged : (f : Formula) → Good (formula_tokens f) → FormulaGood f
unfolding formula_tokens
formula-ranged (alone a) u = u.0
formula-ranged (applied o a b) u = (u.0, u.1.1.0)

head-ranged : (h : HeadTree) → Good (head_tokens h) → HeadRanged h
unfolding head_tokens
head-ranged h u = record { symbol = u.0; terms = bracket-ranged term_tokens TermGood term-ranged h.terms u.1 }

guard-ranged : (g : GuardTree) → Good (guard_tokens g) → GuardRanged g
unfolding guard_tokens
guard-ranged g u = record {
  left = formula-ranged g.left (left (formula_tokens g.left) (compares g.comparator ∷ formula_tokens g.right) u);
  right = formula-ranged g.right (right (formula_tokens g.left) (compares g.comparator ∷ formula_tokens g.right) u).1;
}

item-ranged : (i : ItemTree) → Good (item_tokens i) → ItemRanged i
unfolding item_tokens
item-ranged (fact s es) u = record { symbol = u.0; formulas = bracket-ranged formula_tokens FormulaGood formula-ranged es u.1 }
item-ranged fail u = tt

-- ---- a rule

heads-ranged : (hs : List HeadTree) (ts : List Token) → Good (list_tokens head_tokens hs ++ ts) → every HeadRanged hs
heads-ranged hs ts u = list-ranged head_tokens HeadRanged head-ranged hs (left (list_tokens head_tokens hs) ts u)

kept-ranged : (kept removed : List HeadTree) → Good (heads_tokens kept removed) → every HeadRanged kept
unfolding heads_tokens
kept-ranged [] removed u = tt
kept-ranged (k ∷ kept) [] u = heads-ranged (k ∷ kept) (mark propagates ∷ []) u
kept-ranged (k ∷ kept) (r ∷ removed) u = heads-ranged (k ∷ kept) (mark backslash ∷ (list_tokens head_tokens (r ∷ removed) ++ (mark simplifies ∷ []))) u

removed-ranged : (kept removed : List HeadTree) → Good (heads_tokens kept removed) → every HeadRanged removed
unfolding heads_tokens
removed-ranged [] removed u = heads-ranged removed (mark simplifies ∷ []) u
removed-ranged (k ∷ kept) [] u = tt
removed-ranged (k ∷ kept) (r ∷ removed) u =
    heads-ranged (r ∷ removed) (mark simplifies ∷ [])
    (right (list_tokens head_tokens (k ∷ kept)) (mark backslash ∷ (list_tokens head_tokens (r ∷ removed) ++ (mark simplifies ∷ []))) u).1

guards-ranged : (gs : List GuardTree) → Good (guards_tokens gs) → every GuardRanged gs
unfolding guards_tokens
guards-ranged [] u = tt
guards-ranged (g ∷ gs) u = list-ranged guard_tokens GuardRanged guard-ranged (g ∷ gs) (left (list_tokens guard_tokens (g ∷ gs)) (mark bar ∷ []) u)

body-ranged : (is : List ItemTree) → Good (body_tokens is) → every ItemRanged is
unfolding body_tokens
body-ranged [] u = tt
body-ranged (i ∷ is) u = list-ranged item_tokens ItemRanged item-ranged (i ∷ is) u

rule-ranged : (r : RuleTree) → Good (rule_tokens r) → RuleRanged r
unfolding rule_tokens
rule-ranged r u =
    let hs = heads_tokens r.kept r.removed in
    let gs = guards_tokens r.guards in
    let is = body_tokens r.items in
    let heads : Good hs = left hs (gs ++ (is ++ (mark stop ∷ []))) u in
    let rest : Good (gs ++ (is ++ (mark stop ∷ []))) = right hs (gs ++ (is ++ (mark stop ∷ []))) u in
    record {
      kept = kept-ranged r.kept r.removed heads;
      removed = removed-ranged r.kept r.removed heads;
      guards = guards-ranged r.guards (left gs (is ++ (mark stop ∷ [])) rest);
      items = body-ranged r.items (left is (mark stop ∷ []) (right gs (is ++ (mark stop ∷ [])) rest));
    }

-- ---- a text

-- the last of the symbols from k on is in range
declarations-ranged : (k : ℕ) (arities : List ℕ) → k ≤ 32 → Good (declarations_tokens k arities) → k + length arities ≤ 32
unfolding declarations_tokens declaration_tokens
declarations-ranged k [] h u = omega arith
declarations-ranged k (a ∷ arities) h u = omega (arith, declarations-ranged (suc k) arities (omega arith) u.1.1.1.1)

pub ranged : (w : TableTree) → every TokenGood (text_tokens w) → Ranged w
unfolding text_tokens
ranged w u = record {
  arities =
      omega (arith, declarations-ranged 0 w.arities (omega arith) (left (declarations_tokens 0 w.arities) (each_tokens rule_tokens w.rules) u));
  rules = each-ranged rule_tokens RuleRanged rule-ranged w.rules (right (declarations_tokens 0 w.arities) (each_tokens rule_tokens w.rules) u);
}

-- So it is of every text that is read, if its tokens have a spelling.
pub text-ranged : (l : Lexed) (w : TableTree) → every TokenGood (tokens_in l) → parsed l ≡ tree w → Ranged w
text-ranged l w g e = ranged w (rw ((text-exactly l w).0 e).1.spells g)
