-- Which tokens are a text, and of which tree: the grammar, line by line. The tree is that of a table before its limits are asked (crate grammar).
use Rattle.std.specs.Prelude.{ℕ, suc, ◌+◌, ◌≤◌, ◌≡◌, List, [], ◌∷◌, ◌++◌, pos, length}
use Rattle.model.proofs.Every.{every}
use Rattle.grammar.specs.Tree.{Term, constant, quotient, Formula, alone, applied, HeadTree, GuardTree, ItemTree, fact, fail, RuleTree, TableTree}
use Rattle.text.specs.Token.{Token, symbol, slot, compares, operates, mark, backslash, simplifies, propagates, bar, opens, closes, comma, stop}
use Rattle.text.specs.Token.{true_word, fail_word, TokenGood}

-- ---- lists

module _ {A : Type 0} (tokens : A → List Token) where
  -- { "," x }
  unfoldable pub more_tokens : List A → List Token
  more_tokens [] = []
  more_tokens (x ∷ xs) = mark comma ∷ (tokens x ++ more_tokens xs)

  -- x { "," x }
  unfoldable pub list_tokens : List A → List Token
  list_tokens [] = []
  list_tokens (x ∷ xs) = tokens x ++ more_tokens xs

  -- [ "(" x { "," x } ")" ]
  unfoldable pub bracket_tokens : List A → List Token
  bracket_tokens [] = []
  bracket_tokens (x ∷ xs) = mark opens ∷ (list_tokens (x ∷ xs) ++ (mark closes ∷ []))

  -- x*
  unfoldable pub each_tokens : List A → List Token
  each_tokens [] = []
  each_tokens (x ∷ xs) = tokens x ++ each_tokens xs

-- ---- the grammar

-- slot = constant | variable
unfoldable pub term_tokens : Term → List Token
term_tokens a = slot a ∷ []

-- expression = slot [ operation slot ]
unfoldable pub formula_tokens : Formula → List Token
formula_tokens (alone a) = slot a ∷ []
formula_tokens (applied o a b) = slot a ∷ operates o ∷ slot b ∷ []

-- head = symbol [ "(" slot { "," slot } ")" ]
unfoldable pub head_tokens : HeadTree → List Token
head_tokens h = symbol h.symbol ∷ bracket_tokens term_tokens h.terms

-- comparison = expression comparator expression
unfoldable pub guard_tokens : GuardTree → List Token
guard_tokens g = formula_tokens g.left ++ (compares g.comparator ∷ formula_tokens g.right)

-- item = "fail" | symbol [ "(" expression { "," expression } ")" ]
unfoldable pub item_tokens : ItemTree → List Token
item_tokens (fact s es) = symbol s ∷ bracket_tokens formula_tokens es
item_tokens fail = mark fail_word ∷ []

-- heads "==>" | heads "<=>" | heads "\" heads "<=>": the kept heads, then the removed ones. A rule has a head
unfoldable pub heads_tokens : List HeadTree → List HeadTree → List Token
heads_tokens [] removed = list_tokens head_tokens removed ++ (mark simplifies ∷ [])
heads_tokens (k ∷ kept) [] = list_tokens head_tokens (k ∷ kept) ++ (mark propagates ∷ [])
heads_tokens (k ∷ kept) (r ∷ removed) =
    list_tokens head_tokens (k ∷ kept) ++ (mark backslash ∷ (list_tokens head_tokens (r ∷ removed) ++ (mark simplifies ∷ [])))

-- [ comparison { "," comparison } "|" ]
unfoldable pub guards_tokens : List GuardTree → List Token
guards_tokens [] = []
guards_tokens (g ∷ gs) = list_tokens guard_tokens (g ∷ gs) ++ (mark bar ∷ [])

-- body = "true" | item { "," item }
unfoldable pub body_tokens : List ItemTree → List Token
body_tokens [] = mark true_word ∷ []
body_tokens (i ∷ is) = list_tokens item_tokens (i ∷ is)

-- rule = heads [ "\" heads ] "<=>" rest | heads "==>" rest, rest = [ comparison { "," comparison } "|" ] body "."
unfoldable pub rule_tokens : RuleTree → List Token
rule_tokens r = heads_tokens r.kept r.removed ++ (guards_tokens r.guards ++ (body_tokens r.items ++ (mark stop ∷ [])))

-- declaration = "s"k "/" arity ".", "from `s0` without gaps": k is the number of declarations before it
unfoldable pub declaration_tokens : ℕ → ℕ → List Token
declaration_tokens k arity = symbol k ∷ operates quotient ∷ slot (constant (pos arity)) ∷ mark stop ∷ []

-- the declarations of the symbols from k on
unfoldable pub declarations_tokens : ℕ → List ℕ → List Token
declarations_tokens k [] = []
declarations_tokens k (a ∷ arities) = declaration_tokens k a ++ declarations_tokens (suc k) arities

-- text = declaration* rule*: "all before the rules"
unfoldable pub text_tokens : TableTree → List Token
text_tokens w = declarations_tokens 0 w.arities ++ each_tokens rule_tokens w.rules

-- ---- the numbers of the grammar

-- "arity 0 to 4", "at most four arguments"; heads has one head at least
abbrev pub ItemShaped : ItemTree → Type 0
ItemShaped (fact s es) = length es ≤ 4
ItemShaped fail = Unit {0}

pub record RuleShaped (r : RuleTree) : Type 0 where
  pub some_head : 1 ≤ length r.kept + length r.removed
  pub kept : every (λ (h : HeadTree). length h.terms ≤ 4) r.kept
  pub removed : every (λ (h : HeadTree). length h.terms ≤ 4) r.removed
  pub items : every ItemShaped r.items

pub record Shaped (w : TableTree) : Type 0 where
  pub arities : every (λ (a : ℕ). a ≤ 4) w.arities
  pub rules : every RuleShaped w.rules

-- ---- a text

-- some tokens are a text, of the tree w
pub record Text (ts : List Token) (w : TableTree) : Type 0 where
  pub shaped : Shaped w
  pub spells : text_tokens w ≡ ts

-- some tokens begin a text: there are tokens with which they go on to one
pub record Begins (ts : List Token) : Type 0 where
  pub rest : List Token
  pub good : every TokenGood rest
  pub tree : TableTree
  pub text : Text (ts ++ rest) tree
