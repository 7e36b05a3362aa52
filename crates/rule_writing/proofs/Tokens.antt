-- The text of the tokens of a tree is the text of its parts, one behind the other.
use Prim.Native.Nat.{ℕ}
use mathlib.Core.Path.{◌≡◌, refl, sym, ap, ◌∙◌}
use mathlib.Core.List.{List, [], ◌∷◌, ◌++◌, map, append_assoc, append-nil}
use Rattle.grammar.specs.Tree.{Term, Formula, alone, applied, HeadTree, GuardTree, ItemTree, fact, fail, RuleTree, TableTree}
use Rattle.text.specs.Token.{Token, compares, mark, backslash, simplifies, propagates, bar, closes, stop}
use Rattle.text.specs.Token.{true_word, fail_word}
use Rattle.text.specs.Text.{more_tokens, list_tokens, bracket_tokens, each_tokens, term_tokens, formula_tokens, head_tokens, guard_tokens, item_tokens}
use Rattle.text.specs.Text.{heads_tokens}
use Rattle.text.specs.Text.{guards_tokens, body_tokens, rule_tokens}
use Rattle.text.specs.Printed.{term_text, symbol_text, operation_text, mark_text, token_text, tokens_text, declarations_text, printed}
use Rattle.text_writing.specs.Parts.{more_text, list_text, open_text, close_text, bracket_text, each_text, formula_text, head_text, guard_text, item_text}
use Rattle.text_writing.specs.Parts.{heads_text, guards_text, body_text, rule_text}

append-text : (xs ys : List Token) → tokens_text (xs ++ ys) ≡ tokens_text xs ++ tokens_text ys
unfolding tokens_text
append-text [] ys = refl
append-text (x ∷ xs) ys = rw (append-text xs ys) (sym (append_assoc (token_text x) (tokens_text xs) (tokens_text ys)))

-- a mark at the end
last-text : (xs : List Token) (x : Token) → tokens_text (xs ++ (x ∷ [])) ≡ tokens_text xs ++ token_text x
unfolding tokens_text
last-text xs x = append-text xs (x ∷ []) ∙ ap (λ (l : List ℕ). tokens_text xs ++ l) (append-nil (token_text x))

-- ---- lists of parts, of which each has its text

module _ {A : Type 0} (tokens : A → List Token) (text : A → List ℕ) (each : (x : A) → tokens_text (tokens x) ≡ text x) where
  more-same : (xs : List A) → tokens_text (more_tokens tokens xs) ≡ more_text (map text xs)
  unfolding more_tokens more_text tokens_text token_text
  more-same [] = refl
  more-same (x ∷ xs) = rw (append-text (tokens x) (more_tokens tokens xs), each x, more-same xs)

  list-same : (xs : List A) → tokens_text (list_tokens tokens xs) ≡ list_text (map text xs)
  unfolding list_tokens list_text tokens_text
  list-same [] = refl
  list-same (x ∷ xs) = rw (append-text (tokens x) (more_tokens tokens xs), each x, more-same xs)

  bracket-same : (xs : List A) → tokens_text (bracket_tokens tokens xs) ≡ bracket_text (map text xs)
  unfolding bracket_tokens bracket_text open_text close_text list_text tokens_text token_text mark_text
  bracket-same [] = refl
  bracket-same (x ∷ xs) =
      ap (λ (l : List ℕ). 40 ∷ l) (last-text (list_tokens tokens (x ∷ xs)) (mark closes) ∙ ap (λ (l : List ℕ). l ++ (41 ∷ [])) (list-same (x ∷ xs)))

  each-same : (xs : List A) → tokens_text (each_tokens tokens xs) ≡ each_text (map text xs)
  unfolding each_tokens each_text tokens_text
  each-same [] = refl
  each-same (x ∷ xs) = rw (append-text (tokens x) (each_tokens tokens xs), each x, each-same xs)

-- ---- the parts

term-same : (a : Term) → tokens_text (term_tokens a) ≡ term_text a
unfolding term_tokens tokens_text token_text
term-same a = append-nil (term_text a)

formula-same : (f : Formula) → tokens_text (formula_tokens f) ≡ formula_text f
unfolding formula_tokens formula_text tokens_text token_text
formula-same (alone a) = append-nil (term_text a)
formula-same (applied o a b) = ap (λ (l : List ℕ). term_text a ++ (operation_text o ++ l)) (append-nil (term_text b))

head-same : (h : HeadTree) → tokens_text (head_tokens h) ≡ head_text h
unfolding head_tokens head_text tokens_text token_text
head-same h = ap (λ (l : List ℕ). symbol_text h.symbol ++ l) (bracket-same term_tokens term_text term-same h.terms)

guard-same : (g : GuardTree) → tokens_text (guard_tokens g) ≡ guard_text g
unfolding guard_tokens guard_text tokens_text token_text
guard-same g =
    append-text (formula_tokens g.left) (compares g.comparator ∷ formula_tokens g.right)
    ∙ rw (formula-same g.left, formula-same g.right)

item-same : (i : ItemTree) → tokens_text (item_tokens i) ≡ item_text i
unfolding item_tokens item_text tokens_text token_text
item-same (fact s es) = ap (λ (l : List ℕ). symbol_text s ++ l) (bracket-same formula_tokens formula_text formula-same es)
item-same fail = append-nil (mark_text fail_word)

heads-list : (hs : List HeadTree) → tokens_text (list_tokens head_tokens hs) ≡ list_text (map head_text hs)
heads-list hs = list-same head_tokens head_text head-same hs

-- a list of heads, and the mark behind it
heads-mark : (hs : List HeadTree) (x : Token) → tokens_text (list_tokens head_tokens hs ++ (x ∷ [])) ≡ list_text (map head_text hs) ++ token_text x
heads-mark hs x = last-text (list_tokens head_tokens hs) x ∙ ap (λ (l : List ℕ). l ++ token_text x) (heads-list hs)

heads-same : (ks rs : List HeadTree) → tokens_text (heads_tokens ks rs) ≡ heads_text ks rs
unfolding heads_tokens heads_text tokens_text token_text
heads-same [] rs = heads-mark rs (mark simplifies)
heads-same (k ∷ ks) [] = heads-mark (k ∷ ks) (mark propagates)
heads-same (k ∷ ks) (r ∷ rs) =
    append-text (list_tokens head_tokens (k ∷ ks)) (mark backslash ∷ (list_tokens head_tokens (r ∷ rs) ++ (mark simplifies ∷ [])))
    ∙ rw (heads-list (k ∷ ks), heads-mark (r ∷ rs) (mark simplifies))

guards-same : (gs : List GuardTree) → tokens_text (guards_tokens gs) ≡ guards_text gs
unfolding guards_tokens guards_text tokens_text token_text
guards-same [] = refl
guards-same (g ∷ gs) =
    last-text (list_tokens guard_tokens (g ∷ gs)) (mark bar)
    ∙ ap (λ (l : List ℕ). l ++ mark_text bar) (list-same guard_tokens guard_text guard-same (g ∷ gs))

body-same : (is : List ItemTree) → tokens_text (body_tokens is) ≡ body_text is
unfolding body_tokens body_text tokens_text token_text
body-same [] = append-nil (mark_text true_word)
body-same (i ∷ is) = list-same item_tokens item_text item-same (i ∷ is)

rule-same : (r : RuleTree) → tokens_text (rule_tokens r) ≡ rule_text r
unfolding rule_tokens rule_text token_text
rule-same r =
    append-text (heads_tokens r.kept r.removed) (guards_tokens r.guards ++ (body_tokens r.items ++ (mark stop ∷ [])))
    ∙ rw (append-text (guards_tokens r.guards) (body_tokens r.items ++ (mark stop ∷ [])), last-text (body_tokens r.items) (mark stop))
    (rw (heads-same r.kept r.removed, guards-same r.guards, body-same r.items))

-- ---- the whole text

pub printed-parts : (w : TableTree) → printed w ≡ declarations_text 0 w.arities ++ each_text (map rule_text w.rules)
unfolding printed
printed-parts w = ap (λ (l : List ℕ). declarations_text 0 w.arities ++ l) (each-same rule_tokens rule_text rule-same w.rules)
