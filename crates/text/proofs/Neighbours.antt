-- Which tokens stand side by side in a text: no word follows a word, and an operation follows a constant or a variable. By the grammar, line by line:
-- what stands behind a list or a part is always a sign, which may follow every token.
use mathlib.Core.Path.{◌≡◌, refl, sym, subst}
use mathlib.Core.List.{List, [], ◌∷◌, ◌++◌}
use Rattle.grammar.specs.Tree.{Term, Operation, sum, difference, product, quotient, remainder, Formula, alone, applied, HeadTree, GuardTree, ItemTree, fact}
use Rattle.grammar.specs.Tree.{fail, RuleTree}
use Rattle.text.specs.Token.{Token, symbol, slot, compares, operates, mark, Mark, backslash, simplifies, propagates, bar, opens, closes, comma, stop}
use Rattle.text.specs.Token.{true_word, fail_word}
use Rattle.text.specs.Text.{more_tokens, list_tokens, bracket_tokens, each_tokens, term_tokens, formula_tokens, head_tokens, guard_tokens, item_tokens}
use Rattle.text.specs.Text.{heads_tokens}
use Rattle.text.specs.Text.{guards_tokens, body_tokens, rule_tokens}

-- what a token is to its neighbour: a sign, a constant or a variable, or another word
pub data Kind : Type 0 where
  sign value word : Kind

abbrev pub mark_kind : Mark → Kind
mark_kind backslash = sign
mark_kind simplifies = sign
mark_kind propagates = sign
mark_kind bar = sign
mark_kind opens = sign
mark_kind closes = sign
mark_kind comma = sign
mark_kind stop = sign
mark_kind true_word = word
mark_kind fail_word = word

abbrev pub kind_of : Token → Kind
kind_of (symbol k) = word
kind_of (slot a) = value
kind_of (compares c) = sign
kind_of (operates o) = sign
kind_of (mark m) = mark_kind m

-- a token of the second kind may follow one of the first
abbrev pub Follows : Kind → Kind → Type 0
Follows before sign = Unit {0}
Follows before value = before ≡ sign
Follows before word = before ≡ sign

abbrev pub MayOperate : Kind → Operation → Type 0
MayOperate before sum = Unit {0}
MayOperate before difference = before ≡ value
MayOperate before product = Unit {0}
MayOperate before quotient = Unit {0}
MayOperate before remainder = Unit {0}

abbrev pub MayStand : Kind → Token → Type 0
MayStand before (symbol k) = before ≡ sign
MayStand before (slot a) = before ≡ sign
MayStand before (compares c) = Unit {0}
MayStand before (operates o) = MayOperate before o
MayStand before (mark m) = Follows before (mark_kind m)

-- some tokens behind a token of kind c, of which the last is of kind d
abbrev pub Flow : Kind → List Token → Kind → Type 0
Flow c [] d = c ≡ d
Flow c (t ∷ ts) d = MayStand c t × Flow (kind_of t) ts d

-- the same, whatever the last is
pub record Flows (c : Kind) (ts : List Token) : Type 0 where
  pub last : Kind
  pub flow : Flow c ts last

pub flow-append : (c d e : Kind) (xs ys : List Token) → Flow c xs d → Flow d ys e → Flow c (xs ++ ys) e
flow-append c d e [] ys f g = subst (λ (k : Kind). Flow k ys e) (sym f) g
flow-append c d e (x ∷ xs) ys f g = (f.0, flow-append (kind_of x) d e xs ys f.1 g)

-- what follows may follow every token
into : (c e : Kind) (xs ys : List Token) → Flows c xs → ((d : Kind) → Flow d ys e) → Flow c (xs ++ ys) e
into c e xs ys f g = flow-append c f.last e xs ys f.flow (g f.last)

onto : (c : Kind) (xs ys : List Token) → Flows c xs → ((d : Kind) → Flows d ys) → Flows c (xs ++ ys)
onto c xs ys f g = let h = g f.last in record { last = h.last; flow = flow-append c f.last h.last xs ys f.flow h.flow }

-- ---- lists

module _ {A : Type 0} (tokens : A → List Token) (each : (x : A) → Flows sign (tokens x)) where
  more-flow : (xs : List A) (c : Kind) → Flows c (more_tokens tokens xs)
  unfolding more_tokens
  more-flow [] c = record { last = c; flow = refl }
  more-flow (x ∷ xs) c = let h = onto sign (tokens x) (more_tokens tokens xs) (each x) (more-flow xs) in record { last = h.last; flow = (tt, h.flow) }

  list-flow : (xs : List A) → Flows sign (list_tokens tokens xs)
  unfolding list_tokens
  list-flow [] = record { last = sign; flow = refl }
  list-flow (x ∷ xs) = onto sign (tokens x) (more_tokens tokens xs) (each x) (more-flow xs)

  bracket-flow : (xs : List A) (c : Kind) → Flows c (bracket_tokens tokens xs)
  unfolding bracket_tokens
  bracket-flow [] c = record { last = c; flow = refl }
  bracket-flow (x ∷ xs) c =
      record { last = sign; flow = (tt, into sign sign (list_tokens tokens (x ∷ xs)) (mark closes ∷ []) (list-flow (x ∷ xs)) (λ d. (tt, refl))) }

-- ---- the grammar

term-flow : (a : Term) → Flows sign (term_tokens a)
unfolding term_tokens
term-flow a = record { last = value; flow = (refl, refl) }

may-operate : (o : Operation) → MayOperate value o
may-operate sum = tt
may-operate difference = refl
may-operate product = tt
may-operate quotient = tt
may-operate remainder = tt

formula-flow : (e : Formula) → Flows sign (formula_tokens e)
unfolding formula_tokens
formula-flow (alone a) = record { last = value; flow = (refl, refl) }
formula-flow (applied o a b) = record { last = value; flow = (refl, (may-operate o, (refl, refl))) }

head-flow : (h : HeadTree) → Flows sign (head_tokens h)
unfolding head_tokens
head-flow h = let f = bracket-flow term_tokens term-flow h.terms word in record { last = f.last; flow = (refl, f.flow) }

guard-flow : (g : GuardTree) → Flows sign (guard_tokens g)
unfolding guard_tokens
guard-flow g =
    let r = formula-flow g.right in
    onto sign (formula_tokens g.left) (compares g.comparator ∷ formula_tokens g.right) (formula-flow g.left)
    (λ d. record { last = r.last; flow = (tt, r.flow) })

item-flow : (i : ItemTree) → Flows sign (item_tokens i)
unfolding item_tokens
item-flow (fact s es) = let f = bracket-flow formula_tokens formula-flow es word in record { last = f.last; flow = (refl, f.flow) }
item-flow fail = record { last = word; flow = (refl, refl) }

heads-flow : (kept removed : List HeadTree) → Flow sign (heads_tokens kept removed) sign
unfolding heads_tokens
heads-flow [] removed = into sign sign (list_tokens head_tokens removed) (mark simplifies ∷ []) (list-flow head_tokens head-flow removed) (λ d. (tt, refl))
heads-flow (k ∷ kept) [] =
    into sign sign (list_tokens head_tokens (k ∷ kept)) (mark propagates ∷ []) (list-flow head_tokens head-flow (k ∷ kept)) (λ d. (tt, refl))
heads-flow (k ∷ kept) (r ∷ removed) =
    into sign sign (list_tokens head_tokens (k ∷ kept)) (mark backslash ∷ (list_tokens head_tokens (r ∷ removed) ++ (mark simplifies ∷ [])))
    (list-flow head_tokens head-flow (k ∷ kept))
    (λ d. (tt, into sign sign (list_tokens head_tokens (r ∷ removed)) (mark simplifies ∷ []) (list-flow head_tokens head-flow (r ∷ removed)) (λ e. (tt, refl))))

guards-flow : (gs : List GuardTree) → Flow sign (guards_tokens gs) sign
unfolding guards_tokens
guards-flow [] = refl
guards-flow (g ∷ gs) = into sign sign (list_tokens guard_tokens (g ∷ gs)) (mark bar ∷ []) (list-flow guard_tokens guard-flow (g ∷ gs)) (λ d. (tt, refl))

body-flow : (is : List ItemTree) → Flows sign (body_tokens is)
unfolding body_tokens
body-flow [] = record { last = word; flow = (refl, refl) }
body-flow (i ∷ is) = list-flow item_tokens item-flow (i ∷ is)

rule-flow : (r : RuleTree) → Flow sign (rule_tokens r) sign
unfolding rule_tokens
rule-flow r =
    flow-append sign sign sign (heads_tokens r.kept r.removed) (guards_tokens r.guards ++ (body_tokens r.items ++ (mark stop ∷ [])))
    (heads-flow r.kept r.removed)
    (flow-append sign sign sign (guards_tokens r.guards) (body_tokens r.items ++ (mark stop ∷ [])) (guards-flow r.guards)
    (into sign sign (body_tokens r.items) (mark stop ∷ []) (body-flow r.items) (λ d. (tt, refl))))

pub rules-flow : (rs : List RuleTree) → Flow sign (each_tokens rule_tokens rs) sign
unfolding each_tokens
rules-flow [] = refl
rules-flow (r ∷ rs) = flow-append sign sign sign (rule_tokens r) (each_tokens rule_tokens rs) (rule-flow r) (rules-flow rs)
