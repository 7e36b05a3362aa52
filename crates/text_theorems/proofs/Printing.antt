-- A well-formed tree, printed, is a text of that tree: each of its tokens has a spelling, and its counts are those of the grammar.
use Prim.Native.Nat.{ℕ, suc, ◌+◌, ◌≤◌}
use native.Mathlib.Omega.{arith}
use mathlib.Core.Path.{sym}
use mathlib.Core.List.{List, [], ◌∷◌, ◌++◌}
use lib.ListN.{length}
use Rattle.numbers.proofs.Laws.{pos-ranged}
use Rattle.model.proofs.Every.{every, every-append, every-weaken}
use Rattle.grammar.specs.Tree.{Term, Formula, alone, applied, HeadTree, GuardTree, ItemTree, fact, fail, RuleTree, TableTree, heads_of, head_terms}
use Rattle.grammar.specs.WellFormed.{TermGood, FormulaGood, HeadGood, GuardGood, ItemGood, RuleGood, WellFormed}
use Rattle.grammar.proofs.Parts.{uses-few}
use Rattle.text.specs.Token.{Token, compares, mark, backslash, simplifies, propagates, bar, closes, stop, TokenGood}
use Rattle.text.specs.Text.{more_tokens, list_tokens, bracket_tokens, each_tokens, term_tokens, formula_tokens, head_tokens, guard_tokens}
use Rattle.text.specs.Text.{item_tokens, heads_tokens}
use Rattle.text.specs.Text.{guards_tokens, body_tokens, rule_tokens, declaration_tokens, declarations_tokens, text_tokens, ItemShaped, RuleShaped, Shaped}
use Rattle.text.specs.Printed.{printed}
use Rattle.text.proofs.PrintedBack.{printed-back}
use Rattle.text_theorems.proofs.Accepted.{TextOf}

abbrev Good : List Token → Type 0
Good ts = every TokenGood ts

both : (ts us : List Token) → Good ts → Good us → Good (ts ++ us)
both ts us u v = every-append TokenGood ts us u v

-- ---- lists

module _ {A : Type 0} (tokens : A → List Token) (P : A → Type 0) (part : (x : A) → P x → Good (tokens x)) where
  more-good : (xs : List A) → every P xs → Good (more_tokens tokens xs)
  unfolding more_tokens
  more-good [] u = tt
  more-good (x ∷ xs) u = (tt, both (tokens x) (more_tokens tokens xs) (part x u.0) (more-good xs u.1))

  list-good : (xs : List A) → every P xs → Good (list_tokens tokens xs)
  unfolding list_tokens
  list-good [] u = tt
  list-good (x ∷ xs) u = both (tokens x) (more_tokens tokens xs) (part x u.0) (more-good xs u.1)

  bracket-good : (xs : List A) → every P xs → Good (bracket_tokens tokens xs)
  unfolding bracket_tokens
  bracket-good [] u = tt
  bracket-good (x ∷ xs) u = (tt, both (list_tokens tokens (x ∷ xs)) (mark closes ∷ []) (list-good (x ∷ xs) u) (tt, tt))

  each-good : (xs : List A) → every P xs → Good (each_tokens tokens xs)
  unfolding each_tokens
  each-good [] u = tt
  each-good (x ∷ xs) u = both (tokens x) (each_tokens tokens xs) (part x u.0) (each-good xs u.1)

-- ---- parts

term-good : (a : Term) → TermGood a → Good (term_tokens a)
unfolding term_tokens
term-good a u = (u, tt)

formula-good : (f : Formula) → FormulaGood f → Good (formula_tokens f)
unfolding formula_tokens
formula-good (alone a) u = (u, tt)
formula-good (applied o a b) u = (u.0, (tt, (u.1, tt)))

module _ (arities : List ℕ) (few : length arities ≤ 32) where
  head-good : (h : HeadTree) → HeadGood arities h → Good (head_tokens h)
  unfolding head_tokens
  head-good h u = (omega (arith, u.symbol.declared), bracket-good term_tokens TermGood term-good h.terms u.terms)

  guard-good : (hs : List Term) (g : GuardTree) → GuardGood hs g → Good (guard_tokens g)
  unfolding guard_tokens
  guard-good hs g u =
      both (formula_tokens g.left) (compares g.comparator ∷ formula_tokens g.right) (formula-good g.left u.left)
      (tt, formula-good g.right u.right)

  item-good : (hs : List Term) (i : ItemTree) → ItemGood arities hs i → Good (item_tokens i)
  unfolding item_tokens
  item-good hs (fact s es) u = (omega (arith, u.symbol.declared), bracket-good formula_tokens FormulaGood formula-good es u.formulas)
  item-good hs fail u = (tt, tt)

  -- ---- a rule

  some-heads : (hs : List HeadTree) → every (HeadGood arities) hs → Good (list_tokens head_tokens hs)
  some-heads hs u = list-good head_tokens (HeadGood arities) head-good hs u

  heads-good : (kept removed : List HeadTree) → every (HeadGood arities) kept → every (HeadGood arities) removed → Good (heads_tokens kept removed)
  unfolding heads_tokens
  heads-good [] removed u v = both (list_tokens head_tokens removed) (mark simplifies ∷ []) (some-heads removed v) (tt, tt)
  heads-good (k ∷ kept) [] u v = both (list_tokens head_tokens (k ∷ kept)) (mark propagates ∷ []) (some-heads (k ∷ kept) u) (tt, tt)
  heads-good (k ∷ kept) (r ∷ removed) u v =
      both (list_tokens head_tokens (k ∷ kept)) (mark backslash ∷ (list_tokens head_tokens (r ∷ removed) ++ (mark simplifies ∷ []))) (some-heads (k ∷ kept) u)
      (tt, both (list_tokens head_tokens (r ∷ removed)) (mark simplifies ∷ []) (some-heads (r ∷ removed) v) (tt, tt))

  guards-good : (hs : List Term) (gs : List GuardTree) → every (GuardGood hs) gs → Good (guards_tokens gs)
  unfolding guards_tokens
  guards-good hs [] u = tt
  guards-good hs (g ∷ gs) u =
      both (list_tokens guard_tokens (g ∷ gs)) (mark bar ∷ []) (list-good guard_tokens (GuardGood hs) (guard-good hs) (g ∷ gs) u) (tt, tt)

  body-good : (hs : List Term) (is : List ItemTree) → every (ItemGood arities hs) is → Good (body_tokens is)
  unfolding body_tokens
  body-good hs [] u = (tt, tt)
  body-good hs (i ∷ is) u = list-good item_tokens (ItemGood arities hs) (item-good hs) (i ∷ is) u

  rule-good : (r : RuleTree) → RuleGood arities r → Good (rule_tokens r)
  unfolding rule_tokens
  rule-good r u =
      let ts = head_terms (heads_of r) in
      let hs = heads_tokens r.kept r.removed in
      let gs = guards_tokens r.guards in
      let is = body_tokens r.items in
      both hs (gs ++ (is ++ (mark stop ∷ []))) (heads-good r.kept r.removed u.kept u.removed)
      (both gs (is ++ (mark stop ∷ [])) (guards-good ts r.guards u.guards)
      (both is (mark stop ∷ []) (body-good ts r.items u.items) (tt, tt)))

-- ---- a tree

declarations-good : (k : ℕ) (ns : List ℕ) → k + length ns ≤ 32 → every (λ (a : ℕ). a ≤ 4) ns → Good (declarations_tokens k ns)
unfolding declarations_tokens declaration_tokens
declarations-good k [] h u = tt
declarations-good k (n ∷ ns) h u =
    (omega arith, (tt, (pos-ranged n (omega (arith, u.0)), (tt, declarations-good (suc k) ns (omega arith) u.1))))

pub tokens-good : (w : TableTree) → WellFormed w → every TokenGood (text_tokens w)
unfolding text_tokens
tokens-good w f =
    both (declarations_tokens 0 w.arities) (each_tokens rule_tokens w.rules)
    (declarations-good 0 w.arities (omega (arith, f.few_symbols)) f.arities)
    (each-good rule_tokens (RuleGood w.arities) (rule-good w.arities f.few_symbols) w.rules f.rules)

-- ---- the counts of the grammar

module _ (arities : List ℕ) (small : every (λ (a : ℕ). a ≤ 4) arities) where
  heads-shaped : (hs : List HeadTree) → every (HeadGood arities) hs → every (λ (h : HeadTree). length h.terms ≤ 4) hs
  heads-shaped hs u =
      every-weaken (HeadGood arities) (λ (h : HeadTree). length h.terms ≤ 4)
      (λ h g. uses-few arities small h.symbol (length h.terms) g.symbol) hs u

  item-shaped : (hs : List Term) (i : ItemTree) → ItemGood arities hs i → ItemShaped i
  item-shaped hs (fact s es) u = uses-few arities small s (length es) u.symbol
  item-shaped hs fail u = tt

  rule-shaped : (r : RuleTree) → RuleGood arities r → RuleShaped r
  rule-shaped r u = record {
    some_head = u.some_head;
    kept = heads-shaped r.kept u.kept;
    removed = heads-shaped r.removed u.removed;
    items = let hs = head_terms (heads_of r) in every-weaken (ItemGood arities hs) ItemShaped (item-shaped hs) r.items u.items;
  }

pub formed-shaped : (w : TableTree) → WellFormed w → Shaped w
formed-shaped w f = record {
  arities = f.arities;
  rules = every-weaken (RuleGood w.arities) RuleShaped (rule-shaped w.arities f.arities) w.rules f.rules;
}

-- A well-formed tree, printed, is a text of that tree.
pub printed-text : (w : TableTree) → WellFormed w → length (printed w) ≤ 65536 → TextOf (printed w) w
printed-text w f h =
    let b = printed-back w (tokens-good w f) in
    record { short = h; tokens = b.0; spells = record { shaped = formed-shaped w f; spells = sym b.1 } }
