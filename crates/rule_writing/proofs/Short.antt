-- The text of a well-formed tree is at most 65,536 bytes long: a number has ten digits at most, and the parts are few.
use Prim.Native.Nat.{ℕ, suc, ◌+◌, ◌*◌, ◌≤◌}
use mathlib.Core.Path.{◌≡◌, ap}
use mathlib.Core.List.{List, [], ◌∷◌, ◌++◌, map}
use native.Mathlib.Omega.{arith}
use native.Mathlib.Nat.{mul-suc}
use lib.IntN.{pos, negsuc}
use lib.ListN.{length, length-append, length-map}
use Rattle.std.specs.Prelude.{Ok}
use Rattle.model.specs.Reading.{read_of}
use Rattle.model.proofs.Every.{every}
use Rattle.model.proofs.Lists.{every-get_d}
use Rattle.grammar.specs.Tree.{Term, constant, variable, Operation, sum, difference, product, quotient, remainder, Formula, alone, applied, Comparator}
use Rattle.grammar.specs.Tree.{equal, unequal, less, at_most, greater, at_least, HeadTree, GuardTree, ItemTree, fact, fail, RuleTree, TableTree}
use Rattle.grammar.specs.Layout.{tree_of}
use Rattle.grammar.specs.WellFormed.{HeadGood, ItemGood, RuleGood, WellFormed, Uses}
use Rattle.grammar.proofs.Grammar.{good-encodes}
use Rattle.model.proofs.Ranges.{AreBytes}
use Rattle.text.specs.Printed.{decimal, term_text, symbol_text, comparator_text, operation_text, mark_text, declarations_text, printed}
use Rattle.text_writing.specs.Written.{longest_text}
use Rattle.text_writing.specs.Parts.{more_text, list_text, open_text, close_text, bracket_text, each_text, formula_text, head_text, guard_text, item_text}
use Rattle.text_writing.specs.Parts.{heads_text, guards_text, body_text, rule_text}
use Rattle.text_writing.proofs.Decimal.{decimal-few}
use Rattle.rule_writing.proofs.Tokens.{printed-parts}

-- ---- lists of texts, of at most `unit` bytes with a comma

abbrev Within : ℕ → List ℕ → Type 0
Within unit x = length x + 2 ≤ unit

module _ (unit : ℕ) where
  more-short : (xs : List (List ℕ)) → every (Within unit) xs → length (more_text xs) ≤ unit * length xs
  unfolding more_text mark_text
  more-short [] w = omega arith
  more-short (x ∷ xs) w = omega (arith, length-append x (more_text xs), more-short xs w.1, w.0, mul-suc unit (length xs))

  list-short : (xs : List (List ℕ)) → every (Within unit) xs → length (list_text xs) ≤ unit * length xs
  unfolding list_text
  list-short [] w = omega arith
  list-short (x ∷ xs) w = omega (arith, length-append x (more_text xs), more-short xs w.1, w.0, mul-suc unit (length xs))

  bracket-short : (xs : List (List ℕ)) → every (Within unit) xs → length (bracket_text xs) ≤ unit * length xs
  unfolding bracket_text open_text close_text
  bracket-short [] w = omega arith
  bracket-short (x ∷ xs) w =
      omega (arith, length-append (x ++ more_text xs) (41 ∷ []), length-append x (more_text xs), more-short xs w.1, w.0, mul-suc unit (length xs))

  each-short : (xs : List (List ℕ)) → every (λ (x : List ℕ). length x ≤ unit) xs → length (each_text xs) ≤ unit * length xs
  unfolding each_text
  each-short [] w = omega arith
  each-short (x ∷ xs) w = omega (arith, length-append x (each_text xs), each-short xs w.1, w.0, mul-suc unit (length xs))

-- the texts of parts with P
every-text : {A : Type 0} (P : A → Type 0) (Q : List ℕ → Type 0) (text : A → List ℕ) → ((x : A) → P x → Q (text x)) → (xs : List A) → every P xs
    → every Q (map text xs)
every-text P Q text f [] w = tt
every-text P Q text f (x ∷ xs) w = (f x w.0, every-text P Q text f xs w.1)

every-any : {A : Type 0} (Q : List ℕ → Type 0) (text : A → List ℕ) → ((x : A) → Q (text x)) → (xs : List A) → every Q (map text xs)
every-any Q text f [] = tt
every-any Q text f (x ∷ xs) = (f x, every-any Q text f xs)

-- ---- terms and expressions

symbol-short : (k : ℕ) → length (symbol_text k) ≤ 11
unfolding symbol_text
symbol-short k = omega (arith, decimal-few k)

term-short : (a : Term) → length (term_text a) ≤ 11
unfolding term_text
term-short (constant (pos n)) = omega (arith, decimal-few n)
term-short (constant (negsuc n)) = omega (arith, decimal-few (suc n))
term-short (variable v) = omega (arith, decimal-few v)

operation-short : (o : Operation) → length (operation_text o) ≤ 3
unfolding operation_text
operation-short sum = omega arith
operation-short difference = omega arith
operation-short product = omega arith
operation-short quotient = omega arith
operation-short remainder = omega arith

comparator-short : (c : Comparator) → length (comparator_text c) ≤ 4
unfolding comparator_text
comparator-short equal = omega arith
comparator-short unequal = omega arith
comparator-short less = omega arith
comparator-short at_most = omega arith
comparator-short greater = omega arith
comparator-short at_least = omega arith

formula-short : (f : Formula) → length (formula_text f) ≤ 25
unfolding formula_text
formula-short (alone a) = omega (arith, term-short a)
formula-short (applied o a b) =
    omega (
      arith,
      length-append (term_text a) (operation_text o ++ term_text b),
      length-append (operation_text o) (term_text b),
      term-short a,
      term-short b,
      operation-short o,
    )

-- ---- the parts of a rule, over symbols of arity 4 at most

module _ (arities : List ℕ) (small : every (λ (a : ℕ). a ≤ 4) arities) where
  uses-few : (k n : ℕ) → Uses arities k n → n ≤ 4
  uses-few k n u = omega (arith, u.uses, every-get_d (λ (a : ℕ). a ≤ 4) arities k 0 small (omega arith))

  head-short : (h : HeadTree) → HeadGood arities h → Within 66 (head_text h)
  unfolding head_text
  head-short h g =
      let n = uses-few h.symbol (length h.terms) g.symbol in
      omega (
        arith,
        length-append (symbol_text h.symbol) (bracket_text (map term_text h.terms)),
        symbol-short h.symbol,
        bracket-short 13 (map term_text h.terms) (every-any (Within 13) term_text (λ (a : Term). omega (arith, term-short a)) h.terms),
        length-map h.terms term_text,
        n,
      )

  guard-short : (g : GuardTree) → Within 56 (guard_text g)
  unfolding guard_text
  guard-short g =
      omega (
        arith,
        length-append (formula_text g.left) (comparator_text g.comparator ++ formula_text g.right),
        length-append (comparator_text g.comparator) (formula_text g.right),
        formula-short g.left,
        formula-short g.right,
        comparator-short g.comparator,
      )

  item-short : (hs : List Term) (i : ItemTree) → ItemGood arities hs i → Within 122 (item_text i)
  unfolding item_text mark_text
  item-short hs (fact s es) g =
      let n = uses-few s (length es) g.symbol in
      omega (
        arith,
        length-append (symbol_text s) (bracket_text (map formula_text es)),
        symbol-short s,
        bracket-short 27 (map formula_text es) (every-any (Within 27) formula_text (λ (f : Formula). omega (arith, formula-short f)) es),
        length-map es formula_text,
        n,
      )
  item-short hs fail g = omega arith

  heads-list-short : (hs : List HeadTree) → every (HeadGood arities) hs → length (list_text (map head_text hs)) ≤ 66 * length hs
  heads-list-short hs w =
      omega (arith, list-short 66 (map head_text hs) (every-text (HeadGood arities) (Within 66) head_text head-short hs w), length-map hs head_text)

  heads-short : (ks rs : List HeadTree) → every (HeadGood arities) ks → every (HeadGood arities) rs → length ks + length rs ≤ 4
      → length (heads_text ks rs) ≤ 272
  unfolding heads_text mark_text
  heads-short [] rs k r h =
      let mark : List ℕ = 32 ∷ 60 ∷ 61 ∷ 62 ∷ 32 ∷ [] in omega (arith, length-append (list_text (map head_text rs)) mark, heads-list-short rs r)
  heads-short (k ∷ ks) [] g r h =
      let mark : List ℕ = 32 ∷ 61 ∷ 61 ∷ 62 ∷ 32 ∷ [] in omega (arith, length-append (list_text (map head_text (k ∷ ks))) mark, heads-list-short (k ∷ ks) g)
  heads-short (k ∷ ks) (r ∷ rs) g w h =
      let mark : List ℕ = 32 ∷ 60 ∷ 61 ∷ 62 ∷ 32 ∷ [] in
      let removed = list_text (map head_text (r ∷ rs)) in
      omega (
        arith,
        length-append (list_text (map head_text (k ∷ ks))) (32 ∷ 92 ∷ 32 ∷ (removed ++ mark)),
        length-append removed mark,
        heads-list-short (k ∷ ks) g,
        heads-list-short (r ∷ rs) w,
      )

  guards-short : (gs : List GuardTree) → length gs ≤ 4 → length (guards_text gs) ≤ 227
  unfolding guards_text mark_text
  guards-short [] h = omega arith
  guards-short (g ∷ gs) h =
      omega (
        arith,
        length-append (list_text (map guard_text (g ∷ gs))) (32 ∷ 124 ∷ 32 ∷ []),
        list-short 56 (map guard_text (g ∷ gs)) (every-any (Within 56) guard_text guard-short (g ∷ gs)),
        length-map (g ∷ gs) guard_text,
      )

  body-short : (hs : List Term) (is : List ItemTree) → every (ItemGood arities hs) is → length is ≤ 4 → length (body_text is) ≤ 488
  unfolding body_text mark_text
  body-short hs [] w h = omega arith
  body-short hs (i ∷ is) w h =
      omega (
        arith,
        list-short 122 (map item_text (i ∷ is)) (every-text (ItemGood arities hs) (Within 122) item_text (item-short hs) (i ∷ is) w),
        length-map (i ∷ is) item_text,
      )

  rule-short : (r : RuleTree) → RuleGood arities r → length (rule_text r) ≤ 989
  unfolding rule_text mark_text
  rule-short r g =
      let heads = heads_text r.kept r.removed in
      let guards = guards_text r.guards in
      let body = body_text r.items in
      omega (
        arith,
        length-append heads (guards ++ (body ++ (46 ∷ 10 ∷ []))),
        length-append guards (body ++ (46 ∷ 10 ∷ [])),
        length-append body (46 ∷ 10 ∷ []),
        heads-short r.kept r.removed g.kept g.removed g.few_heads,
        guards-short r.guards g.few_guards,
        body-short _ r.items g.items g.few_items,
      )

declarations-short : (k : ℕ) (arities : List ℕ) → length (declarations_text k arities) ≤ 24 * length arities
unfolding declarations_text
declarations-short k [] = omega arith
declarations-short k (a ∷ arities) =
    let later = declarations_text (suc k) arities in
    omega (
      arith,
      length-append (symbol_text k) (47 ∷ (decimal a ++ (46 ∷ 10 ∷ later))),
      length-append (decimal a) (46 ∷ 10 ∷ later),
      symbol-short k,
      decimal-few a,
      declarations-short (suc k) arities,
    )

-- ---- the theorem

-- "Text is at most 65,536 bytes.": that of every good table is
pub printed-short : (w : TableTree) → WellFormed w → length (printed w) ≤ longest_text
printed-short w f =
    let declarations = declarations_text 0 w.arities in
    let rules = each_text (map rule_text w.rules) in
    let r = each-short 989 (map rule_text w.rules)
    (every-text (RuleGood w.arities) (λ (x : List ℕ). length x ≤ 989) rule_text (rule-short w.arities f.arities) w.rules f.rules) in
    omega (
      arith,
      ap length (printed-parts w),
      length-append declarations rules,
      declarations-short 0 w.arities,
      r,
      length-map w.rules rule_text,
      f.few_symbols,
      f.few_rules,
    )

pub good-table-short : (t : List ℕ) → AreBytes t → (read_of t).verdict ≡ Ok tt → length (printed (tree_of t)) ≤ longest_text
good-table-short t u e = printed-short (tree_of t) (good-encodes t u e).formed
