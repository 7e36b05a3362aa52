-- The machine reads the text of every tree that has the counts of the grammar, and comes to that tree: part by part, whatever tokens follow, where those
-- begin with one that belongs to no part before it.
use Prim.Native.Nat.{ℕ, suc, ◌+◌, ◌≤◌, ◌<◌}
use native.Mathlib.Omega.{arith}
use mathlib.Core.Path.{◌≡◌, refl, ap, ◌∙◌}
use mathlib.Core.Bool.{Bool, true, false}
use Rattle.std.specs.Prelude.{None, Some}
use mathlib.Core.List.{List, [], ◌∷◌, ◌++◌, map, reverse, reverse_aux, append_assoc}
use lib.Dec.{T, leb, ltb, eqb, lt→ltb, le→leb, eqb_refl}
use lib.IntN.{pos}
use lib.ListN.{length}
use Rattle.model.proofs.Every.{every}
use Rattle.grammar.specs.Tree.{Term, constant, quotient, Formula, alone, applied, HeadTree, GuardTree, ItemTree, fact, fail, RuleTree, TableTree}
use Rattle.text.specs.Token.{Token, symbol, slot, compares, operates, mark, Mark, backslash, simplifies, propagates, bar, opens, closes, comma, stop}
use Rattle.text.specs.Token.{true_word, fail_word}
use Rattle.text.specs.Text.{more_tokens, list_tokens, bracket_tokens, each_tokens, term_tokens, formula_tokens, head_tokens, guard_tokens}
use Rattle.text.specs.Text.{item_tokens, heads_tokens}
use Rattle.text.specs.Text.{guards_tokens, body_tokens, rule_tokens, declaration_tokens, declarations_tokens, text_tokens, ItemShaped, RuleShaped, Shaped}
use Rattle.parsing.specs.Classes.{slash, an_operation, the, slash_said, operation_said, mark_said}
use Rattle.parsing.specs.Progress.{Group, first, second, Guarded, Side, left_of, right_of, argument_of, Progress, declared, named, ruled}
use Rattle.parsing.specs.Progress.{head_named, head_wants, head_slot, head_done, head_next, headed, wants, term, formed, body}
use Rattle.parsing.specs.Progress.{item_named, item_done, item_next, table_with, head_with, guarded, table_of}
use Rattle.parsing.specs.Edges.{room, in_turn, by, along, edges_of, step}
use Rattle.parsing.specs.Parsed.{head_forward, item_forward, rule_forward, forward, whole}
use Rattle.parsing.proofs.Steps.{skips, only-skips, only-takes, run, run-by}
use Rattle.parsing.proofs.Consumed.{HeadsFit}
use Rattle.parsing.proofs.Turned.{turned-some, map-same}
use Rattle.parsing.proofs.Forward.{forward-twice}

-- ---- steps

-- a token that never belongs to the part before it: no "/", no operation, no "("
abbrev Delimits : Token → Type 0
Delimits t = (slash_said t ≡ None) × (operation_said t ≡ None) × (mark_said opens t ≡ None)

abbrev Delimited : List Token → Type 0
Delimited [] = ⊥
Delimited (t ∷ ts) = Delimits t

along-on : (s s' : Progress) (ts : List Token) → Delimited ts → ((t : Token) → Delimits t → step s t ≡ step s' t) → run s ts ≡ run s' ts
unfolding run
along-on s s' [] d same = absurd d
along-on s s' (t ∷ ts) d same = run-by s t ts (step s' t) (same t d)

is-true : (b : Bool) → T b → b ≡ true
is-true true u = refl
is-true false u = absurd u

is-less : (m n : ℕ) → m < n → ltb m n ≡ true
is-less m n h = is-true (ltb m n) (lt→ltb m n h)

-- ---- lists of parts

-- where nothing is asked of a part
each-fits : {A : Type 0} (xs : List A) → every (λ (x : A). Unit {0}) xs
each-fits [] = tt
each-fits (x ∷ xs) = (tt, each-fits xs)

-- a machine reads parts: `next xs` behind the comma, `done xs x` behind the part x, at most so many commas
module _ {A : Type 0} (tokens : A → List Token) (fw : A → A) (Fits : A → Type 0) (next : List A → Progress) (done : List A → A → Progress)
    (after : List A → Progress) (t : Token) (delimits : Delimits t) (most : ℕ)
    (comma-on : (xs : List A) (x : A) (rest : List Token) → length xs < most → run (done xs x) (mark comma ∷ rest) ≡ run (next (x ∷ xs)) rest)
    (part-on : (xs : List A) (x : A) (rest : List Token) → Fits x → Delimited rest → run (next xs) (tokens x ++ rest) ≡ run (done xs (fw x)) rest)
    (end_on : (xs : List A) (x : A) (rest : List Token) → run (done xs x) (t ∷ rest) ≡ run (after (x ∷ xs)) rest) where
  more-delimited : (ys : List A) (rest : List Token) → Delimited (more_tokens tokens ys ++ (t ∷ rest))
  unfolding more_tokens
  more-delimited [] rest = delimits
  more-delimited (y ∷ ys) rest = (refl, refl, refl)

  more-on : (ys xs : List A) (x : A) (rest : List Token) → every Fits ys → length xs + length ys ≤ most
      → run (done xs x) (more_tokens tokens ys ++ (t ∷ rest)) ≡ run (after (reverse_aux (map fw ys) (x ∷ xs))) rest
  unfolding more_tokens
  more-on [] xs x rest u h = end_on xs x rest
  more-on (y ∷ ys) xs x rest u h =
      comma-on xs x ((tokens y ++ more_tokens tokens ys) ++ (t ∷ rest)) (omega arith)
      ∙ ap (λ (l : List Token). run (next (x ∷ xs)) l) (append_assoc (tokens y) (more_tokens tokens ys) (t ∷ rest))
      ∙ part-on (x ∷ xs) y (more_tokens tokens ys ++ (t ∷ rest)) u.0 (more-delimited ys rest)
      ∙ more-on ys (x ∷ xs) (fw y) rest u.1 (omega arith)

  -- the first part may be read from another state
  list-on : (s : Progress) (y : A) (ys : List A) (rest : List Token) → every Fits ys → length ys ≤ most
      → ((l : List Token) → Delimited l → run s (tokens y ++ l) ≡ run (done [] (fw y)) l)
      → run s (list_tokens tokens (y ∷ ys) ++ (t ∷ rest)) ≡ run (after (reverse (map fw (y ∷ ys)))) rest
  unfolding list_tokens
  list-on s y ys rest u h start =
      ap (λ (l : List Token). run s l) (append_assoc (tokens y) (more_tokens tokens ys) (t ∷ rest))
      ∙ start (more_tokens tokens ys ++ (t ∷ rest)) (more-delimited ys rest)
      ∙ more-on ys [] (fw y) rest u (omega arith)

-- ---- heads

-- a state from which a symbol begins a head
abbrev Opening : Progress → Group → List HeadTree → Type 0
Opening s g hs = (k : ℕ) (t : Token) (rest : List Token) → slash_said t ≡ None → run s (symbol k ∷ t ∷ rest) ≡ run (head_named g hs k) (t ∷ rest)

opening-next : (g : Group) (hs : List HeadTree) → Opening (head_next g hs) g hs
unfolding run step edges_of along by
opening-next g hs k t rest e = refl

opening-ruled : (w : TableTree) → Opening (ruled w) (first w) []
unfolding run step edges_of along by
opening-ruled w k t rest e = refl

opening-declared : (ns : List ℕ) → Opening (declared ns) (first (table_with ns [])) []
unfolding run step edges_of along by
opening-declared ns k t rest e =
    run-by (named ns k) t rest _ (only-skips (in_turn ns k) slash _ _ t e)

module _ (g : Group) (hs : List HeadTree) where
  module _ (k : ℕ) where
    slot-comma : (ts : List Term) (t : Term) (rest : List Token) → length ts < 3
        → run (head_slot g hs k t ts) (mark comma ∷ rest) ≡ run (head_wants g hs k (t ∷ ts)) rest
    unfolding run step edges_of along by
    slot-comma ts t rest h =
        run-by (head_slot g hs k t ts) (mark comma) rest (Some _)
        (only-takes (room ts) (the comma) _ _ (mark comma) tt (is-less (length ts) _ (omega arith)) refl)

    slot-part : (ts : List Term) (t : Term) (rest : List Token) → Unit {0} → Delimited rest
        → run (head_wants g hs k ts) (term_tokens t ++ rest) ≡ run (head_slot g hs k t ts) rest
    unfolding run step edges_of along by term_tokens
    slot-part ts t rest u d = refl

    slot-end : (ts : List Term) (t : Term) (rest : List Token)
        → run (head_slot g hs k t ts) (mark closes ∷ rest) ≡ run (head_done g hs (head_with k (t ∷ ts))) rest
    unfolding run step edges_of along by
    slot-end ts t rest =
        run-by (head_slot g hs k t ts) (mark closes) rest (Some _) (only-skips (room ts) (the comma) _ _ (mark closes) refl)

    terms-on : (s : Progress) → Opening s g hs → (ts : List Term) → length ts ≤ 4 → (rest : List Token) → Delimited rest
        → run s (symbol k ∷ (bracket_tokens term_tokens ts ++ rest)) ≡ run (head_done g hs (head_with k (reverse ts))) rest
    unfolding bracket_tokens run
    terms-on s o [] h [] d = absurd d
    terms-on s o [] h (t ∷ rest) d =
        o k t rest d.0
        ∙ along-on (head_named g hs k) (head_done g hs (head_with k [])) (t ∷ rest) d (λ t' d'. unfold step edges_of in skips (the opens) _ _ t' d'.2)
    terms-on s o (t ∷ ts) h rest d =
        o k (mark opens) ((list_tokens term_tokens (t ∷ ts) ++ (mark closes ∷ [])) ++ rest) refl
        ∙ opened ((list_tokens term_tokens (t ∷ ts) ++ (mark closes ∷ [])) ++ rest)
        ∙ ap (λ (l : List Token). run (head_wants g hs k []) l) (append_assoc (list_tokens term_tokens (t ∷ ts)) (mark closes ∷ []) rest)
        ∙ list-on term_tokens (λ (x : Term). x) (λ x. Unit {0}) (head_wants g hs k) (λ xs x. head_slot g hs k x xs) (λ xs. head_done g hs (head_with k xs))
        (mark closes) (refl, refl, refl) 3 slot-comma slot-part slot-end (head_wants g hs k []) t ts rest (each-fits ts) (omega arith)
        (λ l d'. slot-part [] t l tt d')
        ∙ ap (λ (l : List Term). run (head_done g hs (head_with k (reverse l))) rest) (map-same (t ∷ ts))
      where
        opened : (l : List Token) → run (head_named g hs k) (mark opens ∷ l) ≡ run (head_wants g hs k []) l
        opened l = unfold run step edges_of along by in refl

  head-on : (s : Progress) → Opening s g hs → (h : HeadTree) (rest : List Token) → length h.terms ≤ 4 → Delimited rest
      → run s (head_tokens h ++ rest) ≡ run (head_done g hs (head_forward h)) rest
  unfolding head_tokens
  head-on s o h rest f d = terms-on h.symbol s o h.terms f rest d

head-comma : (g : Group) (hs : List HeadTree) (h : HeadTree) (rest : List Token)
    → run (head_done g hs h) (mark comma ∷ rest) ≡ run (head_next g (h ∷ hs)) rest
unfolding run step edges_of along by
head-comma g hs h rest = refl

abbrev HeadFits : HeadTree → Type 0
HeadFits h = length h.terms ≤ 4

-- heads up to the mark m, with which the state `after` is reached
heads-on : (s : Progress) (g : Group) → Opening s g [] → (after : List HeadTree → Progress) (m : Mark) → Delimits (mark m)
    → ((hs : List HeadTree) (h : HeadTree) (rest : List Token) → run (head_done g hs h) (mark m ∷ rest) ≡ run (after (h ∷ hs)) rest)
    → (h : HeadTree) (hs : List HeadTree) (rest : List Token) → HeadsFit (h ∷ hs)
    → run s (list_tokens head_tokens (h ∷ hs) ++ (mark m ∷ rest)) ≡ run (after (reverse (map head_forward (h ∷ hs)))) rest
heads-on s g o after m d ends h hs rest u =
    list-on head_tokens head_forward HeadFits (head_next g) (head_done g) after (mark m) d (length hs)
    (λ xs x l f. head-comma g xs x l) (λ xs x l f d'. head-on g xs (head_next g xs) (opening-next g xs) x l f d') ends
    s h hs rest u.1 (omega arith) (λ l d'. head-on g [] s o h l u.0 d')

-- behind "\"
abbrev second_after : TableTree → List HeadTree → Progress
second_after w [] = ruled w
second_after w (h ∷ hs) = head_next (second w h hs) []

module _ (w : TableTree) where
  simplifies-first : (hs : List HeadTree) (h : HeadTree) (rest : List Token)
      → run (head_done (first w) hs h) (mark simplifies ∷ rest) ≡ run (headed w [] (h ∷ hs)) rest
  unfolding run step edges_of along by
  simplifies-first hs h rest = refl

  propagates-first : (hs : List HeadTree) (h : HeadTree) (rest : List Token)
      → run (head_done (first w) hs h) (mark propagates ∷ rest) ≡ run (headed w (h ∷ hs) []) rest
  unfolding run step edges_of along by
  propagates-first hs h rest = refl

  backslash-first : (hs : List HeadTree) (h : HeadTree) (rest : List Token)
      → run (head_done (first w) hs h) (mark backslash ∷ rest) ≡ run (second_after w (h ∷ hs)) rest
  unfolding run step edges_of along by
  backslash-first hs h rest = refl

  simplifies-second : (k : HeadTree) (ks hs : List HeadTree) (h : HeadTree) (rest : List Token)
      → run (head_done (second w k ks) hs h) (mark simplifies ∷ rest) ≡ run (headed w (k ∷ ks) (h ∷ hs)) rest
  unfolding run step edges_of along by
  simplifies-second k ks hs h rest = refl

abbrev turned_heads : List HeadTree → List HeadTree
turned_heads hs = reverse (map head_forward hs)

arrow-on : (s : Progress) (w : TableTree) → Opening s (first w) [] → (kept removed : List HeadTree) (rest : List Token) → HeadsFit kept → HeadsFit removed
    → 1 ≤ length kept + length removed → run s (heads_tokens kept removed ++ rest) ≡ run (headed w (turned_heads kept) (turned_heads removed)) rest
unfolding heads_tokens
arrow-on s w o [] [] rest u v h = absurd (omega arith)
arrow-on s w o [] (r ∷ removed) rest u v h =
    ap (λ (l : List Token). run s l) (append_assoc (list_tokens head_tokens (r ∷ removed)) (mark simplifies ∷ []) rest)
    ∙ heads-on s (first w) o (headed w []) simplifies (refl, refl, refl) (simplifies-first w) r removed rest v
arrow-on s w o (k ∷ kept) [] rest u v h =
    ap (λ (l : List Token). run s l) (append_assoc (list_tokens head_tokens (k ∷ kept)) (mark propagates ∷ []) rest)
    ∙ heads-on s (first w) o (λ hs. headed w hs []) propagates (refl, refl, refl) (propagates-first w) k kept rest u
arrow-on s w o (k ∷ kept) (r ∷ removed) rest u v h =
    ap (λ (l : List Token). run s l) (append_assoc (list_tokens head_tokens (k ∷ kept)) (mark backslash ∷ (rs ++ (mark simplifies ∷ []))) rest)
    ∙ heads-on s (first w) o (second_after w) backslash (refl, refl, refl) (backslash-first w) k kept ((rs ++ (mark simplifies ∷ [])) ++ rest) u
    ∙ ap (λ (l : List Token). run (second_after w (turned_heads (k ∷ kept))) l) (append_assoc rs (mark simplifies ∷ []) rest)
    ∙ turned-some (λ l. run (second_after w l) (rs ++ (mark simplifies ∷ rest)) ≡ run (headed w l (turned_heads (r ∷ removed))) rest)
    (λ y ys. heads-on (head_next (second w y ys) []) (second w y ys) (opening-next (second w y ys) []) (headed w (y ∷ ys)) simplifies (refl, refl, refl)
    (simplifies-second w y ys) r removed rest v)
    (map head_forward kept) (head_forward k) []
  where
    rs : List Token
    rs = list_tokens head_tokens (r ∷ removed)

-- ---- expressions and comparisons

-- a state from which a slot begins an expression
abbrev Wanting : Progress → Side → Type 0
Wanting s d = (a : Term) (rest : List Token) → run s (slot a ∷ rest) ≡ run (term d a) rest

wanting-wants : (d : Side) → Wanting (wants d) d
unfolding run step edges_of along by
wanting-wants d a rest = refl

wanting-headed : (w : TableTree) (kept removed : List HeadTree) → Wanting (headed w kept removed) (left_of (guarded w kept removed []))
unfolding run step edges_of along by
wanting-headed w kept removed a rest = refl

formula-on : (s : Progress) (d : Side) → Wanting s d → (f : Formula) (rest : List Token) → Delimited rest
    → run s (formula_tokens f ++ rest) ≡ run (formed d f) rest
unfolding formula_tokens
formula-on s d o (alone a) rest u =
    o a rest ∙ along-on (term d a) (formed d (alone a)) rest u (λ t v. unfold step edges_of in skips an_operation _ _ t v.1)
formula-on s d o (applied p a b) rest u = o a (operates p ∷ slot b ∷ rest) ∙ (unfold run step edges_of along by in refl)

module _ (w : TableTree) (kept removed : List HeadTree) where
  abbrev guards_to : List GuardTree → Guarded
  guards_to gs = guarded w kept removed gs

  -- behind a comparison
  abbrev compared : List GuardTree → GuardTree → Progress
  compared gs g = formed (right_of (guards_to gs) g.left g.comparator) g.right

  guard-on : (s : Progress) (gs : List GuardTree) → Wanting s (left_of (guards_to gs)) → (g : GuardTree) (rest : List Token) → Delimited rest
      → run s (guard_tokens g ++ rest) ≡ run (compared gs g) rest
  unfolding guard_tokens
  guard-on s gs o g rest u =
      ap (λ (l : List Token). run s l) (append_assoc (formula_tokens g.left) (compares g.comparator ∷ formula_tokens g.right) rest)
      ∙ formula-on s (left_of (guards_to gs)) o g.left (compares g.comparator ∷ (formula_tokens g.right ++ rest)) (refl, refl, refl)
      ∙ compares-on (formula_tokens g.right ++ rest)
      ∙ formula-on (wants (right_of (guards_to gs) g.left g.comparator)) (right_of (guards_to gs) g.left g.comparator)
      (wanting-wants (right_of (guards_to gs) g.left g.comparator)) g.right rest u
    where
      compares-on : (l : List Token) → run (formed (left_of (guards_to gs)) g.left) (compares g.comparator ∷ l)
          ≡ run (wants (right_of (guards_to gs) g.left g.comparator)) l
      compares-on l = unfold run step edges_of along by in refl

  guard-comma : (gs : List GuardTree) (g : GuardTree) (rest : List Token)
      → run (compared gs g) (mark comma ∷ rest) ≡ run (wants (left_of (guards_to (g ∷ gs)))) rest
  unfolding run step edges_of along by
  guard-comma gs g rest = refl

  guard-bar : (gs : List GuardTree) (g : GuardTree) (rest : List Token) → run (compared gs g) (mark bar ∷ rest) ≡ run (body (guards_to (g ∷ gs))) rest
  unfolding run step edges_of along by
  guard-bar gs g rest = refl

  comparisons-on : (g : GuardTree) (gs : List GuardTree) (rest : List Token)
      → run (headed w kept removed) (list_tokens guard_tokens (g ∷ gs) ++ (mark bar ∷ rest)) ≡ run (body (guards_to (reverse (g ∷ gs)))) rest
  comparisons-on g gs rest =
      list-on guard_tokens (λ (x : GuardTree). x) (λ x. Unit {0}) (λ xs. wants (left_of (guards_to xs))) compared (λ xs. body (guards_to xs))
      (mark bar) (refl, refl, refl) (length gs) (λ xs x l f. guard-comma xs x l)
      (λ xs x l f d. guard-on (wants (left_of (guards_to xs))) xs (wanting-wants (left_of (guards_to xs))) x l d) guard-bar
      (headed w kept removed) g gs rest (each-fits gs) (omega arith)
      (λ l d. guard-on (headed w kept removed) [] (wanting-headed w kept removed) g l d)
      ∙ ap (λ (l : List GuardTree). run (body (guards_to (reverse l))) rest) (map-same (g ∷ gs))

-- ---- bodies

-- a state from which an item begins
pub record ItemFrom (s : Progress) (g : Guarded) (is : List ItemTree) : Type 0 where
  pub named : (k : ℕ) (rest : List Token) → run s (symbol k ∷ rest) ≡ run (item_named g is k) rest
  pub failed : (rest : List Token) → run s (mark fail_word ∷ rest) ≡ run (item_done g is fail) rest

-- a state from which a body begins
pub record BodyFrom (s : Progress) (g : Guarded) : Type 0 where
  pub item : ItemFrom s g []
  pub empty : (rest : List Token) → run s (mark true_word ∷ mark stop ∷ rest) ≡ run (ruled (table_of g [])) rest

from-next : (g : Guarded) (is : List ItemTree) → ItemFrom (item_next g is) g is
unfolding run step edges_of along by
from-next g is = record { named = λ k rest. refl; failed = λ rest. refl }

from-body : (g : Guarded) → BodyFrom (body g) g
unfolding run step edges_of along by
from-body g = record { item = record { named = λ k rest. refl; failed = λ rest. refl }; empty = λ rest. refl }

from-headed : (w : TableTree) (kept removed : List HeadTree) → BodyFrom (headed w kept removed) (guarded w kept removed [])
unfolding run step edges_of along by
from-headed w kept removed = record { item = record { named = λ k rest. refl; failed = λ rest. refl }; empty = λ rest. refl }

module _ (g : Guarded) (is : List ItemTree) where
  module _ (k : ℕ) where
    argument-comma : (es : List Formula) (f : Formula) (rest : List Token) → length es < 3
        → run (formed (argument_of g is k es) f) (mark comma ∷ rest) ≡ run (wants (argument_of g is k (f ∷ es))) rest
    unfolding run step edges_of along by
    argument-comma es f rest h =
        run-by (formed (argument_of g is k es) f) (mark comma) rest (Some _)
        (only-takes (room es) (the comma) _ _ (mark comma) tt (is-less (length es) _ (omega arith)) refl)

    argument-end : (es : List Formula) (f : Formula) (rest : List Token)
        → run (formed (argument_of g is k es) f) (mark closes ∷ rest) ≡ run (item_done g is (fact k (f ∷ es))) rest
    unfolding run step edges_of along by
    argument-end es f rest =
        run-by (formed (argument_of g is k es) f) (mark closes) rest (Some _) (only-skips (room es) (the comma) _ _ (mark closes) refl)

    arguments-on : (es : List Formula) → length es ≤ 4 → (rest : List Token) → Delimited rest
        → run (item_named g is k) (bracket_tokens formula_tokens es ++ rest) ≡ run (item_done g is (fact k (reverse es))) rest
    unfolding bracket_tokens
    arguments-on [] h rest d =
        along-on (item_named g is k) (item_done g is (fact k [])) rest d (λ t v. unfold step edges_of in skips (the opens) _ _ t v.2)
    arguments-on (f ∷ es) h rest d =
        opened ((list_tokens formula_tokens (f ∷ es) ++ (mark closes ∷ [])) ++ rest)
        ∙ ap (λ (l : List Token). run (wants (argument_of g is k [])) l) (append_assoc (list_tokens formula_tokens (f ∷ es)) (mark closes ∷ []) rest)
        ∙ list-on formula_tokens (λ (x : Formula). x) (λ x. Unit {0}) (λ xs. wants (argument_of g is k xs)) (λ xs x. formed (argument_of g is k xs) x)
        (λ xs. item_done g is (fact k xs)) (mark closes) (refl, refl, refl) 3 argument-comma part argument-end
        (wants (argument_of g is k [])) f es rest (each-fits es) (omega arith) (λ l d'. part [] f l tt d')
        ∙ ap (λ (l : List Formula). run (item_done g is (fact k (reverse l))) rest) (map-same (f ∷ es))
      where
        opened : (l : List Token) → run (item_named g is k) (mark opens ∷ l) ≡ run (wants (argument_of g is k [])) l
        opened l = unfold run step edges_of along by in refl

        part : (xs : List Formula) (x : Formula) (l : List Token) → Unit {0} → Delimited l
            → run (wants (argument_of g is k xs)) (formula_tokens x ++ l) ≡ run (formed (argument_of g is k xs) x) l
        part xs x l u d' = formula-on (wants (argument_of g is k xs)) (argument_of g is k xs) (wanting-wants (argument_of g is k xs)) x l d'

  item-on : (s : Progress) → ItemFrom s g is → (i : ItemTree) (rest : List Token) → ItemShaped i → Delimited rest
      → run s (item_tokens i ++ rest) ≡ run (item_done g is (item_forward i)) rest
  unfolding item_tokens
  item-on s o (fact k es) rest u d = o.named k (bracket_tokens formula_tokens es ++ rest) ∙ arguments-on k es u rest d
  item-on s o fail rest u d = o.failed rest

item-comma : (g : Guarded) (is : List ItemTree) (i : ItemTree) (rest : List Token)
    → run (item_done g is i) (mark comma ∷ rest) ≡ run (item_next g (i ∷ is)) rest
unfolding run step edges_of along by
item-comma g is i rest = refl

item-stop : (g : Guarded) (is : List ItemTree) (i : ItemTree) (rest : List Token)
    → run (item_done g is i) (mark stop ∷ rest) ≡ run (ruled (table_of g (i ∷ is))) rest
unfolding run step edges_of along by
item-stop g is i rest = refl

body-on : (s : Progress) (g : Guarded) → BodyFrom s g → (is : List ItemTree) (rest : List Token) → every ItemShaped is
    → run s (body_tokens is ++ (mark stop ∷ rest)) ≡ run (ruled (table_of g (reverse (map item_forward is)))) rest
unfolding body_tokens
body-on s g o [] rest u = o.empty rest
body-on s g o (i ∷ is) rest u =
    list-on item_tokens item_forward ItemShaped (item_next g) (item_done g) (λ xs. ruled (table_of g xs)) (mark stop) (refl, refl, refl) (length is)
    (λ xs x l f. item-comma g xs x l) (λ xs x l f d. item-on g xs (item_next g xs) (from-next g xs) x l f d) (item-stop g)
    s i is rest u.1 (omega arith) (λ l d. item-on g [] s o.item i l u.0 d)

-- ---- rules

rest-on : (w : TableTree) (kept removed : List HeadTree) (gs : List GuardTree) (is : List ItemTree) (rest : List Token) → every ItemShaped is
    → run (headed w kept removed) (guards_tokens gs ++ (body_tokens is ++ (mark stop ∷ rest)))
    ≡ run (ruled (table_of (guarded w kept removed (reverse gs)) (reverse (map item_forward is)))) rest
unfolding guards_tokens
rest-on w kept removed [] is rest u = body-on (headed w kept removed) (guarded w kept removed []) (from-headed w kept removed) is rest u
rest-on w kept removed (g ∷ gs) is rest u =
    ap (λ (l : List Token). run (headed w kept removed) l)
    (append_assoc (list_tokens guard_tokens (g ∷ gs)) (mark bar ∷ []) (body_tokens is ++ (mark stop ∷ rest)))
    ∙ comparisons-on w kept removed g gs (body_tokens is ++ (mark stop ∷ rest))
    ∙ body-on (body (guarded w kept removed (reverse (g ∷ gs)))) (guarded w kept removed (reverse (g ∷ gs)))
    (from-body (guarded w kept removed (reverse (g ∷ gs)))) is rest u

abbrev rule_more : TableTree → RuleTree → TableTree
rule_more w r = table_with w.arities (rule_forward r ∷ w.rules)

rule-on : (s : Progress) (w : TableTree) → Opening s (first w) [] → (r : RuleTree) (rest : List Token) → RuleShaped r
    → run s (rule_tokens r ++ rest) ≡ run (ruled (rule_more w r)) rest
unfolding rule_tokens
rule-on s w o r rest u =
    ap (λ (l : List Token). run s l) (simp append_assoc)
    ∙ arrow-on s w o r.kept r.removed (guards_tokens r.guards ++ (body_tokens r.items ++ (mark stop ∷ rest))) u.kept u.removed u.some_head
    ∙ rest-on w (turned_heads r.kept) (turned_heads r.removed) r.guards r.items rest u.items

rules-on : (rs : List RuleTree) (w : TableTree) → every RuleShaped rs
    → run (ruled w) (each_tokens rule_tokens rs) ≡ Some (ruled (table_with w.arities (reverse_aux (map rule_forward rs) w.rules)))
unfolding each_tokens
rules-on [] w u = unfold run in refl
rules-on (r ∷ rs) w u = rule-on (ruled w) w (opening-ruled w) r (each_tokens rule_tokens rs) u.0 ∙ rules-on rs (rule_more w r) u.1

-- ---- texts

declarations-on : (later ns : List ℕ) (rest : List Token) → every (λ (a : ℕ). a ≤ 4) later
    → run (declared ns) (declarations_tokens (length ns) later ++ rest) ≡ run (declared (reverse_aux later ns)) rest
unfolding declarations_tokens declaration_tokens
declarations-on [] ns rest u = refl
declarations-on (a ∷ later) ns rest u =
    one (declarations_tokens (suc (length ns)) later ++ rest) ∙ declarations-on later (a ∷ ns) rest u.1
  where
    one : (l : List Token) → run (declared ns) (symbol (length ns) ∷ operates quotient ∷ slot (constant (pos a)) ∷ mark stop ∷ l) ≡ run (declared (a ∷ ns)) l
    one l = unfold run step edges_of along by in
        rw (is-true (eqb (length ns) (length ns)) (eqb_refl (length ns)), is-true (leb a 4) (le→leb a 4 u.0))

-- where a run comes to a whole text
pub record Reaches (s : Progress) (ts : List Token) (w : TableTree) : Type 0 where
  pub state : Progress
  pub runs : run s ts ≡ Some state
  pub whole : whole state ≡ Some w

complete-with : (ns : List ℕ) (rs : List RuleTree) → Shaped (table_with ns rs) → Reaches (declared []) (text_tokens (table_with ns rs)) (table_with ns rs)
unfolding text_tokens each_tokens whole forward
complete-with ns [] u = record {
  state = declared (reverse ns);
  runs = declarations-on ns [] [] u.arities ∙ (unfold run in refl);
  whole = ap Some (forward-twice (table_with ns []));
}
complete-with ns (r ∷ rs) u = record {
  state = ruled (table_with (reverse ns) (reverse (map rule_forward (r ∷ rs))));
  runs =
      declarations-on ns [] (rule_tokens r ++ each_tokens rule_tokens rs) u.arities
      ∙ rule-on (declared (reverse ns)) (table_with (reverse ns) []) (opening-declared (reverse ns)) r (each_tokens rule_tokens rs) u.rules.0
      ∙ rules-on rs (rule_more (table_with (reverse ns) []) r) u.rules.1;
  whole = ap Some (forward-twice (table_with ns (r ∷ rs)));
}

-- the text of a tree with the counts of the grammar is read, and is whole, and the tree is that tree
pub complete : (w : TableTree) → Shaped w → Reaches (declared []) (text_tokens w) w
complete w u = complete-with w.arities w.rules u
