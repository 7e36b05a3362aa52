-- From every state a text can be gone on with to its end: a few more tokens are enough, the same for all states of a kind.
use Prim.Native.Nat.{ℕ}
use native.Mathlib.Omega.{arith}
use mathlib.Core.Path.{◌≡◌, refl, ◌∙◌}
use Rattle.std.specs.Prelude.{Some}
use mathlib.Core.List.{List, [], ◌∷◌}
use lib.IntN.{pos}
use Rattle.model.proofs.Every.{every}
use Rattle.grammar.specs.Tree.{Term, constant, Operation, sum, Formula, alone, applied, equal, HeadTree, ItemTree, fact, fail, TableTree}
use Rattle.numbers.proofs.Laws.{pos-ranged}
use Rattle.grammar.specs.WellFormed.{TermGood}
use Rattle.text.specs.Token.{Token, symbol, slot, compares, operates, mark, simplifies, bar, opens, closes, comma, stop, true_word, fail_word, TokenGood}
use Rattle.parsing.specs.Classes.{the, slash}
use Rattle.parsing.specs.Progress.{Group, first, second, Guarded, Side, left_of, right_of, argument_of, Progress, declared, named, slashed, sized, ruled}
use Rattle.parsing.specs.Progress.{head_named, head_wants, head_slot, head_done, head_next, headed, wants, term, operated, formed, body, emptied}
use Rattle.parsing.specs.Progress.{item_named, item_done, item_next, table_with, head_with, guarded, with_guard, table_of}
use Rattle.parsing.specs.Edges.{room, in_turn, edges_of, step, along, by}
use Rattle.parsing.specs.Parsed.{forward, whole}
use Rattle.parsing.proofs.Steps.{only-skips, run, run-by}
use Rattle.parsing.proofs.Complete.{Reaches}

-- good tokens with which the text ends
pub record Finish (s : Progress) : Type 0 where
  pub rest : List Token
  pub good : every TokenGood rest
  pub tree : TableTree
  pub reaches : Reaches s rest tree

-- a token more, before them
go-on : (s s' : Progress) (t : Token) → TokenGood t → step s t ≡ Some s' → Finish s' → Finish s
go-on s s' t g e f = record {
  rest = t ∷ f.rest;
  good = (g, f.good);
  tree = f.tree;
  reaches = record {
    state = f.reaches.state;
    runs = run-by s t f.rest (Some s') e ∙ f.reaches.runs;
    whole = f.reaches.whole;
  };
}

here : (s : Progress) (w : TableTree) → whole s ≡ Some w → Finish s
unfolding run
here s w e = record { rest = []; good = tt; tree = w; reaches = record { state = s; runs = refl; whole = e } }

abbrev zero_slot : Term
zero_slot = constant (pos 0)

zero-good : TermGood zero_slot
zero-good = pos-ranged 0 (omega arith)

-- ---- bodies

finish-ruled : (w : TableTree) → Finish (ruled w)
finish-ruled w = here (ruled w) (forward w) (unfold whole in refl)

finish-emptied : (g : Guarded) → Finish (emptied g)
finish-emptied g = go-on (emptied g) (ruled (table_of g [])) (mark stop) tt (unfold step edges_of along by in refl) (finish-ruled (table_of g []))

finish-body : (g : Guarded) → Finish (body g)
finish-body g = go-on (body g) (emptied g) (mark true_word) tt (unfold step edges_of along by in refl) (finish-emptied g)

finish-item : (g : Guarded) (is : List ItemTree) (i : ItemTree) → Finish (item_done g is i)
finish-item g is i =
    go-on (item_done g is i) (ruled (table_of g (i ∷ is))) (mark stop) tt (unfold step edges_of along by in refl) (finish-ruled (table_of g (i ∷ is)))

-- ---- expressions: "= 0 |" in a comparison, ")" in an item

finish-formed : (d : Side) (f : Formula) → Finish (formed d f)
finish-formed (left_of g) f =
    go-on (formed (left_of g) f) (wants (right_of g f equal)) (compares equal) tt (unfold step edges_of along by in refl)
    (go-on (wants (right_of g f equal)) (term (right_of g f equal) zero_slot) (slot zero_slot) zero-good (unfold step edges_of along by in refl)
    (go-on (term (right_of g f equal) zero_slot) (body (with_guard g f equal (alone zero_slot))) (mark bar) tt (unfold step edges_of along by in refl)
    (finish-body (with_guard g f equal (alone zero_slot)))))
finish-formed (right_of g l c) f =
    go-on (formed (right_of g l c) f) (body (with_guard g l c f)) (mark bar) tt (unfold step edges_of along by in refl) (finish-body (with_guard g l c f))
finish-formed (argument_of g is k es) f =
    go-on (formed (argument_of g is k es) f) (item_done g is (fact k (f ∷ es))) (mark closes) tt
    (unfold step edges_of along by in only-skips (room es) (the comma) _ _ (mark closes) refl) (finish-item g is (fact k (f ∷ es)))

finish-operated : (d : Side) (o : Operation) (a : Term) → Finish (operated d o a)
finish-operated d o a =
    go-on (operated d o a) (formed d (applied o a zero_slot)) (slot zero_slot) zero-good (unfold step edges_of along by in refl)
    (finish-formed d (applied o a zero_slot))

finish-term : (d : Side) (a : Term) → Finish (term d a)
finish-term d a = go-on (term d a) (operated d sum a) (operates sum) tt (unfold step edges_of along by in refl) (finish-operated d sum a)

-- ---- heads

finish-headed : (w : TableTree) (kept removed : List HeadTree) → Finish (headed w kept removed)
finish-headed w kept removed =
    go-on (headed w kept removed) (emptied (guarded w kept removed [])) (mark true_word) tt (unfold step edges_of along by in refl)
    (finish-emptied (guarded w kept removed []))

finish-head : (g : Group) (hs : List HeadTree) (h : HeadTree) → Finish (head_done g hs h)
finish-head (first w) hs h =
    go-on (head_done (first w) hs h) (headed w [] (h ∷ hs)) (mark simplifies) tt (unfold step edges_of along by in refl) (finish-headed w [] (h ∷ hs))
finish-head (second w k ks) hs h =
    go-on (head_done (second w k ks) hs h) (headed w (k ∷ ks) (h ∷ hs)) (mark simplifies) tt (unfold step edges_of along by in refl)
    (finish-headed w (k ∷ ks) (h ∷ hs))

finish-slot : (g : Group) (hs : List HeadTree) (k : ℕ) (t : Term) (ts : List Term) → Finish (head_slot g hs k t ts)
finish-slot g hs k t ts =
    go-on (head_slot g hs k t ts) (head_done g hs (head_with k (t ∷ ts))) (mark closes) tt
    (unfold step edges_of along by in only-skips (room ts) (the comma) _ _ (mark closes) refl) (finish-head g hs (head_with k (t ∷ ts)))

finish-slots : (g : Group) (hs : List HeadTree) (k : ℕ) (ts : List Term) → Finish (head_wants g hs k ts)
finish-slots g hs k ts =
    go-on (head_wants g hs k ts) (head_slot g hs k zero_slot ts) (slot zero_slot) zero-good (unfold step edges_of along by in refl)
    (finish-slot g hs k zero_slot ts)

finish-symbol : (g : Group) (hs : List HeadTree) (k : ℕ) → Finish (head_named g hs k)
finish-symbol g hs k =
    go-on (head_named g hs k) (head_wants g hs k []) (mark opens) tt (unfold step edges_of along by in refl) (finish-slots g hs k [])

-- ---- all states

pub finish : (s : Progress) → Finish s
finish (declared ns) = here (declared ns) (forward (table_with ns [])) (unfold whole in refl)
finish (named ns k) =
    go-on (named ns k) (head_wants (first (table_with ns [])) [] k []) (mark opens) tt
    (unfold step edges_of along by in only-skips (in_turn ns k) slash _ _ (mark opens) refl) (finish-slots (first (table_with ns [])) [] k [])
finish (slashed ns) =
    go-on (slashed ns) (sized (0 ∷ ns)) (slot zero_slot) zero-good (unfold step edges_of along by in refl)
    (go-on (sized (0 ∷ ns)) (declared (0 ∷ ns)) (mark stop) tt (unfold step edges_of along by in refl)
    (here (declared (0 ∷ ns)) (forward (table_with (0 ∷ ns) [])) (unfold whole in refl)))
finish (sized ns) =
    go-on (sized ns) (declared ns) (mark stop) tt (unfold step edges_of along by in refl)
    (here (declared ns) (forward (table_with ns [])) (unfold whole in refl))
finish (ruled w) = finish-ruled w
finish (head_named g hs k) = finish-symbol g hs k
finish (head_wants g hs k ts) = finish-slots g hs k ts
finish (head_slot g hs k t ts) = finish-slot g hs k t ts
finish (head_done g hs h) = finish-head g hs h
finish (head_next g hs) =
    go-on (head_next g hs) (head_named g hs 0) (symbol 0) (omega arith) (unfold step edges_of along by in refl) (finish-symbol g hs 0)
finish (headed w kept removed) = finish-headed w kept removed
finish (wants d) = go-on (wants d) (term d zero_slot) (slot zero_slot) zero-good (unfold step edges_of along by in refl) (finish-term d zero_slot)
finish (term d a) = finish-term d a
finish (operated d o a) = finish-operated d o a
finish (formed d f) = finish-formed d f
finish (body g) = finish-body g
finish (emptied g) = finish-emptied g
finish (item_named g is k) =
    go-on (item_named g is k) (ruled (table_of g (fact k [] ∷ is))) (mark stop) tt (unfold step edges_of along by in refl)
    (finish-ruled (table_of g (fact k [] ∷ is)))
finish (item_done g is i) = finish-item g is i
finish (item_next g is) =
    go-on (item_next g is) (item_done g is fail) (mark fail_word) tt (unfold step edges_of along by in refl) (finish-item g is fail)
