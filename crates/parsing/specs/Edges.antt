-- Which token may come next, and how far the text is read with it.
use Rattle.std.specs.Prelude.{ℕ, Bool, cond, List, [], ◌∷◌, ◌++◌, ltb, eqb, length}
use Rattle.std.specs.Prelude.{Option, None, Some}
use Rattle.grammar.specs.Tree.{Formula, alone, applied, HeadTree, ItemTree, fact, fail}
use Rattle.text.specs.Token.{Token, Mark, backslash, simplifies, propagates, bar, opens, closes, comma, stop, true_word, fail_word}
use Rattle.parsing.specs.Classes.{Class, a_symbol, a_slot, a_comparator, an_operation, slash, an_arity, the, Said, said}
use Rattle.parsing.specs.Progress.{Group, first, second, Guarded, Side, left_of, right_of, argument_of, Progress, declared, named, slashed, sized, ruled}
use Rattle.parsing.specs.Progress.{head_named, head_wants, head_slot, head_done, head_next, headed, wants, term, operated, formed, body, emptied}
use Rattle.parsing.specs.Progress.{item_named, item_done, item_next, table_with, head_with, guarded, with_guard, table_of}

-- a token of a class leads on
pub data Edge : Type 0 where
  edge : (c : Class) → (Said c → Progress) → Edge

abbrev pub on : Mark → Progress → Edge
on m s = edge (the m) (λ x. s)

-- only where the test holds
abbrev pub only : Bool → List Edge → List Edge
only b es = cond b es []

-- "at most four arguments": one more may follow an argument with less than three before it
abbrev pub room : {A : Type 0} → List A → Bool
room before = ltb (length before) 3

-- "k is the number of declarations before it"
abbrev pub in_turn : List ℕ → ℕ → Bool
in_turn ns k = eqb k (length ns)

-- ---- heads

-- behind the head h: "," and a head, "\" and the removed heads, "<=>", "==>"
abbrev pub behind_group : Group → List HeadTree → HeadTree → List Edge
behind_group (first w) hs h =
    on backslash (head_next (second w h hs) [])
    ∷ on simplifies (headed w [] (h ∷ hs))
    ∷ on propagates (headed w (h ∷ hs) [])
    ∷ []
behind_group (second w k ks) hs h = on simplifies (headed w (k ∷ ks) (h ∷ hs)) ∷ []

abbrev pub behind_head : Group → List HeadTree → HeadTree → List Edge
behind_head g hs h = on comma (head_next g (h ∷ hs)) ∷ behind_group g hs h

-- behind a head's symbol: "(", or what follows a head without arguments
abbrev pub behind_symbol : Group → List HeadTree → ℕ → List Edge
behind_symbol g hs k = on opens (head_wants g hs k []) ∷ behind_head g hs (head_with k [])

-- ---- expressions

abbrev pub behind_formula : Side → Formula → List Edge
behind_formula (left_of g) f = edge a_comparator (λ c. wants (right_of g f c)) ∷ []
behind_formula (right_of g l c) f = on comma (wants (left_of (with_guard g l c f))) ∷ on bar (body (with_guard g l c f)) ∷ []
behind_formula (argument_of g is k es) f =
    only (room es) (on comma (wants (argument_of g is k (f ∷ es))) ∷ []) ++ (on closes (item_done g is (fact k (f ∷ es))) ∷ [])

-- ---- bodies

abbrev pub item_edges : Guarded → List ItemTree → List Edge
item_edges g is = edge a_symbol (item_named g is) ∷ on fail_word (item_done g is fail) ∷ []

abbrev pub body_edges : Guarded → List Edge
body_edges g = on true_word (emptied g) ∷ item_edges g []

abbrev pub behind_item : Guarded → List ItemTree → ItemTree → List Edge
behind_item g is i = on comma (item_next g (i ∷ is)) ∷ on stop (ruled (table_of g (i ∷ is))) ∷ []

-- ---- all of them

unfoldable pub edges_of : Progress → List Edge
edges_of (declared ns) = edge a_symbol (named ns) ∷ []
edges_of (named ns k) = only (in_turn ns k) (edge slash (λ x. slashed ns) ∷ []) ++ behind_symbol (first (table_with ns [])) [] k
edges_of (slashed ns) = edge an_arity (λ a. sized (a ∷ ns)) ∷ []
edges_of (sized ns) = on stop (declared ns) ∷ []
edges_of (ruled w) = edge a_symbol (head_named (first w) []) ∷ []
edges_of (head_named g hs k) = behind_symbol g hs k
edges_of (head_wants g hs k ts) = edge a_slot (λ t. head_slot g hs k t ts) ∷ []
edges_of (head_slot g hs k t ts) =
    only (room ts) (on comma (head_wants g hs k (t ∷ ts)) ∷ []) ++ (on closes (head_done g hs (head_with k (t ∷ ts))) ∷ [])
edges_of (head_done g hs h) = behind_head g hs h
edges_of (head_next g hs) = edge a_symbol (head_named g hs) ∷ []
edges_of (headed w kept removed) = edge a_slot (term (left_of (guarded w kept removed []))) ∷ body_edges (guarded w kept removed [])
edges_of (wants s) = edge a_slot (term s) ∷ []
edges_of (term s a) = edge an_operation (λ o. operated s o a) ∷ behind_formula s (alone a)
edges_of (operated s o a) = edge a_slot (λ b. formed s (applied o a b)) ∷ []
edges_of (formed s f) = behind_formula s f
edges_of (body g) = body_edges g
edges_of (emptied g) = on stop (ruled (table_of g [])) ∷ []
edges_of (item_named g is k) = on opens (wants (argument_of g is k [])) ∷ behind_item g is (fact k [])
edges_of (item_done g is i) = behind_item g is i
edges_of (item_next g is) = item_edges g is

-- ---- a step

unfoldable pub by : (c : Class) → (Said c → Progress) → Option Progress → Option (Said c) → Option Progress
by c to later None = later
by c to later (Some x) = Some (to x)

unfoldable pub along : List Edge → Token → Option Progress
along [] t = None
along (edge c to ∷ es) t = by c to (along es t) (said c t)

-- the first edge that the token goes along; none where no text goes on with it
unfoldable pub step : Progress → Token → Option Progress
step s t = along (edges_of s) t
