-- What a token does: how the assembly goes on, and which bytes are laid into the table. It goes along the edges of crate parsing, phase by phase.
use Rattle.std.specs.Prelude.{ℕ, zero, suc, ◌+◌, ◌*◌, ◌-◌, ◌/◌, Bool, true, false, cond, List, [], ◌∷◌, ◌++◌, ltb, eqb}
use Rattle.std.specs.Prelude.{Option, None, Some}
use Rattle.grammar.specs.Tree.{comparator_number, operation_number}
use Rattle.grammar.specs.Encode.{term_bytes, symbol_bytes}
use Rattle.text.specs.Token as text
use Rattle.text.specs.Token.{Mark, backslash, simplifies, propagates, bar, opens, closes, comma, stop, true_word, fail_word}
use Rattle.parsing.specs.Classes.{Class, a_symbol, a_slot, a_comparator, an_operation, an_arity, the, Said, said, slash_said}
use Rattle.assembly.specs.declared.Group.{Group}
use Rattle.assembly.specs.declared.Group.TheVariants.{First, Second}
use Rattle.assembly.specs.declared.Side.{Side}
use Rattle.assembly.specs.declared.Side.TheVariants.{Left, Right, Argument}
use Rattle.assembly.specs.declared.Phase.{Phase}
use Rattle.assembly.specs.declared.Phase.TheVariants.{Declared, Named, Slashed, Sized, Ruled, HeadNamed, HeadWants, HeadSlot, HeadDone, HeadNext}
use Rattle.assembly.specs.declared.Phase.TheVariants.{Headed, Wants, Term, Operated, Formed, Body, Emptied, ItemNamed, ItemDone, ItemNext, Stuck}
use Rattle.assembly.specs.declared.Assembly.{Assembly}
use Rattle.assembly.specs.Pieces.{Piece, piece}

abbrev pub here : ℕ → Phase → Assembly
here at phase = record { at = at; phase = phase }

-- a token of a class leads on, and lays pieces
pub data Move : Type 0 where
  move : (c : Class) → (Said c → Assembly) → (Said c → List Piece) → Move

abbrev pub on : Mark → Assembly → Move
on m a = move (the m) (λ x. a) (λ x. [])

abbrev pub only : Bool → List Move → List Move
only b ms = cond b ms []

-- ---- heads

-- a head's kind: 3 until "<=>" says that the first heads are removed, 4 behind "\"
abbrev pub kind_of : Group → ℕ
kind_of (First start) = 3
kind_of Second = 4

-- the kinds of n heads from p on become 4
unfoldable pub removed_from : ℕ → ℕ → List Piece
removed_from p zero = []
removed_from p (suc n) = piece p (4 ∷ []) ∷ removed_from (p + 22) n

abbrev pub behind_group : ℕ → Group → List Move
behind_group at (First start) =
    on backslash (here at (HeadNext Second))
    ∷ move (the simplifies) (λ x. here at Headed) (λ x. removed_from start ((at - start) / 22))
    ∷ on propagates (here at Headed)
    ∷ []
behind_group at Second = on simplifies (here at Headed) ∷ []

abbrev pub behind_head : ℕ → Group → List Move
behind_head at g = on comma (here at (HeadNext g)) ∷ behind_group at g

abbrev pub behind_symbol : ℕ → Group → List Move
behind_symbol at g = on opens (here at (HeadWants g 0)) ∷ behind_head (at + 22) g

-- ---- expressions

-- where the expression of a side begins, in the record at `at`
abbrev pub place_of : ℕ → Side → ℕ
place_of at Left = at + 2
place_of at Right = at + 13
place_of at (Argument n) = at + 2 + 11 * n

abbrev pub begin_guard : ℕ → Move
begin_guard at = move a_slot (λ a. here at (Term Left)) (λ a. piece at (5 ∷ []) ∷ piece (at + 3) (term_bytes a) ∷ [])

abbrev pub first_slot : ℕ → Side → Move
first_slot at s = move a_slot (λ a. here at (Term s)) (λ a. piece (place_of at s + 1) (term_bytes a) ∷ [])

abbrev pub wants_move : ℕ → Side → Move
wants_move at Left = begin_guard at
wants_move at Right = first_slot at Right
wants_move at (Argument n) = first_slot at (Argument n)

abbrev pub behind_formula : ℕ → Side → List Move
behind_formula at Left = move a_comparator (λ c. here at (Wants Right)) (λ c. piece (at + 1) (comparator_number c ∷ []) ∷ []) ∷ []
behind_formula at Right = on comma (here (at + 24) (Wants Left)) ∷ on bar (here (at + 24) Body) ∷ []
behind_formula at (Argument n) = only (ltb n 3) (on comma (here at (Wants (Argument (n + 1)))) ∷ []) ++ (on closes (here (at + 46) ItemDone) ∷ [])

-- ---- bodies

abbrev pub item_moves : ℕ → List Move
item_moves at =
    move a_symbol (λ k. here at ItemNamed) (λ k. piece at (6 ∷ k ∷ []) ∷ [])
    ∷ move (the fail_word) (λ x. here (at + 1) ItemDone) (λ x. piece at (7 ∷ []) ∷ [])
    ∷ []

abbrev pub body_moves : ℕ → List Move
body_moves at = on true_word (here at Emptied) ∷ item_moves at

abbrev pub behind_item : ℕ → List Move
behind_item at = on comma (here at ItemNext) ∷ on stop (here at Ruled) ∷ []

-- ---- all of them

-- a rule begins with the head of symbol k
abbrev pub rule_begins : ℕ → ℕ → Piece
rule_begins at k = piece at (2 ∷ 3 ∷ k ∷ [])

unfoldable pub moves_of : ℕ → Phase → List Move
moves_of at Declared = move a_symbol (λ k. here at (Named k)) (λ k. []) ∷ []
moves_of at (Named k) = []
moves_of at Slashed = move an_arity (λ a. here (at + 2) Sized) (λ a. piece at (symbol_bytes a) ∷ []) ∷ []
moves_of at Sized = on stop (here at Declared) ∷ []
moves_of at Ruled = move a_symbol (λ k. here (at + 1) (HeadNamed (First (at + 1)))) (λ k. rule_begins at k ∷ []) ∷ []
moves_of at (HeadNamed g) = behind_symbol at g
moves_of at (HeadWants g n) = move a_slot (λ a. here at (HeadSlot g n)) (λ a. piece (at + 2 + 5 * n) (term_bytes a) ∷ []) ∷ []
moves_of at (HeadSlot g n) = only (ltb n 3) (on comma (here at (HeadWants g (n + 1))) ∷ []) ++ (on closes (here (at + 22) (HeadDone g)) ∷ [])
moves_of at (HeadDone g) = behind_head at g
moves_of at (HeadNext g) = move a_symbol (λ k. here at (HeadNamed g)) (λ k. piece at (kind_of g ∷ k ∷ []) ∷ []) ∷ []
moves_of at Headed = begin_guard at ∷ body_moves at
moves_of at (Wants s) = wants_move at s ∷ []
moves_of at (Term s) =
    move an_operation (λ o. here at (Operated s)) (λ o. piece (place_of at s) (operation_number o ∷ []) ∷ []) ∷ behind_formula at s
moves_of at (Operated s) = move a_slot (λ a. here at (Formed s)) (λ a. piece (place_of at s + 6) (term_bytes a) ∷ []) ∷ []
moves_of at (Formed s) = behind_formula at s
moves_of at Body = body_moves at
moves_of at Emptied = on stop (here at Ruled) ∷ []
moves_of at ItemNamed = on opens (here at (Wants (Argument 0))) ∷ behind_item (at + 46)
moves_of at ItemDone = behind_item at
moves_of at ItemNext = item_moves at
moves_of at Stuck = []

-- ---- a move

pub record Moved : Type 0 where
  pub to : Assembly
  pub pieces : List Piece

abbrev pub moving : Assembly → List Piece → Moved
moving a ps = record { to = a; pieces = ps }

abbrev pub by : (c : Class) → (Said c → Assembly) → (Said c → List Piece) → Moved → Option (Said c) → Moved
by c to pieces later None = later
by c to pieces later (Some x) = moving (to x) (pieces x)

-- the first move that the token makes; stuck where there is none
abbrev pub stuck_there : Moved
stuck_there = moving (here 0 Stuck) []

unfoldable pub along : List Move → text.Token → Moved
along [] t = stuck_there
along (move c to pieces ∷ ms) t = by c to pieces (along ms t) (said c t)

abbrev pub before : Piece → Moved → Moved
before x m = moving m.to (x ∷ m.pieces)

-- a symbol that is no declaration's begins the first rule
abbrev pub beginning : ℕ → ℕ → text.Token → Moved
beginning at k t = before (rule_begins at k) (along (behind_symbol (at + 1) (First (at + 1))) t)

abbrev pub slashed_by : ℕ → Moved → Option (Unit {0}) → Moved
slashed_by at later None = later
slashed_by at later (Some x) = moving (here at Slashed) []

-- "k is the number of declarations before it": each of them took two bytes
abbrev pub moved_named : ℕ → ℕ → text.Token → Moved
moved_named at k t = cond (eqb (2 * k) at) (slashed_by at (beginning at k t) (slash_said t)) (beginning at k t)

unfoldable pub moved_by : ℕ → Phase → text.Token → Moved
moved_by at Declared t = along (moves_of at Declared) t
moved_by at (Named k) t = moved_named at k t
moved_by at Slashed t = along (moves_of at Slashed) t
moved_by at Sized t = along (moves_of at Sized) t
moved_by at Ruled t = along (moves_of at Ruled) t
moved_by at (HeadNamed g) t = along (moves_of at (HeadNamed g)) t
moved_by at (HeadWants g n) t = along (moves_of at (HeadWants g n)) t
moved_by at (HeadSlot g n) t = along (moves_of at (HeadSlot g n)) t
moved_by at (HeadDone g) t = along (moves_of at (HeadDone g)) t
moved_by at (HeadNext g) t = along (moves_of at (HeadNext g)) t
moved_by at Headed t = along (moves_of at Headed) t
moved_by at (Wants s) t = along (moves_of at (Wants s)) t
moved_by at (Term s) t = along (moves_of at (Term s)) t
moved_by at (Operated s) t = along (moves_of at (Operated s)) t
moved_by at (Formed s) t = along (moves_of at (Formed s)) t
moved_by at Body t = along (moves_of at Body) t
moved_by at Emptied t = along (moves_of at Emptied) t
moved_by at ItemNamed t = along (moves_of at ItemNamed) t
moved_by at ItemDone t = along (moves_of at ItemDone) t
moved_by at ItemNext t = along (moves_of at ItemNext) t
moved_by at Stuck t = stuck_there

unfoldable pub moved : Assembly → text.Token → Moved
moved a t = moved_by a.at a.phase t

-- ---- the end

-- no text goes on so
unfoldable pub is_stuck : Phase → Bool
is_stuck Declared = false
is_stuck (Named k) = false
is_stuck Slashed = false
is_stuck Sized = false
is_stuck Ruled = false
is_stuck (HeadNamed g) = false
is_stuck (HeadWants g n) = false
is_stuck (HeadSlot g n) = false
is_stuck (HeadDone g) = false
is_stuck (HeadNext g) = false
is_stuck Headed = false
is_stuck (Wants s) = false
is_stuck (Term s) = false
is_stuck (Operated s) = false
is_stuck (Formed s) = false
is_stuck Body = false
is_stuck Emptied = false
is_stuck ItemNamed = false
is_stuck ItemDone = false
is_stuck ItemNext = false
is_stuck Stuck = true

-- a text may end here: behind a declaration or behind a rule
unfoldable pub ends : Phase → Bool
ends Declared = true
ends (Named k) = false
ends Slashed = false
ends Sized = false
ends Ruled = true
ends (HeadNamed g) = false
ends (HeadWants g n) = false
ends (HeadSlot g n) = false
ends (HeadDone g) = false
ends (HeadNext g) = false
ends Headed = false
ends (Wants s) = false
ends (Term s) = false
ends (Operated s) = false
ends (Formed s) = false
ends Body = false
ends Emptied = false
ends ItemNamed = false
ends ItemDone = false
ends ItemNext = false
ends Stuck = false
