-- Expressions, linked, on each side: left and right in a comparison, and among the arguments of a body item. An operation byte is 0 until it is read,
-- and so is a comparator; the second slot stands unused until it is read.
use Prim.Native.Nat.{ℕ, ◌+◌, ◌≤◌}
use mathlib.Core.Path.{◌≡◌, refl, sym, ◌∙◌}
use mathlib.Core.List.{List, [], ◌∷◌, ◌++◌, append_assoc}
use native.Mathlib.Omega.{arith}
use native.Mathlib.Numerals.{add-one}
use lib.Dec.{ltb}
use lib.ListN.{length, replicate, length-append}
use borrow.Author.Tests.{ltb-true}
use Rattle.grammar.specs.Tree.{Term, Operation, operation_number, Formula, alone, applied, Comparator, comparator_number, GuardTree, fact}
use Rattle.grammar.specs.Encode.{term_bytes, formula_bytes, guard_bytes}
use Rattle.grammar.proofs.Slots.{term-long, formula-long}
use Rattle.grammar.proofs.Parts.{guard-long}
use Rattle.text.specs.Token.{comma}
use Rattle.parsing.specs.Progress.{Guarded, Side, left_of, right_of, argument_of, wants, term, operated, formed, body, item_done, with_guard}
use Rattle.parsing.specs.Classes.{a_slot}
use Rattle.parsing.specs.Edges as reading
use Rattle.parsing.specs.Edges.{edges_of}
use Rattle.assembly.specs.declared.Phase.TheVariants.{Wants, Term as TermRead, Operated}
use Rattle.assembly.specs.declared.Side.TheVariants.{Argument}
use Rattle.assembly.specs.Pieces.{piece}
use Rattle.assembly.specs.Moves as laying
use Rattle.assembly.specs.Moves.{here, moves_of, place_of}
use Rattle.assembled.specs.Holds.{behind, guards_front, items_front, side_front, wants_bytes, record_front, front_of, bytes_of, phase_of, side_of, FewOf, Few}
use Rattle.assembled.proofs.Putting.{Alike, alike-same, alike-back, alike-next, alike-more, alike-front, put-first, put-second}
use Rattle.assembled.proofs.Putting.{put_bytes, put_all, laid-end}
use Rattle.assembled.proofs.Links.{follows, stays, Linked, done, also, also-only}
use Rattle.assembled.proofs.Bodies.{items-at, item-ends, argument-at}

-- where an expression begins
place-of : (s : Side) → place_of (length (record_front s)) (side_of s) ≡ length (side_front s)
place-of (left_of g) = sym (length-append (guards_front g) (5 ∷ 0 ∷ []))
place-of (right_of g l c) = sym (length-append (guards_front g) (5 ∷ comparator_number c ∷ formula_bytes l) ∙ omega (arith, formula-long l))
place-of (argument_of g is k es) = argument-at g is k es

-- ---- behind an expression

guards-at : (g : Guarded) (l : Formula) (c : Comparator) (r : Formula) → length (guards_front g) + 24 ≡ length (guards_front (with_guard g l c r))
unfolding behind
guards-at g l c r =
    let more : GuardTree = record { comparator = c; left = l; right = r } in
    sym (length-append (guards_front g) (guard_bytes more) ∙ omega (arith, guard-long more))

guard-ends : (g : Guarded) (l : Formula) (c : Comparator) (r : Formula)
    → side_front (right_of g l c) ++ formula_bytes r ≡ guards_front (with_guard g l c r)
unfolding behind guard_bytes
guard-ends g l c r = append_assoc (guards_front g) (5 ∷ comparator_number c ∷ formula_bytes l) (formula_bytes r)

compared : (g : Guarded) (l : Formula) (c : Comparator)
    → put_bytes (length (guards_front g) + 1) (comparator_number c ∷ []) (side_front (left_of g) ++ formula_bytes l) ≡ side_front (right_of g l c)
unfolding put_bytes
compared g l c =
    rw (append_assoc (guards_front g) (5 ∷ 0 ∷ []) (formula_bytes l))
    (put-second (guards_front g) (formula_bytes l) (length (guards_front g) + 1) 5 0 (comparator_number c) refl)

pub behind-formula : (s : Side) (f : Formula) → FewOf s
    → Linked (side_front s ++ formula_bytes f) (reading.behind_formula s f) (laying.behind_formula (length (record_front s)) (side_of s))
unfolding front_of bytes_of phase_of Few behind put_all
behind-formula (left_of g) f few = also (λ c. follows (wants (right_of g f c)) refl (alike-same (compared g f c)) tt) done
behind-formula (right_of g l c) f few =
    also
    (λ x. stays (wants (left_of (with_guard g l c f))) (guards-at g l c f) (alike-same (guard-ends g l c f)) tt)
    (also (λ x. stays (body (with_guard g l c f)) (guards-at g l c f) (alike-same (guard-ends g l c f)) tt) done)
behind-formula (argument_of g is k es) f few =
    also-only
    (ltb (length es) 3)
    comma
    (wants (argument_of g is k (f ∷ es)))
    (here (length (items_front g is)) (Wants (Argument (length es + 1))))
    (λ b.
    let h : length (f ∷ es) ≤ 3 = omega (arith, ltb-true (length es) 3 b) in
    rw (add-one (length es)) (stays (wants (argument_of g is k (f ∷ es))) refl (alike-same refl) h))
    (also
    (λ x. stays (item_done g is (fact k (f ∷ es))) (items-at g is k (f ∷ es)) (item-ends g is k (f ∷ es) (omega arith)) tt)
    done)

-- ---- its slots and its operation

-- the first slot, behind the operation byte
slot-read : {bs : List ℕ} (p : ℕ) (x : List ℕ) (a : Term) → p ≡ length x + 1 → Alike bs (x ++ (0 ∷ []))
    → Alike (put_bytes p (term_bytes a) bs) (x ++ formula_bytes (alone a))
unfolding formula_bytes
slot-read p x a e h =
    alike-next
    (laid-end p (term_bytes a) (e ∙ sym (length-append x (0 ∷ []))) h)
    (alike-next
    (alike-same (append_assoc x (0 ∷ []) (term_bytes a)))
    (alike-front x (alike-more (0 ∷ term_bytes a) 5)))

first-read : (s : Side) (a : Term)
    → Alike (put_bytes (place_of (length (record_front s)) (side_of s) + 1) (term_bytes a) (side_front s)) (side_front s ++ formula_bytes (alone a))
first-read s a = slot-read (place_of (length (record_front s)) (side_of s) + 1) (side_front s) a (omega (arith, place-of s)) (alike-more (side_front s) 1)

guard-begins : (g : Guarded) (a : Term)
    → Alike (put_all (piece (length (guards_front g)) (5 ∷ []) ∷ piece (length (guards_front g) + 3) (term_bytes a) ∷ []) (guards_front g))
    (side_front (left_of g) ++ formula_bytes (alone a))
unfolding put_all
guard-begins g a =
    slot-read (length (guards_front g) + 3) (side_front (left_of g)) a (omega (arith, length-append (guards_front g) (5 ∷ 0 ∷ [])))
    (alike-next
    (laid-end (length (guards_front g)) (5 ∷ []) refl (alike-same refl))
    (alike-next
    (alike-more (guards_front g ++ (5 ∷ [])) 2)
    (alike-same (append_assoc (guards_front g) (5 ∷ []) (0 ∷ 0 ∷ []) ∙ sym (append_assoc (guards_front g) (5 ∷ 0 ∷ []) (0 ∷ []))))))

pub begin-linked : (g : Guarded) {es : List reading.Edge} {ms : List laying.Move} → Linked (guards_front g) es ms
    → Linked (guards_front g) (reading.edge a_slot (term (left_of g)) ∷ es) (laying.begin_guard (length (guards_front g)) ∷ ms)
unfolding front_of bytes_of phase_of Few
begin-linked g l = also (λ a. follows (term (left_of g) a) refl (guard-begins g a) tt) l

pub wants-linked : (s : Side) → FewOf s → Linked (wants_bytes s) (edges_of (wants s)) (moves_of (length (record_front s)) (Wants (side_of s)))
unfolding front_of bytes_of phase_of Few edges_of moves_of put_all
wants-linked (left_of g) few = begin-linked g done
wants-linked (right_of g l c) few = also (λ a. follows (term (right_of g l c) a) refl (first-read (right_of g l c) a) few) done
wants-linked (argument_of g is k es) few = also (λ a. follows (term (argument_of g is k es) a) refl (first-read (argument_of g is k es) a) few) done

operates : (s : Side) (o : Operation) (a : Term)
    → Alike (put_bytes (place_of (length (record_front s)) (side_of s)) (operation_number o ∷ []) (side_front s ++ formula_bytes (alone a)))
    (side_front s ++ (operation_number o ∷ term_bytes a))
unfolding put_bytes formula_bytes
operates s o a =
    alike-next
    (alike-same (put-first (side_front s) (term_bytes a ++ replicate 5 0) (place_of (length (record_front s)) (side_of s)) 0 (operation_number o) (place-of s)))
    (alike-front (side_front s) (alike-back (alike-more (operation_number o ∷ term_bytes a) 5)))

pub term-linked : (s : Side) (a : Term) → FewOf s
    → Linked (side_front s ++ formula_bytes (alone a)) (edges_of (term s a)) (moves_of (length (record_front s)) (TermRead (side_of s)))
unfolding front_of bytes_of phase_of Few edges_of moves_of put_all
term-linked s a few = also (λ o. follows (operated s o a) refl (operates s o a) few) (behind-formula s (alone a) few)

applies : (s : Side) (o : Operation) (a b : Term)
    → Alike (put_bytes (place_of (length (record_front s)) (side_of s) + 6) (term_bytes b) (side_front s ++ (operation_number o ∷ term_bytes a)))
    (side_front s ++ formula_bytes (applied o a b))
unfolding formula_bytes
applies s o a b =
    alike-next
    (laid-end (place_of (length (record_front s)) (side_of s) + 6) (term_bytes b)
    (sym (length-append (side_front s) (operation_number o ∷ term_bytes a) ∙ omega (arith, place-of s, term-long a)))
    (alike-same refl))
    (alike-same (append_assoc (side_front s) (operation_number o ∷ term_bytes a) (term_bytes b)))

pub operated-linked : (s : Side) (o : Operation) (a : Term) → FewOf s
    → Linked (side_front s ++ (operation_number o ∷ term_bytes a)) (edges_of (operated s o a)) (moves_of (length (record_front s)) (Operated (side_of s)))
unfolding front_of bytes_of phase_of Few edges_of moves_of put_all
operated-linked s o a few = also (λ b. follows (formed s (applied o a b)) refl (applies s o a b) few) done
