-- Bodies, linked: an item is laid behind the items before it, and a rule that ends is the rule's bytes behind the table.
use Prim.Native.Nat.{ℕ, ◌+◌, ◌*◌, ◌≤◌}
use mathlib.Core.Path.{◌≡◌, refl, sym, ap, ◌∙◌}
use mathlib.Core.List.{List, [], ◌∷◌, ◌++◌, reverse}
use native.Mathlib.Omega.{arith}
use lib.ListN.{length, length-append}
use Rattle.grammar.specs.Tree.{Formula, ItemTree, fact, fail}
use Rattle.grammar.specs.Encode.{formula_bytes, item_bytes}
use Rattle.grammar.proofs.Slots.{formula-long}
use Rattle.grammar.proofs.Parts.{fact-long}
use Rattle.parsing.specs.Progress.{Guarded, argument_of, ruled, emptied, wants, item_named, item_done, item_next, table_of}
use Rattle.parsing.specs.Edges as reading
use Rattle.parsing.specs.Edges.{edges_of}
use Rattle.assembly.specs.declared.Phase.TheVariants.{Emptied, ItemNamed}
use Rattle.assembly.specs.Moves as laying
use Rattle.assembly.specs.Moves.{moves_of}
use Rattle.assembled.specs.Holds.{behind, guards_front, items_front, item_so_far, front_of, bytes_of, phase_of, Few, item_of}
use Rattle.assembled.proofs.Putting.{Alike, alike-same, alike-next, put_all, laid-end}
use Rattle.assembled.proofs.Behind.{behind-long, record-places, rule-ends}
use Rattle.assembled.proofs.Links.{Follows, follows, stays, Linked, done, also}

-- ---- an item more

pub items-at : (g : Guarded) (is : List ItemTree) (k : ℕ) (es : List Formula) → length (items_front g is) + 46 ≡ length (items_front g (fact k es ∷ is))
unfolding behind
items-at g is k es = sym (length-append (items_front g is) (item_of (fact k es)) ∙ omega (arith, fact-long k (reverse es)))

pub item-ends : (g : Guarded) (is : List ItemTree) (k : ℕ) (es : List Formula) → length es ≤ 4
    → Alike (item_so_far g is k es) (items_front g (fact k es ∷ is))
unfolding behind item_bytes
item-ends g is k es few = record-places formula_bytes 11 (items_front g is) 6 k es few

pub argument-at : (g : Guarded) (is : List ItemTree) (k : ℕ) (es : List Formula)
    → length (items_front g is) + 2 + 11 * length es ≡ length (item_so_far g is k es)
argument-at g is k es =
    sym
    (behind-long formula_bytes 11 formula-long (items_front g is ++ (6 ∷ k ∷ [])) es ∙ omega (arith, length-append (items_front g is) (6 ∷ k ∷ [])))

-- ---- behind an item, and before one

pub rule-linked : {bs : List ℕ} {at : ℕ} (g : Guarded) (is : List ItemTree) → at ≡ length (items_front g is) → Alike bs (items_front g is)
    → Follows bs (ruled (table_of g is)) (laying.here at (phase_of (ruled (table_of g is)))) []
unfolding front_of bytes_of Few
rule-linked g is e a = stays (ruled (table_of g is)) (e ∙ ap length (rule-ends g is)) (alike-next a (alike-same (rule-ends g is))) tt

pub behind-item : (bs : List ℕ) (at : ℕ) (g : Guarded) (is : List ItemTree) (i : ItemTree) → at ≡ length (items_front g (i ∷ is))
    → Alike bs (items_front g (i ∷ is)) → Linked bs (reading.behind_item g is i) (laying.behind_item at)
unfolding front_of bytes_of phase_of Few
behind-item bs at g is i e a = also (λ x. stays (item_next g (i ∷ is)) e a tt) (also (λ x. rule-linked g (i ∷ is) e a) done)

pub items-linked : (g : Guarded) (is : List ItemTree)
    → Linked (items_front g is) (reading.item_edges g is) (laying.item_moves (length (items_front g is)))
unfolding front_of bytes_of phase_of Few behind item_bytes put_all
items-linked g is =
    also
    (λ k. follows (item_named g is k) refl (laid-end (length (items_front g is)) (6 ∷ k ∷ []) refl (alike-same refl)) tt)
    (also
    (λ x.
    follows (item_done g is fail) (sym (length-append (items_front g is) (7 ∷ [])))
    (laid-end (length (items_front g is)) (7 ∷ []) refl (alike-same refl)) tt)
    done)

pub body-linked : (g : Guarded) → Linked (guards_front g) (reading.body_edges g) (laying.body_moves (length (guards_front g)))
unfolding front_of bytes_of phase_of Few behind
body-linked g = also (λ x. stays (emptied g) refl (alike-same refl) tt) (items-linked g [])

pub emptied-linked : (g : Guarded) → Linked (guards_front g) (edges_of (emptied g)) (moves_of (length (guards_front g)) Emptied)
unfolding phase_of edges_of moves_of behind
emptied-linked g = also (λ x. rule-linked g [] refl (alike-same refl)) done

pub named-linked : (g : Guarded) (is : List ItemTree) (k : ℕ)
    → Linked (item_so_far g is k []) (edges_of (item_named g is k)) (moves_of (length (items_front g is)) ItemNamed)
unfolding front_of bytes_of phase_of Few edges_of moves_of
named-linked g is k =
    also
    (λ x. stays (wants (argument_of g is k [])) refl (alike-same refl) few)
    (behind-item (item_so_far g is k []) (length (items_front g is) + 46) g is (fact k []) (items-at g is k []) (item-ends g is k [] (omega arith)))
  where
    few : 0 ≤ 3
    few = omega arith
