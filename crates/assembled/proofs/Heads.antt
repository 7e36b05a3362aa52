-- Heads, linked: a head's slots come one behind the other, zeros stand for those that are not used, and "<=>" turns kept heads into removed ones.
use Prim.Native.Nat.{ℕ, ◌+◌, ◌*◌, ◌-◌, ◌/◌, ◌≤◌}
use mathlib.Core.Path.{◌≡◌, refl, sym, ap, ◌∙◌}
use mathlib.Core.List.{List, [], ◌∷◌, ◌++◌}
use native.Mathlib.Omega.{arith}
use native.Mathlib.Numerals.{add-one}
use lib.Dec.{ltb}
use borrow.Author.Tests.{ltb-true}
use lib.ListN.{length, length-append}
use Rattle.grammar.specs.Tree.{Term, HeadTree, TableTree}
use Rattle.grammar.specs.Encode.{term_bytes, head_bytes}
use Rattle.grammar.proofs.Slots.{term-long}
use Rattle.grammar.proofs.Parts.{head-long}
use Rattle.text.specs.Token.{comma}
use Rattle.parsing.specs.Classes.{a_symbol, a_slot}
use Rattle.parsing.specs.Progress.{Group, first, second, head_named, head_wants, head_slot, head_done, head_next, headed, head_with}
use Rattle.parsing.specs.Parsed.{head_forward}
use Rattle.parsing.specs.Edges as reading
use Rattle.parsing.specs.Edges.{edge, edges_of}
use Rattle.assembly.specs.Moves as laying
use Rattle.assembly.specs.declared.Phase.TheVariants.{HeadWants, HeadSlot, HeadNext}
use Rattle.assembly.specs.Moves.{here, kind_of, removed_from, moves_of}
use Rattle.assembled.specs.Holds.{behind, head_of, rule_front, heads_front, kind_byte, head_so_far, front_of, bytes_of, phase_of, group_of, table_bytes, Few}
use Rattle.assembled.proofs.Putting.{Alike, alike-same, alike-next, alike-all, put_bytes, put_all, laid-end}
use Rattle.assembled.proofs.Behind.{behind-long, record-places, heads-removed}
use Rattle.assembled.proofs.Links.{follows, stays, Linked, done, also, also-only}

-- ---- a head more

heads-more : (g : Group) (hs : List HeadTree) (h : HeadTree) → heads_front g (h ∷ hs) ≡ heads_front g hs ++ head_of (kind_byte g) h
unfolding behind
heads-more (first w) hs h = refl
heads-more (second w k ks) hs h = refl

pub heads-at : (g : Group) (hs : List HeadTree) (h : HeadTree) → length (heads_front g hs) + 22 ≡ length (heads_front g (h ∷ hs))
heads-at g hs h =
    sym
    (ap length (heads-more g hs h)
    ∙ length-append (heads_front g hs) (head_of (kind_byte g) h)
    ∙ omega (arith, head-long (kind_byte g) (head_forward h)))

pub head-ends : (g : Group) (hs : List HeadTree) (k : ℕ) (ts : List Term) → length ts ≤ 4 → Alike (head_so_far g hs k ts) (heads_front g (head_with k ts ∷ hs))
unfolding head_bytes
head-ends g hs k ts few =
    alike-next (record-places term_bytes 5 (heads_front g hs) (kind_byte g) k ts few) (alike-same (sym (heads-more g hs (head_with k ts))))

pub slot-at : (g : Group) (hs : List HeadTree) (k : ℕ) (ts : List Term) → length (heads_front g hs) + 2 + 5 * length ts ≡ length (head_so_far g hs k ts)
slot-at g hs k ts =
    sym
    (behind-long term_bytes 5 term-long (heads_front g hs ++ (kind_byte g ∷ k ∷ [])) ts
    ∙ omega (arith, length-append (heads_front g hs) (kind_byte g ∷ k ∷ [])))

heads-long : (kind : ℕ) (b : List ℕ) (hs : List HeadTree) → length (behind (head_of kind) b hs) ≡ length b + 22 * length hs
heads-long kind b hs = behind-long (head_of kind) 22 (λ h. head-long kind (head_forward h)) b hs

-- ---- behind a head

module _ (bs : List ℕ) (at : ℕ) where
  simplified : (w : TableTree) (hs : List HeadTree) → at ≡ length (heads_front (first w) hs) → Alike bs (heads_front (first w) hs)
      → let start = length (table_bytes w) + 1 in
      Alike (put_all (removed_from start ((at - start) / 22)) bs) (behind (head_of 4) (rule_front w) hs)
  unfolding behind
  simplified w hs e h =
      let start = length (table_bytes w) + 1 in
      let front : start ≡ length (rule_front w) = sym (length-append (table_bytes w) (2 ∷ [])) in
      let count : (at - start) / 22 ≡ length hs = omega (arith, heads-long 3 (rule_front w) hs) in
      alike-next (alike-all (removed_from start ((at - start) / 22)) h)
      (alike-same (heads-removed (rule_front w) start ((at - start) / 22) hs front count))

  pub behind-head : (g : Group) (hs : List HeadTree) (h : HeadTree) → at ≡ length (heads_front g (h ∷ hs)) → Alike bs (heads_front g (h ∷ hs))
      → Linked bs (reading.behind_head g hs h) (laying.behind_head at (group_of g))
  unfolding front_of bytes_of phase_of Few behind
  behind-head (first w) hs h e a =
      also
      (λ x. stays (head_next (first w) (h ∷ hs)) e a tt)
      (also
      (λ x. stays (head_next (second w h hs) []) e a tt)
      (also
      (λ x. follows (headed w [] (h ∷ hs)) (e ∙ long) (simplified w (h ∷ hs) e a) tt)
      (also (λ x. stays (headed w (h ∷ hs) []) e a tt) done)))
    where
      long : length (behind (head_of 3) (rule_front w) (h ∷ hs)) ≡ length (behind (head_of 4) (rule_front w) (h ∷ hs))
      long = heads-long 3 (rule_front w) (h ∷ hs) ∙ sym (heads-long 4 (rule_front w) (h ∷ hs))
  behind-head (second w k ks) hs h e a =
      also
      (λ x. stays (head_next (second w k ks) (h ∷ hs)) e a tt)
      (also (λ x. stays (headed w (k ∷ ks) (h ∷ hs)) e a tt) done)

-- behind its symbol
pub behind-symbol : (bs : List ℕ) (at : ℕ) (g : Group) (hs : List HeadTree) (k : ℕ) → at ≡ length (heads_front g hs) → Alike bs (head_so_far g hs k [])
    → Linked bs (reading.behind_symbol g hs k) (laying.behind_symbol at (group_of g))
unfolding front_of bytes_of phase_of Few
behind-symbol bs at g hs k e a =
    also
    (λ x. stays (head_wants g hs k []) e a few)
    (behind-head bs (at + 22) g hs (head_with k []) (omega (arith, heads-at g hs (head_with k []))) (alike-next a (head-ends g hs k [] (omega arith))))
  where
    few : 0 ≤ 3
    few = omega arith

-- ---- a head's symbol, and its slots

-- the kind of a group's heads is the same in both
named-bytes : (g : Group) (b : List ℕ) (k : ℕ) → Alike (put_bytes (length b) (kind_of (group_of g) ∷ k ∷ []) b) (b ++ (kind_byte g ∷ k ∷ []))
named-bytes (first w) b k = laid-end (length b) (3 ∷ k ∷ []) refl (alike-same refl)
named-bytes (second w j js) b k = laid-end (length b) (4 ∷ k ∷ []) refl (alike-same refl)

pub next-linked : (g : Group) (hs : List HeadTree)
    → Linked (heads_front g hs) (edge a_symbol (head_named g hs) ∷ []) (moves_of (length (heads_front g hs)) (HeadNext (group_of g)))
unfolding front_of bytes_of phase_of Few behind moves_of put_all
next-linked g hs = also (λ k. follows (head_named g hs k) refl (named-bytes g (heads_front g hs) k) tt) done

pub wants-linked : (g : Group) (hs : List HeadTree) (k : ℕ) (ts : List Term) → length ts ≤ 3
    → Linked (head_so_far g hs k ts) (edge a_slot (λ t. head_slot g hs k t ts) ∷ []) (moves_of (length (heads_front g hs)) (HeadWants (group_of g) (length ts)))
unfolding front_of bytes_of phase_of Few behind moves_of put_all
wants-linked g hs k ts few = also (λ t. follows (head_slot g hs k t ts) refl (laid-end _ (term_bytes t) (slot-at g hs k ts) (alike-same refl)) few) done

pub slot-linked : (g : Group) (hs : List HeadTree) (k : ℕ) (t : Term) (ts : List Term) → length ts ≤ 3
    → Linked (head_so_far g hs k (t ∷ ts)) (edges_of (head_slot g hs k t ts)) (moves_of (length (heads_front g hs)) (HeadSlot (group_of g) (length ts)))
unfolding front_of bytes_of phase_of Few moves_of edges_of
slot-linked g hs k t ts few =
    also-only
    (ltb (length ts) 3)
    comma
    (head_wants g hs k (t ∷ ts))
    (here (length (heads_front g hs)) (HeadWants (group_of g) (length ts + 1)))
    (λ b.
    let h : length (t ∷ ts) ≤ 3 = omega (arith, ltb-true (length ts) 3 b) in
    rw (add-one (length ts)) (stays (head_wants g hs k (t ∷ ts)) refl (alike-same refl) h))
    (also
    (λ x. stays (head_done g hs (head_with k (t ∷ ts))) (heads-at g hs (head_with k (t ∷ ts))) (head-ends g hs k (t ∷ ts) (omega arith)) tt)
    done)
