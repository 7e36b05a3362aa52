-- What a token does in each phase, to the reading and to the assembly. A symbol behind declarations begins a declaration or the first rule: "k is the
-- number of declarations before it" is asked of the number in the reading, and of the bytes that they took in the assembly.
use Prim.Native.Nat.{ℕ, ◌+◌, ◌*◌}
use mathlib.Core.Path.{◌≡◌, refl, sym, ap, ◌∙◌}
use mathlib.Core.Bool.{Bool, true, false, cond}
use Rattle.std.specs.Prelude.{Option, None, Some}
use mathlib.Core.List.{List, [], ◌∷◌, ◌++◌, append_assoc}
use native.Mathlib.Omega.{arith}
use lib.Dec.{eqb}
use lib.ListN.{length, length-append}
use borrow.Author.Tests.{eqb-true, eqb-false, eq-eqb, ne_eqb}
use Rattle.grammar.specs.Tree.{TableTree}
use Rattle.grammar.specs.Encode.{symbol_bytes}
use Rattle.text.specs.Token.{Token}
use Rattle.parsing.specs.Classes.{slash, slash_said}
use Rattle.parsing.specs.Progress.{first, Progress, declared, named, slashed, sized, ruled, head_named, head_wants, head_slot, head_done, head_next}
use Rattle.parsing.specs.Progress.{headed, wants}
use Rattle.parsing.specs.Progress.{term, operated, formed, body, emptied, item_named, item_done, item_next, table_with, guarded}
use Rattle.parsing.specs.Edges as reading
use Rattle.parsing.specs.Edges.{edge, edges_of, step}
use Rattle.assembly.specs.declared.Phase.TheVariants.{Slashed}
use Rattle.assembly.specs.Moves as laying
use Rattle.assembly.specs.Moves.{moves_of, beginning, slashed_by, moved, moved_by, rule_begins}
use Rattle.assembled.specs.Holds.{behind, table_bytes, heads_front, head_so_far, front_of, bytes_of, phase_of, group_of, flat_of, Few}
use Rattle.assembled.proofs.Putting.{Alike, alike-same, alike-next, put_bytes, put_all, laid-end}
use Rattle.assembled.proofs.Behind.{behind-long}
use Rattle.assembled.proofs.Links.{follows, stays, Linked, done, also, Outcome, linked, outcome-before}
use Rattle.assembled.proofs.Heads as heads
use Rattle.assembled.proofs.Bodies as bodies
use Rattle.assembled.proofs.Sides as sides

symbol-long : (n : ℕ) → length (symbol_bytes n) ≡ 2
unfolding symbol_bytes
symbol-long n = refl

-- ---- a rule begins

rule-begins : (w : TableTree) (k : ℕ) → Alike (put_bytes (length (table_bytes w)) (2 ∷ 3 ∷ k ∷ []) (table_bytes w)) (head_so_far (first w) [] k [])
unfolding behind
rule-begins w k =
    alike-next
    (laid-end (length (table_bytes w)) (2 ∷ 3 ∷ k ∷ []) refl (alike-same refl))
    (alike-same (sym (append_assoc (table_bytes w) (2 ∷ []) (3 ∷ k ∷ []))))

rule-at : (w : TableTree) → length (table_bytes w) + 1 ≡ length (heads_front (first w) [])
unfolding behind
rule-at w = sym (length-append (table_bytes w) (2 ∷ []))

-- ---- a declaration ends

sized-linked : (ns : List ℕ) → Linked (table_bytes (table_with ns [])) (edges_of (slashed ns)) (moves_of (length (table_bytes (table_with ns []))) Slashed)
unfolding edges_of moves_of front_of bytes_of phase_of Few behind table_bytes put_all
sized-linked ns =
    also
    (λ a. follows (sized (a ∷ ns)) (long a) (laid-end (length (table_bytes (table_with ns []))) (symbol_bytes a) refl (alike-same refl)) tt)
    done
  where
    long : (a : ℕ) → length (table_bytes (table_with ns [])) + 2 ≡ length (table_bytes (table_with ns []) ++ symbol_bytes a)
    long a = sym (length-append (table_bytes (table_with ns [])) (symbol_bytes a) ∙ omega (arith, symbol-long a))

-- ---- behind a symbol that follows declarations

same-test : (k n : ℕ) → eqb (2 * k) (2 * n) ≡ eqb k n
same-test k n = go (eqb k n) refl
  where
    go : (b : Bool) → eqb k n ≡ b → eqb (2 * k) (2 * n) ≡ b
    go true e = eq-eqb (2 * k) (2 * n) (ap (λ (x : ℕ). 2 * x) (eqb-true k n e))
    go false e = ne_eqb (2 * k) (2 * n) (λ (d : 2 * k ≡ 2 * n). eqb-false k n e (omega arith))

symbols-at : (ns : List ℕ) → length (table_bytes (table_with ns [])) ≡ 2 * length ns
unfolding table_bytes behind
symbols-at ns = behind-long symbol_bytes 2 symbol-long [] ns ∙ omega arith

module _ (ns : List ℕ) (k : ℕ) (t : Token) where
  begun : let w = table_with ns [] in
      Outcome (table_bytes w) (reading.along (reading.behind_symbol (first w) [] k) t) (beginning (length (table_bytes w)) k t)
  begun =
      let w = table_with ns [] in
      let at = length (table_bytes w) in
      outcome-before (rule_begins at k) (table_bytes w) (reading.along (reading.behind_symbol (first w) [] k) t)
      (laying.along (laying.behind_symbol (at + 1) (group_of (first w))) t)
      (linked (heads.behind-symbol _ (length (table_bytes w) + 1) (first w) [] k (rule-at w) (rule-begins w k)) t)

  slashes : (x : Option (Unit {0})) → let w = table_with ns [] in
      Outcome (table_bytes w) (reading.by slash (λ y. slashed ns) (reading.along (reading.behind_symbol (first w) [] k) t) x)
      (slashed_by (length (table_bytes w)) (beginning (length (table_bytes w)) k t) x)
  unfolding reading.by front_of bytes_of phase_of Few
  slashes None = begun
  slashes (Some x) = stays (slashed ns) refl (alike-same refl) tt

  tested : (b : Bool) → let w = table_with ns [] in
      Outcome (table_bytes w) (reading.along (reading.only b (edge slash (λ y. slashed ns) ∷ []) ++ reading.behind_symbol (first w) [] k) t)
      (cond b (slashed_by (length (table_bytes w)) (beginning (length (table_bytes w)) k t) (slash_said t)) (beginning (length (table_bytes w)) k t))
  unfolding reading.along
  tested true = slashes (slash_said t)
  tested false = begun

  named-outcome : Outcome (bytes_of (named ns k)) (step (named ns k) t) (moved (flat_of (named ns k)) t)
  unfolding step edges_of moved moved_by front_of bytes_of phase_of
  named-outcome = rw (ap (eqb (2 * k)) (symbols-at ns) ∙ same-test k (length ns)) (tested (eqb k (length ns)))

-- ---- every phase

pub outcome : (s : Progress) → Few s → (t : Token) → Outcome (bytes_of s) (step s t) (moved (flat_of s) t)
unfolding step edges_of moved moved_by moves_of front_of bytes_of phase_of Few behind table_bytes put_all
outcome (declared ns) few t = linked (also (λ k. stays (named ns k) refl (alike-same refl) tt) done) t
outcome (named ns k) few t = named-outcome ns k t
outcome (slashed ns) few t = linked (sized-linked ns) t
outcome (sized ns) few t = linked (also (λ x. stays (declared ns) refl (alike-same refl) tt) done) t
outcome (ruled w) few t = linked (also (λ k. follows (head_named (first w) [] k) (rule-at w) (rule-begins w k) tt) done) t
outcome (head_named g hs k) few t = linked (heads.behind-symbol _ _ g hs k refl (alike-same refl)) t
outcome (head_wants g hs k ts) few t = linked (heads.wants-linked g hs k ts few) t
outcome (head_slot g hs k a ts) few t = linked (heads.slot-linked g hs k a ts few) t
outcome (head_done g hs h) few t = linked (heads.behind-head _ _ g hs h refl (alike-same refl)) t
outcome (head_next g hs) few t = linked (heads.next-linked g hs) t
outcome (headed w kept removed) few t = linked (sides.begin-linked (guarded w kept removed []) (bodies.body-linked (guarded w kept removed []))) t
outcome (wants s) few t = linked (sides.wants-linked s few) t
outcome (term s a) few t = linked (sides.term-linked s a few) t
outcome (operated s o a) few t = linked (sides.operated-linked s o a few) t
outcome (formed s f) few t = linked (sides.behind-formula s f few) t
outcome (body g) few t = linked (bodies.body-linked g) t
outcome (emptied g) few t = linked (bodies.emptied-linked g) t
outcome (item_named g is k) few t = linked (bodies.named-linked g is k) t
outcome (item_done g is i) few t = linked (bodies.behind-item _ _ g is i refl (alike-same refl)) t
outcome (item_next g is) few t = linked (bodies.items-linked g is) t
