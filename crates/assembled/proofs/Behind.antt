-- Records one behind the other, of which the last is at the list's front: their length, and that they are the bytes of the list turned round. So what
-- is read of a table is the encoding of the tree that is read. Each law goes by the list.
use Prim.Native.Nat.{ℕ, zero, suc, ◌+◌, ◌*◌, ◌≤◌}
use mathlib.Core.Path.{◌≡◌, refl, sym, ap, ◌∙◌}
use mathlib.Core.List.{List, [], ◌∷◌, ◌++◌, map, reverse, append_assoc, append-nil, reverse-cons}
use native.Mathlib.Omega.{arith}
use native.Mathlib.Nat.{mul-suc}
use lib.ListN.{length, replicate, length-append, length-map, length-reverse}
use Rattle.grammar.specs.Tree.{HeadTree, ItemTree, TableTree}
use Rattle.grammar.specs.Encode.{each_bytes, places_bytes, symbol_bytes, head_bytes, guard_bytes, item_bytes, rule_bytes, encode}
use Rattle.grammar.proofs.Parts.{head-long}
use Rattle.parsing.specs.Progress.{Guarded, rule_with, table_of}
use Rattle.parsing.specs.Parsed.{head_forward, item_forward, rule_forward, forward}
use Rattle.assembly.specs.Moves.{removed_from}
use Rattle.assembled.specs.Holds.{behind, head_of, rule_of, table_bytes, rule_front, headed_front, guards_front, items_front}
use Rattle.assembled.proofs.Putting.{Alike, alike-same, alike-next, alike-more, alike-front, put-first, put_bytes, put_all}

-- ---- one behind the other

module _ {A : Type 0} (bytes : A → List ℕ) where
  each-snoc : (xs : List A) (x : A) → each_bytes bytes (xs ++ (x ∷ [])) ≡ each_bytes bytes xs ++ bytes x
  unfolding each_bytes
  each-snoc [] x = append-nil (bytes x)
  each-snoc (y ∷ xs) x = rw (each-snoc xs x) (sym (append_assoc (bytes y) (each_bytes bytes xs) (bytes x)))

  pub behind-each : (b : List ℕ) (xs : List A) → behind bytes b xs ≡ b ++ each_bytes bytes (reverse xs)
  unfolding behind each_bytes
  behind-each b [] = sym (append-nil b)
  behind-each b (x ∷ xs) =
      rw (behind-each b xs, reverse-cons x xs, each-snoc (reverse xs) x) (append_assoc b (each_bytes bytes (reverse xs)) (bytes x))

  pub behind-long : (size : ℕ) → ((x : A) → length (bytes x) ≡ size) → (b : List ℕ) (xs : List A)
      → length (behind bytes b xs) ≡ length b + size * length xs
  unfolding behind
  behind-long size long b [] = omega arith
  behind-long size long b (x ∷ xs) =
      length-append (behind bytes b xs) (bytes x) ∙ omega (arith, long x, behind-long size long b xs, mul-suc size (length xs))

behind-turned : {A B : Type 0} (bytes : B → List ℕ) (turn : A → B) (b : List ℕ) (xs : List A)
    → behind (λ x. bytes (turn x)) b xs ≡ b ++ each_bytes bytes (reverse (map turn xs))
unfolding behind
behind-turned bytes turn b xs = mapped b xs ∙ behind-each bytes b (map turn xs)
  where
    mapped : (b : List ℕ) (xs : List _) → behind (λ x. bytes (turn x)) b xs ≡ behind bytes b (map turn xs)
    mapped b [] = refl
    mapped b (x ∷ xs) = ap (λ (l : List ℕ). l ++ bytes (turn x)) (mapped b xs)

-- ---- in places: zeros stand in those that are not used

module _ {A : Type 0} (bytes : A → List ℕ) (size : ℕ) where
  each-places : (n : ℕ) (xs : List A) → length xs ≤ n → Alike (each_bytes bytes xs) (places_bytes bytes size n xs)
  unfolding each_bytes places_bytes
  each-places zero [] h = alike-same refl
  each-places zero (x ∷ xs) h = absurd (omega arith)
  each-places (suc n) [] h =
      let l = each-places n [] (omega arith) in
      alike-next (alike-more [] size) (alike-next (alike-same (sym (append-nil (replicate size 0)))) (alike-front (replicate size 0) l))
  each-places (suc n) (x ∷ xs) h = alike-front (bytes x) (each-places n xs (omega arith))

  -- a record of a kind, a symbol and four places, behind h
  pub record-places : (h : List ℕ) (kind k : ℕ) (xs : List A) → length xs ≤ 4
      → Alike (behind bytes (h ++ (kind ∷ k ∷ [])) xs) (h ++ (kind ∷ k ∷ places_bytes bytes size 4 (reverse xs)))
  record-places h kind k xs few =
      alike-next
      (alike-same (behind-each bytes (h ++ (kind ∷ k ∷ [])) xs ∙ append_assoc h (kind ∷ k ∷ []) (each_bytes bytes (reverse xs))))
      (alike-front h (alike-front (kind ∷ k ∷ []) (each-places 4 (reverse xs) (rw (length-reverse xs) few))))

-- ---- "<=>" says that the first heads are removed

each-removed : (b : List ℕ) (p : ℕ) (hs : List HeadTree) → p ≡ length b
    → put_all (removed_from p (length hs)) (b ++ each_bytes (head_bytes 3) hs) ≡ b ++ each_bytes (head_bytes 4) hs
unfolding removed_from put_all put_bytes each_bytes head_bytes
each-removed b p [] e = refl
each-removed b p (h ∷ hs) e =
    ap
    (put_all (removed_from (p + 22) (length hs)))
    (put-first b _ p 3 4 e ∙ sym (append_assoc b (head_bytes 4 h) (each_bytes (head_bytes 3) hs)))
    ∙ each-removed (b ++ head_bytes 4 h) (p + 22) hs (sym (length-append b (head_bytes 4 h) ∙ omega (arith, head-long 4 h)))
    ∙ append_assoc b (head_bytes 4 h) (each_bytes (head_bytes 4) hs)

-- of the heads from b on
pub heads-removed : (b : List ℕ) (p n : ℕ) (hs : List HeadTree) → p ≡ length b → n ≡ length hs
    → put_all (removed_from p n) (behind (head_of 3) b hs) ≡ behind (head_of 4) b hs
heads-removed b p n hs e d =
    rw (behind-turned (head_bytes 3) head_forward b hs, behind-turned (head_bytes 4) head_forward b hs)
    (rw (d ∙ sym (length-reverse (map head_forward hs) ∙ length-map hs head_forward)) (each-removed b p (reverse (map head_forward hs)) e))

-- ---- a finished rule, and a finished table

table-more : (g : Guarded) (is : List ItemTree) → table_bytes (table_of g is) ≡ table_bytes g.table ++ rule_of (rule_with g is)
unfolding table_bytes behind
table-more g is = refl

pub rule-ends : (g : Guarded) (is : List ItemTree) → items_front g is ≡ table_bytes (table_of g is)
unfolding rule_bytes
rule-ends g is =
    behind-turned item_bytes item_forward (guards_front g) is
    ∙ rw (
      table-more g is,
      behind-each guard_bytes (headed_front g.table g.kept g.removed) g.guards,
      behind-turned (head_bytes 4) head_forward (behind (head_of 3) (rule_front g.table) g.kept) g.removed,
      behind-turned (head_bytes 3) head_forward (rule_front g.table) g.kept,
    ) (simp append_assoc)

pub table-ends : (w : TableTree) → table_bytes w ++ (8 ∷ []) ≡ encode (forward w)
unfolding table_bytes encode forward
table-ends w =
    rw (behind-turned rule_bytes rule_forward (behind symbol_bytes [] w.arities) w.rules, behind-each symbol_bytes [] w.arities)
    (simp append_assoc)
