-- Bytes that are put into a list which goes on with zeros for ever. Laying bytes into a buffer puts them into the list that the buffer holds, also
-- where the buffer is too short for them: each law goes by the index.
use Prim.Native.Nat.{ℕ, zero, suc, ◌+◌, ◌<◌}
use mathlib.Core.Path.{◌≡◌, refl, sym, ap, ◌∙◌}
use mathlib.Core.Logic.{◌≢◌}
use mathlib.Core.List.{List, [], ◌∷◌, ◌++◌, append_assoc, append-nil}
use native.Mathlib.Omega.{arith}
use native.Mathlib.Nat.{zero-add, suc-add}
use native.Mathlib.Decide.{ℕ_discrete}
use lib.ListN.{length, get_or, set, replicate, length-set, length-append}
use lib.Seq.{get_or-set_same, get_or-set_other}
use Rattle.assembly.specs.Pieces.{lay, Piece, lay_all}
use Rattle.assembled.specs.Holds.{Held}

-- ---- laying keeps the length

pub length-lay : (p : ℕ) (bs s : List ℕ) → length (lay p bs s) ≡ length s
unfolding lay
length-lay p [] s = refl
length-lay p (b ∷ bs) s = length-lay (suc p) bs (set s p b) ∙ length-set s p b

pub length-lay_all : (ps : List Piece) (s : List ℕ) → length (lay_all ps s) ≡ length s
unfolding lay_all
length-lay_all [] s = refl
length-lay_all (x ∷ xs) s = length-lay_all xs (lay x.place x.bytes s) ∙ length-lay x.place x.bytes s

-- ---- the same but for zeros behind

pub record Alike (x y : List ℕ) : Type 0 where
  pub each : (i : ℕ) → get_or x i 0 ≡ get_or y i 0

pub alike-same : {x y : List ℕ} → x ≡ y → Alike x y
alike-same e = record { each = λ i. ap (λ (l : List ℕ). get_or l i 0) e }

pub alike-back : {x y : List ℕ} → Alike x y → Alike y x
alike-back h = record { each = λ i. sym (h.each i) }

pub alike-next : {x y z : List ℕ} → Alike x y → Alike y z → Alike x z
alike-next h k = record { each = λ i. h.each i ∙ k.each i }

pub alike-more : (x : List ℕ) (n : ℕ) → Alike x (x ++ replicate n 0)
alike-more x n = record { each = go x n }
  where
    go : (x : List ℕ) (n i : ℕ) → get_or x i 0 ≡ get_or (x ++ replicate n 0) i 0
    go [] zero i = refl
    go [] (suc n) zero = refl
    go [] (suc n) (suc i) = go [] n i
    go (b ∷ x) n zero = refl
    go (b ∷ x) n (suc i) = go x n i

pub alike-front : (x : List ℕ) {y z : List ℕ} → Alike y z → Alike (x ++ y) (x ++ z)
alike-front [] h = h
alike-front (b ∷ x) {y} {z} h = let l = alike-front x h in record { each = go l }
  where
    go : Alike (x ++ y) (x ++ z) → (i : ℕ) → get_or (b ∷ (x ++ y)) i 0 ≡ get_or (b ∷ (x ++ z)) i 0
    go l zero = refl
    go l (suc i) = l.each i

pub held-alike : {buf x y : List ℕ} → Held buf x → Alike x y → Held buf y
held-alike h k = record { each = λ i l. h.each i l ∙ k.each i }

-- ---- one byte

unfoldable pub put : List ℕ → ℕ → ℕ → List ℕ
put [] zero b = b ∷ []
put [] (suc p) b = 0 ∷ put [] p b
put (y ∷ x) zero b = b ∷ x
put (y ∷ x) (suc p) b = y ∷ put x p b

put-same : (x : List ℕ) (p b : ℕ) → get_or (put x p b) p 0 ≡ b
unfolding put
put-same [] zero b = refl
put-same [] (suc p) b = put-same [] p b
put-same (y ∷ x) zero b = refl
put-same (y ∷ x) (suc p) b = put-same x p b

put-other : (x : List ℕ) (p b i : ℕ) → i ≢ p → get_or (put x p b) i 0 ≡ get_or x i 0
unfolding put
put-other [] zero b zero h = absurd (h refl)
put-other [] zero b (suc i) h = refl
put-other [] (suc p) b zero h = refl
put-other [] (suc p) b (suc i) h = put-other [] p b i (λ e. h (ap suc e))
put-other (y ∷ x) zero b zero h = absurd (h refl)
put-other (y ∷ x) zero b (suc i) h = refl
put-other (y ∷ x) (suc p) b zero h = refl
put-other (y ∷ x) (suc p) b (suc i) h = put-other x p b i (λ e. h (ap suc e))

pub held-put : {buf x : List ℕ} (p b : ℕ) → Held buf x → Held (set buf p b) (put x p b)
held-put {buf} {x} p b h = record { each = λ i l. go i (rw (length-set buf p b) at l) (ℕ_discrete i p) }
  where
    go : (i : ℕ) → i < length buf → Dec (i ≡ p) → get_or (set buf p b) i 0 ≡ get_or (put x p b) i 0
    go i l (yes e) = rw e (get_or-set_same buf p b 0 (omega arith) ∙ sym (put-same x p b))
    go i l (no n) = get_or-set_other buf p i b 0 n ∙ h.each i l ∙ sym (put-other x p b i n)

alike-put : {x y : List ℕ} (p b : ℕ) → Alike x y → Alike (put x p b) (put y p b)
alike-put {x} {y} p b h = record { each = λ i. go i (ℕ_discrete i p) }
  where
    go : (i : ℕ) → Dec (i ≡ p) → get_or (put x p b) i 0 ≡ get_or (put y p b) i 0
    go i (yes e) = rw e (put-same x p b ∙ sym (put-same y p b))
    go i (no n) = put-other x p b i n ∙ h.each i ∙ sym (put-other y p b i n)

-- ---- bytes, and pieces

unfoldable pub put_bytes : ℕ → List ℕ → List ℕ → List ℕ
put_bytes p [] x = x
put_bytes p (b ∷ bs) x = put_bytes (suc p) bs (put x p b)

unfoldable pub put_all : List Piece → List ℕ → List ℕ
put_all [] x = x
put_all (q ∷ qs) x = put_all qs (put_bytes q.place q.bytes x)

held-bytes : {buf x : List ℕ} (p : ℕ) (bs : List ℕ) → Held buf x → Held (lay p bs buf) (put_bytes p bs x)
unfolding lay put_bytes
held-bytes p [] h = h
held-bytes {buf} {x} p (b ∷ bs) h = held-bytes {buf = set buf p b} {x = put x p b} (suc p) bs (held-put p b h)

pub held-all : {buf x : List ℕ} (ps : List Piece) → Held buf x → Held (lay_all ps buf) (put_all ps x)
unfolding lay_all put_all
held-all [] h = h
held-all {buf} {x} (q ∷ qs) h =
    held-all {buf = lay q.place q.bytes buf} {x = put_bytes q.place q.bytes x} qs (held-bytes q.place q.bytes h)

alike-bytes : {x y : List ℕ} (p : ℕ) (bs : List ℕ) → Alike x y → Alike (put_bytes p bs x) (put_bytes p bs y)
unfolding put_bytes
alike-bytes p [] h = h
alike-bytes {x} {y} p (b ∷ bs) h = alike-bytes {x = put x p b} {y = put y p b} (suc p) bs (alike-put p b h)

pub alike-all : {x y : List ℕ} (ps : List Piece) → Alike x y → Alike (put_all ps x) (put_all ps y)
unfolding put_all
alike-all [] h = h
alike-all {x} {y} (q ∷ qs) h =
    alike-all {x = put_bytes q.place q.bytes x} {y = put_bytes q.place q.bytes y} qs (alike-bytes q.place q.bytes h)

-- ---- where the bytes come to stand

-- behind the end
pub put-end : (x : List ℕ) (b : ℕ) → put x (length x) b ≡ x ++ (b ∷ [])
unfolding put
put-end [] b = refl
put-end (y ∷ x) b = ap (λ (r : List ℕ). y ∷ r) (put-end x b)

pub bytes-end : (p : ℕ) (bs x : List ℕ) → p ≡ length x → put_bytes p bs x ≡ x ++ bs
unfolding put_bytes
bytes-end p [] x e = sym (append-nil x)
bytes-end p (b ∷ bs) x e =
    rw (e, put-end x b) (bytes-end (suc (length x)) bs (x ++ (b ∷ [])) (rw (length-append x (b ∷ [])) (omega arith)) ∙ append_assoc x (b ∷ []) bs)

-- k bytes behind x
pub put-front : (x y : List ℕ) (k b : ℕ) → put (x ++ y) (length x + k) b ≡ x ++ put y k b
unfolding put
put-front [] y k b = rw (zero-add k)
put-front (c ∷ x) y k b = rw (suc-add (length x) k) (ap (λ (r : List ℕ). c ∷ r) (put-front x y k b))

-- over the byte behind x, and over the one behind that
pub put-first : (x y : List ℕ) (p b c : ℕ) → p ≡ length x → put (x ++ (b ∷ y)) p c ≡ x ++ (c ∷ y)
unfolding put
put-first x y p b c e = let d : p ≡ length x + 0 = omega arith in rw d (put-front x (b ∷ y) 0 c)

pub put-second : (x y : List ℕ) (p a b c : ℕ) → p ≡ length x + 1 → put (x ++ (a ∷ b ∷ y)) p c ≡ x ++ (a ∷ c ∷ y)
unfolding put
put-second x y p a b c e = rw e (put-front x (a ∷ b ∷ y) 1 c)

-- behind what is alike
pub laid-end : {bs x : List ℕ} (p : ℕ) (ps : List ℕ) → p ≡ length x → Alike bs x → Alike (put_bytes p ps bs) (x ++ ps)
laid-end {x} p ps e h = alike-next (alike-bytes p ps h) (alike-same (bytes-end p ps x e))
