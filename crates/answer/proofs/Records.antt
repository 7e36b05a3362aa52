-- The record of a fact, and the records of some facts: one fact more is one more record behind them.
use Prim.Native.Nat.{ℕ, zero, suc, ◌+◌, ◌*◌, ◌≤◌, ◌<◌}
use mathlib.Core.Path.{◌≡◌, refl, sym, ◌∙◌}
use mathlib.Core.List.{List, [], ◌∷◌, ◌++◌, append_assoc, append-nil}
use native.Mathlib.Omega.{arith}
use native.Mathlib.Numerals.{add-one}
use borrow.Rule.Slice.PartMut.{put_mid}
use lib.IntN.{ℤ}
use lib.ListN.{length, set, drop, get_or, take, drop_of_length-le}
use Rattle.std.proofs.lemmas.List.{take_more, take_all}
use Rattle.wire.specs.Wire.{bytes4, bits_of, put_u32}
use Rattle.model.specs.declared.Stored.{Stored}
use Rattle.model.specs.Answer.{argument, stored_bytes, answer_bytes, answered}
use Rattle.model.proofs.Results.{stored-length}
use Rattle.answer.proofs.Pasting.{Begins, nothing-yet, more-byte, more-word, more-part}

-- ---- a fact's record: what comes before its arguments, and the first k of these

unfoldable pub written : Stored → ℕ → List ℕ
written f zero = 17 ∷ (bytes4 f.id.0 ++ (f.fact.symbol.0 ∷ []))
written f (suc k) = written f k ++ bytes4 (bits_of (argument f.fact k))

pub record Writing (f : Stored) (s u : List ℕ) (k : ℕ) : Type 0 where
  pub so_far : Begins s (6 + 4 * k) (written f k) u
  pub room : length s ≡ 22

pub writing-begins : (f : Stored) {s u : List ℕ} → length s ≡ 22 → u ≡ put_u32 (set s 0 17) 1 f.id.0 → Writing f s (set u 5 f.fact.symbol.0) 0
unfolding written bytes4
writing-begins f {s} h e =
    let kind = more-byte (nothing-yet s) 17 (omega arith) refl in
    record { so_far = more-byte (more-word kind f.id.0 (omega arith) e) f.fact.symbol.0 (omega arith) refl; room = h }

pub writing-more : {f : Stored} {s u v : List ℕ} {k : ℕ} → Writing f s u k → k < 4 → {z : ℤ} → z ≡ argument f.fact k → v ≡ put_u32 u (6 + 4 * k) (bits_of z)
    → Writing f s v (k + 1)
unfolding written
writing-more {f} {k = k} w h ze e =
    let more = more-word w.so_far (bits_of (argument f.fact k)) (omega (arith, w.room)) (rw ze at e) in
    let n : 6 + 4 * k + 4 ≡ 6 + 4 * suc k = omega arith in
    record { so_far = rw add-one (rw n at more); room = w.room }

pub writing-done : {f : Stored} {s u : List ℕ} {k : ℕ} → Writing f s u k → k ≡ 4 → u ≡ stored_bytes f
unfolding written stored_bytes bytes4
writing-done {f} {s} {u} w e =
    let none : drop 22 s ≡ [] = drop_of_length-le s {i = 22} (omega (arith, w.room)) in
    (rw e at w.so_far).same ∙ rw none refl

-- ---- the records

bytes-append : (fs gs : List Stored) → answer_bytes (fs ++ gs) ≡ answer_bytes fs ++ answer_bytes gs
unfolding answer_bytes
bytes-append [] gs = refl
bytes-append (f ∷ fs) gs = rw (bytes-append fs gs) (sym (append_assoc (stored_bytes f) (answer_bytes fs) (answer_bytes gs)))

-- the buffer begins with the records of the first k facts
abbrev pub Answering : List Stored → List ℕ → List ℕ → ℕ → Type 0
Answering fs s u k = Begins s (22 * k) (answer_bytes (take k fs)) u

pub answering-begins : (fs : List Stored) (s : List ℕ) → Answering fs s s 0
unfolding answer_bytes
answering-begins fs s = nothing-yet s

pub answering-more : (fs : List Stored) {s u v : List ℕ} {k : ℕ} → Answering fs s u k → 22 * length fs ≤ length s → k < length fs
    → (f : Stored) {m : ℕ} {x : List ℕ} → m ≡ 22 → x ≡ stored_bytes (get_or fs k f) → v ≡ put_mid (22 * k) m u x → Answering fs s v (k + 1)
unfolding answer_bytes
answering-more fs {s} {u} {k = k} b room h f me xe e =
    let n : 22 * k + 22 ≡ 22 * (k + 1) = omega arith in
    let record_long : length (stored_bytes (get_or fs k f)) ≡ 22 = stored-length (get_or fs k f) in
    let more = more-part b 22 (stored_bytes (get_or fs k f)) record_long (omega arith) (rw (me, xe) at e) in
    rw (take_more fs k f h, bytes-append (take k fs) (get_or fs k f ∷ []), append-nil (stored_bytes (get_or fs k f))) (rw n at more)

pub answering-done : (fs : List Stored) {s u : List ℕ} {k : ℕ} → Answering fs s u k → k ≡ length fs → u ≡ answered fs s
unfolding answered
answering-done fs {s} {u} {k} b e = b.same ∙ rw (e, take_all (length fs) fs (omega arith)) refl
