-- The sign at the front of some bytes, by its three first bytes.
use Prim.Native.Nat.{ℕ, zero, suc, ◌<◌}
use native.Mathlib.Omega.{arith}
use mathlib.Core.Path.{◌≡◌, refl, sym}
use mathlib.Core.Bool.{Bool, true, false, cond, ◌&&◌}
use mathlib.Core.List.{List, [], ◌∷◌}
use lib.Dec.{eqb}
use lib.ListN.{length, get_or}
use borrow.Author.Tests.{ne_eqb}
use Rattle.wire.specs.Wire.{byte_at}
use Rattle.grammar.specs.Tree.{equal, unequal, less, at_most, greater, at_least}
use Rattle.grammar.specs.Tree.{sum, difference, product, quotient, remainder}
use Rattle.text.specs.Token.{compares, operates, mark, simplifies, propagates, backslash, bar, opens, closes, comma, stop}
use Rattle.text.specs.Spelling.{Found, found, nothing, begins, signs, sign_of}

abbrev sign_by : ℕ → ℕ → ℕ → Found
sign_by a b c =
    cond (eqb a 60 && (eqb b 61 && eqb c 62)) (found (mark simplifies) 3)
    (cond (eqb a 61 && (eqb b 61 && eqb c 62)) (found (mark propagates) 3)
    (cond (eqb a 92 && eqb b 61) (found (compares unequal) 2)
    (cond (eqb a 61 && eqb b 60) (found (compares at_most) 2)
    (cond (eqb a 62 && eqb b 61) (found (compares at_least) 2)
    (cond (eqb a 92) (found (mark backslash) 1)
    (cond (eqb a 124) (found (mark bar) 1)
    (cond (eqb a 61) (found (compares equal) 1)
    (cond (eqb a 60) (found (compares less) 1)
    (cond (eqb a 62) (found (compares greater) 1)
    (cond (eqb a 43) (found (operates sum) 1)
    (cond (eqb a 45) (found (operates difference) 1)
    (cond (eqb a 42) (found (operates product) 1)
    (cond (eqb a 47) (found (operates quotient) 1)
    (cond (eqb a 37) (found (operates remainder) 1)
    (cond (eqb a 40) (found (mark opens) 1)
    (cond (eqb a 41) (found (mark closes) 1)
    (cond (eqb a 44) (found (mark comma) 1)
    (cond (eqb a 46) (found (mark stop) 1)
    nothing))))))))))))))))))

pub and-true : (a : Bool) → a && true ≡ a
and-true true = refl
and-true false = refl

pub and-false : (a : Bool) → a && false ≡ false
and-false true = refl
and-false false = refl

pub sign_bytes : (bs : List ℕ) → sign_of signs bs ≡ sign_by (byte_at bs 0) (byte_at bs 1) (byte_at bs 2)
unfolding sign_of signs begins
sign_bytes [] = refl
sign_bytes (a ∷ []) = simp (and-true, and-false)
sign_bytes (a ∷ b ∷ []) = simp (and-true, and-false)
sign_bytes (a ∷ b ∷ c ∷ bs) = simp (and-true, and-false)

pub byte_out : (bs : List ℕ) (i : ℕ) → length bs < suc i → get_or bs i 0 ≡ 0
byte_out [] i h = refl
byte_out (b ∷ bs) zero h = absurd (omega arith)
byte_out (b ∷ bs) (suc i) h = byte_out bs i (omega arith)

-- a byte that begins no sign
pub none_read : (bs : List ℕ) → (get_or bs 0 0 ≡ 60 → ⊥) → (get_or bs 0 0 ≡ 61 → ⊥) → (get_or bs 0 0 ≡ 62 → ⊥) → (get_or bs 0 0 ≡ 92 → ⊥)
    → (get_or bs 0 0 ≡ 124 → ⊥) → (get_or bs 0 0 ≡ 43 → ⊥) → (get_or bs 0 0 ≡ 45 → ⊥)
    → (get_or bs 0 0 ≡ 42 → ⊥) → (get_or bs 0 0 ≡ 47 → ⊥) → (get_or bs 0 0 ≡ 37 → ⊥) → (get_or bs 0 0 ≡ 40 → ⊥) → (get_or bs 0 0 ≡ 41 → ⊥)
    → (get_or bs 0 0 ≡ 44 → ⊥) → (get_or bs 0 0 ≡ 46 → ⊥) → nothing ≡ sign_of signs bs
none_read bs n60 n61 n62 n92 n124 n43 n45 n42 n47 n37 n40 n41 n44 n46 =
    let b = get_or bs 0 0 in
    sym (rw (
      sign_bytes bs,
      ne_eqb b 60 n60,
      ne_eqb b 61 n61,
      ne_eqb b 62 n62,
      ne_eqb b 92 n92,
      ne_eqb b 124 n124,
      ne_eqb b 43 n43,
      ne_eqb b 45 n45,
      ne_eqb b 42 n42,
      ne_eqb b 47 n47,
      ne_eqb b 37 n37,
      ne_eqb b 40 n40,
      ne_eqb b 41 n41,
      ne_eqb b 44 n44,
      ne_eqb b 46 n46,
    ))

pub ruleset sign_rules = (sign_bytes, byte_out, none_read)
