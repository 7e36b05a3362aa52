-- What `search` is handed in this crate, so that a definition that goes by tests is followed test by test.
--     tests     what turns a fact about numbers into the value of a test
--     any-four  four parts, gone through by `(0..4).any(..)`, as the definition names them
--     chain     `cond` and `◌||◌` by the value of their test, and a test that a callee answered: `flag` joins its `ensures` and the branch
use Prim.Native.Nat.{ℕ, ◌<◌, ◌≤◌}
use mathlib.Core.Path.{◌≡◌, refl, sym, ap, ◌∙◌, subst, subst₂}
use lib.Dec.{ltb, leb}
use mathlib.Core.Bool.{Bool, true, false, cond, ◌||◌, or-false}
use Rattle.std.specs.List.{list_any, range_with_len}
use borrow.Author.Tests.{eq-eqb, ne_eqb, lt-ltb, le-ltb, le-leb, lt-leb}

pub flag : {r d b : Bool} → r ≡ d → r ≡ b → d ≡ b
flag p q = sym p ∙ q

pub cond-stop : {A : Type 0} (b : Bool) (x y : A) {z : A} → b ≡ true → z ≡ x → z ≡ cond b x y
cond-stop b x y {z} p q = subst (λ (t : Bool). z ≡ cond t x y) (sym p) q

pub cond-skip : {A : Type 0} (b : Bool) (x y : A) {z : A} → b ≡ false → z ≡ y → z ≡ cond b x y
cond-skip b x y {z} p q = subst (λ (t : Bool). z ≡ cond t x y) (sym p) q

pub or-stop : (a b : Bool) → a ≡ true → true ≡ (a || b)
or-stop a b p = subst (λ (t : Bool). true ≡ (t || b)) (sym p) refl

pub or-skip : (a b : Bool) {r : Bool} → a ≡ false → r ≡ b → r ≡ (a || b)
or-skip a b {r} p q = subst (λ (t : Bool). r ≡ (t || b)) (sym p) q

pub or-first : (a b : Bool) {r : Bool} → r ≡ a → r ≡ true → r ≡ (a || b)
or-first a b {r} p q = subst (λ (t : Bool). r ≡ (t || b)) (sym q ∙ p) q

-- a test of each of four parts, which stand at these places
pub any-four : (f : ℕ → ℕ → Bool) (at : ℕ → ℕ) (p q r s : ℕ) → at 0 ≡ p → at 1 ≡ q → at 2 ≡ r → at 3 ≡ s
    → list_any (λ k. f k (at k)) (range_with_len 0 4) ≡ (f 0 p || (f 1 q || (f 2 r || f 3 s)))
any-four f at p q r s d e g h = rw (d, e, g, h) (ap (λ (x : Bool). f 0 p || (f 1 q || (f 2 r || x))) (or-false (f 3 s)))

-- a test of numbers that callees gave: `_ ≡ ..` is what the callee ensures
pub lt-told : {a b : ℕ} (a' b' : ℕ) → a ≡ a' → b ≡ b' → a < b → ltb a' b' ≡ true
lt-told a' b' p q h = lt-ltb a' b' (subst₂ (λ (x y : ℕ). x < y) p q h)

pub ge-told : {a b : ℕ} (a' b' : ℕ) → a ≡ a' → b ≡ b' → b ≤ a → ltb a' b' ≡ false
ge-told a' b' p q h = le-ltb a' b' (subst₂ (λ (x y : ℕ). y ≤ x) p q h)

pub lt-told-right : {b : ℕ} (a b' : ℕ) → b ≡ b' → a < b → ltb a b' ≡ true
lt-told-right a b' q h = lt-told a b' refl q h

pub ge-told-right : {b : ℕ} (a b' : ℕ) → b ≡ b' → b ≤ a → ltb a b' ≡ false
ge-told-right a b' q h = ge-told a b' refl q h

pub le-told-right : {b : ℕ} (a b' : ℕ) → b ≡ b' → a ≤ b → leb a b' ≡ true
le-told-right a b' q h = le-leb a b' (subst (λ (x : ℕ). a ≤ x) q h)

pub gt-told-right : {b : ℕ} (a b' : ℕ) → b ≡ b' → b < a → leb a b' ≡ false
gt-told-right a b' q h = lt-leb a b' (subst (λ (x : ℕ). x < a) q h)

pub ruleset tests = (eq-eqb, ne_eqb, lt-ltb, le-ltb, le-leb, lt-leb)

pub ruleset chain = (refl, flag, cond-stop, cond-skip, or-stop, or-first, or-skip, eq-eqb, ne_eqb, lt-ltb, le-ltb, le-leb, lt-leb)

pub ruleset told = (chain, lt-told, ge-told, lt-told-right, ge-told-right, le-told-right, gt-told-right)
