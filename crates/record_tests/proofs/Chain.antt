-- One test of a record after another: `refuse_if` answers `cond b (refused n p) (Ok tt)`, and the definition goes on behind a test that passes.
use Prim.Native.Nat.{ℕ, ◌+◌, ◌-◌, ◌<◌, ◌≤◌}
use mathlib.Core.Path.{◌≡◌, refl, sym, ◌∙◌}
use mathlib.Core.Bool.{Bool, true, false, cond}
use native.Mathlib.Omega.{arith}
use lib.Dec.{ltb}
use borrow.Author.Tests.{ltb-true, ltb-false, lt-ltb, le-ltb, lt-leb}
use mathlib.Core.List.{List}
use lib.ListN.{length, get_or}
use Rattle.std.specs.Prelude.{Option, Some, None, Result, Ok, Err}
use Rattle.model.specs.Refusals.{Verdict, refused}
use Rattle.model.specs.declared.Reason.{Reason}
use Rattle.model.specs.declared.Reason.TheVariants.{UnknownKind}
use Rattle.model.specs.declared.Refusal.{Refusal}
use Rattle.model.specs.declared.Kind.{Kind}
use Rattle.model.specs.declared.Scan.{Scan}
use Rattle.model.specs.Records.{kind_of}
use Rattle.model.specs.Reading.{tested_of, known_of, record_of}

-- whether a record is cut short: the code's test cannot wrap
pub cut-told : {n at : ℕ} {size : ℕ} (size' : ℕ) → at < n → size ≡ size' → ltb (n - at) size ≡ ltb n (at + size')
cut-told {n} {at} {size} size' h d = rw d (go (ltb n (at + size')) refl)
  where
    go : (b : Bool) → ltb n (at + size') ≡ b → ltb (n - at) size' ≡ b
    go true e = let g : n < at + size' = ltb-true n (at + size') e in lt-ltb (n - at) size' (omega arith)
    go false e = let g : at + size' ≤ n = ltb-false n (at + size') e in le-ltb (n - at) size' (omega arith)

module _ {T : Type 0} (b : Bool) (n : Reason) (p : ℕ) (y : Result T Refusal) {r : Verdict} {d : Bool} (g : r ≡ cond d (refused n p) (Ok tt)) (f : d ≡ b) where
  pub refuses : {e : Refusal} → r ≡ Err e → ◌≡◌ {A = Result T Refusal} (Err e) (cond b (refused n p) y)
  refuses {e} h = go b (sym h ∙ g ∙ (λ i. cond (f i) (refused n p) (Ok tt)))
    where
      go : (b : Bool) → ◌≡◌ {A = Verdict} (Err e) (cond b (refused n p) (Ok tt)) → ◌≡◌ {A = Result T Refusal} (Err e) (cond b (refused n p) y)
      go true q = cc
      go false q = let z : ◌≡◌ {A = ℕ} 0 1 = cc in absurd (omega arith)

  pub passes : {z : Result T Refusal} → r ≡ Ok tt → z ≡ y → z ≡ cond b (refused n p) y
  passes {z} h e = go b (sym h ∙ g ∙ (λ i. cond (f i) (refused n p) (Ok tt)))
    where
      go : (b : Bool) → ◌≡◌ {A = Verdict} (Ok tt) (cond b (refused n p) (Ok tt)) → z ≡ cond b (refused n p) y
      go true q = let z : ◌≡◌ {A = ℕ} 0 1 = cc in absurd (omega arith)
      go false q = e

-- ---- a record where there is a byte, by its kind

module _ (t : List ℕ) (s : Scan) (here : s.at < length t) {o : Option Kind} (e : o ≡ kind_of (get_or t s.at 0)) where
  pub unknown : o ≡ None → refused UnknownKind s.at ≡ record_of t s
  unfolding record_of known_of
  unknown d = rw (lt-leb (length t) s.at here, ← e, d)

  pub known : {k : Kind} → o ≡ Some k → tested_of t s k ≡ record_of t s
  unfolding record_of known_of
  known d = rw (lt-leb (length t) s.at here, ← e, d)
