-- One turn of `table_end`, as the definition has it. The loop's invariant: what is left of the records answers for the whole input.
-- Assumes nothing.
use Prim.Native.Nat.{ℕ, zero, suc, ◌+◌, ◌-◌, ◌<◌, ◌≤◌}
use mathlib.Core.Path.{◌≡◌, refl, sym, ap, ◌∙◌}
use mathlib.Core.Logic.{◌≢◌}
use mathlib.Core.List.{List}
use native.Mathlib.Omega.{arith}
use lib.ListN.{length, get_or}
use borrow.Author.Tests.{eq-eqb, ne_eqb, le-leb, lt-leb}
use Rattle.std.specs.Prelude.{Option, Some, None}
use Rattle.model.specs.declared.Kind.{Kind}
use Rattle.model.specs.declared.Kind.TheVariants.{EndOfTable}
use Rattle.model.specs.Records.{kind_of, size_of}
use Rattle.run_input.specs.Input.{known_size, size_at, end_at, end_from, table_end, EndsAt}
use Rattle.run_input.proofs.KindBytes.{kind-end, end-kind, some-size}

pub record Left (t : List ℕ) (p n : ℕ) : Type 0 where
  pub same : table_end t ≡ end_from n t p

pub first : (t : List ℕ) → Left t 0 (length t)
unfolding table_end
first t = record { same = refl }

past : (n : ℕ) (t : List ℕ) (p : ℕ) → length t ≤ p → end_from n t p ≡ length t
unfolding end_from end_at
past zero t p h = refl
past (suc n) t p h = rw (le-leb (length t) p h)

turn : (n : ℕ) (t : List ℕ) (p : ℕ) → 0 < n → end_from n t p ≡ end_at t p (end_from (n - 1) t)
unfolding end_from
turn zero t p h = absurd (omega arith)
turn (suc m) t p h = let k : suc m - 1 ≡ m = omega arith in rw k

module _ {t : List ℕ} {p n : ℕ} (l : Left t p n) where
  pub ended : length t ≤ p → EndsAt t (length t)
  ended g = record { is = sym (l.same ∙ past n t p g); within = omega arith }

  module _ (h : 0 < n) (inside : p < length t) where
    go : table_end t ≡ end_at t p (end_from (n - 1) t)
    go = l.same ∙ turn n t p h

    pub end-record : get_or t p 0 ≡ 8 → EndsAt t (p + 1)
    unfolding end_at
    end-record e = record { is = sym (go ∙ rw (lt-leb (length t) p inside, eq-eqb (get_or t p 0) 8 e)); within = omega arith }

    -- the record is no end record, and s is its size
    module _ (other : get_or t p 0 ≢ 8) {s : ℕ} (size : s ≡ size_at t p) where
      pub unknown : s ≡ 0 → EndsAt t (length t)
      unfolding end_at
      unknown e =
          let z : size_at t p ≡ 0 = sym size ∙ e in
          record {
            is = sym (go ∙ rw (lt-leb (length t) p inside, ne_eqb (get_or t p 0) 8 other, eq-eqb (size_at t p) 0 z));
            within = omega arith;
          }

      module _ (known : s ≢ 0) where
        behind : table_end t ≡ end_from (n - 1) t (p + s)
        unfolding end_at
        behind =
            let k : size_at t p ≢ 0 = λ (e : size_at t p ≡ 0). known (size ∙ e) in
            rw size (go ∙ rw (lt-leb (length t) p inside, ne_eqb (get_or t p 0) 8 other, ne_eqb (size_at t p) 0 k))

        pub next : Left t (p + s) (n - 1)
        next = record { same = behind }

-- ---- the loop

-- what is left of the records from p on, as many as there can be
pub record Going (t : List ℕ) (p : ℕ) : Type 0 where
  pub fuel : ℕ
  pub left : Left t p fuel
  pub enough : length t ≤ p + fuel

pub begins : (t : List ℕ) → Going t 0
begins t = record { fuel = length t; left = first t; enough = omega arith }

module _ {t : List ℕ} {p : ℕ} (g : Going t p) where
  pub out : length t ≤ p → EndsAt t (length t)
  out h = ended g.left h

  module _ (inside : p < length t) {b : ℕ} (at : b ≡ get_or t p 0) {o : Option Kind} (kind : o ≡ kind_of b) where
    same-size : known_size o ≡ size_at t p
    same-size = ap known_size kind ∙ ap (λ (b : ℕ). known_size (kind_of b)) at

    pub at-unknown : o ≡ None → EndsAt t (length t)
    at-unknown e =
        let other : get_or t p 0 ≢ 8 = λ z. (let y : ◌≡◌ {A = Option Kind} (Some EndOfTable) None = sym (end-kind b (at ∙ z)) ∙ sym kind ∙ e in cc) in
        unknown g.left (omega (arith, g.enough)) inside other (ap known_size (sym e) ∙ same-size) refl

    module _ {k : Kind} (some : o ≡ Some k) where
      pub at-end : k ≡ EndOfTable → EndsAt t (p + 1)
      at-end e = end-record g.left (omega (arith, g.enough)) inside (sym at ∙ kind-end b (sym kind ∙ some ∙ ap Some e))

      pub goes-on : (k ≡ EndOfTable → ⊥) → {s : ℕ} → s ≡ size_of k → Going t (p + s)
      goes-on d {s} e =
          let other : get_or t p 0 ≢ 8 = λ z. (let y : ◌≡◌ {A = Option Kind} (Some k) (Some EndOfTable) = sym some ∙ kind ∙ end-kind b (at ∙ z) in d cc) in
          let size : s ≢ 0 = λ z. some-size k (sym e ∙ z) in
          record {
            fuel = g.fuel - 1;
            left = next g.left (omega (arith, g.enough)) inside other (e ∙ ap known_size (sym some) ∙ same-size) size;
            enough = omega (arith, g.enough, size);
          }
