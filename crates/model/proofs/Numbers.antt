-- The numbers that the call of a run gives are exactly 0 to 7, 16 to 23 and 32 to 36. No other: a refusal has a number of its sort, and every other
-- run ends as the definition's does. Each of them: some worked case has it, on bytes.
use Prim.Native.Nat.{ℕ, zero, suc, ◌+◌, ◌≤◌, ◌<◌}
use native.Mathlib.Omega.{arith}
use native.Mathlib.Nat.{eq-or-lt_of_le}
use mathlib.Core.Path.{◌≡◌, refl, sym, ◌∙◌}
use mathlib.Core.Logic.{◌⊎◌, inl, inr}
use mathlib.Core.Bool.{Bool, true, false, ◌&&◌, ◌||◌}
use mathlib.Core.List.Memᴰ
use mathlib.Core.List.{List, [], ◌∷◌, ◌++◌, Memᴰ}
use lib.Dec.{T, eqb, ltb}
use lib.ListN.{replicate, get_or}
use borrow.Author.Tests.{eqb-true, ltb-true}
use Rattle.std.specs.Prelude.{Err}
use Rattle.model.specs.declared.Refusal.{Refusal}
use Rattle.model.specs.Refusals.{number_of}
use Rattle.model.specs.Reading.{read_of}
use Rattle.model.specs.Table.{table_of}
use Rattle.model.specs.Steps.{start}
use Rattle.model.specs.Goal.{goal_of}
use Rattle.model.specs.Calls.{RunOutput, output_of, run_of}
use Rattle.model.proofs.Every.{every}
use Rattle.model.proofs.Lists.{every-mem, and-left, and-right}
use Rattle.model.proofs.Good.{refusal-small}
use Rattle.model.proofs.Ranges.{AreBytes}
use Rattle.model.proofs.Endings.{run-ends}
use Rattle.model.proofs.Results.{Refuses, call-cases}
use Rattle.model.proofs.Build.{Bytes}
use Rattle.model.proofs.Cases.{Case, runs, checks, weighs, cases, same, numbers_of, ran, agrees, all_agree, worked_runs}
use Rattle.model.proofs.Cases.{run_numbers, are_bytes, gives, some_gives, all_given, given_numbers}

-- a call on bytes, with a buffer of so many bytes and a limit of 32 bits, gives n
pub record GivenBy (n : ℕ) : Type 0 where
  pub table : List ℕ
  pub goal : List ℕ
  pub limit : ℕ
  pub room : ℕ
  pub table_bytes : AreBytes table
  pub goal_bytes : AreBytes goal
  pub fits : limit < 4294967296
  pub number : (run_of table goal limit (replicate room 165)).result.number ≡ n

pub record ExactNumbers : Type 0 where
  pub only : (t g : List ℕ) (limit : ℕ) (buffer : List ℕ) → Memᴰ (run_of t g limit buffer).result.number run_numbers
  pub each : (n : ℕ) → Memᴰ n run_numbers → GivenBy n

-- ---- no other

abbrev up_from : ℕ → ℕ → List ℕ
up_from i zero = []
up_from i (suc k) = i ∷ up_from (suc i) k

among : (i k n : ℕ) → i ≤ n → n < i + k → Memᴰ n (up_from i k)
among i zero n l h = absurd (omega arith)
among i (suc k) n l h = go (λ m. among (suc i) k n m (omega arith)) (eq-or-lt_of_le l)
  where
    go : (i < n → Memᴰ n (up_from (suc i) k)) → (i ≡ n) ⊎ (i < n) → Memᴰ n (up_from i (suc k))
    go further (inl e) = Memᴰ.head (sym e)
    go further (inr m) = Memᴰ.tail (further m)

ending : (n : ℕ) → n ≤ 7 → Memᴰ n run_numbers
ending n l = Memᴰ.append_left {s = up_from 0 8} (up_from 16 8 ++ up_from 32 5) (among 0 8 n (omega arith) (omega arith))

refusing : (t : List ℕ) (r : Refusal) → Refuses t r → Memᴰ (number_of r.reason) run_numbers
refusing t r k = Memᴰ.append_right (up_from 0 8) (go k.sort)
  where
    go : ((read_of t).verdict ≡ Err r) ⊎ (32 ≤ number_of r.reason) → Memᴰ (number_of r.reason) (up_from 16 8 ++ up_from 32 5)
    go (inl e) = Memᴰ.append_left (up_from 32 5) (among 16 8 (number_of r.reason) k.low (omega (arith, (refusal-small t r e).high)))
    go (inr l) = Memᴰ.append_right (up_from 16 8) (among 32 5 (number_of r.reason) l (omega (arith, k.high)))

-- ---- each of them

holds : (b : Bool) → T b → b ≡ true
holds true x = refl
holds false x = absurd x

are-bytes : (bs : Bytes) → are_bytes bs ≡ true → AreBytes bs
unfolding are_bytes
are-bytes [] e = tt
are-bytes (b ∷ bs) e = (ltb-true b 256 (and-left (ltb b 256) (are_bytes bs) e), are-bytes bs (and-right (ltb b 256) (are_bytes bs) e))

same-first : (x : ℕ) (xs ys : List ℕ) → same (x ∷ xs) ys ≡ true → x ≡ get_or ys 0 0
unfolding same
same-first x xs [] e = absurd cc
same-first x xs (y ∷ ys) e = eqb-true x y (and-left (eqb x y) (same xs ys) e)

one-gives : (n : ℕ) (c : Case) → agrees c ≡ true → gives n c ≡ true → GivenBy n
unfolding agrees gives ran numbers_of
one-gives n (runs t g limit room ns a) w e =
    let rest = and-right (eqb (get_or ns 0 0) n) (ltb limit 4294967296 && (are_bytes t && are_bytes g)) e in
    let bytes = and-right (ltb limit 4294967296) (are_bytes t && are_bytes g) rest in
    record {
      table = t;
      goal = g;
      limit = limit;
      room = room;
      table_bytes = are-bytes t (and-left (are_bytes t) (are_bytes g) bytes);
      goal_bytes = are-bytes g (and-right (are_bytes t) (are_bytes g) bytes);
      fits = ltb-true limit 4294967296 (and-left (ltb limit 4294967296) (are_bytes t && are_bytes g) rest);
      number = same-first (run_of t g limit (replicate room 165)).result.number _ ns (and-left _ _ w)
          ∙ eqb-true (get_or ns 0 0) n (and-left (eqb (get_or ns 0 0) n) _ e);
    }
one-gives n (checks t ns) w e = absurd cc
one-gives n (weighs t v g ns) w e = absurd cc

some-gives : (n : ℕ) (cs : List Case) → all_agree cs ≡ true → some_gives n cs ≡ true → GivenBy n
unfolding all_agree some_gives
some-gives n [] w e = absurd cc
some-gives n (c ∷ cs) w e = go (some-gives n cs (and-right (agrees c) (all_agree cs) w)) (gives n c) refl e
  where
    go : (some_gives n cs ≡ true → GivenBy n) → (b : Bool) → gives n c ≡ b → (b || some_gives n cs) ≡ true → GivenBy n
    go later true q e = one-gives n c (and-left (agrees c) (all_agree cs) w) q
    go later false q e = later e

all-given : (ns : List ℕ) (cs : List Case) → all_agree cs ≡ true → all_given ns cs ≡ true → every GivenBy ns
unfolding all_given
all-given [] cs w e = tt
all-given (n ∷ ns) cs w e = (
  some-gives n cs w (and-left (some_gives n cs) (all_given ns cs) e),
  all-given ns cs w (and-right (some_gives n cs) (all_given ns cs) e),
)

-- ---- the theorem

pub exact-numbers : ExactNumbers
unfolding output_of
exact-numbers = record {
  only = λ t g limit buffer. call-cases (λ (o : RunOutput). Memᴰ o.result.number run_numbers) t g limit buffer (refusing t)
      (λ k. ending _ (run-ends (table_of t) limit (start (goal_of g))).number);
  each = every-mem GivenBy run_numbers
      (all-given run_numbers cases (holds (all_agree cases) worked_runs) (holds (all_given run_numbers cases) given_numbers));
}
