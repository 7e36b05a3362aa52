-- The parts of a rule lie in the table where the rule does: each head and the guards lie before the body items, and each of these before
-- the record behind it.
use Prim.Native.Nat.{ℕ, zero, suc, ◌+◌, ◌-◌, ◌*◌, ◌≤◌, ◌<◌}
use mathlib.Core.Path.{◌≡◌, sym, subst}
use mathlib.Core.Bool.{true}
use mathlib.Core.List.{List}
use native.Mathlib.Omega.{arith}
use native.Mathlib.Nat.{mul-le-mul_left}
use lib.ListN.{length}
use Rattle.model.specs.declared.RuleShape.{RuleShape}
use Rattle.model.specs.Table.{heads_start, guards_start, items_start, is_fact, behind_item}
use Rattle.model.proofs.Good.{ItemsIn, item-behind}
use Rattle.records.specs.Geometry.{ItemsLie}

-- ---- heads and guards, of a rule whose body items start at n at most

module _ (r : RuleShape) {n : ℕ} (parts_in : items_start r ≤ n) where
  pub heads-in : heads_start r + 22 * r.heads ≤ n
  heads-in = omega arith

  pub head-in : {k : ℕ} → k < r.heads → heads_start r + 22 * k + 22 ≤ n
  head-in {k} h = omega (arith, parts_in, mul-le-mul_left 22 h)

  pub guards-in : guards_start r + 24 * r.guards ≤ n
  guards-in = parts_in

-- ---- body items

pub items-lie : (t : List ℕ) (symbols p n : ℕ) → ItemsIn t symbols p n → ItemsLie t p n
items-lie t symbols p zero l = tt
items-lie t symbols p (suc n) l = (omega (arith, item-behind t p, l.0.lies), (l.0.lies, items-lie t symbols (behind_item t p) n l.1))

-- a fact
pub fact-lies : (t : List ℕ) (p : ℕ) {n : ℕ} → behind_item t p ≤ n → is_fact t p ≡ true → p + 46 ≤ n
unfolding behind_item
fact-lies t p l e = rw (e) at l

-- the first of the items that are left, and the rest
lie-first : (t : List ℕ) (p n : ℕ) → 0 < n → ItemsLie t p n → (p < length t) × ((behind_item t p ≤ length t) × ItemsLie t (behind_item t p) (n - 1))
lie-first t p zero h l = absurd (omega arith)
lie-first t p (suc n) h l = let e : suc n - 1 ≡ n = omega arith in rw e l

module _ (t : List ℕ) (p left : ℕ) (l : ItemsLie t p left) (h : 0 < left) where
  pub first-lies : (p < length t) × (behind_item t p ≤ length t)
  first-lies = let w = lie-first t p left h l in (w.0, w.1.0)

  pub first-in : p < length t
  first-in = first-lies.0

  pub rest-lies : {next : ℕ} → next ≡ behind_item t p → ItemsLie t next (left - 1)
  rest-lies q = subst (λ (x : ℕ). ItemsLie t x (left - 1)) (sym q) (lie-first t p left h l).1.1
