-- What the test of a mark says, that a place is a head of the table, and what a mark is after an answer.
use Prim.Native.Nat.{ℕ, suc, ◌+◌, ◌-◌, ◌<◌}
use mathlib.Core.Path.{◌≡◌, sym, ap, subst, ◌∙◌}
use Rattle.std.specs.Prelude.{Option, Some, slice_get}
use mathlib.Core.List.{List}
use native.Mathlib.Omega.{arith}
use lib.ListN.{length}
use Rattle.model.specs.declared.Symbol.{Symbol}
use Rattle.model.specs.declared.HeadPlace.{HeadPlace}
use Rattle.std.specs.Prelude.{Ok}
use Rattle.model.specs.Reading.{read_of}
use Rattle.model.specs.Table.{table_of, places}
use Rattle.model.proofs.Lists.{OptionIs, index-is}
use Rattle.model.proofs.Good.{GoodTable, good-table}
use Rattle.model.proofs.Decoded.{PlaceShape, places-shape}
use Rattle.occurrences.specs.declared.Mark.{Mark}
use Rattle.occurrences.specs.Counting.{places_left, Standing, Marked}
use Rattle.occurrences.proofs.Elements.{elem-drop}
use Rattle.occurrences.proofs.Behind.{behind-place}

-- the place of an occurrence is a head of the table
pub placed-stands : (t : List ℕ) → GoodTable t → (s : Symbol) (i : ℕ) (p : HeadPlace) → slice_get (places (table_of t) s) i ≡ Some p → Standing t p
placed-stands t g s i p e =
    let l = places (table_of t) s in
    let w = subst (OptionIs (λ (x : HeadPlace). PlaceShape t x × (i < length l))) e (index-is (PlaceShape t) l i (places-shape t g s)) in
    record { rule_in = w.0.rule_in; head_in = w.0.head_in }

-- ---- what a mark tells, on a place of the symbol that is asked for

module _ {t : List ℕ} {mark : Option Mark} (w : Marked t mark) {m : Mark} (is : mark ≡ Some m) (s : Symbol) (e : m.symbol.0 ≡ s.0) where
  here : slice_get (places (table_of t) s) m.index ≡ Some m.place
  here = ap (λ (x : ℕ). slice_get (places (table_of t) (record { 0 = x })) m.index) (sym e) ∙ w.here m is

  pub stands-there : {i : ℕ} → m.index ≡ i → Some m.place ≡ slice_get (places (table_of t) s) i
  stands-there q = rw (← q) (sym here)

  pub standing : (read_of t).verdict ≡ Ok tt → Standing t m.place
  standing g = placed-stands t (good-table t g) s m.index m.place here

  -- behind it
  pub leads-there : {i : ℕ} → m.index < i → {r : Option HeadPlace}
      → r ≡ slice_get (places_left (table_of t) s m.place.rule.0 m.place.head) (i - m.index - 1) → r ≡ slice_get (places (table_of t) s) i
  leads-there {i} l q =
      let at : suc m.index + (i - m.index - 1) ≡ i = omega arith in
      q
      ∙ ap (λ (x : List HeadPlace). slice_get x (i - m.index - 1)) (sym (behind-place (table_of t) s m.index m.place here))
      ∙ elem-drop (places (table_of t) s) (suc m.index) (i - m.index - 1)
      ∙ ap (slice_get (places (table_of t) s)) at
