-- What kind of transition a state allows is no choice: where Default is possible, neither Simplify nor Propagate is; Simplify and Propagate are not
-- possible at once; where Drop is possible, none of the three is. For the entry on top tells the occurrence, and with it the head and the rule.
-- What is left open is which instance fires.
use Prim.Native.Nat.{ℕ}
use native.Mathlib.Omega.{arith}
use mathlib.Core.Path.{◌≡◌, sym, ◌∙◌, ap, subst}
use Rattle.std.specs.Prelude.{Some, None}
use mathlib.Core.List.{List, ◌∷◌}
use lib.ListN.{length}
use Rattle.model.specs.declared.FactId.{FactId}
use Rattle.model.specs.declared.Symbol.{Symbol}
use Rattle.model.specs.declared.Occurrence.{Occurrence}
use Rattle.model.specs.declared.Item.TheVariants.{Active}
use Rattle.model.specs.declared.Entry.{Entry}
use Rattle.model.specs.declared.Stored.{Stored}
use Rattle.model.specs.declared.Binding.{Binding}
use Rattle.model.specs.declared.HeadPlace.{HeadPlace}
use Rattle.model.specs.Table.{Table, rule_at}
use Rattle.model.specs.declared.Fired.{Fired}
use Rattle.model.specs.Steps.{State, active_entry}
use Rattle.semantics.specs.Refined.{occurrence, Trying, Applies, Drop, Simplify, Propagate, Default}

-- ---- the entry on top tells symbol, identifier and occurrence

module _ (s s' : Symbol) (i i' : FactId) (j j' : ℕ) (es es' : List Entry) (e : active_entry s i j ∷ es ≡ active_entry s' i' j' ∷ es') where
  first : active_entry s i j ≡ active_entry s' i' j'
  first = cc

  pub same-symbol : s ≡ s'
  same-symbol = ap (λ (x : Entry). x.symbol) first

  item : Active i (record { 0 = j }) ≡ Active i' (record { 0 = j' })
  item = ap (λ (x : Entry). x.item) first

  pub same-id : i ≡ i'
  same-id = cc item

  pub same-j : j ≡ j'
  same-j = let o : ◌≡◌ {A = Occurrence} (record { 0 = j }) (record { 0 = j' }) = cc item in ap (λ (x : Occurrence). x.0) o

module _ (t : Table) {A : List Entry} (a a' : Trying t A) where
  pub tops : active_entry a.symbol a.id a.j ∷ a.under ≡ active_entry a'.symbol a'.id a'.j ∷ a'.under
  tops = sym a.top ∙ a'.top

  ids : a.id ≡ a'.id
  ids = same-id a.symbol a'.symbol a.id a'.id a.j a'.j a.under a'.under tops

  at : occurrence t a.symbol a.j ≡ occurrence t a'.symbol a'.j
  at =
      let s = same-symbol a.symbol a'.symbol a.id a'.id a.j a'.j a.under a'.under tops in
      let n = same-j a.symbol a'.symbol a.id a'.id a.j a'.j a.under a'.under tops in
      ap (λ (x : Symbol). occurrence t x a.j) s ∙ ap (occurrence t a'.symbol) n

  pub same-place : a.place ≡ a'.place
  same-place = let e : Some a.place ≡ Some a'.place = sym a.occurs ∙ at ∙ a'.occurs in cc e

  -- what holds of the one holds of the other
  pub same-try : (P : HeadPlace → FactId → Type 0) → P a.place a.id → P a'.place a'.id
  same-try P u = subst (P a'.place) ids (subst (λ (p : HeadPlace). P p a.id) same-place u)

  -- an instance that applies to the one applies to the other
  pub same-applies : (S : List Stored) (T : List Fired) (facts : List Stored) (θ : Binding) → Applies t S T a.place a.id facts θ
      → Applies t S T a'.place a'.id facts θ
  same-applies S T facts θ u = same-try (λ (p : HeadPlace) (i : FactId). Applies t S T p i facts θ) u

module _ (t : Table) (σ τ τ' : State) where
  pub default-not-simplify : Default t σ τ → Simplify t σ τ' → ⊥
  default-not-simplify d s = d.none s.facts s.θ (same-applies t s.tried d.tried σ.store σ.history s.facts s.θ s.applies)

  pub default-not-propagate : Default t σ τ → Propagate t σ τ' → ⊥
  default-not-propagate d s = d.none s.facts s.θ (same-applies t s.tried d.tried σ.store σ.history s.facts s.θ s.applies)

  pub simplify-not-propagate : Simplify t σ τ → Propagate t σ τ' → ⊥
  simplify-not-propagate d s =
      let p = ap (λ (x : HeadPlace). x.head) (same-place t d.tried s.tried) in
      let k = ap (λ (x : HeadPlace). length (rule_at t x.rule).kept) (same-place t d.tried s.tried) in
      omega (arith, d.removed, s.kept, p, k)

  pub drop-not-tried : Drop t σ τ → Trying t σ.stack → ⊥
  drop-not-tried d a =
      let e : active_entry d.symbol d.id d.j ∷ τ.stack ≡ active_entry a.symbol a.id a.j ∷ a.under = sym d.top ∙ a.top in
      let s = same-symbol d.symbol a.symbol d.id a.id d.j a.j τ.stack a.under e in
      let n = same-j d.symbol a.symbol d.id a.id d.j a.j τ.stack a.under e in
      let o : None ≡ Some a.place = sym d.absent ∙ ap (λ (x : Symbol). occurrence t x d.j) s ∙ ap (occurrence t a.symbol) n ∙ a.occurs in
      cc o
