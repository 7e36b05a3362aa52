-- Figure 6 of document 001, the sequential part of the refined semantics of CHRe for 0-neighbor restricted rules, at one location.
--
-- A localized state ⟨U; G; S; H⟩k has the buffer U of what was sent to the location, the goals G (the execution stack), the store S and the
-- propagation history H. With one location there is no (MoveLoc), and (DropLoc) strips a location name that an entry here does not have. The figure
-- has no built-in: fail is transition Solve of document 004 (Refined).
use Rattle.std.specs.Prelude.{ℕ, zero, suc, ◌≤◌, ◌<◌, ◌≡◌, List, [], ◌∷◌, ◌++◌, map, length}
use Rattle.std.specs.Prelude.{None}
use Rattle.model.specs.declared.FactId.{FactId}
use Rattle.model.specs.declared.Symbol.{Symbol}
use Rattle.model.specs.declared.Fact.{Fact}
use Rattle.model.specs.declared.Item.{Item}
use Rattle.model.specs.declared.Item.TheVariants.{Waiting, Active, Fail}
use Rattle.model.specs.declared.Entry.{Entry}
use Rattle.model.specs.declared.Stored.{Stored}
use Rattle.model.specs.declared.Binding.{Binding}
use Rattle.model.specs.Table.{Table}
use Rattle.model.specs.declared.Fired.{Fired}
use Rattle.model.specs.Steps.{waiting, active_entry}
use Rattle.model.proofs.Every.{every}
use Rattle.semantics.specs.Instances.{firing}
use Rattle.semantics.specs.Refined.{SameSet, occurrence, Trying, rule_tried, Enabled, Applies, Fires}

pub record Local : Type 0 where
  pub U : List Fact
  pub G : List Entry
  pub S : List Stored
  pub H : List Fired

-- "d is a fresh identifier": no fact of S, no active entry of G and no firing of H has it
abbrev pub OtherItem : FactId → Item → Type 0
OtherItem d (Waiting f) = Unit {0}
OtherItem d (Active i j) = i.0 ≡ d.0 → ⊥
OtherItem d Fail = Unit {0}

pub record Fresh (d : FactId) (σ : Local) : Type 0 where
  pub stored : every (λ (s : Stored). s.id.0 ≡ d.0 → ⊥) σ.S
  pub active : every (λ (e : Entry). OtherItem d e.item) σ.G
  pub fired : every (λ (u : Fired). every (λ (i : FactId). i.0 ≡ d.0 → ⊥) u.ids) σ.H

module _ (t : Table) where
  -- (Flush) ⟨U; {}; S; H⟩k ↦ ⟨{}; U; S; H⟩k, where U is not empty
  pub record Flush (σ τ : Local) : Type 0 where
    pub nonempty : σ.U ≡ [] → ⊥
    pub idle : σ.G ≡ []
    pub U : τ.U ≡ []
    pub G : τ.G ≡ map waiting σ.U
    pub S : τ.S ≡ σ.S
    pub H : τ.H ≡ σ.H

  -- (Activate) ⟨U; (c, G); S; H⟩k ↦ ⟨U; (c#d : 1, G); (S, c#d); H⟩k, where d is a fresh identifier
  pub record Activate (σ τ : Local) : Type 0 where
    pub c : Fact
    pub under : List Entry
    pub d : FactId
    pub top : σ.G ≡ waiting c ∷ under
    pub fresh : Fresh d σ
    pub U : τ.U ≡ σ.U
    pub G : τ.G ≡ active_entry c.symbol d 1 ∷ under
    pub S : SameSet τ.S (record { id = d; fact = c } ∷ σ.S)
    pub H : τ.H ≡ σ.H

  -- (Remove) ⟨U; (c#d : i, G); (S, H_P, H_S, c#d); H⟩k ↦ ⟨U; (φ(B), G); (S, H_P); H⟩k, where c is one of the removed heads: there is no test of
  -- the history, and nothing is put down. By the text of section 9.3, c#d : i matches the i-th occurrence only.
  pub record Remove (σ τ : Local) : Type 0 where
    pub tried : Trying t σ.G
    pub removed : length (rule_tried t tried).kept ≤ tried.place.head
    pub facts : List Stored
    pub φ : Binding
    pub B : List Entry
    pub enabled : Enabled t σ.S tried.place tried.id facts φ
    pub fires : Fires t σ.S τ.S tried.place facts φ B
    pub U : τ.U ≡ σ.U
    pub G : τ.G ≡ B ++ tried.under
    pub H : τ.H ≡ σ.H

  -- (Keep) ⟨U; (c#d : i, G); (S, H_P, H_S, c#d); H⟩k ↦ ⟨U; (φ(B), c#d : i, G); (S, H_P, c#d); (H, h)⟩k, where c is one of the kept heads and h is
  -- not in H. As printed, h = (r, Ids(H_P, H_S)) leaves d itself out; here h has the identifiers of all heads, in written head order.
  pub record Keep (σ τ : Local) : Type 0 where
    pub tried : Trying t σ.G
    pub kept : tried.place.head < length (rule_tried t tried).kept
    pub facts : List Stored
    pub φ : Binding
    pub B : List Entry
    pub applies : Applies t σ.S σ.H tried.place tried.id facts φ
    pub fires : Fires t σ.S τ.S tried.place facts φ B
    pub U : τ.U ≡ σ.U
    pub G : τ.G ≡ B ++ (active_entry tried.symbol tried.id tried.j ∷ tried.under)
    pub H : τ.H ≡ firing tried.place facts ∷ σ.H

  -- (Suspend) ⟨U; (c#d : i, G); S; H⟩k ↦ ⟨U; (c#d : (i + 1), G); S; H⟩k, where (Remove) and (Keep) do not apply and occurrence i exists
  pub record Suspend (σ τ : Local) : Type 0 where
    pub tried : Trying t σ.G
    pub no_remove : length (rule_tried t tried).kept ≤ tried.place.head → (facts : List Stored) (φ : Binding)
        → Enabled t σ.S tried.place tried.id facts φ → ⊥
    pub no_keep : tried.place.head < length (rule_tried t tried).kept → (facts : List Stored) (φ : Binding)
        → Applies t σ.S σ.H tried.place tried.id facts φ → ⊥
    pub U : τ.U ≡ σ.U
    pub G : τ.G ≡ active_entry tried.symbol tried.id (suc tried.j) ∷ tried.under
    pub S : τ.S ≡ σ.S
    pub H : τ.H ≡ σ.H

  -- (Drop) ⟨U; (c#d : i, G); S; H⟩k ↦ ⟨U; G; S; H⟩k, where i is not an occurrence in the program
  pub record Drop (σ τ : Local) : Type 0 where
    pub symbol : Symbol
    pub d : FactId
    pub i : ℕ
    pub top : σ.G ≡ active_entry symbol d i ∷ τ.G
    pub absent : occurrence t symbol i ≡ None
    pub U : τ.U ≡ σ.U
    pub S : τ.S ≡ σ.S
    pub H : τ.H ≡ σ.H

pub data LocalStep (t : Table) (σ τ : Local) : Type 0 where
  flush : Flush t σ τ → LocalStep t σ τ
  activate : Activate t σ τ → LocalStep t σ τ
  remove : Remove t σ τ → LocalStep t σ τ
  keep : Keep t σ τ → LocalStep t σ τ
  suspend : Suspend t σ τ → LocalStep t σ τ
  drops : Drop t σ τ → LocalStep t σ τ

-- a derivation of n transitions
pub data LocalDerivation (t : Table) : Local → ℕ → Local → Type 0 where
  stays : {σ : Local} → LocalDerivation t σ zero σ
  goes : {σ τ υ : Local} {n : ℕ} → LocalStep t σ τ → LocalDerivation t τ n υ → LocalDerivation t σ (suc n) υ
