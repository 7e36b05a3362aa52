-- The refined operational semantics of document 004, appendix A, definition 2, for ground facts and with fail as the only built-in: one record a
-- transition, with the page's premises and the state behind it.
--
-- A state ⟨A, S, B, T⟩n has the stack A, the set S of identified facts, the built-in store B, the history T and the next identifier n. Facts are
-- ground, so that B holds nothing until fail makes it false: it is the difference between `holds` and `failed`. S and T are sets, written as lists.
-- The page writes the active fact itself into its entry, c#i : j; here the entry has its symbol and its identifier, and the fact stands in S.
use Rattle.std.specs.Prelude.{ℕ, zero, suc, ◌+◌, ◌-◌, ◌≤◌, ◌<◌, ◌≡◌, length, drop}
use Rattle.std.specs.Prelude.{true, Option, Some, None, slice_get}
use mathlib.Core.List.{List, ◌∷◌, ◌++◌, Memᴰ}
use Rattle.model.specs.declared.FactId.{FactId}
use Rattle.model.specs.declared.Symbol.{Symbol}
use Rattle.model.specs.declared.Fact.{Fact}
use Rattle.model.specs.declared.Item.TheVariants.{Fail}
use Rattle.model.specs.declared.Entry.{Entry}
use Rattle.model.specs.declared.Stored.{Stored}
use Rattle.model.specs.declared.Binding.{Binding}
use Rattle.model.specs.declared.HeadPlace.{HeadPlace}
use Rattle.model.specs.Table.{Rule, Table, rule_at, places}
use Rattle.model.specs.Guards.{guard_value}
use Rattle.model.specs.declared.Fired.{Fired}
use Rattle.model.specs.Steps.{State, waiting, active_entry, body_entries}
use Rattle.semantics.specs.Instances.{Matching, firing}

-- ---- sets, written as lists

abbrev pub SameSet : List Stored → List Stored → Type 0
SameSet S S' = ((s : Stored) → Memᴰ s S → Memᴰ s S') × ((s : Stored) → Memᴰ s S' → Memᴰ s S)

-- S' is S without the facts of H: "H ⊎ S ↦ S"
pub record Without (H S S' : List Stored) : Type 0 where
  pub taken : (s : Stored) → Memᴰ s S' → Memᴰ s S
  pub apart : (s : Stored) → Memᴰ s S' → Memᴰ s H → ⊥
  pub left : (s : Stored) → Memᴰ s S → (Memᴰ s H → ⊥) → Memᴰ s S'

module _ (t : Table) where
  -- "the j-th occurrence of the CHR predicate of c": which head of the table it is. The page leaves the counting to the earlier text; document 01
  -- counts from 1 over rules from first to last, and inside a rule from the last head to the first.
  abbrev pub occurrence : Symbol → ℕ → Option HeadPlace
  occurrence s j = slice_get (places t s) (j - 1)

  -- an active fact c#i : j on top, whose occurrence j exists
  pub record Trying (A : List Entry) : Type 0 where
    pub symbol : Symbol
    pub id : FactId
    pub j : ℕ
    pub under : List Entry
    pub place : HeadPlace
    pub top : A ≡ active_entry symbol id j ∷ under
    pub occurs : occurrence symbol j ≡ Some place

  abbrev pub rule_tried : {A : List Entry} → Trying A → Rule
  rule_tried a = rule_at t a.place.rule

  -- for the active fact i at head place p, an instance of the rule whose guard is true: "D ⊨ B → ∃_r(θ ∧ g)". A guard that has no value is not
  -- true; that the run stops there is document 01's choice.
  pub record Enabled (S : List Stored) (p : HeadPlace) (i : FactId) (facts : List Stored) (θ : Binding) : Type 0 where
    pub matching : Matching S p (rule_at t p.rule) i facts θ
    pub guard : guard_value θ (rule_at t p.rule).guards ≡ Some true

  -- and that is not in the history: "id(H_1) ++ id(H_2) ++ [i] ++ id(H_3) ++ [r] ∉ T". Propagate tests this order and records another,
  -- "id(H_1) ++ [i] ++ id(H_2) ++ id(H_3) ++ [r]", in which its heads are written: a misprint of the test. Here test and record are in written
  -- head order.
  pub record Applies (S : List Stored) (T : List Fired) (p : HeadPlace) (i : FactId) (facts : List Stored) (θ : Binding) : Type 0 where
    pub enabled : Enabled S p i facts θ
    pub fresh : Memᴰ (firing p facts) T → ⊥

  -- the part of a firing that Simplify and Propagate share: the body C under θ, and what is left of S. A body on the page always has a value;
  -- here an argument may have none, and then there is no such transition: the run's ending 4.
  pub record Fires (S S' : List Stored) (p : HeadPlace) (facts : List Stored) (θ : Binding) (C : List Entry) : Type 0 where
    pub body : body_entries θ (rule_at t p.rule).body ≡ Some C
    pub store : Without (drop (length (rule_at t p.rule).kept) facts) S S'

  -- 1. Solve, "⟨[c|A], S, B, T⟩n ↦ ⟨S_1 ++ A, S, c ∧ B, T⟩n", with c = fail: S_1 is empty, since by the upper bound each fact of S_1 has a
  -- variable that is not fixed. So no fact is woken, and there is no transition 3, Reactivate.
  pub record Solve (σ τ : State) : Type 0 where
    pub c : Entry
    pub top : σ.stack ≡ c ∷ τ.stack
    pub builtin : c.item ≡ Fail
    pub store : τ.store ≡ σ.store
    pub history : τ.history ≡ σ.history
    pub next : τ.next ≡ σ.next

  -- 2. Activate, "⟨[c|A], S, B, T⟩n ↦ ⟨[c#n : 1|A], {c#n} ⊎ S, B, T⟩n+1"
  pub record Activate (σ τ : State) : Type 0 where
    pub c : Fact
    pub under : List Entry
    pub top : σ.stack ≡ waiting c ∷ under
    pub stack : τ.stack ≡ active_entry c.symbol (record { 0 = σ.next }) 1 ∷ under
    pub store : SameSet τ.store (record { id = record { 0 = σ.next }; fact = c } ∷ σ.store)
    pub history : τ.history ≡ σ.history
    pub next : τ.next ≡ suc σ.next

  -- 4. Drop, "⟨[c#i : j|A], S, B, T⟩n ↦ ⟨A, S, B, T⟩n", where there is no occurrence j
  pub record Drop (σ τ : State) : Type 0 where
    pub symbol : Symbol
    pub id : FactId
    pub j : ℕ
    pub top : σ.stack ≡ active_entry symbol id j ∷ τ.stack
    pub absent : occurrence symbol j ≡ None
    pub store : τ.store ≡ σ.store
    pub history : τ.history ≡ σ.history
    pub next : τ.next ≡ σ.next

  -- 5. Simplify, "⟨[c#i : j|A], {c#i} ⊎ H_1 ⊎ H_2 ⊎ H_3 ⊎ S, B, T⟩n ↦ ⟨C ++ A, H_1 ⊎ S, θ ∧ B, T'⟩n": the active fact's head is removed
  pub record Simplify (σ τ : State) : Type 0 where
    pub tried : Trying σ.stack
    pub removed : length (rule_tried tried).kept ≤ tried.place.head
    pub facts : List Stored
    pub θ : Binding
    pub C : List Entry
    pub applies : Applies σ.store σ.history tried.place tried.id facts θ
    pub fires : Fires σ.store τ.store tried.place facts θ C
    pub stack : τ.stack ≡ C ++ tried.under
    pub history : τ.history ≡ firing tried.place facts ∷ σ.history
    pub next : τ.next ≡ σ.next

  -- 6. Propagate, "⟨[c#i : j|A], {c#i} ⊎ H_1 ⊎ H_2 ⊎ H_3 ⊎ S, B, T⟩n ↦ ⟨C ++ [c#i : j|A], {c#i} ⊎ H_1 ⊎ H_2 ⊎ S, θ ∧ B, T'⟩n": it is kept
  pub record Propagate (σ τ : State) : Type 0 where
    pub tried : Trying σ.stack
    pub kept : tried.place.head < length (rule_tried tried).kept
    pub facts : List Stored
    pub θ : Binding
    pub C : List Entry
    pub applies : Applies σ.store σ.history tried.place tried.id facts θ
    pub fires : Fires σ.store τ.store tried.place facts θ C
    pub stack : τ.stack ≡ C ++ (active_entry tried.symbol tried.id tried.j ∷ tried.under)
    pub history : τ.history ≡ firing tried.place facts ∷ σ.history
    pub next : τ.next ≡ σ.next

  -- 7. Default, "⟨[c#i : j|A], S, B, T⟩n ↦ ⟨[c#i : j + 1|A], S, B, T⟩n if the current state cannot fire any other transition": occurrence j
  -- exists, so that Drop cannot, and no instance applies
  pub record Default (σ τ : State) : Type 0 where
    pub tried : Trying σ.stack
    pub none : (facts : List Stored) (θ : Binding) → Applies σ.store σ.history tried.place tried.id facts θ → ⊥
    pub stack : τ.stack ≡ active_entry tried.symbol tried.id (suc tried.j) ∷ tried.under
    pub store : τ.store ≡ σ.store
    pub history : τ.history ≡ σ.history
    pub next : τ.next ≡ σ.next

-- a state whose built-in store is true, or false; from the latter there is no transition
pub data Config : Type 0 where
  holds : State → Config
  failed : State → Config

pub data Step (t : Table) : Config → Config → Type 0 where
  solve : {σ τ : State} → Solve t σ τ → Step t (holds σ) (failed τ)
  activate : {σ τ : State} → Activate t σ τ → Step t (holds σ) (holds τ)
  drops : {σ τ : State} → Drop t σ τ → Step t (holds σ) (holds τ)
  simplify : {σ τ : State} → Simplify t σ τ → Step t (holds σ) (holds τ)
  propagate : {σ τ : State} → Propagate t σ τ → Step t (holds σ) (holds τ)
  default : {σ τ : State} → Default t σ τ → Step t (holds σ) (holds τ)

-- a derivation of n transitions
pub data Derivation (t : Table) : Config → ℕ → Config → Type 0 where
  stays : {κ : Config} → Derivation t κ zero κ
  goes : {κ μ ν : Config} {n : ℕ} → Step t κ μ → Derivation t μ n ν → Derivation t κ (suc n) ν

-- how many of them are firings
unfoldable pub firing_in : {t : Table} {κ μ : Config} → Step t κ μ → ℕ
firing_in (solve s) = 0
firing_in (activate s) = 0
firing_in (drops s) = 0
firing_in (simplify s) = 1
firing_in (propagate s) = 1
firing_in (default s) = 0

unfoldable pub firings_in : {t : Table} {κ μ : Config} {n : ℕ} → Derivation t κ n μ → ℕ
firings_in stays = 0
firings_in (goes s d) = firing_in s + firings_in d
