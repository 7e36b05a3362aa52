-- The choices that document 01 makes where the published relation leaves one: which instance fires, in which order the store is listed, what its
-- history holds, and where a run ends, with which number and place. So each state has one transition or one ending.
use Rattle.std.specs.Prelude.{ℕ, suc, ◌≤◌, ◌<◌, ◌≡◌, Bool, true, false, ◌&&◌, length}
use Rattle.std.specs.Prelude.{Option, Some, None}
use mathlib.Core.List.{List, [], ◌∷◌, Memᴰ}
use Rattle.model.specs.declared.FactId.{FactId}
use Rattle.model.specs.declared.RuleNumber.{RuleNumber}
use Rattle.model.specs.declared.Fact.{Fact}
use Rattle.model.specs.declared.Entry.{Entry}
use Rattle.model.specs.declared.Stored.{Stored}
use Rattle.model.specs.declared.Binding.{Binding}
use Rattle.model.specs.Limits.{store_room, stack_room, history_room}
use Rattle.model.specs.Table.{Head, Table, rule_at}
use Rattle.model.specs.Guards.{guard_value}
use Rattle.model.specs.declared.Fired.{Fired}
use Rattle.model.specs.Search.{is_among}
use Rattle.model.specs.Steps.{State, waiting, body_entries, keep}
use Rattle.model.specs.Results.{Counts}
use Rattle.model.specs.Run.{Ended, ended_as, stepped, fired_once}
use Rattle.model.proofs.Sound.{ids_of}
use Rattle.model.proofs.Kept.{Rising}
use Rattle.semantics.specs.Instances.{Matching, firing, Before}
use Rattle.semantics.specs.Refined.{Trying, rule_tried, Solve, Activate, Drop, Simplify, Propagate, Default}

-- the page's store is a set; document 01 lists it "by rising identifier"
abbrev pub Listed : State → Type 0
Listed σ = Rising 1 σ.next σ.store

-- ---- what document 01's history holds of T, in which the relation keeps every firing

abbrev pub removes_none : List Head → Bool
removes_none [] = true
removes_none (h ∷ hs) = false

unfoldable pub are_among : List FactId → List FactId → Bool
are_among [] js = true
are_among (i ∷ is) js = is_among i js && are_among is js

module _ (t : Table) where
  -- "The history holds, for rules with no removed head, the rule and the identifiers in head order. Entries that name a removed fact are dropped"
  unfoldable pub is_held : List Stored → Fired → Bool
  is_held S u = removes_none (rule_at t u.rule).removed && are_among u.ids (ids_of S)

  unfoldable pub held : List Stored → List Fired → List Fired
  held S T = keep (is_held S) T

  -- ---- the transitions

  -- "An instance in the history is passed over; the first remaining one with a true guard applies; an undefined guard met before it stops the run":
  -- an instance that is not in the history and whose guard is g; each that comes before it is in the history or has a false guard
  pub record First (σ : State) (a : Trying t σ.stack) (g : Option Bool) (facts : List Stored) (θ : Binding) : Type 0 where
    pub matching : Matching σ.store a.place (rule_tried t a) a.id facts θ
    pub fresh : Memᴰ (firing a.place facts) σ.history → ⊥
    pub guard : guard_value θ (rule_tried t a).guards ≡ g
    pub before : (facts' : List Stored) (θ' : Binding) → Matching σ.store a.place (rule_tried t a) a.id facts' θ' → Before (ids_of facts') (ids_of facts)
        → (Memᴰ (firing a.place facts') σ.history → ⊥) → guard_value θ' (rule_tried t a).guards ≡ Some false

  -- "Default: occurrence j exists, with no applicable instance", and none whose guard is undefined: each instance that is not in the history has a
  -- guard that has a value, and it is false
  pub record Passes (σ τ : State) : Type 0 where
    pub step : Default t σ τ
    pub passed : (facts : List Stored) (θ : Binding) → Matching σ.store step.tried.place (rule_tried t step.tried) step.tried.id facts θ
        → (Memᴰ (firing step.tried.place facts) σ.history → ⊥) → guard_value θ (rule_tried t step.tried).guards ≡ Some false

  -- "Activate: a waiting fact gets the next identifier, enters the store", if there is room
  pub record Enters (σ τ : State) : Type 0 where
    pub step : Activate t σ τ
    pub room : length σ.store < store_room
    pub listed : Listed τ

  -- a step that is no firing
  pub data Moves (σ τ : State) : Type 0 where
    activates : Enters σ τ → Moves σ τ
    drops : Drop t σ τ → Moves σ τ
    defaults : Passes σ τ → Moves σ τ

  -- a firing of the first instance; whether there is room for it is asked below
  pub data FiresFirst (σ τ : State) : Type 0 where
    simplifies : (s : Simplify t σ τ) → First σ s.tried (Some true) s.facts s.θ → Listed τ → FiresFirst σ τ
    propagates : (s : Propagate t σ τ) → First σ s.tried (Some true) s.facts s.θ → Listed τ → FiresFirst σ τ

  -- its rule
  abbrev pub rule_fired : {σ τ : State} → FiresFirst σ τ → RuleNumber
  rule_fired (simplifies s u l) = s.tried.place.rule
  rule_fired (propagates s u l) = s.tried.place.rule

  -- "Store 128, stack 256, history 256."
  pub record Roomy (τ : State) : Type 0 where
    pub stack : length τ.stack ≤ stack_room
    pub history : length (held τ.store τ.history) ≤ history_room

  -- ---- the endings at a step that is left and is not taken

  -- 3: "guard undefined"
  pub record Undefined (σ : State) : Type 0 where
    pub tried : Trying t σ.stack
    pub facts : List Stored
    pub θ : Binding
    pub first : First σ tried None facts θ

  -- 4: "body argument undefined"
  pub record NoBody (σ : State) : Type 0 where
    pub tried : Trying t σ.stack
    pub facts : List Stored
    pub θ : Binding
    pub first : First σ tried (Some true) facts θ
    pub body : body_entries θ (rule_tried t tried).body ≡ None

  -- 5: "Activate with 128 facts stored"
  pub record StoreFull (σ : State) : Type 0 where
    pub c : Fact
    pub under : List Entry
    pub top : σ.stack ≡ waiting c ∷ under
    pub full : store_room ≤ length σ.store

  -- 6: "stack above 256 .. after this firing"
  pub record StackAbove (σ : State) : Type 0 where
    pub τ : State
    pub fires : FiresFirst σ τ
    pub above : stack_room < length τ.stack

  -- 7: "history above 256 after this firing"; "Within a firing the order is 3, 4, 6, 7"
  pub record HistoryAbove (σ : State) : Type 0 where
    pub τ : State
    pub fires : FiresFirst σ τ
    pub stack : length τ.stack ≤ stack_room
    pub above : history_room < length (held τ.store τ.history)

  -- each with its number and its place: the rule, or 0
  pub data Stops (σ : State) : ℕ → ℕ → Type 0 where
    undefined : (u : Undefined σ) → Stops σ 3 u.tried.place.rule.0
    no_body : (u : NoBody σ) → Stops σ 4 u.tried.place.rule.0
    store_full : StoreFull σ → Stops σ 5 0
    stack_above : (u : StackAbove σ) → Stops σ 6 (rule_fired u.fires).0
    history_above : (u : HistoryAbove σ) → Stops σ 7 (rule_fired u.fires).0

  -- ---- a whole derivation with its ending: the steps left of the limit, what has been counted, the state, and what it ends as

  pub data Chosen : ℕ → Counts → State → Ended → Type 0 where
    -- 0: "An empty stack is done, tested before the step limit."
    done : {left : ℕ} {c : Counts} {σ : State} → σ.stack ≡ [] → Chosen left c σ (ended_as 0 0 c σ)
    -- 1: "Fail: a fail item ends the run as failed; this counts as a step." It reports the state "after Fail"
    fails : {left : ℕ} {c : Counts} {σ τ : State} → Solve t σ τ → Chosen (suc left) c σ (ended_as 1 0 (stepped c) τ)
    -- 2: "step limit used up"
    spent : {c : Counts} {σ : State} → (σ.stack ≡ [] → ⊥) → Chosen 0 c σ (ended_as 2 0 c σ)
    -- 3 to 7 "report the state before the untaken step"
    stops : {left : ℕ} {c : Counts} {σ : State} {n p : ℕ} → Stops σ n p → Chosen (suc left) c σ (ended_as n p c σ)
    moves : {left : ℕ} {c : Counts} {σ τ : State} {r : Ended} → Moves σ τ → Chosen left (stepped c) τ r → Chosen (suc left) c σ r
    fires : {left : ℕ} {c : Counts} {σ τ : State} {r : Ended} → FiresFirst σ τ → Roomy τ → Chosen left (fired_once c) τ r → Chosen (suc left) c σ r
