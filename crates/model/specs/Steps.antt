-- The state, and what its top entry comes to.
use Rattle.std.specs.Prelude.{ℕ, suc, ◌-◌, Bool, true, false, not, ◌||◌, List, [], ◌∷◌, ◌++◌, map, ℤ, pos, leb, ltb, length, get_or, drop}
use Rattle.std.specs.Prelude.{Option, Some, None, slice_get}
use Rattle.model.specs.declared.FactId.{FactId}
use Rattle.model.specs.declared.Symbol.{Symbol}
use Rattle.model.specs.declared.RuleNumber.{RuleNumber}
use Rattle.model.specs.declared.Fact.{Fact}
use Rattle.model.specs.declared.Item.{Item}
use Rattle.model.specs.declared.Item.TheVariants.{Waiting, Active, Fail}
use Rattle.model.specs.declared.Entry.{Entry}
use Rattle.model.specs.declared.Stored.{Stored}
use Rattle.model.specs.declared.Binding.{Binding}
use Rattle.model.specs.declared.Expression.{Expression}
use Rattle.model.specs.declared.HeadPlace.{HeadPlace}
use Rattle.model.specs.Limits.{store_room, stack_room, history_room}
use Rattle.model.specs.Table.{Head, Rule, Table, BodyItem, body_fact, body_fail, rule_at, places}
use Rattle.model.specs.Guards.{expression_value}
use Rattle.model.specs.declared.Fired.{Fired}
use Rattle.model.specs.Search.{Found, nothing, undefined_guard, applies, is_among, fired_of, first_instance}

-- "A state is a stack, a store, a history and the next identifier (first 1)."
pub record State : Type 0 where
  pub stack : List Entry  -- the top first
  pub store : List Stored  -- by rising identifier
  pub history : List Fired
  pub next : ℕ

abbrev pub waiting : Fact → Entry
waiting f = record { symbol = f.symbol; item = Waiting f }

-- "The goal's facts start as waiting entries, the first on top."
unfoldable pub start : List Fact → State
start goal = record { stack = map waiting goal; store = []; history = []; next = 1 }

-- ---- the body: "the whole body is worked out before anything is pushed, also behind a fail"

abbrev pub fail_entry : Entry
fail_entry = record { symbol = record { 0 = 0 }; item = Fail }

-- what an empty place of a store's array holds
abbrev pub no_stored : Stored
no_stored = record { id = record { 0 = 0 }; fact = record { symbol = record { 0 = 0 }; arguments = pos 0 ∷ pos 0 ∷ pos 0 ∷ pos 0 ∷ [] } }

-- a list with one more in front, if both are there
abbrev pub cons_defined : {A : Type 0} → Option A → Option (List A) → Option (List A)
cons_defined None xs = None
cons_defined (Some x) None = None
cons_defined (Some x) (Some xs) = Some (x ∷ xs)

unfoldable pub argument_values : Binding → List Expression → Option (List ℤ)
argument_values b [] = Some []
argument_values b (e ∷ es) = cons_defined (expression_value b e) (argument_values b es)

abbrev pub fact_of : Symbol → List ℤ → Fact
fact_of s vs = record { symbol = s; arguments = get_or vs 0 (pos 0) ∷ get_or vs 1 (pos 0) ∷ get_or vs 2 (pos 0) ∷ get_or vs 3 (pos 0) ∷ [] }

abbrev pub waiting_if : Symbol → Option (List ℤ) → Option Entry
waiting_if s None = None
waiting_if s (Some vs) = Some (waiting (fact_of s vs))

unfoldable pub item_entry : Binding → BodyItem → Option Entry
item_entry b (body_fact s es) = waiting_if s (argument_values b es)
item_entry b body_fail = Some fail_entry

-- the stack entries of a whole body, or nothing if an argument is undefined
unfoldable pub body_entries : Binding → List BodyItem → Option (List Entry)
body_entries b [] = Some []
body_entries b (i ∷ is) = cons_defined (item_entry b i) (body_entries b is)

-- ---- what a firing leaves

unfoldable pub keep {ℓ} : {A : Type ℓ} → (A → Bool) → List A → List A
keep p [] = []
keep p (x ∷ xs) = elim (p x) [ true ↦ x ∷ keep p xs | false ↦ keep p xs ]

-- the facts at the removed heads
unfoldable pub gone : Rule → List FactId → List FactId
gone r chosen = drop (length r.kept) chosen

-- "All its removed heads leave the store."
unfoldable pub without : List FactId → List Stored → List Stored
without is ss = keep (λ s. not (is_among s.id is)) ss

unfoldable pub names : List FactId → List FactId → Bool
names [] gone = false
names (i ∷ is) gone = is_among i gone || names is gone

-- "Entries that name a removed fact are dropped"
unfoldable pub pruned : List FactId → List Fired → List Fired
pruned is fs = keep (λ f. not (names f.ids is)) fs

-- a firing of a rule with no removed head is put down; one that removes facts prunes
abbrev pub remembered : List Head → Fired → List FactId → List Fired → List Fired
remembered [] f is fs = fs ++ (f ∷ [])
remembered (h ∷ hs) f is fs = pruned is fs

-- what a history holds after a firing, and whether it has room for that: a run's prunes, and Keeping has one that keeps all
pub record Memory : Type 0 where
  pub after : List Head → Fired → List FactId → List Fired → List Fired
  pub fits : List Fired → Bool

-- the history of a run: "history 256"
abbrev pub prunes : Memory
prunes = record { after = remembered; fits = λ fs. leb (length fs) history_room }

-- ---- the state after each kind of step; e is the top entry and es is what lies under it

abbrev pub active_entry : Symbol → FactId → ℕ → Entry
active_entry s i j = record { symbol = s; item = Active i (record { 0 = j }) }

-- "Activate: a waiting fact gets the next identifier, enters the store and becomes active at occurrence 1."
unfoldable pub activated : State → Entry → List Entry → Fact → State
activated st e es f = record {
  stack = active_entry e.symbol (record { 0 = st.next }) 1 ∷ es;
  store = st.store ++ (record { id = record { 0 = st.next }; fact = f } ∷ []);
  history = st.history;
  next = suc st.next;
}

-- "Default: occurrence j exists, with no applicable instance; j becomes j + 1."
unfoldable pub advanced : State → Entry → List Entry → FactId → ℕ → State
advanced st e es i j = record { stack = active_entry e.symbol i (suc j) ∷ es; store = st.store; history = st.history; next = st.next }

-- "Drop: the symbol has no occurrence j; the entry is popped."
unfoldable pub dropped : State → List Entry → State
dropped st es = record { stack = es; store = st.store; history = st.history; next = st.next }

-- "Simplify, where the active one is a removed head, also pops it. Propagate keeps it, at the same occurrence."
abbrev pub pop_if : Bool → Entry → List Entry → List Entry
pop_if true e es = es
pop_if false e es = e ∷ es

unfoldable pub is_removed : Rule → ℕ → Bool
is_removed r head = leb (length r.kept) head

-- "The body goes on the stack, first item on top."
unfoldable pub fired : Memory → State → Entry → List Entry → HeadPlace → Rule → List FactId → List Entry → State
fired m st e es p r chosen body = record {
  stack = body ++ pop_if (is_removed r p.head) e es;
  store = without (gone r chosen) st.store;
  history = m.after r.removed (fired_of p.rule chosen) (gone r chosen) st.history;
  next = st.next;
}

-- ---- a step: one that is no firing, a firing, Fail, or an ending without a step (number and place)

pub data Outcome : Type 0 where
  moves : State → Outcome
  fires : State → Outcome
  fails : Outcome
  stops : ℕ → ℕ → Outcome

-- "Within a firing the order is 3, 4, 6, 7"
abbrev pub within_history : Bool → RuleNumber → State → Outcome
within_history true n after = fires after
within_history false n after = stops 7 n.0

abbrev pub within_stack : Memory → Bool → RuleNumber → State → Outcome
within_stack m true n after = within_history (m.fits after.history) n after
within_stack m false n after = stops 6 n.0

-- 5: "Activate with 128 facts stored"
abbrev pub activate : State → Entry → List Entry → Fact → Bool → Outcome
activate st e es f true = moves (activated st e es f)
activate st e es f false = stops 5 0

module _ (m : Memory) (t : Table) (st : State) (e : Entry) (es : List Entry) where
  abbrev pub with_body : HeadPlace → List FactId → Option (List Entry) → Outcome
  with_body p chosen None = stops 4 p.rule.0
  with_body p chosen (Some body) =
      let after = fired m st e es p (rule_at t p.rule) chosen body in
      within_stack m (leb (length after.stack) stack_room) p.rule after

  -- Default, an undefined guard, or a firing
  abbrev pub with_found : FactId → ℕ → HeadPlace → Found → Outcome
  with_found i j p nothing = moves (advanced st e es i j)
  with_found i j p undefined_guard = stops 3 p.rule.0
  with_found i j p (applies chosen b) = with_body p chosen (body_entries b (rule_at t p.rule).body)

  -- Drop, or a try at occurrence j
  abbrev pub at_place : FactId → ℕ → Option HeadPlace → Outcome
  at_place i j None = moves (dropped st es)
  at_place i j (Some p) = with_found i j p (first_instance st.store st.history p (rule_at t p.rule) i)

  -- "the top entry decides". Occurrences are counted from 1
  unfoldable pub step_with : Item → Outcome
  step_with (Waiting f) = activate st e es f (ltb (length st.store) store_room)
  step_with (Active i j) = at_place i j.0 (slice_get (places t e.symbol) (j.0 - 1))
  step_with Fail = fails

-- a step of a run
abbrev pub step_item : Table → State → Entry → List Entry → Item → Outcome
step_item = step_with prunes
