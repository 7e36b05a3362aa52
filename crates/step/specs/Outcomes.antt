-- What a decision about the top entry says, as the definition's step.
use Rattle.std.specs.Prelude.{ℕ, ◌+◌, ◌≤◌, ◌<◌, ◌≡◌, Bool, cond, List, [], ◌∷◌, ◌++◌, eqb, leb, ltb, length, drop, take, replicate}
use Rattle.std.specs.Prelude.{Result, Ok, Err, ⊤}
use Rattle.model.specs.declared.Fact.{Fact}
use Rattle.model.specs.declared.FactId.{FactId}
use Rattle.model.specs.declared.Fired.{Fired}
use Rattle.model.specs.declared.Occurrence.{Occurrence}
use Rattle.model.specs.declared.Item.{Item}
use Rattle.model.specs.declared.Item.TheVariants.{Waiting, Active, Fail}
use Rattle.model.specs.declared.Entry.{Entry}
use Rattle.model.specs.declared.Stored.{Stored}
use Rattle.model.specs.Limits.{most_heads, most_items, store_room, stack_room, history_room}
use Rattle.model.specs.Table.{Table}
use Rattle.model.specs.Search.{nobody, fired_of}
use Rattle.model.specs.Guards.{unbound}
use Rattle.model.specs.Steps.{State, fail_entry, no_stored, without, pruned, activated, dropped}
use Rattle.model.specs.Steps.{Outcome, moves, fires, fails, stops, step_item}
use Rattle.step.specs.declared.Firing.{Firing}
use Rattle.step.specs.declared.Instance.{Instance}
use Rattle.step.specs.declared.Decision.{Decision}
use Rattle.step.specs.declared.Decision.TheVariants.{Activate, Drop, Default, Fire, Fail as Failing}
use Rattle.step.specs.declared.Ending.{Ending}
use Rattle.step.specs.declared.Ending.TheVariants.{UndefinedGuard, UndefinedArgument, FullStore, FullStack, FullHistory}

-- ---- endings without a step

abbrev pub ending_number : Ending → ℕ
ending_number (UndefinedGuard r) = 3
ending_number (UndefinedArgument r) = 4
ending_number FullStore = 5
ending_number (FullStack r) = 6
ending_number (FullHistory r) = 7

abbrev pub ending_place : Ending → ℕ
ending_place (UndefinedGuard r) = r.0
ending_place (UndefinedArgument r) = r.0
ending_place FullStore = 0
ending_place (FullStack r) = r.0
ending_place (FullHistory r) = r.0

-- ---- what a decision says

-- nothing is chosen, bound or made yet
abbrev pub no_firing : Firing
no_firing = record { chosen = replicate most_heads nobody; binding = unbound; body = replicate most_items fail_entry }

-- whether the active fact stays on the stack: Simplify has popped its entry
abbrev pub stays : Instance → Bool
stays g = ltb g.place.head g.shape.kept

-- the fact of a waiting entry
abbrev pub fact_of : Item → Fact
fact_of (Waiting f) = f
fact_of (Active i j) = no_stored.fact
fact_of Fail = no_stored.fact

-- the state after a firing: the body over what is left of the stack, the removed facts gone from store and history, or the firing put down
unfoldable pub fired_as : State → Entry → List Entry → Instance → List FactId → List Entry → State
fired_as st e es g chosen body = record {
  stack = body ++ cond (stays g) (e ∷ es) es;
  store = without (drop g.shape.kept chosen) st.store;
  history = cond (eqb g.shape.kept g.shape.heads) (st.history ++ (fired_of g.place.rule chosen ∷ [])) (pruned (drop g.shape.kept chosen) st.history);
  next = st.next;
}

-- another top entry
unfoldable pub topped : State → Entry → List Entry → State
topped st e es = record { stack = e ∷ es; store = st.store; history = st.history; next = st.next }

-- an active fact at another occurrence
abbrev pub gone_on : Item → Occurrence → Item
gone_on (Waiting f) j = Waiting f
gone_on (Active i k) j = Active i j
gone_on Fail j = Fail

abbrev pub at_occurrence : Entry → Occurrence → Entry
at_occurrence e j = record { symbol = e.symbol; item = gone_on e.item j }

unfoldable pub outcome_of : State → Entry → List Entry → Firing → Result Decision Ending → Outcome
outcome_of st e es f (Ok Activate) = moves (activated st e es (fact_of e.item))
outcome_of st e es f (Ok Drop) = moves (dropped st es)
outcome_of st e es f (Ok (Default j)) = moves (topped st (at_occurrence e j) es)
outcome_of st e es f (Ok (Fire g)) = fires (fired_as st e es g (take g.shape.heads f.chosen) (take g.shape.items f.body))
outcome_of st e es f (Ok Failing) = fails
outcome_of st e es f (Err x) = stops (ending_number x) (ending_place x)

-- ---- a firing's room

-- how deep the stack is under the body
abbrev pub below : Instance → ℕ → ℕ
below g under = cond (stays g) (under + 1) under

-- 6 or 7, where stack or history have no room
abbrev pub room_of : Instance → ℕ → ℕ → Result ⊤ Ending
room_of g under noted =
    cond (ltb stack_room (below g under + g.shape.items)) (Err (FullStack g.place.rule))
    (cond (eqb g.shape.kept g.shape.heads) (cond (leb history_room noted) (Err (FullHistory g.place.rule)) (Ok tt)) (Ok tt))

-- a firing's numbers: its heads and items are few, and stack and history have room, over so many entries under the active fact's
pub record Fits (g : Instance) (under noted : ℕ) : Type 0 where
  pub few_heads : g.shape.heads ≤ most_heads
  pub few_items : g.shape.items ≤ most_items
  pub kept_few : g.shape.kept ≤ g.shape.heads
  pub stack_fits : below g under + g.shape.items ≤ stack_room
  pub history_fits : g.shape.kept ≡ g.shape.heads → noted < history_room

-- what a decision is sure of: Activate has room in the store, a firing in stack and history
unfoldable pub Sure : ℕ → ℕ → ℕ → Result Decision Ending → Type 0
Sure under stored noted (Ok Activate) = stored < store_room
Sure under stored noted (Ok Drop) = Unit {0}
Sure under stored noted (Ok (Default j)) = Unit {0}
Sure under stored noted (Ok (Fire g)) = Fits g under noted
Sure under stored noted (Ok Failing) = Unit {0}
Sure under stored noted (Err x) = Unit {0}

-- the states that a decision is about: e lies on es, and store and history are what is lent
pub record Seen (st : State) (e : Entry) (es : List Entry) (under : ℕ) (store : List Stored) (history : List Fired) : Type 0 where
  pub stack : st.stack ≡ e ∷ es
  pub deep : length es ≡ under
  pub stored : st.store ≡ store
  pub noted : st.history ≡ history

-- what a decision gives: in each such state the definition's step is what the decision says
pub record Decided (t : Table) (e : Entry) (under : ℕ) (store : List Stored) (history : List Fired) (f : Firing) (d : Result Decision Ending) : Type 0 where
  pub same : (st : State) (es : List Entry) → Seen st e es under store history → step_item t st e es e.item ≡ outcome_of st e es f d
  pub sure : Sure under (length store) (length history) d
