-- What the functions of a try ask and give.
use Rattle.std.specs.Prelude.{ℕ, suc, ◌-◌, ◌≤◌, ◌<◌, ◌≡◌, List, length, get_or, slice_get, take, Option, Some, None, Result, Ok, Err, ⊤}
use Rattle.model.specs.declared.Binding.{Binding}
use Rattle.model.specs.declared.Entry.{Entry}
use Rattle.model.specs.declared.Item.{Item}
use Rattle.model.specs.declared.Item.TheVariants.{Waiting, Active, Fail}
use Rattle.model.specs.declared.Occurrence.{Occurrence}
use Rattle.model.specs.declared.RuleShape.{RuleShape}
use Rattle.model.specs.declared.Symbol.{Symbol}
use Rattle.model.specs.Limits.{most_items, stack_room, history_room}
use Rattle.model.specs.Reading.{read_of, no_shape}
use Rattle.model.specs.Table.{table_of, items_start, items_from, places}
use Rattle.model.specs.Steps.{State, body_entries, prunes, at_place}
use Rattle.occurrences.specs.declared.Mark.{Mark}
use Rattle.occurrences.specs.Counting.{mark_after}
use Rattle.records.specs.Geometry.{ItemsLie}
use Rattle.search.specs.declared.Quest.{Quest}
use Rattle.step.specs.declared.Firing.{Firing}
use Rattle.step.specs.declared.Instance.{Instance}
use Rattle.step.specs.declared.Decision.{Decision}
use Rattle.step.specs.declared.Ending.{Ending}
use Rattle.step.specs.declared.Ending.TheVariants.{UndefinedArgument}
use Rattle.step.specs.Outcomes.{outcome_of, room_of, Sure, Seen}

-- ---- an instance that applies

abbrev pub instance_of : Quest → Instance
instance_of q = record { place = q.place; shape = q.shape }

-- "Within a firing the order is 3, 4, 6, 7": an argument without a value goes before what there is no room in
abbrev pub apply_of : Instance → Result ⊤ Ending → Option (List Entry) → Result Instance Ending
apply_of g room None = Err (UndefinedArgument g.place.rule)
apply_of g (Ok u) (Some body) = Ok g
apply_of g (Err x) (Some body) = Err x

-- what a body comes to, where it comes to something
abbrev pub CameTo : List Entry → Option (List Entry) → Type 0
CameTo made None = Unit {0}
CameTo made (Some body) = body ≡ made

-- what it asks: its items lie in the table and are few, and the stack keeps its room
pub record Applying (t : List ℕ) (shape : RuleShape) (under : ℕ) : Type 0 where
  pub items_in : ItemsLie t (items_start shape) shape.items
  pub few_items : shape.items ≤ most_items
  pub deep : under < stack_room

-- the entries of a quest's body
abbrev pub body_of : Quest → Binding → Option (List Entry)
body_of q b = body_entries b (items_from q.table.now (items_start q.shape) q.shape.items)

-- what it gives
pub record Applied (q : Quest) (under : ℕ) (f₀ f : Firing) (r : Result Instance Ending) : Type 0 where
  pub is : r ≡ apply_of (instance_of q) (room_of (instance_of q) under (length q.past.now)) (body_of q f₀.binding)
  pub body : CameTo (take q.shape.items f.body) (body_of q f₀.binding)
  pub chosen : f.chosen ≡ f₀.chosen

-- ---- the mark

-- the mark behind an entry: an active one moves it, as what it asks for is found
abbrev pub mark_behind : List ℕ → Option Mark → Symbol → Item → Option Mark
mark_behind t m s (Waiting f) = m
mark_behind t m s (Active i j) = mark_after m s j (slice_get (places (table_of t) s) (j.0 - 1))
mark_behind t m s Fail = m

-- ---- the contracts

-- what a try at an occurrence that exists asks: the table is good, place and shape are its own, and stack and history keep their rooms
pub record Tried (q : Quest) (under : ℕ) : Type 0 where
  pub good_table : (read_of q.table.now).verdict ≡ Ok tt
  pub rule_in : q.place.rule.0 < (read_of q.table.now).rules
  pub is : q.shape ≡ get_or (read_of q.table.now).shapes q.place.rule.0 no_shape
  pub head_in : q.place.head < q.shape.heads
  pub deep : under < stack_room
  pub few_noted : length q.past.now ≤ history_room

-- what it gives: in each such state the definition's step at that place is what the decision says; j + 1 is the next occurrence
pub record Attempted (q : Quest) (under : ℕ) (next : Occurrence) (f : Firing) (d : Result Decision Ending) : Type 0 where
  pub same : (st : State) (e : Entry) (es : List Entry) (j : ℕ) → e.item ≡ Active q.active (record { 0 = j }) → next ≡ record { 0 = suc j }
      → Seen st e es under q.store.now q.past.now → at_place prunes (table_of q.table.now) st e es q.active j (Some q.place) ≡ outcome_of st e es f d
  pub sure : Sure under (length q.store.now) (length q.past.now) d
