-- The state that a run's lists stand for, and what a function that writes leaves.
use Rattle.std.specs.Prelude.{ℕ, suc, ◌≡◌, cond, eqb, List, [], ◌∷◌, ◌++◌, take, drop, reverse}
use Rattle.model.specs.declared.FactId.{FactId}
use Rattle.model.specs.declared.Entry.{Entry}
use Rattle.model.specs.Search.{fired_of}
use Rattle.model.specs.declared.CallResult.{CallResult}
use Rattle.model.specs.Run.{Ended}
use Rattle.model.specs.Steps.{State, without, pruned}
use Rattle.step.specs.declared.Instance.{Instance}
use Rattle.steps.specs.declared.Run.{Run}

-- the stack, the top first
abbrev pub stack_of : Run → List Entry
stack_of r = reverse (take r.stack.len r.stack.places.now)

abbrev pub state_of : Run → State
state_of r = record {
  stack = stack_of r;
  store = take r.store.len r.store.places.now;
  history = take r.history.len r.history.places.now;
  next = suc r.given;
}

-- a run that is in another state, and in the same table
pub record Goes (r r' : Run) (st : State) (n : ℕ) : Type 0 where
  pub state : state_of r' ≡ st
  pub firings : r'.firings ≡ n
  pub rules : r'.places.rules ≡ r.places.rules

-- another stack
abbrev pub stacked : State → List Entry → State
stacked st es = record { stack = es; store = st.store; history = st.history; next = st.next }

-- store and history after a firing
abbrev pub left_as : State → Instance → List FactId → State
left_as st g chosen = record {
  stack = st.stack;
  store = without (drop g.shape.kept chosen) st.store;
  history = cond (eqb g.shape.kept g.shape.heads) (st.history ++ fired_of g.place.rule chosen ∷ []) (pruned (drop g.shape.kept chosen) st.history);
  next = st.next;
}

-- what the steps leave: the definition's result, and its store
pub record Finished (end : Ended) (r : Run) (result : CallResult) : Type 0 where
  pub result_is : result ≡ end.result
  pub facts : take r.store.len r.store.places.now ≡ end.store

-- a run that begins: nothing is given or fired yet
pub record Fresh (r : Run) : Type 0 where
  pub given : r.given ≡ 0
  pub firings : r.firings ≡ 0
