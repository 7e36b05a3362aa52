-- Values under a matching substitution: what it is for a guard and a body to have all their variables bound, what a guard list and a body come to, why an
-- expression has no value, and what a run that ends in 3 or 4 has met. "Each operation is exact; its value is undefined if it lies outside
-- -2,147,483,648..2,147,483,647 or the divisor is 0."
use Rattle.std.specs.Prelude.{ℕ, ◌≡◌, Bool, true, false, ◌⊎◌, ℤ, pos, ◌+ℤ◌, ◌-ℤ◌, ◌*ℤ◌, length}
use mathlib.Core.List.{List, [], ◌∷◌, ◌++◌, Memᴰ}
use Rattle.std.specs.Prelude.{Option, Some, None}
use Rattle.numbers.specs.Numbers.{in_range, floor_z, mod_z, holds}
use Rattle.model.specs.declared.FactId.{FactId}
use Rattle.model.specs.declared.Symbol.{Symbol}
use Rattle.model.specs.declared.Fact.{Fact}
use Rattle.model.specs.declared.Entry.{Entry}
use Rattle.model.specs.declared.Stored.{Stored}
use Rattle.model.specs.declared.HeadPlace.{HeadPlace}
use Rattle.model.specs.declared.Binding.{Binding}
use Rattle.model.specs.declared.Slot.{Slot}
use Rattle.model.specs.declared.Expression.{Expression}
use Rattle.model.specs.Table.{Guard, BodyItem, body_fact, body_fail, Table, rule_at}
use Rattle.model.specs.Guards.{slot_value, expression_value, comparison_value, guard_value}
use Rattle.model.specs.Run.{Ended}
use Rattle.model.specs.Steps.{waiting, fail_entry}
use Rattle.model.proofs.Every.{every}
use Rattle.semantics.specs.Instances.{Matching}

-- ---- all variables are bound: each slot is a number

pub record SlotBound (θ : Binding) (s : Slot) : Type 0 where
  pub number : ℤ
  pub value : slot_value θ s ≡ Some number

pub record ExpressionBound (θ : Binding) (e : Expression) : Type 0 where
  pub left : SlotBound θ e.left
  pub right : SlotBound θ e.right

-- ---- what a guard list and a body come to, by document 01's sentences

-- a comparison whose sides have values: whether its comparator holds of them
pub record Compared (θ : Binding) (g : Guard) (answer : Bool) : Type 0 where
  pub a : ℤ
  pub b : ℤ
  pub left : expression_value θ g.left ≡ Some a
  pub right : expression_value θ g.right ≡ Some b
  pub says : holds g.comparator a b ≡ answer

-- "A guard list is read left to right up to the first comparison that is not true. If that one is false, the guard is false; if it has an undefined
-- side, the guard is undefined. An empty list is true."
pub data GuardIs (θ : Binding) : List Guard → Option Bool → Type 0 where
  empty : GuardIs θ [] (Some true)
  read_on : {g : Guard} {gs : List Guard} {v : Option Bool} → Compared θ g true → GuardIs θ gs v → GuardIs θ (g ∷ gs) v
  is_false : {g : Guard} {gs : List Guard} → Compared θ g false → GuardIs θ (g ∷ gs) (Some false)
  left_undefined : {g : Guard} {gs : List Guard} → expression_value θ g.left ≡ None → GuardIs θ (g ∷ gs) None
  right_undefined : {g : Guard} {gs : List Guard} → expression_value θ g.right ≡ None → GuardIs θ (g ∷ gs) None

-- each expression has the value that stands at its place
abbrev pub ValuesAre : Binding → List Expression → List ℤ → Type 0
ValuesAre θ [] [] = Unit {0}
ValuesAre θ [] (z ∷ zs) = ⊥
ValuesAre θ (e ∷ es) [] = ⊥
ValuesAre θ (e ∷ es) (z ∷ zs) = (expression_value θ e ≡ Some z) × ValuesAre θ es zs

-- "The body goes on the stack, first item on top": an entry an item, a fact waiting with its arguments in order, and a fail
pub data BodyIs (θ : Binding) : List BodyItem → List Entry → Type 0 where
  nothing : BodyIs θ [] []
  waits : {es : List Expression} {is : List BodyItem} {C : List Entry} (f : Fact) → length f.arguments ≡ 4 → ValuesAre θ es f.arguments → BodyIs θ is C
      → BodyIs θ (body_fact f.symbol es ∷ is) (waiting f ∷ C)
  fails : {is : List BodyItem} {C : List Entry} → BodyIs θ is C → BodyIs θ (body_fail ∷ is) (fail_entry ∷ C)

-- ---- the two causes

-- z is the exact result of an operation on a and b: "1 sum, 2 difference, 3 product, 4 quotient, 5 remainder"
pub data ResultIs (a b : ℤ) : ℕ → ℤ → Type 0 where
  sum : ResultIs a b 1 (a +ℤ b)
  difference : ResultIs a b 2 (a -ℤ b)
  product : ResultIs a b 3 (a *ℤ b)
  quotient : (b ≡ pos 0 → ⊥) → ResultIs a b 4 (floor_z a b)
  remainder : (b ≡ pos 0 → ⊥) → ResultIs a b 5 (mod_z a b)

-- why an operation on a and b has no value: "the divisor is 0", or the exact result "lies outside" the range
pub data NoValue (operation : ℕ) (a b : ℤ) : Type 0 where
  zero_divisor : (operation ≡ 4) ⊎ (operation ≡ 5) → b ≡ pos 0 → NoValue operation a b
  out_of_range : (z : ℤ) → ResultIs a b operation z → in_range z ≡ false → NoValue operation a b

-- an expression without a value: its slots are the numbers a and b
pub record Lacks (θ : Binding) (e : Expression) : Type 0 where
  pub a : ℤ
  pub b : ℤ
  pub left : slot_value θ e.left ≡ Some a
  pub right : slot_value θ e.right ≡ Some b
  pub cause : NoValue e.operation a b

-- "A guard list is read left to right up to the first comparison that is not true. .. if it has an undefined side, the guard is undefined."
pub record GuardLacks (θ : Binding) (gs : List Guard) : Type 0 where
  pub before : List Guard
  pub first : Guard
  pub after : List Guard
  pub whole : gs ≡ before ++ first ∷ after
  pub holds : every (λ (g : Guard). comparison_value θ g ≡ Some true) before
  pub side : Lacks θ first.left ⊎ Lacks θ first.right

-- "body argument undefined"
pub record BodyLacks (θ : Binding) (is : List BodyItem) : Type 0 where
  pub symbol : Symbol
  pub arguments : List Expression
  pub item : Memᴰ (body_fact symbol arguments) is
  pub argument : Expression
  pub among : Memᴰ argument arguments
  pub lacks : Lacks θ argument

-- ---- the endings 3 and 4 of a run of the table t, with the facts that were stored then and the place, which is the rule

-- 3: "guard undefined"
pub record GuardStops (t : Table) (store : List Stored) (place : ℕ) : Type 0 where
  pub head : HeadPlace
  pub rule : place ≡ head.rule.0
  pub active : FactId
  pub facts : List Stored
  pub θ : Binding
  pub matching : Matching store head (rule_at t head.rule) active facts θ
  pub guard : guard_value θ (rule_at t head.rule).guards ≡ None
  pub cause : GuardLacks θ (rule_at t head.rule).guards

-- 4: "body argument undefined"
pub record BodyStops (t : Table) (store : List Stored) (place : ℕ) : Type 0 where
  pub head : HeadPlace
  pub rule : place ≡ head.rule.0
  pub active : FactId
  pub facts : List Stored
  pub θ : Binding
  pub matching : Matching store head (rule_at t head.rule) active facts θ
  pub guard : guard_value θ (rule_at t head.rule).guards ≡ Some true
  pub cause : BodyLacks θ (rule_at t head.rule).body

pub record Causes (t : Table) (store : List Stored) (number place : ℕ) : Type 0 where
  pub three : number ≡ 3 → GuardStops t store place
  pub four : number ≡ 4 → BodyStops t store place

-- a run's end, with the facts that it has stored
abbrev pub EndCauses : Table → Ended → Type 0
EndCauses t r = Causes t r.store r.result.number r.result.place
