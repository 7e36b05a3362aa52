-- Reading a goal: 32, 34, 33.
use Rattle.std.specs.Prelude.{ℕ, zero, suc, ◌+◌, ◌*◌, ◌/◌, ◌%◌, Bool, true, false, not, cond, ◌&&◌, ◌||◌, List, [], ◌∷◌, Ok, leb, eqb, length, get_or}
use Rattle.model.specs.declared.Fact.{Fact}
use Rattle.model.specs.declared.Reason.TheVariants.{GoalLength, BadGoalFact, LongGoal}
use Rattle.model.specs.Limits.{most_goal_facts}
use Rattle.model.specs.Refusals.{Verdict, refused}
use Rattle.model.specs.Fields.{arity_at}
use Rattle.model.specs.Table.{symbol_at}
use Rattle.wire.specs.Wire.{u32_at, i32_at}

-- "goal fact: symbol, four arguments", at its kind byte; "facts' arguments are two's complement"
unfoldable pub fact_at : List ℕ → ℕ → Fact
fact_at g p = record { symbol = symbol_at g (p + 1); arguments = i32_at g (p + 2) ∷ i32_at g (p + 6) ∷ i32_at g (p + 10) ∷ i32_at g (p + 14) ∷ [] }

unfoldable pub facts_from : List ℕ → ℕ → ℕ → List Fact
facts_from g p zero = []
facts_from g p (suc n) = fact_at g p ∷ facts_from g (p + 18) n

-- "Each later place is zero in every byte."
unfoldable pub later_bad : ℕ → ℕ → ℕ → Bool
later_bad arity place value = leb arity place && not (eqb value 0)

unfoldable pub later_places_bad : ℕ → List ℕ → ℕ → Bool
later_places_bad arity g p =
    later_bad arity 0 (u32_at g p)
    || (later_bad arity 1 (u32_at g (p + 4))
    || (later_bad arity 2 (u32_at g (p + 8))
    || later_bad arity 3 (u32_at g (p + 12))))

-- 33: "of a kind other than 16, with an undeclared symbol, or a later place not zero"
unfoldable pub goal_fact_bad : List ℕ → ℕ → List ℕ → ℕ → Bool
goal_fact_bad t symbols g p =
    not (eqb (get_or g p 0) 16)
    || (leb symbols (get_or g (p + 1) 0)
    || later_places_bad (arity_at t (get_or g (p + 1) 0)) g (p + 2))

-- the first bad one of n facts, the first of which is fact k
unfoldable pub facts_verdict : List ℕ → ℕ → List ℕ → ℕ → ℕ → Verdict
facts_verdict t symbols g k zero = Ok tt
facts_verdict t symbols g k (suc n) =
    elim (goal_fact_bad t symbols g (18 * k)) [ true ↦ refused BadGoalFact k | false ↦ facts_verdict t symbols g (k + 1) n ]

-- 32 "goal length no multiple of 18", 34 "over 64 facts", 33
unfoldable pub goal_verdict : List ℕ → ℕ → List ℕ → Verdict
goal_verdict t symbols g =
    cond (eqb (length g % 18) 0)
    (cond (leb (length g / 18) most_goal_facts) (facts_verdict t symbols g 0 (length g / 18)) (refused LongGoal 0))
    (refused GoalLength 0)

unfoldable pub goal_of : List ℕ → List Fact
goal_of g = facts_from g 0 (length g / 18)
