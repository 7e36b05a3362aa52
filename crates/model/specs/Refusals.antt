-- What a call refuses, and the number of each refusal: document 01, "Numbers", and document 02, No. 2.
use Rattle.std.specs.Prelude.{ℕ, Result, Err, ⊤}
use Rattle.model.specs.declared.Reason.{Reason}
use Rattle.model.specs.declared.Reason.TheVariants.{UnknownKind, CutShort, OutOfOrder, TooMany, BadField, Headless, StrangeVariable, BytesBehind}
use Rattle.model.specs.declared.Reason.TheVariants.{GoalLength, BadGoalFact, LongGoal, StepLimit, ShortAnswer, WeightCount, ZeroWeight, HeavyRule}
use Rattle.model.specs.declared.Reason.TheVariants.{LongText, NoToken, NoGrammarRule, NoRoom}
use Rattle.model.specs.declared.Refusal.{Refusal}

abbrev pub number_of : Reason → ℕ
-- "unknown kind in a table (16 and 17 included)"
number_of UnknownKind = 16
-- "record cut short, or no end record"
number_of CutShort = 17
-- "record out of order"
number_of OutOfOrder = 18
-- "one too many of its sort"
number_of TooMany = 19
-- "bad field: arity, undeclared symbol, tag, operation, comparator, unused or used place, variable"
number_of BadField = 20
-- "guard, body item, rule or end after a rule with no head"
number_of Headless = 21
-- "guard or body variable in no head"
number_of StrangeVariable = 22
-- "bytes after the end record"
number_of BytesBehind = 23
-- "goal length no multiple of 18"
number_of GoalLength = 32
-- "first goal fact of a kind other than 16, with an undeclared symbol, or a later place not zero"
number_of BadGoalFact = 33
-- "over 64 facts"
number_of LongGoal = 34
-- "step limit .. out of range"
number_of StepLimit = 35
-- "answer buffer out of range"
number_of ShortAnswer = 36
-- "weight count differs from symbols"
number_of WeightCount = 40
-- "first zero weight"
number_of ZeroWeight = 41
-- "first rule that does not lose weight"
number_of HeavyRule = 42
-- "text too long"
number_of LongText = 48
-- "no token"
number_of NoToken = 49
-- "no rule of the grammar"
number_of NoGrammarRule = 50
-- "no room for the table or text"
number_of NoRoom = 51

-- "its number and its place"
abbrev pub refused : {T : Type 0} → Reason → ℕ → Result T Refusal
refused r p = Err (record { reason = r; place = p })

-- a table or a goal that is good is Ok tt
abbrev pub Verdict : Type 0
Verdict = Result ⊤ Refusal
