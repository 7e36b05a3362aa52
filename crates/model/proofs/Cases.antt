-- The worked runs of document 01, and others beside them, as one table with one claim: the definition, computed from the bytes on, gives
-- each case's numbers, and every byte of the answer buffer. So the definition is held to numbers that were worked out without it.
use Prim.Native.Nat.{ℕ, zero, suc, ◌-◌}
use mathlib.Core.Bool.{Bool, true, false, ◌&&◌, ◌||◌}
use mathlib.Core.List.{List, [], ◌∷◌, ◌++◌}
use lib.IntN.{ℤ, pos, negsuc}
use lib.Dec.{T, eqb, ltb}
use lib.ListN.{length, replicate, get_or}
use Rattle.model.specs.declared.CallResult.{CallResult}
use Rattle.model.specs.Calls.{RunOutput, run_of}
use Rattle.model.proofs.Build.{Bytes, ◌then◌, Term, var, num, only, op, symbol, rule, kept, removed, test, adds, failing, finish, fact, stored}
use Rattle.model.proofs.Build.{times, zeros}
use Rattle.model.specs.Variables.{is_variable, head_has, in_heads, strange_slot, strange_expression, strange_guard, strange_fact, strange}
use Rattle.model.specs.Reading.{behind, fields_of, ordered_of, tested_of, known_of, record_of, noted, ended, go_on, read_from, read_of}
use Rattle.model.specs.Goal.{fact_at, facts_from, later_bad, later_places_bad, goal_fact_bad, facts_verdict, goal_verdict, goal_of}
use Rattle.model.specs.declared.Weighing.{Weighing}
use Rattle.model.specs.Weights.{goal_weight, heads_weight, body_weight, body_facts, most_places, most_facts, step_bound, first_zero, first_heavy}
use Rattle.model.specs.Calls.{verdict_result, check_of, output_of, weighed, weigh_of}
use Rattle.model.specs.Search.{is_among, four, fired_of, same_ids, same_fired, in_history, first_of, stored_fact, may_stand, complete, candidate}
use Rattle.model.specs.Search.{search, first_instance}
use Rattle.model.specs.Guards.{variable_value, slot_value, expression_value, comparison_value, guard_value}
use Rattle.model.specs.Table.{head_at, guard_at, body_fact_at, is_fact, item_at, behind_item, heads_from, guards_from, items_from, rule_of, table_by}
use Rattle.model.specs.Table.{table_of, rule_at, places_in, places_from, places}
use Rattle.model.specs.Answer.{stored_bytes, answer_bytes, answered}
use Rattle.model.specs.Run.{ended_as, run_with, run}
use Rattle.model.specs.Matching.{with_variable, match_variable, match_slot, and_slot, match_slots, match_head}
use Rattle.model.specs.Records.{kind_of, out_of_order}
use Rattle.model.specs.Steps.{start, argument_values, item_entry, body_entries, keep, gone, without, names, pruned, activated, advanced, dropped}
use Rattle.model.specs.Steps.{is_removed, fired, step_with}
use Rattle.model.specs.Fields.{place_bad, arity_at, places_bad, top_of, expression_bad, arguments_bad, head_bad, guard_bad, body_fact_bad, bad_field}
use Rattle.model.specs.Slots.{slot_by, slot_at, expression_at}
use Rattle.wire.specs.Wire.{u32_at, signed_of, bits_of, i32_at, bytes4}
use Rattle.numbers.specs.Numbers.{in_range, exact, unless_zero, floor_z, mod_z, quotient_of, remainder_of, operate}
use Rattle.numbers.specs.Numbers.{on_numbers}
use Rattle.numbers.specs.Numbers.{evaluate, holds, judge, compare}

abbrev X : Term
X = var 0

abbrev Y : Term
Y = var 1

abbrev Z : Term
Z = var 2

abbrev W : Term
W = var 3

minus : ℕ → ℤ
minus zero = pos 0
minus (suc n) = negsuc n

-- ---- the tables

-- mu(S,A) kept, mu(S,B) removed, A at most B
pub table_a : Bytes
table_a = symbol 2 then rule then kept 0 (X ∷ Y ∷ []) then removed 0 (X ∷ Z ∷ []) then test 3 (only Y) (only Z) then finish

pub mu : ℕ → ℕ → Bytes
mu s v = fact 0 (pos s ∷ pos v ∷ [])

-- p(X) ==> q(X)
copies : Bytes
copies = symbol 1 then symbol 1 then rule then kept 0 (X ∷ []) then adds 1 (only X ∷ []) then finish

-- p(X), p(Y) ==> r(X,Y)
pairs : Bytes
pairs = symbol 1 then symbol 2 then rule then kept 0 (X ∷ []) then kept 0 (Y ∷ []) then adds 1 (only X ∷ only Y ∷ []) then finish

-- k(A,B) <=> A/B > 3
divides : Bytes → Bytes
divides before = symbol 2 then rule then removed 0 (X ∷ Y ∷ []) then before then test 4 (op 4 X Y) (only (num (pos 3))) then finish

-- n(X) <=> n(X+1)
counts : Bytes
counts = symbol 1 then rule then removed 0 (X ∷ []) then adds 0 (op 1 X (num (pos 1)) ∷ []) then finish

-- n(X) <=> X < 0 | fail
negative : Bytes
negative = symbol 1 then rule then removed 0 (X ∷ []) then test 2 (only X) (only (num (pos 0))) then failing then finish

-- a ==> b, b
two_b : Bytes
two_b = symbol 0 then symbol 0 then rule then kept 0 [] then adds 1 [] then adds 1 [] then finish

-- e(X,Y), e(Y,Z), e(X,Z) ==> t(X,Y,Z)
triangles : Bytes
triangles =
    symbol 2 then symbol 3 then rule then kept 0 (X ∷ Y ∷ []) then kept 0 (Y ∷ Z ∷ []) then kept 0 (X ∷ Z ∷ [])
    then adds 1 (only X ∷ only Y ∷ only Z ∷ []) then finish

-- m, p(X), p(Y) ==> r(X,Y)
partners : Bytes
partners =
    symbol 0 then symbol 1 then symbol 2 then rule then kept 0 [] then kept 1 (X ∷ []) then kept 1 (Y ∷ [])
    then adds 2 (only X ∷ only Y ∷ []) then finish

-- p(X), p(Y) \ p(Z), p(W) <=> X < Y, Y < Z, Z < W | q(X,Y,Z,W)
fours : Bytes
fours =
    symbol 1 then symbol 4 then rule then kept 0 (X ∷ []) then kept 0 (Y ∷ []) then removed 0 (Z ∷ []) then removed 0 (W ∷ [])
    then test 2 (only X) (only Y) then test 2 (only Y) (only Z) then test 2 (only Z) (only W)
    then adds 1 (only X ∷ only Y ∷ only Z ∷ only W ∷ []) then finish

-- a(X) ==> b(X) and b(X), a(X) <=> true: the second removes the a under the b
undone : Bytes
undone = symbol 1 then symbol 1 then rule then kept 0 (X ∷ []) then adds 1 (only X ∷ []) then rule then removed 1 (X ∷ []) then removed 0 (X ∷ []) then finish

-- m \ k(A,B) <=> A/B > 3 | fail
ratios : Bytes
ratios = symbol 0 then symbol 2 then rule then kept 0 [] then removed 1 (X ∷ Y ∷ []) then test 4 (op 4 X Y) (only (num (pos 3))) then failing then finish

-- n(X,Y) <=> o(X+Y, X-Y, X*Y, X/Y), r(X mod Y)
works : Bytes
works =
    symbol 2 then symbol 4 then symbol 1 then rule then removed 0 (X ∷ Y ∷ [])
    then adds 1 (op 1 X Y ∷ op 2 X Y ∷ op 3 X Y ∷ op 4 X Y ∷ []) then adds 2 (op 5 X Y ∷ []) then finish

-- s(X,X) <=> o(X) and s(-3,Y) <=> o(Y)
repeats : Bytes
repeats =
    symbol 2 then symbol 1 then rule then removed 0 (X ∷ X ∷ []) then adds 1 (only X ∷ []) then rule
    then removed 0 (num (minus 3) ∷ Y ∷ []) then adds 1 (only Y ∷ []) then finish

-- s(X,Y) <=> X at least 0, X < Y, X unequal 3, Y rem 2 equal 0 | o(X,Y)
four_tests : Bytes
four_tests =
    symbol 2 then symbol 2 then rule then removed 0 (X ∷ Y ∷ []) then test 5 (only X) (only (num (pos 0))) then test 2 (only X) (only Y)
    then test 1 (only X) (only (num (pos 3))) then test 0 (op 5 Y (num (pos 2))) (only (num (pos 0))) then adds 1 (only X ∷ only Y ∷ []) then finish

-- n(X) <=> fail, n(X+1)
fails_first : Bytes
fails_first = symbol 1 then rule then removed 0 (X ∷ []) then failing then adds 0 (op 1 X (num (pos 1)) ∷ []) then finish

-- a <=> b
renames : Bytes
renames = symbol 0 then symbol 0 then rule then removed 0 [] then adds 1 [] then finish

-- a <=> b, b
halves : Bytes
halves = symbol 0 then symbol 0 then rule then removed 0 [] then adds 1 [] then adds 1 [] then finish

-- n <=> n, n, n, n
grows : Bytes
grows = symbol 0 then rule then removed 0 [] then times 4 (adds 0 []) then finish

-- n times p ==> true, and what comes behind
notes : ℕ → Bytes → Bytes
notes n behind = symbol 0 then times n (rule then kept 0 []) then behind then finish

bare : ℕ → Bytes
bare s = fact s []

-- ---- the cases

pub data Case : Type 0 where
  -- table, goal, step limit, length of the answer buffer; the result, and what is written
  runs : Bytes → Bytes → ℕ → ℕ → List ℕ → Bytes → Case
  -- table; the result
  checks : Bytes → List ℕ → Case
  -- table, weights, goal; the result, W and the bound
  weighs : Bytes → Bytes → Bytes → List ℕ → Case

-- a run with room for its answer
abbrev case : Bytes → Bytes → ℕ → List ℕ → Bytes → Case
case t g limit n a = runs t g limit 2816 n a

-- numbers 16 and above have all four counts 0
abbrev pub refused : ℕ → ℕ → List ℕ
refused n p = n ∷ p ∷ 0 ∷ 0 ∷ 0 ∷ 0 ∷ []

most : ℕ
most = 1000000

-- n times an a and its two b, from identifier i on
doubled : ℕ → ℕ → Bytes
doubled zero i = []
doubled (suc n) i = stored i 0 [] then stored (suc i) 1 [] then stored (suc (suc i)) 1 [] then doubled n (suc (suc (suc i)))

pub cases : List Case
cases =
    -- those of document 01 with a star
    case table_a [] 0 (0 ∷ 0 ∷ 0 ∷ 0 ∷ 0 ∷ 0 ∷ []) []
    ∷ case table_a (mu 7 310) most (0 ∷ 0 ∷ 4 ∷ 0 ∷ 1 ∷ 1 ∷ []) (stored 1 0 (pos 7 ∷ pos 310 ∷ []))
    ∷ case table_a (mu 7 310) 3 (2 ∷ 0 ∷ 3 ∷ 0 ∷ 1 ∷ 1 ∷ []) []
    ∷ case table_a (mu 7 280 then mu 7 280) most (0 ∷ 0 ∷ 6 ∷ 1 ∷ 2 ∷ 1 ∷ []) (stored 1 0 (pos 7 ∷ pos 280 ∷ []))
    ∷ case table_a (mu 7 310 then mu 7 280 then mu 7 295) most (0 ∷ 0 ∷ 11 ∷ 2 ∷ 3 ∷ 1 ∷ []) (stored 2 0 (pos 7 ∷ pos 280 ∷ []))
    ∷ weighs table_a (1 ∷ []) (mu 7 310 then mu 7 280 then mu 7 295) (0 ∷ 0 ∷ 0 ∷ 0 ∷ 0 ∷ 0 ∷ 3 ∷ 16 ∷ [])
    ∷ case copies (fact 0 (pos 5 ∷ [])) most (0 ∷ 0 ∷ 6 ∷ 1 ∷ 2 ∷ 2 ∷ []) (stored 1 0 (pos 5 ∷ []) then stored 2 1 (pos 5 ∷ []))
    ∷ case pairs (fact 0 (pos 1 ∷ []) then fact 0 (pos 2 ∷ [])) most (0 ∷ 0 ∷ 14 ∷ 2 ∷ 4 ∷ 4 ∷ [])
    (stored 1 0 (pos 1 ∷ []) then stored 2 0 (pos 2 ∷ []) then stored 3 1 (pos 1 ∷ pos 2 ∷ []) then stored 4 1 (pos 2 ∷ pos 1 ∷ []))
    ∷ case (divides []) (fact 0 (pos 1 ∷ pos 0 ∷ [])) most (3 ∷ 0 ∷ 1 ∷ 0 ∷ 1 ∷ 1 ∷ []) []
    ∷ case (divides (test 1 (only Y) (only (num (pos 0))))) (fact 0 (pos 1 ∷ pos 0 ∷ [])) most (0 ∷ 0 ∷ 3 ∷ 0 ∷ 1 ∷ 1 ∷ []) (stored 1 0 (pos 1 ∷ pos 0 ∷ []))
    ∷ case counts (fact 0 (pos 2147483646 ∷ [])) most (4 ∷ 0 ∷ 3 ∷ 1 ∷ 2 ∷ 1 ∷ []) []
    ∷ case negative (fact 0 (minus 1 ∷ [])) most (1 ∷ 0 ∷ 3 ∷ 1 ∷ 1 ∷ 0 ∷ []) []
    -- the limit: as many steps as are needed, and the greatest one
    ∷ case table_a (mu 7 310) 4 (0 ∷ 0 ∷ 4 ∷ 0 ∷ 1 ∷ 1 ∷ []) (stored 1 0 (pos 7 ∷ pos 310 ∷ []))
    ∷ case table_a [] 20000000 (0 ∷ 0 ∷ 0 ∷ 0 ∷ 0 ∷ 0 ∷ []) []
    -- three and four heads
    ∷ case triangles (mu 1 2 then mu 2 3 then mu 1 3) most (0 ∷ 0 ∷ 18 ∷ 1 ∷ 4 ∷ 4 ∷ [])
    (stored 1 0 (pos 1 ∷ pos 2 ∷ []) then stored 2 0 (pos 2 ∷ pos 3 ∷ []) then stored 3 0 (pos 1 ∷ pos 3 ∷ []) then stored 4 1 (pos 1 ∷ pos 2 ∷ pos 3 ∷ []))
    ∷ case partners (fact 1 (pos 1 ∷ []) then fact 1 (pos 2 ∷ []) then fact 1 (pos 3 ∷ []) then bare 0) most (0 ∷ 0 ∷ 33 ∷ 6 ∷ 10 ∷ 10 ∷ [])
    (stored 1 1 (pos 1 ∷ []) then stored 2 1 (pos 2 ∷ []) then stored 3 1 (pos 3 ∷ []) then stored 4 0 []
    then stored 5 2 (pos 1 ∷ pos 2 ∷ []) then stored 6 2 (pos 1 ∷ pos 3 ∷ []) then stored 7 2 (pos 2 ∷ pos 1 ∷ [])
    then stored 8 2 (pos 2 ∷ pos 3 ∷ []) then stored 9 2 (pos 3 ∷ pos 1 ∷ []) then stored 10 2 (pos 3 ∷ pos 2 ∷ []))
    ∷ case fours (fact 0 (pos 4 ∷ []) then fact 0 (pos 1 ∷ []) then fact 0 (pos 3 ∷ []) then fact 0 (pos 2 ∷ [])) most (0 ∷ 0 ∷ 27 ∷ 1 ∷ 5 ∷ 3 ∷ [])
    (stored 2 0 (pos 1 ∷ []) then stored 4 0 (pos 2 ∷ []) then stored 5 1 (pos 1 ∷ pos 2 ∷ pos 3 ∷ pos 4 ∷ []))
    -- removed while active: it goes on by Default to Drop
    ∷ case undone (fact 0 (pos 6 ∷ [])) most (0 ∷ 0 ∷ 7 ∷ 2 ∷ 2 ∷ 0 ∷ []) []
    -- an undefined guard behind an applicable instance, and before it
    ∷ case ratios (fact 1 (pos 8 ∷ pos 2 ∷ []) then fact 1 (pos 1 ∷ pos 0 ∷ []) then bare 0) most (1 ∷ 0 ∷ 9 ∷ 1 ∷ 3 ∷ 2 ∷ []) []
    ∷ case ratios (fact 1 (pos 1 ∷ pos 0 ∷ []) then fact 1 (pos 8 ∷ pos 2 ∷ []) then bare 0) most (3 ∷ 0 ∷ 7 ∷ 0 ∷ 3 ∷ 3 ∷ []) []
    -- operations, comparators, constants and repeated variables; the body's order; an argument behind a fail
    ∷ case works (fact 0 (minus 7 ∷ pos 2 ∷ [])) most (0 ∷ 0 ∷ 6 ∷ 1 ∷ 3 ∷ 2 ∷ [])
    (stored 2 1 (minus 5 ∷ minus 9 ∷ minus 14 ∷ minus 4 ∷ []) then stored 3 2 (pos 1 ∷ []))
    ∷ case works (fact 0 (minus 7 ∷ minus 2 ∷ [])) most (0 ∷ 0 ∷ 6 ∷ 1 ∷ 3 ∷ 2 ∷ [])
    (stored 2 1 (minus 9 ∷ minus 5 ∷ pos 14 ∷ pos 3 ∷ []) then stored 3 2 (minus 1 ∷ []))
    ∷ case four_tests (mu 0 4 then mu 3 4 then mu 5 4 then fact 0 (minus 1 ∷ pos 4 ∷ []) then mu 1 5) most (0 ∷ 0 ∷ 16 ∷ 1 ∷ 6 ∷ 5 ∷ [])
    (stored 2 1 (pos 0 ∷ pos 4 ∷ []) then stored 3 0 (pos 3 ∷ pos 4 ∷ []) then stored 4 0 (pos 5 ∷ pos 4 ∷ [])
    then stored 5 0 (minus 1 ∷ pos 4 ∷ []) then stored 6 0 (pos 1 ∷ pos 5 ∷ []))
    ∷ case repeats (mu 3 3 then mu 3 4 then fact 0 (minus 3 ∷ pos 9 ∷ [])) most (0 ∷ 0 ∷ 13 ∷ 2 ∷ 5 ∷ 3 ∷ [])
    (stored 2 1 (pos 3 ∷ []) then stored 3 0 (pos 3 ∷ pos 4 ∷ []) then stored 5 1 (pos 9 ∷ []))
    ∷ case fails_first (fact 0 (pos 2147483647 ∷ [])) most (4 ∷ 0 ∷ 1 ∷ 0 ∷ 1 ∷ 1 ∷ []) []
    -- a freed place's identifier is not given again
    ∷ case renames (bare 0 then bare 0) most (0 ∷ 0 ∷ 8 ∷ 2 ∷ 4 ∷ 2 ∷ []) (stored 2 1 [] then stored 4 1 [])
    -- good and refused tables
    ∷ checks table_a (refused 0 0)
    ∷ checks (9 ∷ []) (refused 16 0)
    ∷ checks (symbol 0 then bare 0) (refused 16 2)
    ∷ checks [] (refused 17 0)
    ∷ checks (symbol 0 then rule then 3 ∷ []) (refused 17 3)
    ∷ checks (symbol 0 then rule then kept 0 [] then symbol 0 then finish) (refused 18 25)
    ∷ checks (times 33 (symbol 0) then finish) (refused 19 64)
    ∷ checks (symbol 0 then rule then times 5 (kept 0 []) then finish) (refused 19 91)
    ∷ checks (symbol 5 then finish) (refused 20 0)
    ∷ checks (symbol 0 then rule then kept 1 [] then finish) (refused 20 3)
    ∷ checks (symbol 0 then rule then kept 0 (X ∷ []) then finish) (refused 20 3)
    ∷ checks (symbol 1 then rule then kept 0 (X ∷ []) then test 6 (only X) (only X) then finish) (refused 20 25)
    ∷ checks (symbol 0 then rule then finish) (refused 21 3)
    ∷ checks (symbol 1 then rule then kept 0 (X ∷ []) then test 0 (only Y) (only X) then finish) (refused 22 25)
    ∷ checks (symbol 0 then finish then zeros 2) (refused 23 3)
    -- the order of a record's tests, where two of them fail
    ∷ checks (2 ∷ []) (refused 17 1)
    ∷ checks (times 32 (symbol 0) then 1 ∷ []) (refused 17 64)
    ∷ checks (symbol 0 then rule then kept 0 [] then symbol 9 then finish) (refused 18 25)
    ∷ checks (symbol 0 then rule then times 4 (kept 0 []) then failing then kept 0 [] then finish) (refused 18 92)
    ∷ checks (symbol 0 then rule then test 6 (only (num (pos 1))) (only (num (pos 1))) then finish) (refused 21 3)
    -- a run's tests, in their order
    ∷ case (9 ∷ []) (1 ∷ []) 20000001 (refused 16 0) []
    ∷ runs [] (1 ∷ []) 20000001 0 (refused 17 0) []
    ∷ runs (symbol 0 then rule then kept 0 [] then symbol 0 then finish) (1 ∷ []) 20000001 0 (refused 18 25) []
    ∷ runs (symbol 0 then rule then times 5 (kept 0 []) then finish) (1 ∷ []) 20000001 0 (refused 19 91) []
    ∷ runs (symbol 5 then finish) (1 ∷ []) 20000001 0 (refused 20 0) []
    ∷ runs (symbol 0 then rule then finish) (1 ∷ []) 20000001 0 (refused 21 3) []
    ∷ runs (symbol 1 then rule then kept 0 (X ∷ []) then test 0 (only Y) (only X) then finish) (1 ∷ []) 20000001 0 (refused 22 25) []
    ∷ runs (symbol 0 then finish then zeros 2) (1 ∷ []) 20000001 0 (refused 23 3) []
    ∷ case table_a (16 ∷ []) 20000001 (refused 32 0) []
    ∷ case table_a (times 65 (bare 9)) most (refused 34 0) []
    ∷ case table_a (mu 7 310 then bare 1) most (refused 33 1) []
    ∷ case copies (fact 0 (pos 5 ∷ pos 6 ∷ [])) most (refused 33 0) []
    ∷ runs table_a (mu 7 310) 20000001 2815 (refused 35 0) []
    ∷ runs table_a (mu 7 310) 20000000 2815 (refused 36 0) []
    -- a goal's tests, in their order; 64 facts are good
    ∷ runs (symbol 0 then finish) (times 65 (bare 9) then 1 ∷ []) 0 0 (refused 32 0) []
    ∷ runs (symbol 0 then finish) (bare 1 then bare 1) 0 0 (refused 33 0) []
    ∷ runs (symbol 0 then finish) (times 64 (bare 0)) 0 0 (refused 36 0) []
    -- weighings
    ∷ weighs (9 ∷ []) [] [] (refused 16 0 ++ (0 ∷ 0 ∷ []))
    ∷ weighs table_a [] (mu 7 310) (refused 40 0 ++ (0 ∷ 0 ∷ []))
    ∷ weighs halves (1 ∷ 0 ∷ []) (bare 0) (refused 41 1 ++ (0 ∷ 0 ∷ []))
    ∷ weighs counts (7 ∷ []) (1 ∷ []) (refused 42 0 ++ (0 ∷ 0 ∷ []))
    ∷ weighs halves (2 ∷ 1 ∷ []) (bare 0) (refused 42 0 ++ (0 ∷ 0 ∷ []))
    ∷ weighs undone (2 ∷ 1 ∷ []) (fact 0 (pos 6 ∷ [])) (refused 42 0 ++ (0 ∷ 0 ∷ []))
    ∷ weighs table_a (1 ∷ []) (1 ∷ []) (refused 32 0 ++ (0 ∷ 0 ∷ []))
    ∷ weighs halves (3 ∷ 1 ∷ []) (bare 0 then bare 0) (refused 0 0 ++ (6 ∷ 49 ∷ []))
    ∷ weighs negative (1 ∷ []) (fact 0 (minus 1 ∷ [])) (refused 0 0 ++ (1 ∷ 5 ∷ []))
    -- M is the most places of one symbol
    ∷ weighs (symbol 0 then symbol 0 then rule then removed 0 [] then rule then removed 1 [] then finish) (1 ∷ 1 ∷ []) (bare 0) (refused 0 0 ++ (1 ∷ 5 ∷ []))
    -- a weighing's tests, in their order, each with its place
    ∷ weighs (symbol 0 then bare 0) [] [] (refused 16 2 ++ (0 ∷ 0 ∷ []))
    ∷ weighs table_a (0 ∷ 0 ∷ []) (1 ∷ []) (refused 40 0 ++ (0 ∷ 0 ∷ []))
    ∷ weighs halves (0 ∷ 0 ∷ []) (1 ∷ []) (refused 41 0 ++ (0 ∷ 0 ∷ []))
    ∷ weighs (symbol 0 then rule then removed 0 [] then rule then removed 0 [] then adds 0 [] then rule then kept 0 [] then finish) (1 ∷ []) []
    (refused 42 1 ++ (0 ∷ 0 ∷ []))
    ∷ weighs table_a (1 ∷ []) (mu 7 310 then bare 1) (refused 33 1 ++ (0 ∷ 0 ∷ []))
    -- Those of hundreds of steps come last, the shortest first: a wrong definition is found at the first case that it gets wrong.
    -- the history: 264 entries, of which never more than eight are held
    ∷ case (notes 8 (rule then removed 0 [])) (times 33 (bare 0)) most (0 ∷ 0 ∷ 594 ∷ 297 ∷ 33 ∷ 0 ∷ []) []
    -- the stack: 256 entries and then 259; 254 and then 257
    ∷ case grows (bare 0) most (6 ∷ 0 ∷ 171 ∷ 85 ∷ 86 ∷ 1 ∷ []) []
    ∷ case grows (times 2 (bare 0)) most (6 ∷ 0 ∷ 169 ∷ 84 ∷ 85 ∷ 1 ∷ []) []
    -- document 01's own without a star: the store; and the answer of 126 facts is 2,772 bytes
    ∷ case two_b (times 43 (bare 0)) most (5 ∷ 0 ∷ 340 ∷ 43 ∷ 128 ∷ 128 ∷ []) []
    ∷ case two_b (times 42 (bare 0)) most (0 ∷ 0 ∷ 336 ∷ 42 ∷ 126 ∷ 126 ∷ []) (doubled 42 1)
    -- the history's 257th entry, of the second of five rules
    ∷ case (notes 5 []) (times 52 (bare 0)) most (7 ∷ 1 ∷ 615 ∷ 256 ∷ 52 ∷ 52 ∷ []) []
    ∷ []

-- ---- the claim

unfoldable pub same : List ℕ → List ℕ → Bool
same [] [] = true
same [] (y ∷ ys) = false
same (x ∷ xs) [] = false
same (x ∷ xs) (y ∷ ys) = eqb x y && same xs ys

unfoldable pub numbers_of : CallResult → List ℕ
numbers_of r = r.number ∷ r.place ∷ r.steps ∷ r.firings ∷ r.identifiers ∷ r.stored ∷ []

-- the buffer holds 165 before the call
unfoldable pub ran : RunOutput → ℕ → List ℕ → Bytes → Bool
ran r room n a = same (numbers_of r.result) n && same r.answer (a ++ replicate (room - length a) 165)

unfoldable pub weighed_as : Weighing → List ℕ → Bool
weighed_as w n = same (numbers_of w.result ++ (w.weight ∷ w.bound ∷ [])) n

unfoldable pub agrees : Case → Bool
agrees (runs t g limit room n a) = ran (run_of t g limit (replicate room 165)) room n a
agrees (checks t n) = same (numbers_of (check_of t)) n
agrees (weighs t w g n) = weighed_as (weigh_of t w g) n

unfoldable pub all_agree : List Case → Bool
all_agree [] = true
all_agree (c ∷ cs) = agrees c && all_agree cs

pub worked_runs : T (all_agree cases)
unfolding table_a mu copies pairs divides counts negative two_b minus triangles partners fours undone ratios works repeats four_tests fails_first renames
    halves grows notes bare doubled most cases same numbers_of ran weighed_as agrees all_agree is_variable head_has in_heads strange_slot strange_expression
    strange_guard strange_fact strange behind fields_of ordered_of tested_of known_of record_of noted ended go_on read_from read_of fact_at facts_from later_bad
    later_places_bad goal_fact_bad facts_verdict goal_verdict goal_of verdict_result check_of output_of run_of weighed weigh_of goal_weight heads_weight
    body_weight
    body_facts most_places most_facts step_bound first_zero first_heavy is_among four fired_of same_ids same_fired in_history first_of stored_fact may_stand
    complete candidate search first_instance variable_value slot_value expression_value comparison_value guard_value head_at guard_at body_fact_at is_fact
    item_at
    behind_item heads_from guards_from items_from rule_of table_by table_of rule_at places_in places_from places stored_bytes answer_bytes answered ended_as
    run_with run with_variable match_variable match_slot and_slot match_slots match_head kind_of out_of_order start argument_values item_entry body_entries keep
    gone without names pruned activated advanced dropped is_removed fired step_with place_bad arity_at places_bad top_of expression_bad arguments_bad head_bad
    guard_bad body_fact_bad bad_field slot_by slot_at expression_at u32_at signed_of bits_of i32_at bytes4 in_range exact unless_zero
    floor_z mod_z quotient_of remainder_of operate on_numbers evaluate holds judge compare
worked_runs = tt

-- ---- the numbers of a run: each is that of one case or more, on bytes and a limit of 32 bits

abbrev pub run_numbers : List ℕ
run_numbers =
    0 ∷ 1 ∷ 2 ∷ 3 ∷ 4 ∷ 5 ∷ 6 ∷ 7 ∷ 16 ∷ 17 ∷ 18 ∷ 19 ∷ 20 ∷ 21 ∷ 22 ∷ 23 ∷ 32 ∷ 33 ∷ 34 ∷ 35 ∷ 36 ∷ []

unfoldable pub are_bytes : Bytes → Bool
are_bytes [] = true
are_bytes (b ∷ bs) = ltb b 256 && are_bytes bs

unfoldable pub gives : ℕ → Case → Bool
gives n (runs t g limit room ns a) = eqb (get_or ns 0 0) n && (ltb limit 4294967296 && (are_bytes t && are_bytes g))
gives n (checks t ns) = false
gives n (weighs t w g ns) = false

unfoldable pub some_gives : ℕ → List Case → Bool
some_gives n [] = false
some_gives n (c ∷ cs) = gives n c || some_gives n cs

unfoldable pub all_given : List ℕ → List Case → Bool
all_given [] cs = true
all_given (n ∷ ns) cs = some_gives n cs && all_given ns cs

pub given_numbers : T (all_given run_numbers cases)
unfolding table_a mu copies pairs divides counts negative two_b minus triangles partners fours undone ratios works repeats four_tests fails_first renames
    halves grows notes bare doubled most cases bits_of bytes4 are_bytes gives some_gives all_given
given_numbers = tt
