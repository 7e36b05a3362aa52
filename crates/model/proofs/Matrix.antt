-- Every kind at every stage, and in each record each field wrong in turn, as one list with one claim: the definition gives each case's number and
-- place. The numbers are those of the second engine (host/src/reference), and some of every group were worked out from document 01 by hand. It is a list
-- beside that of the worked cases since short lists are crossed here: records with stages, and wrong bytes with the offsets of a good record. Good ones
-- stand among the wrong ones, so that a definition that refuses too much is found as well as one that refuses too little.
use Prim.Native.Nat.{ℕ, zero, suc, ◌+◌}
use mathlib.Core.Path.{◌≡◌, refl}
use mathlib.Core.List.{List, [], ◌∷◌, ◌++◌, map}
use lib.IntN.{pos}
use lib.Dec.{T}
use lib.ListN.{length, take, drop}
use Rattle.wire.specs.Wire.{u32_at, signed_of, bits_of, bytes4}
use Rattle.model.specs.Records.{kind_of, out_of_order}
use Rattle.model.specs.Slots.{slot_by, slot_at, expression_at}
use Rattle.model.specs.Fields.{place_bad, arity_at, places_bad, top_of, expression_bad, arguments_bad, head_bad, guard_bad, body_fact_bad, bad_field}
use Rattle.model.specs.Variables.{is_variable, head_has, in_heads, strange_slot, strange_expression, strange_guard, strange_fact, strange}
use Rattle.model.specs.Reading.{behind, fields_of, ordered_of, tested_of, known_of, record_of, noted, ended, go_on, read_from, read_of}
use Rattle.model.specs.Goal.{later_bad, later_places_bad, goal_fact_bad, facts_verdict, goal_verdict}
use Rattle.model.specs.Calls.{verdict_result, check_of, run_of}
use Rattle.model.proofs.Build.{Bytes, ◌then◌, Term, var, num, Form, only, op, symbol, rule, kept, removed, test, adds, failing, finish, fact, times}
use Rattle.model.proofs.Cases.{Case, runs, checks, refused, same, numbers_of, ran, agrees, all_agree}

-- ---- every kind at every stage

one : Term
one = num (pos 1)

-- a table's check: nothing is wrong, or n at p
told : Bytes → ℕ → ℕ → Case
told t zero p = checks t (refused 0 0)
told t (suc n) p = checks t (refused (suc n) p)

-- the records before a stage, and their length
record Stage : Type 0 where
  before : Bytes
  place : ℕ

stage : Bytes → ℕ → Stage
stage b p = record { before = b; place = p }

-- p(X) \ p(Y) <=> X equal Y | ..
opened : Bytes
opened = symbol 1 then rule then kept 0 (var 0 ∷ []) then removed 0 (var 1 ∷ []) then test 0 (only (var 0)) (only (var 1))

stages : List Stage
stages =
    stage (symbol 1) 2
    ∷ stage (symbol 1 then rule) 3
    ∷ stage (symbol 1 then rule then kept 0 (var 0 ∷ [])) 25
    ∷ stage (symbol 1 then rule then kept 0 (var 0 ∷ []) then removed 0 (var 1 ∷ [])) 47
    ∷ stage opened 71
    ∷ stage (opened then adds 0 (only (var 0) ∷ [])) 117
    ∷ stage (opened then failing) 72
    ∷ []

-- a record with good fields at each stage, and behind it what makes the table whole
along : List Stage → Bytes → Bytes → List ℕ → List Case
along [] r behind ns = []
along (s ∷ ss) r behind [] = []
along (s ∷ ss) r behind (n ∷ ns) = told (s.before then r then behind) n s.place ∷ along ss r behind ns

kinds : List Case
kinds =
    -- before the first rule; in a rule: no head yet, behind a kept head, a removed head, a guard, a body fact, a body fail
    along stages (symbol 1) finish (0 ∷ 18 ∷ 18 ∷ 18 ∷ 18 ∷ 18 ∷ 18 ∷ [])
    ++ along stages rule (kept 0 (var 0 ∷ []) then finish) (0 ∷ 21 ∷ 0 ∷ 0 ∷ 0 ∷ 0 ∷ 0 ∷ [])
    ++ along stages (kept 0 (var 0 ∷ [])) finish (18 ∷ 0 ∷ 0 ∷ 18 ∷ 18 ∷ 18 ∷ 18 ∷ [])
    ++ along stages (removed 0 (var 0 ∷ [])) finish (18 ∷ 0 ∷ 0 ∷ 0 ∷ 18 ∷ 18 ∷ 18 ∷ [])
    ++ along stages (test 0 (only (var 0)) (only (var 0))) finish (18 ∷ 21 ∷ 0 ∷ 0 ∷ 0 ∷ 18 ∷ 18 ∷ [])
    ++ along stages (adds 0 (only (var 0) ∷ [])) finish (18 ∷ 21 ∷ 0 ∷ 0 ∷ 0 ∷ 0 ∷ 0 ∷ [])
    ++ along stages failing finish (18 ∷ 21 ∷ 0 ∷ 0 ∷ 0 ∷ 0 ∷ 0 ∷ [])
    ++ along stages finish [] (0 ∷ 21 ∷ 0 ∷ 0 ∷ 0 ∷ 0 ∷ 0 ∷ [])
    ++ along stages (9 ∷ []) finish (16 ∷ 16 ∷ 16 ∷ 16 ∷ 16 ∷ 16 ∷ 16 ∷ [])
    ++ along stages (fact 0 []) finish (16 ∷ 16 ∷ 16 ∷ 16 ∷ 16 ∷ 16 ∷ 16 ∷ [])
    ++ along stages (17 ∷ []) finish (16 ∷ 16 ∷ 16 ∷ 16 ∷ 16 ∷ 16 ∷ 16 ∷ [])
    -- cut short, and no record at all
    ++ along stages (1 ∷ []) [] (17 ∷ 17 ∷ 17 ∷ 17 ∷ 17 ∷ 17 ∷ 17 ∷ [])
    ++ along stages (6 ∷ 0 ∷ []) [] (17 ∷ 17 ∷ 17 ∷ 17 ∷ 17 ∷ 17 ∷ 17 ∷ [])
    ++ along stages [] [] (17 ∷ 17 ∷ 17 ∷ 17 ∷ 17 ∷ 17 ∷ 17 ∷ [])

-- ---- other unknown kinds, one too many, and the order of the tests: 19 before 20 before 22

limits : List Case
limits =
    told (0 ∷ []) 16 0
    ∷ told (255 ∷ []) 16 0
    ∷ told (times 32 (symbol 4) then finish) 0 0
    ∷ told (times 32 (symbol 4) then symbol 9 then finish) 19 64
    ∷ told (symbol 0 then rule then times 4 (kept 0 []) then finish) 0 0
    ∷ told (symbol 0 then rule then times 4 (kept 0 []) then kept 9 [] then finish) 19 91
    ∷ told (symbol 0 then rule then times 2 (kept 0 []) then times 2 (removed 0 []) then finish) 0 0
    ∷ told (symbol 0 then rule then times 2 (kept 0 []) then times 3 (removed 0 []) then finish) 19 91
    ∷ told (symbol 0 then rule then kept 0 [] then times 4 (test 5 (only one) (only one)) then finish) 0 0
    ∷ told (symbol 0 then rule then kept 0 [] then times 4 (test 5 (only one) (only one)) then test 6 (only one) (only one) then finish) 19 121
    ∷ told (symbol 0 then rule then kept 0 [] then times 4 failing then finish) 0 0
    ∷ told (symbol 0 then rule then kept 0 [] then times 4 failing then failing then finish) 19 29
    ∷ told (symbol 0 then rule then kept 0 [] then times 2 (failing then adds 0 []) then adds 9 [] then finish) 19 119
    ∷ told (symbol 1 then rule then kept 0 (var 0 ∷ []) then test 6 (only (var 1)) (only one) then finish) 20 25
    ∷ told (symbol 1 then rule then kept 0 (var 0 ∷ []) then adds 1 (only (var 1) ∷ []) then finish) 20 25
    ∷ told (finish then finish) 23 1
    ∷ []

-- ---- each field wrong in turn

-- a good record, with what stands before and behind it in a good table, and its offset there
record Spot : Type 0 where
  before : Bytes
  good : Bytes
  behind : Bytes
  place : ℕ

spot : Bytes → Bytes → ℕ → Spot
spot b r p = record { before = b; good = r; behind = finish; place = p }

-- other bytes from offset i of a record on
put : ℕ → Bytes → Bytes → Bytes
put i b r = take i r ++ (b ++ drop (i + length b) r)

-- each of these bytes at one offset, and at each of some
spoiled : Spot → ℕ → ℕ → List Bytes → List Case
spoiled s n i [] = []
spoiled s n i (b ∷ bs) = told (s.before then put i b s.good then s.behind) n s.place ∷ spoiled s n i bs

crossed : Spot → ℕ → List ℕ → List Bytes → List Case
crossed s n [] bs = []
crossed s n (i ∷ is) bs = spoiled s n i bs ++ crossed s n is bs

-- k offsets from i on, and offsets that lie k further on
offsets : ℕ → ℕ → List ℕ
offsets i zero = []
offsets i (suc k) = i ∷ offsets (suc i) k

further : ℕ → List ℕ → List ℕ
further k is = map (λ i. i + k) is

bytes : List ℕ → List Bytes
bytes bs = map (λ b. b ∷ []) bs

tagged : ℕ → ℕ → Bytes
tagged tag value = tag ∷ bytes4 value

-- a used place: constants and variables at their ends; unused, unused with a value, a bad tag, a variable above 15; and such values in each byte
used_good : List Bytes
used_good = tagged 1 0 ∷ tagged 1 4294967295 ∷ tagged 2 0 ∷ tagged 2 15 ∷ []

used_bad : List Bytes
used_bad = tagged 0 0 ∷ tagged 0 1 ∷ tagged 3 0 ∷ tagged 2 16 ∷ []

far_bad : List Bytes
far_bad = tagged 255 0 ∷ tagged 0 16777216 ∷ tagged 2 256 ∷ tagged 2 65536 ∷ tagged 2 16777216 ∷ []

-- one that is not used: a constant, a variable, a bad tag, a value
unused_bad : List Bytes
unused_bad = tagged 1 0 ∷ tagged 2 0 ∷ tagged 3 0 ∷ tagged 0 1 ∷ []

-- of four places the first k are used: as many as the arity says, or not
first : ℕ → List Term
first zero = []
first (suc zero) = var 0 ∷ []
first (suc (suc zero)) = var 0 ∷ var 1 ∷ []
first (suc (suc (suc zero))) = var 0 ∷ var 1 ∷ var 2 ∷ []
first (suc (suc (suc (suc k)))) = var 0 ∷ var 1 ∷ var 2 ∷ var 15 ∷ []

used_as : (ℕ → ℕ → Bytes) → ℕ → ℕ → ℕ → List ℕ → List Case
used_as t p a k [] = []
used_as t p a k (n ∷ ns) = told (t a k) n p ∷ used_as t p a (suc k) ns

square : (ℕ → ℕ → Bytes) → ℕ → List Case
square t p =
    used_as t p 0 0 (0 ∷ 20 ∷ 20 ∷ 20 ∷ 20 ∷ [])
    ++ used_as t p 1 0 (20 ∷ 0 ∷ 20 ∷ 20 ∷ 20 ∷ [])
    ++ used_as t p 2 0 (20 ∷ 20 ∷ 0 ∷ 20 ∷ 20 ∷ [])
    ++ used_as t p 3 0 (20 ∷ 20 ∷ 20 ∷ 0 ∷ 20 ∷ [])
    ++ used_as t p 4 0 (20 ∷ 20 ∷ 20 ∷ 20 ∷ 0 ∷ [])

-- a symbol's arity
arities : List Case
arities =
    crossed (spot [] (symbol 0) 0) 0 (1 ∷ []) (bytes (0 ∷ 1 ∷ 2 ∷ 3 ∷ 4 ∷ []))
    ++ crossed (spot [] (symbol 0) 0) 20 (1 ∷ []) (bytes (5 ∷ 6 ∷ 255 ∷ []))
    ++ crossed (spot (symbol 4) (symbol 0) 2) 20 (1 ∷ []) (bytes (5 ∷ 6 ∷ 255 ∷ []))

-- a head's symbol and four slots
heads : (ℕ → List Term → Bytes) → List Case
heads head =
    let full : Spot = spot (symbol 4 then rule) (head 0 (first 4)) 3 in
    let empty : Spot = spot (symbol 0 then rule) (head 0 []) 3 in
    let slots : List ℕ = 2 ∷ 7 ∷ 12 ∷ 17 ∷ [] in
    crossed full 20 (1 ∷ []) (bytes (1 ∷ 255 ∷ []))
    ++ crossed full 0 slots used_good
    ++ crossed full 20 slots used_bad
    ++ crossed full 20 slots far_bad
    ++ crossed empty 20 slots unused_bad
    ++ crossed empty 20 (offsets 2 20) (bytes (1 ∷ []))
    ++ square (λ a k. symbol a then rule then head 0 (first k) then finish) 3

-- expressions at these offsets of a record that has the same one at each
expressions : (Form → Spot) → List ℕ → List Case
expressions r is =
    let alone : Spot = r (only (var 0)) in
    let both : Spot = r (op 1 (var 0) (var 1)) in
    -- a slot alone, the second unused; variable 7 is in no head, and a constant there is no variable
    crossed alone 0 (further 1 is) used_good
    ++ crossed alone 20 (further 1 is) used_bad
    ++ crossed alone 22 (further 1 is) (tagged 2 7 ∷ [])
    ++ crossed alone 20 (further 6 is) unused_bad
    ++ crossed alone 20 is (bytes (1 ∷ 2 ∷ 3 ∷ 4 ∷ 5 ∷ 6 ∷ []))
    -- an operation on two
    ++ crossed both 0 is (bytes (1 ∷ 2 ∷ 3 ∷ 4 ∷ 5 ∷ []))
    ++ crossed both 20 is (bytes (0 ∷ 6 ∷ 255 ∷ []))
    ++ crossed both 20 (further 1 is) used_bad
    ++ crossed both 22 (further 1 is) (tagged 2 7 ∷ [])
    ++ crossed both 0 (further 6 is) used_good
    ++ crossed both 20 (further 6 is) used_bad
    ++ crossed both 22 (further 6 is) (tagged 2 7 ∷ [])

-- p(X,Y,7,W) ==> .., where W is variable 15
headed : Bytes
headed = symbol 4 then rule then kept 0 (var 0 ∷ var 1 ∷ num (pos 7) ∷ var 15 ∷ [])

-- a comparison's comparator and two expressions
guards : List Case
guards =
    let good : Spot = spot headed (test 0 (only (var 0)) (only (var 1))) 25 in
    crossed good 0 (1 ∷ []) (bytes (0 ∷ 1 ∷ 2 ∷ 3 ∷ 4 ∷ 5 ∷ []))
    ++ crossed good 20 (1 ∷ []) (bytes (6 ∷ 7 ∷ 255 ∷ []))
    ++ expressions (λ f. spot headed (test 0 f f) 25) (2 ∷ 13 ∷ [])

-- a body fact's symbol and four expressions
body_facts : List Case
body_facts =
    let full : Form → Spot = λ f. spot headed (adds 0 (f ∷ f ∷ f ∷ f ∷ [])) 25 in
    let empty : Spot = spot (symbol 4 then symbol 0 then rule then kept 0 (first 4)) (adds 1 []) 27 in
    crossed (full (only (var 0))) 20 (1 ∷ []) (bytes (1 ∷ 255 ∷ []))
    ++ expressions full (2 ∷ 13 ∷ 24 ∷ 35 ∷ [])
    ++ crossed empty 20 (offsets 2 44) (bytes (1 ∷ []))
    ++ crossed empty 20 (further 1 (2 ∷ 13 ∷ 24 ∷ 35 ∷ [])) (tagged 2 0 ∷ [])
    ++ square (λ a k. symbol 4 then symbol a then rule then kept 0 (first 4) then adds 1 (map only (first k)) then finish) 27

-- ---- a goal's facts: the second of two. With an empty answer buffer a good goal is told by 36

goals : ℕ → ℕ → ℕ → List ℕ → List Bytes → List Case
goals a n p [] bs = []
goals a n p (i ∷ is) bs = map (λ b. runs (symbol a then finish) (fact 0 [] then put i b (fact 0 [])) 0 0 (refused n p) []) bs ++ goals a n p is bs

goal_facts : List Case
goal_facts =
    goals 4 33 1 (0 ∷ []) (bytes (0 ∷ 1 ∷ 8 ∷ 15 ∷ 17 ∷ 255 ∷ []))
    ++ goals 4 33 1 (1 ∷ []) (bytes (1 ∷ 255 ∷ []))
    ++ goals 0 33 1 (offsets 2 16) (bytes (1 ∷ []))
    ++ (goals 1 36 0 (offsets 2 4) (bytes (1 ∷ [])) ++ goals 1 33 1 (offsets 6 12) (bytes (1 ∷ [])))
    ++ (goals 2 36 0 (offsets 2 8) (bytes (1 ∷ [])) ++ goals 2 33 1 (offsets 10 8) (bytes (1 ∷ [])))
    ++ (goals 3 36 0 (offsets 2 12) (bytes (1 ∷ [])) ++ goals 3 33 1 (offsets 14 4) (bytes (1 ∷ [])))
    ++ goals 4 36 0 (offsets 2 16) (bytes (1 ∷ []))

-- ---- the claim

pub matrix : List Case
matrix = kinds ++ limits ++ arities ++ heads kept ++ heads removed ++ guards ++ body_facts ++ goal_facts

pub all-told : T (all_agree matrix)
unfolding told stage opened stages along kinds one limits spot put spoiled crossed offsets further bytes tagged used_good used_bad far_bad unused_bad
    first used_as square arities heads expressions headed guards body_facts goals goal_facts matrix same numbers_of ran agrees all_agree u32_at signed_of
    bits_of bytes4 kind_of out_of_order slot_by slot_at expression_at place_bad arity_at places_bad top_of expression_bad arguments_bad head_bad guard_bad
    body_fact_bad bad_field is_variable head_has in_heads strange_slot strange_expression strange_guard strange_fact strange behind fields_of ordered_of
    tested_of known_of
    record_of noted ended go_on read_from read_of later_bad later_places_bad goal_fact_bad facts_verdict goal_verdict verdict_result check_of run_of
all-told = tt

-- none is left out
pub all-counted : length matrix ≡ 773
unfolding told stage opened stages along kinds one limits spot put spoiled crossed offsets further bytes tagged used_good used_bad far_bad unused_bad
    first used_as square arities heads expressions headed guards body_facts goals goal_facts matrix bits_of bytes4
all-counted = refl
