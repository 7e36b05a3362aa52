-- "The longest good table has 23,681 bytes.": one of that length is good. It has 32 symbols, and 64 rules of four heads, four guards and four
-- body facts each. It is not computed as a whole: a record is read where it lies, so that one rule, read at any offset, stands for all.
use Prim.Native.Nat.{ℕ, zero, suc, ◌+◌, ◌*◌, ◌≤◌, ◌<◌}
use mathlib.Core.Path.{◌≡◌, refl, sym, ap, ◌∙◌, subst}
use mathlib.Core.Bool.{Bool, true, false, ◌||◌}
use mathlib.Core.List.{List, [], ◌∷◌, ◌++◌}
use native.Mathlib.Omega.{arith}
use native.Mathlib.Nat.{add_assoc}
use lib.Dec.{ltb, leb, eqb}
use lib.ListN.{length, get_or, drop, replicate, length-append, length-drop}
use lib.Seq.{get_or-drop, drop-drop, drop-append_seam}
use borrow.Author.Tests.{le-ltb, lt-leb}
use Rattle.model.specs.declared.Kind.{Kind}
use Rattle.model.specs.declared.Kind.TheVariants.{NextSymbol, NextRule, RemovedHead, Comparison, BodyFact, EndOfTable}
use Rattle.model.specs.declared.RuleShape.{RuleShape}
use Rattle.model.specs.declared.Scan.{Scan}
use Rattle.std.specs.Prelude.{Some, Ok}
use Rattle.model.specs.declared.Behind.TheVariants.{Next, Done}
use Rattle.model.specs.Records.{kind_of, size_of, out_of_order, headless, too_many}
use Rattle.model.specs.Slots.{slot_by, slot_at}
use Rattle.model.specs.Fields.{place_bad, arity_at, places_bad, top_of, expression_bad, arguments_bad, head_bad, guard_bad, body_fact_bad, bad_field}
use Rattle.model.specs.Variables.{strange_slot, strange_expression, strange_guard, strange_fact, strange}
use Rattle.model.specs.Reading.{no_shape, no_shapes, first_scan, behind, fields_of, ordered_of, tested_of}
use Rattle.model.specs.Reading.{known_of, record_of, noted, ended, go_on, read_from, read_of}
use Rattle.wire.specs.Wire.{u32_at}
use Rattle.model.proofs.Build.{Bytes}

-- ---- the table: symbol 0 has arity 0, so that its places are zero in every byte

head_row : Bytes
head_row = 4 ∷ 0 ∷ replicate 20 0

-- 0 equal to 0
guard_row : Bytes
guard_row = 5 ∷ 0 ∷ (0 ∷ 1 ∷ replicate 9 0) ++ (0 ∷ 1 ∷ replicate 9 0)

fact_row : Bytes
fact_row = 6 ∷ 0 ∷ replicate 44 0

symbol_row : Bytes
symbol_row = 1 ∷ 0 ∷ []

rule_row : Bytes
rule_row = 2 ∷ []

four_of : Bytes → Bytes → Bytes
four_of row rest = row ++ (row ++ (row ++ (row ++ rest)))

rows : ℕ → Bytes
rows zero = 8 ∷ []
rows (suc k) = rule_row ++ four_of head_row (four_of guard_row (four_of fact_row (rows k)))

symbols_then : ℕ → Bytes → Bytes
symbols_then zero rest = rest
symbols_then (suc j) rest = symbol_row ++ symbols_then j rest

pub longest_table : Bytes
longest_table = symbols_then 32 (rows 64)

-- ---- a record that passes every test is read

record-passes : (t : List ℕ) (s : Scan) (k : Kind) → kind_of (get_or t s.at 0) ≡ Some k → 1 ≤ size_of k → s.at + size_of k ≤ length t
    → out_of_order k s.stage ≡ false → headless k s.stage ≡ false → too_many k s ≡ false → bad_field t s k ≡ false → strange t s k ≡ false
    → record_of t s ≡ Ok (behind s k)
unfolding record_of known_of tested_of ordered_of fields_of
record-passes t s k kind some lies ordered headed few fields usual =
    let here : leb (length t) s.at ≡ false = lt-leb (length t) s.at (omega arith) in
    let whole : ltb (length t) (s.at + size_of k) ≡ false = le-ltb (length t) (s.at + size_of k) lies in
    rw (here, kind, whole, ordered, headed, few, fields, usual)

-- ---- the table's verdict, whatever shapes were noted

abbrev Passes : ℕ → List ℕ → Scan → Type 0
Passes n t s = (shapes : List RuleShape) → (read_from n t s shapes).verdict ≡ Ok tt

passes-next : (n : ℕ) (t : List ℕ) (s s' : Scan) → record_of t s ≡ Ok (Next s') → Passes n t s' → Passes (suc n) t s
unfolding read_from go_on
passes-next n t s s' e h shapes = rw e (h (noted shapes s'))

passes-done : (n : ℕ) (t : List ℕ) (s : Scan) (p : ℕ) → record_of t s ≡ Ok (Done p) → length t ≤ p → Passes (suc n) t s
unfolding read_from go_on ended
passes-done n t s p e h shapes = rw (e, le-ltb p (length t) h)

-- ---- the bytes from p on

module _ (t l : List ℕ) (p : ℕ) (e : drop p t ≡ l) where
  byte-at : (i : ℕ) → get_or t (p + i) 0 ≡ get_or l i 0
  byte-at i = rw (← e) (sym (get_or-drop p t i 0))

  byte-here : get_or t p 0 ≡ get_or l 0 0
  byte-here = let z : p + 0 ≡ p = omega arith in rw z at (byte-at 0)

  slot-at : (i : ℕ) → slot_at t (p + i) ≡ slot_at l i
  unfolding slot_at u32_at
  slot-at i = simp (add_assoc, byte-at)

  places-at : (i arity : ℕ) → places_bad t (p + i) arity ≡ places_bad l i arity
  unfolding places_bad
  places-at i arity = simp (add_assoc, slot-at)

  expression-at : (i : ℕ) (used : Bool) → expression_bad t (p + i) used ≡ expression_bad l i used
  unfolding expression_bad
  expression-at i used = simp (add_assoc, slot-at, byte-at)

  arguments-at : (i arity : ℕ) → arguments_bad t (p + i) arity ≡ arguments_bad l i arity
  unfolding arguments_bad
  arguments-at i arity = simp (add_assoc, expression-at)

  strange-at : (start heads i : ℕ) → strange_expression t start heads (p + i)
      ≡ (strange_slot t start heads (slot_at l (i + 1)) || strange_slot t start heads (slot_at l (i + 6)))
  unfolding strange_expression
  strange-at start heads i = simp (add_assoc, slot-at)

module _ (t row rest : List ℕ) (p : ℕ) (e : drop p t ≡ row ++ rest) where
  row-lies : 1 ≤ length row → p + length row ≤ length t
  row-lies h = omega (arith, length-drop p t, ap length e, length-append row rest)

  row-rest : drop (p + length row) t ≡ rest
  row-rest = sym (drop-drop (length row) p t) ∙ ap (drop (length row)) e ∙ drop-append_seam row rest

-- ---- the tests of each row, where it lies

head-closed : (rest : Bytes) → places_bad (head_row ++ rest) 2 0 ≡ false
unfolding head_row places_bad place_bad slot_at slot_by u32_at
head-closed rest = refl

guard-closed : (rest : Bytes) → (expression_bad (guard_row ++ rest) 2 true || expression_bad (guard_row ++ rest) 13 true) ≡ false
unfolding guard_row expression_bad top_of place_bad slot_at slot_by u32_at
guard-closed rest = refl

fact-closed : (rest : Bytes) → arguments_bad (fact_row ++ rest) 2 0 ≡ false
unfolding fact_row arguments_bad expression_bad top_of place_bad slot_at slot_by u32_at
fact-closed rest = refl

module _ (t : List ℕ) (arity : arity_at t 0 ≡ 0) (rest : Bytes) (p : ℕ) where
  head-fine : drop p t ≡ head_row ++ rest → head_bad t p 32 ≡ false
  unfolding head_bad head_row
  head-fine e = rw (byte-at t (head_row ++ rest) p e 1, arity, places-at t (head_row ++ rest) p e 2 0) (head-closed rest)

  guard-fine : drop p t ≡ guard_row ++ rest → guard_bad t p ≡ false
  unfolding guard_bad guard_row
  guard-fine e =
      rw (byte-at t (guard_row ++ rest) p e 1, expression-at t (guard_row ++ rest) p e 2 true, expression-at t (guard_row ++ rest) p e 13 true)
      (guard-closed rest)

  fact-fine : drop p t ≡ fact_row ++ rest → body_fact_bad t p 32 ≡ false
  unfolding body_fact_bad fact_row
  fact-fine e = rw (byte-at t (fact_row ++ rest) p e 1, arity, arguments-at t (fact_row ++ rest) p e 2 0) (fact-closed rest)

  guard-usual : (start heads : ℕ) → drop p t ≡ guard_row ++ rest → strange_guard t start heads p ≡ false
  unfolding strange_guard strange_slot guard_row slot_at slot_by u32_at
  guard-usual start heads e = rw (strange-at t (guard_row ++ rest) p e start heads 2, strange-at t (guard_row ++ rest) p e start heads 13)

  fact-usual : (start heads : ℕ) → drop p t ≡ fact_row ++ rest → strange_fact t start heads p ≡ false
  unfolding strange_fact strange_slot fact_row slot_at slot_by u32_at
  fact-usual start heads e =
      rw (
        strange-at t (fact_row ++ rest) p e start heads 2,
        strange-at t (fact_row ++ rest) p e start heads 13,
        strange-at t (fact_row ++ rest) p e start heads 24,
        strange-at t (fact_row ++ rest) p e start heads 35,
      )

-- ---- each row is read, and what is behind it

-- before the rules
abbrev at_symbols : ℕ → ℕ → Scan
at_symbols p symbols = record { at = p; stage = 0; symbols = symbols; rules = 0; shape = no_shape }

-- with r rules, the last of which is `shape`
abbrev at_rule : ℕ → ℕ → ℕ → RuleShape → Scan
at_rule p r stage shape = record { at = p; stage = stage; symbols = 32; rules = r; shape = shape }

abbrev shaped : ℕ → ℕ → ℕ → ℕ → RuleShape
shaped start h g i = record { start = start; kept = 0; heads = h; guards = g; items = i }

module _ (t : List ℕ) (arity : arity_at t 0 ≡ 0) (rest : Bytes) (p : ℕ) where
  symbol-read : (n symbols : ℕ) → symbols < 32 → drop p t ≡ symbol_row ++ rest → (drop (p + 2) t ≡ rest → Passes n t (at_symbols (p + 2) (symbols + 1)))
      → Passes (suc n) t (at_symbols p symbols)
  unfolding symbol_row kind_of out_of_order bad_field strange behind
  symbol-read n symbols few e next =
      passes-next n t (at_symbols p symbols) (at_symbols (p + 2) (symbols + 1))
      (record-passes t (at_symbols p symbols) NextSymbol (rw (byte-here t (symbol_row ++ rest) p e)) (omega arith)
      (row-lies t symbol_row rest p e (omega arith)) refl refl (lt-leb 32 symbols few)
      (rw (byte-at t (symbol_row ++ rest) p e 1)) refl)
      (next (row-rest t symbol_row rest p e))

  rule-read : (n r stage : ℕ) (shape : RuleShape) → r < 64 → out_of_order NextRule stage ≡ false → eqb stage 1 ≡ false → drop p t ≡ rule_row ++ rest
      → (drop (p + 1) t ≡ rest → Passes n t (at_rule (p + 1) (r + 1) 1 (shaped p 0 0 0))) → Passes (suc n) t (at_rule p r stage shape)
  unfolding rule_row kind_of bad_field strange behind
  rule-read n r stage shape few ordered headed e next =
      passes-next n t (at_rule p r stage shape) (at_rule (p + 1) (r + 1) 1 (shaped p 0 0 0))
      (record-passes t (at_rule p r stage shape) NextRule (rw (byte-here t (rule_row ++ rest) p e)) (omega arith)
      (row-lies t rule_row rest p e (omega arith)) ordered headed (lt-leb 64 r few) refl refl)
      (next (row-rest t rule_row rest p e))

  head-read : (n r stage start h : ℕ) → h < 4 → out_of_order RemovedHead stage ≡ false → drop p t ≡ head_row ++ rest
      → (drop (p + 22) t ≡ rest → Passes n t (at_rule (p + 22) r 3 (shaped start (h + 1) 0 0))) → Passes (suc n) t (at_rule p r stage (shaped start h 0 0))
  unfolding head_row kind_of bad_field strange behind
  head-read n r stage start h few ordered e next =
      passes-next n t (at_rule p r stage (shaped start h 0 0)) (at_rule (p + 22) r 3 (shaped start (h + 1) 0 0))
      (record-passes t (at_rule p r stage (shaped start h 0 0)) RemovedHead (rw (byte-here t (head_row ++ rest) p e)) (omega arith)
      (row-lies t head_row rest p e (omega arith)) ordered refl (lt-leb 4 h few)
      (head-fine t arity rest p e) refl)
      (next (row-rest t head_row rest p e))

  guard-read : (n r stage start g : ℕ) → g < 4 → out_of_order Comparison stage ≡ false → eqb stage 1 ≡ false → drop p t ≡ guard_row ++ rest
      → (drop (p + 24) t ≡ rest → Passes n t (at_rule (p + 24) r 4 (shaped start 4 (g + 1) 0))) → Passes (suc n) t (at_rule p r stage (shaped start 4 g 0))
  unfolding guard_row kind_of bad_field strange behind
  guard-read n r stage start g few ordered headed e next =
      passes-next n t (at_rule p r stage (shaped start 4 g 0)) (at_rule (p + 24) r 4 (shaped start 4 (g + 1) 0))
      (record-passes t (at_rule p r stage (shaped start 4 g 0)) Comparison (rw (byte-here t (guard_row ++ rest) p e)) (omega arith)
      (row-lies t guard_row rest p e (omega arith)) ordered headed (lt-leb 4 g few)
      (guard-fine t arity rest p e) (guard-usual t arity rest p start 4 e))
      (next (row-rest t guard_row rest p e))

  fact-read : (n r stage start i : ℕ) → i < 4 → out_of_order BodyFact stage ≡ false → eqb stage 1 ≡ false → drop p t ≡ fact_row ++ rest
      → (drop (p + 46) t ≡ rest → Passes n t (at_rule (p + 46) r 5 (shaped start 4 4 (i + 1)))) → Passes (suc n) t (at_rule p r stage (shaped start 4 4 i))
  unfolding fact_row kind_of bad_field strange behind
  fact-read n r stage start i few ordered headed e next =
      passes-next n t (at_rule p r stage (shaped start 4 4 i)) (at_rule (p + 46) r 5 (shaped start 4 4 (i + 1)))
      (record-passes t (at_rule p r stage (shaped start 4 4 i)) BodyFact (rw (byte-here t (fact_row ++ rest) p e)) (omega arith)
      (row-lies t fact_row rest p e (omega arith)) ordered headed (lt-leb 4 i few)
      (fact-fine t arity rest p e) (fact-usual t arity rest p start 4 e))
      (next (row-rest t fact_row rest p e))

-- ---- a rule is read, then all

-- four records more, and the thirteen of a rule
abbrev four : ℕ → ℕ
four n = suc (suc (suc (suc n)))

records : ℕ → ℕ → ℕ
records zero n = suc n
records (suc k) n = suc (four (four (four (records k n))))

module _ (t : List ℕ) (arity : arity_at t 0 ≡ 0) where
  heads-read : (n p r start : ℕ) (rest : Bytes) → drop p t ≡ four_of head_row rest
      → ((q : ℕ) → drop q t ≡ rest → Passes n t (at_rule q r 3 (shaped start 4 0 0))) → Passes (four n) t (at_rule p r 1 (shaped start 0 0 0))
  unfolding four_of out_of_order
  heads-read n p r start rest e next =
      head-read t arity _ p _ r 1 start 0 (omega arith) refl e (λ e1.
      head-read t arity _ (p + 22) _ r 3 start 1 (omega arith) refl e1 (λ e2.
      head-read t arity _ (p + 22 + 22) _ r 3 start 2 (omega arith) refl e2 (λ e3.
      head-read t arity rest (p + 22 + 22 + 22) n r 3 start 3 (omega arith) refl e3 (next (p + 22 + 22 + 22 + 22)))))

  guards-read : (n p r start : ℕ) (rest : Bytes) → drop p t ≡ four_of guard_row rest
      → ((q : ℕ) → drop q t ≡ rest → Passes n t (at_rule q r 4 (shaped start 4 4 0))) → Passes (four n) t (at_rule p r 3 (shaped start 4 0 0))
  unfolding four_of out_of_order
  guards-read n p r start rest e next =
      guard-read t arity _ p _ r 3 start 0 (omega arith) refl refl e (λ e1.
      guard-read t arity _ (p + 24) _ r 4 start 1 (omega arith) refl refl e1 (λ e2.
      guard-read t arity _ (p + 24 + 24) _ r 4 start 2 (omega arith) refl refl e2 (λ e3.
      guard-read t arity rest (p + 24 + 24 + 24) n r 4 start 3 (omega arith) refl refl e3 (next (p + 24 + 24 + 24 + 24)))))

  facts-read : (n p r start : ℕ) (rest : Bytes) → drop p t ≡ four_of fact_row rest
      → ((q : ℕ) → drop q t ≡ rest → Passes n t (at_rule q r 5 (shaped start 4 4 4))) → Passes (four n) t (at_rule p r 4 (shaped start 4 4 0))
  unfolding four_of out_of_order
  facts-read n p r start rest e next =
      fact-read t arity _ p _ r 4 start 0 (omega arith) refl refl e (λ e1.
      fact-read t arity _ (p + 46) _ r 5 start 1 (omega arith) refl refl e1 (λ e2.
      fact-read t arity _ (p + 46 + 46) _ r 5 start 2 (omega arith) refl refl e2 (λ e3.
      fact-read t arity rest (p + 46 + 46 + 46) n r 5 start 3 (omega arith) refl refl e3 (next (p + 46 + 46 + 46 + 46)))))

  end-read : (n p r stage : ℕ) (shape : RuleShape) → out_of_order EndOfTable stage ≡ false → eqb stage 1 ≡ false → drop p t ≡ 8 ∷ []
      → Passes (suc n) t (at_rule p r stage shape)
  unfolding kind_of bad_field strange behind
  end-read n p r stage shape ordered headed e =
      passes-done n t (at_rule p r stage shape) (p + 1)
      (record-passes t (at_rule p r stage shape) EndOfTable (rw (byte-here t (8 ∷ []) p e)) (omega arith)
      (row-lies t (8 ∷ []) [] p e (omega arith)) ordered headed refl refl refl)
      (omega (arith, length-drop p t, ap length e))

  -- k rules, and the end
  rules-read : (k n p r stage : ℕ) (shape : RuleShape) → r + k ≤ 64 → out_of_order NextRule stage ≡ false → out_of_order EndOfTable stage ≡ false
      → eqb stage 1 ≡ false → drop p t ≡ rows k
      → Passes (records k n) t (at_rule p r stage shape)
  unfolding rows records out_of_order
  rules-read zero n p r stage shape few ordered last headed e = end-read n p r stage shape last headed e
  rules-read (suc k) n p r stage shape few ordered last headed e =
      rule-read t arity _ p _ r stage shape (omega arith) ordered headed e (λ e1.
      heads-read _ (p + 1) (r + 1) p _ e1 (λ p2 e2.
      guards-read _ p2 (r + 1) p _ e2 (λ p3 e3.
      facts-read _ p3 (r + 1) p _ e3 (λ p4 e4.
      rules-read k n p4 (r + 1) 5 (shaped p 4 4 4) (omega arith) refl refl refl e4))))

  -- j symbols, and what is behind them
  symbols-read : (j n p symbols : ℕ) (rest : Bytes) → symbols + j ≡ 32 → drop p t ≡ symbols_then j rest
      → ((q : ℕ) → drop q t ≡ rest → Passes n t (at_symbols q 32)) → Passes (j + n) t (at_symbols p symbols)
  unfolding symbols_then
  symbols-read zero n p symbols rest few e next =
      let z : 0 + n ≡ n = omega arith in
      let d : symbols ≡ 32 = omega arith in
      rw (z, d) (next p e)
  symbols-read (suc j) n p symbols rest few e next =
      let z : suc j + n ≡ suc (j + n) = omega arith in
      rw z (symbol-read t arity (symbols_then j rest) p (j + n) symbols (omega arith) e
      (λ e1. symbols-read j n (p + 2) (symbols + 1) rest (omega arith) e1 next))

-- ---- how long it is

rows-long : (k : ℕ) → length (rows k) ≡ 369 * k + 1
unfolding rows rule_row four_of head_row guard_row fact_row
rows-long zero = refl
rows-long (suc k) = omega (arith, rows-long k)

symbols-long : (j : ℕ) (rest : Bytes) → length (symbols_then j rest) ≡ 2 * j + length rest
unfolding symbols_then symbol_row
symbols-long zero rest = omega arith
symbols-long (suc j) rest = omega (arith, symbols-long j rest)

longest-long : length longest_table ≡ 23681
unfolding longest_table
longest-long = omega (arith, symbols-long 32 (rows 64), rows-long 64)

records-are : (k n : ℕ) → records k n ≡ 13 * k + 1 + n
unfolding records
records-are zero n = omega arith
records-are (suc k) n = omega (arith, records-are k n)

-- 865 records are read, and there would be as many as bytes
all-read : (t : List ℕ) → arity_at t 0 ≡ 0 → drop 0 t ≡ symbols_then 32 (rows 64) → Passes 23681 t first_scan
unfolding out_of_order
all-read t arity e =
    let many : 32 + records 64 22816 ≡ 23681 = omega (arith, records-are 64 22816) in
    subst (λ (n : ℕ). Passes n t first_scan) many
    (symbols-read t arity 32 (records 64 22816) 0 0 (rows 64) refl e (λ q d. rules-read t arity 64 22816 q 0 0 no_shape (omega arith) refl refl refl d))

longest-arity : arity_at longest_table 0 ≡ 0
unfolding arity_at longest_table symbols_then symbol_row
longest-arity = refl

longest-rows : drop 0 longest_table ≡ symbols_then 32 (rows 64)
unfolding longest_table
longest-rows = refl

longest-good : (read_of longest_table).verdict ≡ Ok tt
unfolding read_of
longest-good = rw longest-long (all-read longest_table longest-arity longest-rows no_shapes)

pub longest : (length longest_table ≡ 23681) × ((read_of longest_table).verdict ≡ Ok tt)
longest = (longest-long, longest-good)
