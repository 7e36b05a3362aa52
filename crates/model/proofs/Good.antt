-- What a good table keeps: its limits, that every part of every rule lies in the table's bytes, and that every symbol is declared.
-- Reading keeps it as an invariant of the scan: each record that passes its tests adds a part that lies where the scan stands.
-- The same invariant bounds where the scan stands, and so the place of every refusal. Last, the same of a goal, fact by fact.
use Prim.Native.Nat.{ℕ, zero, suc, ◌+◌, ◌-◌, ◌*◌, ◌/◌, ◌%◌, ◌≤◌, ◌<◌}
use mathlib.Core.Path.{◌≡◌, refl, sym, ap, ◌∙◌, subst}
use mathlib.Core.Logic.{◌⊎◌, inl, inr}
use mathlib.Core.Bool.{Bool, true, false, not, cond}
use mathlib.Core.List.{List}
use native.Mathlib.Omega.{arith}
use native.Mathlib.Numerals.{add-one}
use native.Mathlib.Nat.{eq-or-lt_of_le, eq-zero-or-pos, div-add-mod}
use lib.Dec.{ltb, leb, eqb}
use lib.ListN.{length, get_or, set, length-set, length-replicate}
use lib.Seq.{get_or-set_same, get_or-set_other}
use borrow.Author.Tests.{ltb-false, leb-true, leb-false, le-leb, eqb-true, eqb-false, ne_eqb, not-false}
use Rattle.model.specs.declared.Kind.{Kind}
use Rattle.model.specs.declared.Kind.TheVariants.{NextSymbol, NextRule, KeptHead, RemovedHead, Comparison, BodyFact, BodyFail, EndOfTable}
use Rattle.model.specs.declared.RuleShape.{RuleShape}
use Rattle.model.specs.declared.Scan.{Scan}
use Rattle.std.specs.Prelude.{Option, Some, None, Ok, Err}
use Rattle.model.specs.declared.Behind.TheVariants.{Next, Done}
use Rattle.model.specs.declared.Reason.{Reason}
use Rattle.model.specs.declared.Reason.TheVariants.{UnknownKind, CutShort, OutOfOrder, TooMany, BadField, Headless, StrangeVariable, BytesBehind}
use Rattle.model.specs.declared.Reason.TheVariants.{GoalLength, BadGoalFact, LongGoal}
use Rattle.model.specs.declared.Refusal.{Refusal}
use Rattle.model.specs.declared.Reading.{Reading}
use Rattle.model.specs.Refusals.{Verdict, number_of, refused}
use Rattle.model.specs.Limits.{most_symbols, most_rules, most_heads, most_guards, most_items, most_goal_facts}
use Rattle.model.specs.Records.{kind_of, size_of, earliest_of, latest_of, out_of_order, headless, too_many}
use Rattle.model.specs.Fields.{arity_at, head_bad, body_fact_bad, bad_field}
use Rattle.model.specs.Variables.{strange}
use Rattle.model.specs.Reading.{no_shape, no_shapes, first_scan, reading, with_part, with_rule, with_symbol, with_kept, with_removed, with_guard}
use Rattle.model.specs.Reading.{RecordStep, with_item, behind, fields_of, ordered_of, tested_of, known_of, record_of, noted, ended, go_on, read_from, read_of}
use Rattle.model.specs.Table.{is_fact, behind_item, heads_start, items_start}
use Rattle.model.specs.Goal.{later_bad, later_places_bad, goal_fact_bad, facts_verdict, goal_verdict}
use Rattle.wire.specs.Wire.{u32_at}
use Rattle.model.proofs.Lists.{or-false-left, or-false-right, either, OptionIs}

-- a body item lies in the table, and the symbol of a body fact is declared
pub record ItemIn (t : List ℕ) (symbols p : ℕ) : Type 0 where
  pub lies : behind_item t p ≤ length t
  pub declared : is_fact t p ≡ true → get_or t (p + 1) 0 < symbols

-- n body items from p on
abbrev pub ItemsIn : List ℕ → ℕ → ℕ → ℕ → Type 0
ItemsIn t symbols p zero = p ≤ length t
ItemsIn t symbols p (suc n) = ItemIn t symbols p × ItemsIn t symbols (behind_item t p) n

pub record GoodRule (t : List ℕ) (symbols : ℕ) (r : RuleShape) : Type 0 where
  pub some_head : 1 ≤ r.heads
  pub few_heads : r.heads ≤ most_heads
  pub kept_few : r.kept ≤ r.heads
  pub few_guards : r.guards ≤ most_guards
  pub few_items : r.items ≤ most_items
  pub parts_in : items_start r ≤ length t
  pub heads_declared : (i : ℕ) → i < r.heads → get_or t (heads_start r + 22 * i + 1) 0 < symbols
  pub body_in : ItemsIn t symbols (items_start r) r.items

-- a reading of t in which all is good
pub record GoodReading (t : List ℕ) (r : Reading) : Type 0 where
  pub few_symbols : r.symbols ≤ most_symbols
  pub few_rules : r.rules ≤ most_rules
  pub short : length t ≤ 23681
  pub shapes : length r.shapes ≡ most_rules
  pub each : (i : ℕ) → i < r.rules → GoodRule t r.symbols (get_or r.shapes i no_shape)

abbrev pub GoodTable : List ℕ → Type 0
GoodTable t = GoodReading t (read_of t)

-- ---- what a refusal of a table is: one of its numbers, at a place no further on than the longest good table ends

pub record TableRefusal (n p : ℕ) : Type 0 where
  pub low : 16 ≤ n
  pub high : n ≤ 23
  pub near : p ≤ 23681

-- ---- the invariant

-- before the first rule: symbols alone
pub record Early (s : Scan) : Type 0 where
  pub no_rule : s.rules ≡ 0
  pub behind_symbols : s.at ≡ 2 * s.symbols

-- n body items from p on, each with P, behind which q is
abbrev pub ItemsBy : List ℕ → (ℕ → Type 0) → ℕ → ℕ → ℕ → Type 0
ItemsBy t P p zero q = p ≡ q
ItemsBy t P p (suc n) q = P p × ItemsBy t P (behind_item t p) n q

abbrev pub ItemsTo : List ℕ → ℕ → ℕ → ℕ → ℕ → Type 0
ItemsTo t symbols p n q = ItemsBy t (ItemIn t symbols) p n q

-- in a rule: it is good so far, but that it may have no head yet. No guard stands before stage 4 and no item before stage 5
pub record InRule (t : List ℕ) (s : Scan) : Type 0 where
  pub some_rule : 1 ≤ s.rules
  pub start_near : s.shape.start + 369 ≤ 64 + 369 * s.rules
  pub headed : 2 ≤ s.stage → 1 ≤ s.shape.heads
  pub few_heads : s.shape.heads ≤ most_heads
  pub kept_few : s.shape.kept ≤ s.shape.heads
  pub few_guards : s.shape.guards ≤ most_guards
  pub few_items : s.shape.items ≤ most_items
  pub no_guard : s.stage ≤ 3 → s.shape.guards ≡ 0
  pub no_item : s.stage ≤ 4 → s.shape.items ≡ 0
  pub at_items : s.stage ≤ 4 → s.at ≡ items_start s.shape
  pub at_near : s.at ≤ items_start s.shape + 46 * s.shape.items
  pub parts_in : items_start s.shape ≤ length t
  pub heads_declared : (i : ℕ) → i < s.shape.heads → get_or t (heads_start s.shape + 22 * i + 1) 0 < s.symbols
  pub items : ItemsTo t s.symbols (items_start s.shape) s.shape.items s.at

pub record Sane (t : List ℕ) (s : Scan) (shapes : List RuleShape) : Type 0 where
  pub few_symbols : s.symbols ≤ most_symbols
  pub few_rules : s.rules ≤ most_rules
  pub within : s.at ≤ length t
  pub long : length shapes ≡ most_rules
  pub early : s.stage ≡ 0 → Early s
  pub in_rule : 1 ≤ s.stage → InRule t s
  pub current : 1 ≤ s.stage → get_or shapes (s.rules - 1) no_shape ≡ s.shape
  pub finished : (i : ℕ) → i + 1 < s.rules → GoodRule t s.symbols (get_or shapes i no_shape)

pub first-sane : (t : List ℕ) → Sane t first_scan no_shapes
first-sane t = record {
  few_symbols = omega arith;
  few_rules = omega arith;
  within = omega arith;
  long = length-replicate most_rules no_shape;
  early = λ e. record { no_rule = refl; behind_symbols = refl };
  in_rule = λ h. absurd (omega arith);
  current = λ h. absurd (omega arith);
  finished = λ i h. absurd (omega arith);
}

-- ---- body items, one after the other

module _ (t : List ℕ) (P : ℕ → Type 0) where
  pub items-none : (p n q : ℕ) → n ≡ 0 → q ≡ p → ItemsBy t P p n q
  items-none p zero q e d = sym d
  items-none p (suc n) q e d = absurd (omega arith)

  pub items-snoc : (p n q : ℕ) → ItemsBy t P p n q → P q → ItemsBy t P p (suc n) (behind_item t q)
  items-snoc p zero q e i = rw e (i, refl)
  items-snoc p (suc n) q w i = (w.0, items-snoc (behind_item t p) n q w.1 i)

items-in : (t : List ℕ) (symbols p n q : ℕ) → q ≤ length t → ItemsTo t symbols p n q → ItemsIn t symbols p n
items-in t symbols p zero q h e = rw e h
items-in t symbols p (suc n) q h w = (w.0, items-in t symbols (behind_item t p) n q h w.1)

-- the same for a loop over the items of a good rule
pub items-in-first : (t : List ℕ) (symbols p n : ℕ) → 0 < n → ItemsIn t symbols p n → ItemIn t symbols p × ItemsIn t symbols (behind_item t p) (n - 1)
items-in-first t symbols p zero h w = absurd (omega arith)
items-in-first t symbols p (suc n) h w = let e : suc n - 1 ≡ n = omega arith in rw e w

pub behind-fact : (t : List ℕ) (p : ℕ) → is_fact t p ≡ true → behind_item t p ≡ p + 46
unfolding behind_item
behind-fact t p e = rw e

pub behind-fail : (t : List ℕ) (p : ℕ) → is_fact t p ≡ false → behind_item t p ≡ p + 1
unfolding behind_item
behind-fail t p e = rw e

pub item-behind : (t : List ℕ) (p : ℕ) → p < behind_item t p
unfolding behind_item
item-behind t p = go (is_fact t p)
  where
    go : (b : Bool) → p < cond b (p + 46) (p + 1)
    go true = omega arith
    go false = omega arith

pub items-lie : (t : List ℕ) (symbols p n : ℕ) → ItemsIn t symbols p n → p ≤ length t
items-lie t symbols p zero w = w
items-lie t symbols p (suc n) w = omega (arith, w.0.lies, item-behind t p)

-- ---- the shapes behind a record

pub noted-some : (shapes : List RuleShape) (s : Scan) → 1 ≤ s.rules → noted shapes s ≡ set shapes (s.rules - 1) s.shape
unfolding noted
noted-some shapes s h = let e : eqb s.rules 0 ≡ false = ne_eqb s.rules 0 (λ (z : s.rules ≡ 0). omega arith) in rw e

pub noted-none : (shapes : List RuleShape) (s : Scan) → s.rules ≡ 0 → noted shapes s ≡ shapes
unfolding noted
noted-none shapes s h = rw h

module _ (shapes : List RuleShape) (s : Scan) (h : 1 ≤ s.rules) where
  noted-long : length (noted shapes s) ≡ length shapes
  noted-long = rw (noted-some shapes s h) (length-set shapes (s.rules - 1) s.shape)

  noted-same : s.rules ≤ length shapes → get_or (noted shapes s) (s.rules - 1) no_shape ≡ s.shape
  noted-same l = rw (noted-some shapes s h) (get_or-set_same shapes (s.rules - 1) s.shape no_shape (omega arith))

  noted-other : (i : ℕ) → i + 1 < s.rules → get_or (noted shapes s) i no_shape ≡ get_or shapes i no_shape
  noted-other i l = rw (noted-some shapes s h) (get_or-set_other shapes (s.rules - 1) i s.shape no_shape (λ (e : i ≡ s.rules - 1). omega arith))

two-of : (n : ℕ) → 1 ≤ n → (n ≡ 1 → ⊥) → 2 ≤ n
two-of n l d = go (eq-or-lt_of_le l)
  where
    go : (1 ≡ n) ⊎ (1 < n) → 2 ≤ n
    go (inl e) = absurd (d (sym e))
    go (inr m) = m

-- ---- what follows from the invariant where a rule, or the table, ends

module _ (t : List ℕ) (s : Scan) (shapes : List RuleShape) (h : Sane t s shapes) where
  -- a rule with a head is good
  pub rule-done : 2 ≤ s.stage → GoodRule t s.symbols s.shape
  rule-done l =
      let r = h.in_rule (omega arith) in
      record {
        some_head = r.headed l;
        few_heads = r.few_heads;
        kept_few = r.kept_few;
        few_guards = r.few_guards;
        few_items = r.few_items;
        parts_in = r.parts_in;
        heads_declared = r.heads_declared;
        body_in = items-in t s.symbols (items_start s.shape) s.shape.items s.at h.within r.items;
      }

  -- so all rules are good, where the last one has a head
  pub all-done : (s.stage ≡ 1 → ⊥) → (i : ℕ) → i < s.rules → GoodRule t s.symbols (get_or shapes i no_shape)
  all-done d i l = go (eq-or-lt_of_le l) (eq-zero-or-pos s.stage)
    where
      last : suc i ≡ s.rules → 1 ≤ s.stage → GoodRule t s.symbols (get_or shapes i no_shape)
      last e p =
          let two : 2 ≤ s.stage = two-of s.stage p d in
          let k : i ≡ s.rules - 1 = omega arith in
          subst (GoodRule t s.symbols) (sym (ap (λ (n : ℕ). get_or shapes n no_shape) k ∙ h.current p)) (rule-done two)

      go : (suc i ≡ s.rules) ⊎ (suc i < s.rules) → (s.stage ≡ 0) ⊎ (0 < s.stage) → GoodRule t s.symbols (get_or shapes i no_shape)
      go (inl e) (inl z) = let none = (h.early z).no_rule in absurd (omega arith)
      go (inl e) (inr p) = last e p
      go (inr m) z = h.finished i (omega arith)

  -- where the scan stands, by the number of rules
  pub at-near : s.at ≤ 64 + 369 * s.rules
  at-near = go (eq-zero-or-pos s.stage)
    where
      go : (s.stage ≡ 0) ⊎ (0 < s.stage) → s.at ≤ 64 + 369 * s.rules
      go (inl z) = let e = h.early z in omega arith
      go (inr p) = let r = h.in_rule p in omega arith

  -- every refusal at the scan's own place, or before it
  refusal-at : (n p : ℕ) → 16 ≤ n → n ≤ 23 → p ≤ s.at + 1 → TableRefusal n p
  refusal-at n p l g e = record { low = l; high = g; near = omega (arith, at-near) }

-- ---- what the tests of a record tell

not-both : (b : Bool) → b ≡ false → b ≡ true → ⊥
not-both b e d = cc

module _ (k : Kind) (stage : ℕ) (e : out_of_order k stage ≡ false) where
  pub not-early : earliest_of k ≤ stage
  unfolding out_of_order
  not-early = ltb-false stage (earliest_of k) (or-false-left (ltb stage (earliest_of k)) (ltb (latest_of k) stage) e)

  pub not-late : stage ≤ latest_of k
  unfolding out_of_order
  not-late = ltb-false (latest_of k) stage (or-false-right (ltb stage (earliest_of k)) (ltb (latest_of k) stage) e)

head-declared : (t : List ℕ) (at symbols : ℕ) → head_bad t at symbols ≡ false → get_or t (at + 1) 0 < symbols
unfolding head_bad
head-declared t at symbols e = leb-false symbols (get_or t (at + 1) 0) (or-false-left (leb symbols (get_or t (at + 1) 0)) _ e)

fact-declared : (t : List ℕ) (at symbols : ℕ) → body_fact_bad t at symbols ≡ false → get_or t (at + 1) 0 < symbols
unfolding body_fact_bad
fact-declared t at symbols e = leb-false symbols (get_or t (at + 1) 0) (or-false-left (leb symbols (get_or t (at + 1) 0)) _ e)

-- the byte of a kind
abbrev pub KindByte : ℕ → Kind → Type 0
KindByte b NextSymbol = b ≡ 1
KindByte b NextRule = b ≡ 2
KindByte b KeptHead = b ≡ 3
KindByte b RemovedHead = b ≡ 4
KindByte b Comparison = b ≡ 5
KindByte b BodyFact = b ≡ 6
KindByte b BodyFail = b ≡ 7
KindByte b EndOfTable = b ≡ 8

kind-byte : (b : ℕ) → OptionIs (KindByte b) (kind_of b)
unfolding kind_of
kind-byte b =
    either (OptionIs (KindByte b)) (eqb b 1) (Some NextSymbol) _ (eqb-true b 1) (λ e1.
    either (OptionIs (KindByte b)) (eqb b 2) (Some NextRule) _ (eqb-true b 2) (λ e2.
    either (OptionIs (KindByte b)) (eqb b 3) (Some KeptHead) _ (eqb-true b 3) (λ e3.
    either (OptionIs (KindByte b)) (eqb b 4) (Some RemovedHead) _ (eqb-true b 4) (λ e4.
    either (OptionIs (KindByte b)) (eqb b 5) (Some Comparison) _ (eqb-true b 5) (λ e5.
    either (OptionIs (KindByte b)) (eqb b 6) (Some BodyFact) _ (eqb-true b 6) (λ e6.
    either (OptionIs (KindByte b)) (eqb b 7) (Some BodyFail) _ (eqb-true b 7) (λ e7.
    either (OptionIs (KindByte b)) (eqb b 8) (Some EndOfTable) None (eqb-true b 8) (λ e. tt))))))))

pub six-fact : (t : List ℕ) (p : ℕ) → get_or t p 0 ≡ 6 → is_fact t p ≡ true
unfolding is_fact
six-fact t p e = rw e

pub seven-fail : (t : List ℕ) (p : ℕ) → get_or t p 0 ≡ 7 → is_fact t p ≡ false
unfolding is_fact
seven-fail t p e = rw e

-- all that the tests of a good record of kind k tell
pub record Passed (t : List ℕ) (s : Scan) (k : Kind) : Type 0 where
  pub byte : KindByte (get_or t s.at 0) k
  pub lies : s.at + size_of k ≤ length t
  pub ordered : out_of_order k s.stage ≡ false
  pub headed : headless k s.stage ≡ false
  pub few : too_many k s ≡ false
  pub fields : bad_field t s k ≡ false
  pub usual : strange t s k ≡ false

-- the heads so far and one more, which stands behind them, are declared
one-more : (t : List ℕ) (r : RuleShape) (at symbols : ℕ) → ((i : ℕ) → i < r.heads → get_or t (heads_start r + 22 * i + 1) 0 < symbols)
    → at ≡ heads_start r + 22 * r.heads → get_or t (at + 1) 0 < symbols
    → (i : ℕ) → i < r.heads + 1 → get_or t (heads_start r + 22 * i + 1) 0 < symbols
one-more t r at symbols before here new i l = go (eq-or-lt_of_le {n = i} {m = r.heads} (omega arith))
  where
    go : (i ≡ r.heads) ⊎ (i < r.heads) → get_or t (heads_start r + 22 * i + 1) 0 < symbols
    go (inl e) = let d : heads_start r + 22 * i + 1 ≡ at + 1 = omega arith in rw d new
    go (inr m) = before i m

-- ---- one record

-- what a record comes to: a refusal is near, and an end stands behind no rule without a head
abbrev pub StepIs : List ℕ → Scan → List RuleShape → RecordStep → Type 0
StepIs t s shapes (Ok (Next s')) = (s.at < s'.at) × Sane t s' (noted shapes s')
StepIs t s shapes (Err r) = TableRefusal (number_of r.reason) r.place
StepIs t s shapes (Ok (Done p)) = (p ≡ s.at + 1) × (s.stage ≡ 1 → ⊥)

module _ (t : List ℕ) (s : Scan) (shapes : List RuleShape) (h : Sane t s shapes) where
  -- one part more of the rule that is being read
  part-sane : (size stage : ℕ) (shape : RuleShape) → 1 ≤ s.stage → 1 ≤ stage → s.at + size ≤ length t → InRule t (with_part s size stage shape)
      → Sane t (with_part s size stage shape) (noted shapes (with_part s size stage shape))
  part-sane size stage shape l m w r =
      let next = with_part s size stage shape in
      let some : 1 ≤ s.rules = r.some_rule in
      let room : s.rules ≤ length shapes = omega (arith, h.long, h.few_rules) in
      record {
        few_symbols = h.few_symbols;
        few_rules = h.few_rules;
        within = w;
        long = noted-long shapes next some ∙ h.long;
        early = λ (e : stage ≡ 0). absurd (omega arith);
        in_rule = λ e. r;
        current = λ e. noted-same shapes next some room;
        finished = λ i e. subst (GoodRule t s.symbols) (sym (noted-other shapes next some i e)) (h.finished i e);
      }

  symbol-sane : Passed t s NextSymbol → Sane t (with_symbol s) (noted shapes (with_symbol s))
  symbol-sane q =
      let late : s.stage ≤ 0 = not-late NextSymbol s.stage q.ordered in
      let e : Early s = h.early (omega arith) in
      let few : s.symbols < 32 = leb-false 32 s.symbols q.few in
      rw (noted-none shapes (with_symbol s) e.no_rule) (record {
        few_symbols = omega arith;
        few_rules = h.few_rules;
        within = q.lies;
        long = h.long;
        early = λ z. record { no_rule = e.no_rule; behind_symbols = omega (arith, e.behind_symbols) };
        in_rule = λ (l : 1 ≤ 0). absurd (omega arith);
        current = λ (l : 1 ≤ 0). absurd (omega arith);
        finished = λ i (l : i + 1 < s.rules). absurd (omega (arith, e.no_rule));
      })

  rule-sane : Passed t s NextRule → Sane t (with_rule s) (noted shapes (with_rule s))
  rule-sane q =
      let next = with_rule s in
      let few : s.rules < 64 = leb-false 64 s.rules q.few in
      let some : 1 ≤ s.rules + 1 = omega arith in
      let room : s.rules + 1 ≤ length shapes = omega (arith, h.long) in
      let near : s.at ≤ 64 + 369 * s.rules = at-near t s shapes h in
      record {
        few_symbols = h.few_symbols;
        few_rules = omega arith;
        within = q.lies;
        long = noted-long shapes next some ∙ h.long;
        early = λ (e : ◌≡◌ {A = ℕ} 1 0). absurd (omega arith);
        in_rule = λ l. record {
          some_rule = some;
          start_near = omega arith;
          headed = λ (e : 2 ≤ 1). absurd (omega arith);
          few_heads = omega arith;
          kept_few = omega arith;
          few_guards = omega arith;
          few_items = omega arith;
          no_guard = λ e. refl;
          no_item = λ e. refl;
          at_items = λ e. omega arith;
          at_near = omega arith;
          parts_in = omega (arith, q.lies);
          heads_declared = λ i (e : i < 0). absurd (omega arith);
          items = omega arith;
        };
        current = λ l. noted-same shapes next some room;
        finished = λ i (l : i + 1 < s.rules + 1).
            subst (GoodRule t s.symbols) (sym (noted-other shapes next some i l))
            (all-done t s shapes h (eqb-false s.stage 1 q.headed) i (omega arith));
      }

  -- a head, kept or removed
  head-in : (stage kept : ℕ) → 1 ≤ s.stage → s.stage ≤ 3 → kept ≤ s.shape.heads + 1 → s.shape.heads < 4 → head_bad t s.at s.symbols ≡ false
      → s.at + 22 ≤ length t
      → InRule t (with_part s 22 stage
      (record { start = s.shape.start; kept = kept; heads = s.shape.heads + 1; guards = s.shape.guards; items = s.shape.items }))
  head-in stage kept l m k few fields lies =
      let r = h.in_rule l in
      let no_guard : s.shape.guards ≡ 0 = r.no_guard m in
      let no_item : s.shape.items ≡ 0 = r.no_item (omega arith) in
      let here : s.at ≡ items_start s.shape = r.at_items (omega arith) in
      let declared : get_or t (s.at + 1) 0 < s.symbols = head-declared t s.at s.symbols fields in
      record {
        some_rule = r.some_rule;
        start_near = r.start_near;
        headed = λ e. omega arith;
        few_heads = omega arith;
        kept_few = k;
        few_guards = r.few_guards;
        few_items = r.few_items;
        no_guard = λ e. no_guard;
        no_item = λ e. no_item;
        at_items = λ e. omega arith;
        at_near = omega arith;
        parts_in = omega arith;
        heads_declared = λ i e. one-more t s.shape s.at s.symbols r.heads_declared (omega arith) declared i e;
        items = items-none t (ItemIn t s.symbols) _ s.shape.items _ no_item (omega arith);
      }

  guard-in : 2 ≤ s.stage → s.stage ≤ 4 → s.shape.guards < 4 → s.at + 24 ≤ length t → InRule t (with_part s 24 4 (with_guard s.shape))
  guard-in l m few lies =
      let r = h.in_rule (omega arith) in
      let no_item : s.shape.items ≡ 0 = r.no_item m in
      let here : s.at ≡ items_start s.shape = r.at_items m in
      let head : 1 ≤ s.shape.heads = r.headed l in
      record {
        some_rule = r.some_rule;
        start_near = r.start_near;
        headed = λ e. head;
        few_heads = r.few_heads;
        kept_few = r.kept_few;
        few_guards = omega arith;
        few_items = r.few_items;
        no_guard = λ (e : 4 ≤ 3). absurd (omega arith);
        no_item = λ e. no_item;
        at_items = λ e. omega arith;
        at_near = omega arith;
        parts_in = omega arith;
        heads_declared = r.heads_declared;
        items = items-none t (ItemIn t s.symbols) _ s.shape.items _ no_item (omega arith);
      }

  -- a body item of either kind
  item-in : (size : ℕ) → 2 ≤ s.stage → s.shape.items < 4 → size ≤ 46 → behind_item t s.at ≡ s.at + size → s.at + size ≤ length t
      → ItemIn t s.symbols s.at
      → InRule t (with_part s size 5 (with_item s.shape))
  item-in size l few small e lies i =
      let r = h.in_rule (omega arith) in
      let head : 1 ≤ s.shape.heads = r.headed l in
      record {
        some_rule = r.some_rule;
        start_near = r.start_near;
        headed = λ e. head;
        few_heads = r.few_heads;
        kept_few = r.kept_few;
        few_guards = r.few_guards;
        few_items = omega arith;
        no_guard = λ (e : 5 ≤ 3). absurd (omega arith);
        no_item = λ (e : 5 ≤ 4). absurd (omega arith);
        at_items = λ (e : 5 ≤ 4). absurd (omega arith);
        at_near = omega (arith, r.at_near);
        parts_in = r.parts_in;
        heads_declared = r.heads_declared;
        items = rw (add-one s.shape.items, ← e) (items-snoc t (ItemIn t s.symbols) (items_start s.shape) s.shape.items s.at r.items i);
      }

  -- a part behind the heads: the rule has one
  pub past-heads : (k : Kind) → 1 ≤ earliest_of k → out_of_order k s.stage ≡ false → eqb s.stage 1 ≡ false → 2 ≤ s.stage
  past-heads k l o e = two-of s.stage (omega (arith, not-early k s.stage o)) (eqb-false s.stage 1 e)

  fact-sane : Passed t s BodyFact → Sane t (with_part s 46 5 (with_item s.shape)) (noted shapes (with_part s 46 5 (with_item s.shape)))
  unfolding bad_field
  fact-sane q =
      let two : 2 ≤ s.stage = past-heads BodyFact (omega arith) q.ordered q.headed in
      let declared : get_or t (s.at + 1) 0 < s.symbols = fact-declared t s.at s.symbols q.fields in
      let to : behind_item t s.at ≡ s.at + 46 = behind-fact t s.at (six-fact t s.at q.byte) in
      part-sane 46 5 (with_item s.shape) (omega arith) (omega arith) q.lies
      (item-in 46 two (leb-false 4 s.shape.items q.few) (omega arith) to q.lies (record { lies = rw to q.lies; declared = λ e. declared }))

  fail-sane : Passed t s BodyFail → Sane t (with_part s 1 5 (with_item s.shape)) (noted shapes (with_part s 1 5 (with_item s.shape)))
  fail-sane q =
      let two : 2 ≤ s.stage = past-heads BodyFail (omega arith) q.ordered q.headed in
      let none : is_fact t s.at ≡ false = seven-fail t s.at q.byte in
      let to : behind_item t s.at ≡ s.at + 1 = behind-fail t s.at none in
      part-sane 1 5 (with_item s.shape) (omega arith) (omega arith) q.lies
      (item-in 1 two (leb-false 4 s.shape.items q.few) (omega arith) to q.lies
      (record { lies = rw to q.lies; declared = λ e. absurd (not-both (is_fact t s.at) none e) }))

  guard-sane : Passed t s Comparison → Sane t (with_part s 24 4 (with_guard s.shape)) (noted shapes (with_part s 24 4 (with_guard s.shape)))
  guard-sane q =
      let two : 2 ≤ s.stage = past-heads Comparison (omega arith) q.ordered q.headed in
      part-sane 24 4 (with_guard s.shape) (omega arith) (omega arith) q.lies
      (guard-in two (not-late Comparison s.stage q.ordered) (leb-false 4 s.shape.guards q.few) q.lies)

  kept-sane : Passed t s KeptHead → Sane t (with_part s 22 2 (with_kept s.shape)) (noted shapes (with_part s 22 2 (with_kept s.shape)))
  unfolding bad_field
  kept-sane q =
      let one : 1 ≤ s.stage = not-early KeptHead s.stage q.ordered in
      let late : s.stage ≤ 2 = not-late KeptHead s.stage q.ordered in
      part-sane 22 2 (with_kept s.shape) one (omega arith) q.lies
      (head-in 2 (s.shape.heads + 1) one (omega arith) (omega arith) (leb-false 4 s.shape.heads q.few) q.fields q.lies)

  removed-sane : Passed t s RemovedHead → Sane t (with_part s 22 3 (with_removed s.shape)) (noted shapes (with_part s 22 3 (with_removed s.shape)))
  unfolding bad_field
  removed-sane q =
      let one : 1 ≤ s.stage = not-early RemovedHead s.stage q.ordered in
      let late : s.stage ≤ 3 = not-late RemovedHead s.stage q.ordered in
      let r = h.in_rule one in
      part-sane 22 3 (with_removed s.shape) one (omega arith) q.lies
      (head-in 3 s.shape.kept one (omega arith) (omega arith) (leb-false 4 s.shape.heads q.few) q.fields q.lies)

  behind-is : (k : Kind) → Passed t s k → StepIs t s shapes (Ok (behind s k))
  unfolding behind
  behind-is NextSymbol q = (omega arith, symbol-sane q)
  behind-is NextRule q = (omega arith, rule-sane q)
  behind-is KeptHead q = (omega arith, kept-sane q)
  behind-is RemovedHead q = (omega arith, removed-sane q)
  behind-is Comparison q = (omega arith, guard-sane q)
  behind-is BodyFact q = (omega arith, fact-sane q)
  behind-is BodyFail q = (omega arith, fail-sane q)
  behind-is EndOfTable q = (refl, eqb-false s.stage 1 q.headed)

  here : (n : ℕ) → 16 ≤ n → n ≤ 23 → TableRefusal n s.at
  here n l g = refusal-at t s shapes h n s.at l g (omega arith)

  -- what holds of each refusal of a table, and of what comes behind a record that passes all its tests, holds of what a record comes to
  module _ (P : RecordStep → Type 0) (refuses : (r : Refusal) → TableRefusal (number_of r.reason) r.place → P (Err r))
      (passed : (k : Kind) → Passed t s k → P (Ok (behind s k))) where
    stopped : (b : Bool) (n : Reason) (p : ℕ) (y : RecordStep) → TableRefusal (number_of n) p → (b ≡ false → P y) → P (cond b (refused n p) y)
    stopped true n p y r q = refuses (record { reason = n; place = p }) r
    stopped false n p y r q = q refl

    tested-by : (k : Kind) → KindByte (get_or t s.at 0) k → P (tested_of t s k)
    unfolding tested_of ordered_of fields_of
    tested-by k byte =
        stopped (ltb (length t) (s.at + size_of k)) CutShort s.at _ (here 17 (omega arith) (omega arith)) (λ lies.
        stopped (out_of_order k s.stage) OutOfOrder s.at _ (here 18 (omega arith) (omega arith)) (λ ordered.
        stopped (headless k s.stage) Headless s.at _ (here 21 (omega arith) (omega arith)) (λ headed.
        stopped (too_many k s) TooMany s.at _ (here 19 (omega arith) (omega arith)) (λ few.
        stopped (bad_field t s k) BadField s.at _ (here 20 (omega arith) (omega arith)) (λ fields.
        stopped (strange t s k) StrangeVariable s.at _ (here 22 (omega arith) (omega arith)) (λ usual.
        passed k (record {
          byte = byte;
          lies = ltb-false (length t) (s.at + size_of k) lies;
          ordered = ordered;
          headed = headed;
          few = few;
          fields = fields;
          usual = usual;
        })))))))

    known-by : (o : Option Kind) → OptionIs (KindByte (get_or t s.at 0)) o → P (known_of t s o)
    unfolding known_of
    known-by None byte = refuses (record { reason = UnknownKind; place = s.at }) (here 16 (omega arith) (omega arith))
    known-by (Some k) byte = tested-by k byte

    pub record-by : P (record_of t s)
    unfolding record_of
    record-by = go (leb (length t) s.at) refl
      where
        go : (b : Bool) → leb (length t) s.at ≡ b → P (cond b (refused CutShort (length t)) (known_of t s (kind_of (get_or t s.at 0))))
        go true e =
            refuses (record { reason = CutShort; place = length t })
            (refusal-at t s shapes h 17 (length t) (omega arith) (omega arith) (omega (arith, leb-true (length t) s.at e)))
        go false e = known-by (kind_of (get_or t s.at 0)) (kind-byte (get_or t s.at 0))

  pub record-is : StepIs t s shapes (record_of t s)
  record-is = record-by (StepIs t s shapes) (λ r k. k) behind-is

-- a good record keeps the invariant, and goes on
pub next-sane : (t : List ℕ) (s s' : Scan) (shapes : List RuleShape) → Sane t s shapes → record_of t s ≡ Ok (Next s') → Sane t s' (noted shapes s')
next-sane t s s' shapes h e = (subst (StepIs t s shapes) e (record-is t s shapes h)).1

-- ---- the whole table

-- what a reading's verdict tells
abbrev pub VerdictIs : List ℕ → Reading → Verdict → Type 0
VerdictIs t r (Ok u) = GoodReading t r
VerdictIs t r (Err x) = TableRefusal (number_of x.reason) x.place

ended-is : (t : List ℕ) (s : Scan) (shapes : List RuleShape) (p : ℕ) → Sane t s shapes → p ≡ s.at + 1 → (s.stage ≡ 1 → ⊥)
    → VerdictIs t (reading (ended t p) s.symbols s.rules shapes) (ended t p)
unfolding ended
ended-is t s shapes p h e d = go (ltb p (length t)) refl
  where
    go : (b : Bool) → ltb p (length t) ≡ b
        → VerdictIs t (reading (cond b (refused BytesBehind p) (Ok tt)) s.symbols s.rules shapes) (cond b (refused BytesBehind p) (Ok tt))
    go true l = refusal-at t s shapes h 23 p (omega arith) (omega arith) (omega arith)
    go false l = record {
      few_symbols = h.few_symbols;
      few_rules = h.few_rules;
      short = omega (arith, ltb-false p (length t) l, at-near t s shapes h, h.few_rules);
      shapes = h.long;
      each = all-done t s shapes h d;
    }

go-on-is : (n : ℕ) (t : List ℕ) (s : Scan) (shapes : List RuleShape) → Sane t s shapes → length t ≤ suc n + s.at
    → ((s' : Scan) (shapes' : List RuleShape) → Sane t s' shapes' → length t ≤ n + s'.at
    → VerdictIs t (read_from n t s' shapes') (read_from n t s' shapes').verdict)
    → (r : RecordStep) → StepIs t s shapes r → VerdictIs t (go_on t s shapes (read_from n t) r) (go_on t s shapes (read_from n t) r).verdict
unfolding go_on
go-on-is n t s shapes h l ih (Ok (Next s')) q = ih s' (noted shapes s') q.1 (omega (arith, q.0))
go-on-is n t s shapes h l ih (Err r) q = q
go-on-is n t s shapes h l ih (Ok (Done p)) q = ended-is t s shapes p h q.0 q.1

-- each record takes a byte, so that the count of records left is enough
pub read-is : (n : ℕ) (t : List ℕ) (s : Scan) (shapes : List RuleShape) → Sane t s shapes → length t ≤ n + s.at
    → VerdictIs t (read_from n t s shapes) (read_from n t s shapes).verdict
unfolding read_from
read-is zero t s shapes h l = refusal-at t s shapes h 17 (length t) (omega arith) (omega arith) (omega arith)
read-is (suc n) t s shapes h l = go-on-is n t s shapes h l (read-is n t) (record_of t s) (record-is t s shapes h)

pub table-is : (t : List ℕ) → VerdictIs t (read_of t) (read_of t).verdict
unfolding read_of
table-is t = read-is (length t) t first_scan no_shapes (first-sane t) (omega arith)

pub good-table : (t : List ℕ) → (read_of t).verdict ≡ Ok tt → GoodTable t
good-table t e = subst (VerdictIs t (read_of t)) e (table-is t)

-- the number of a refused table, and a bound on the place
pub refusal-small : (t : List ℕ) (r : Refusal) → (read_of t).verdict ≡ Err r → TableRefusal (number_of r.reason) r.place
refusal-small t r e = subst (VerdictIs t (read_of t)) e (table-is t)

-- ---- a goal

-- what holds of each of the four places holds of every place
pub below-four : (P : ℕ → Type 0) → P 0 → P 1 → P 2 → P 3 → (k : ℕ) → k < 4 → P k
below-four P a b c d zero l = a
below-four P a b c d (suc zero) l = b
below-four P a b c d (suc (suc zero)) l = c
below-four P a b c d (suc (suc (suc zero))) l = d
below-four P a b c d (suc (suc (suc (suc k)))) l = absurd (omega arith)

pub record GoalRefusal (n p : ℕ) : Type 0 where
  pub low : 32 ≤ n
  pub high : n ≤ 34
  pub near : p < most_goal_facts

pub record GoodGoal (symbols : ℕ) (g : List ℕ) : Type 0 where
  pub whole : length g ≡ 18 * (length g / 18)
  pub few : length g / 18 ≤ most_goal_facts
  pub kinds : (i : ℕ) → i < length g / 18 → get_or g (18 * i) 0 ≡ 16
  pub declared : (i : ℕ) → i < length g / 18 → get_or g (18 * i + 1) 0 < symbols

-- and each later place of a fact, from the arity of its symbol on, is zero: every fact passed all its tests
pub record WholeGoal (t : List ℕ) (symbols : ℕ) (g : List ℕ) : Type 0 where
  pub good : GoodGoal symbols g
  pub facts : (i : ℕ) → i < length g / 18 → goal_fact_bad t symbols g (18 * i) ≡ false
  pub later : (i : ℕ) → i < length g / 18 → (k : ℕ) → k < 4 → arity_at t (get_or g (18 * i + 1) 0) ≤ k → u32_at g (18 * i + 2 + 4 * k) ≡ 0

later-test : (arity place value : ℕ) → later_bad arity place value ≡ false → arity ≤ place → value ≡ 0
unfolding later_bad
later-test arity place value e l = eqb-true value 0 (not-false (eqb value 0) (rw (le-leb arity place l) at e))

later-zero : (arity : ℕ) (g : List ℕ) (p : ℕ) → later_places_bad arity g p ≡ false → (k : ℕ) → k < 4 → arity ≤ k → u32_at g (p + 4 * k) ≡ 0
unfolding later_places_bad
later-zero arity g p e =
    let a = or-false-right (later_bad arity 0 (u32_at g p)) _ e in
    let b = or-false-right (later_bad arity 1 (u32_at g (p + 4))) _ a in
    let z : p + 4 * 0 ≡ p = omega arith in
    below-four (λ (k : ℕ). arity ≤ k → u32_at g (p + 4 * k) ≡ 0)
    (rw z (later-test arity 0 (u32_at g p) (or-false-left (later_bad arity 0 (u32_at g p)) _ e)))
    (later-test arity 1 (u32_at g (p + 4)) (or-false-left (later_bad arity 1 (u32_at g (p + 4))) _ a))
    (later-test arity 2 (u32_at g (p + 8)) (or-false-left (later_bad arity 2 (u32_at g (p + 8))) _ b))
    (later-test arity 3 (u32_at g (p + 12)) (or-false-right (later_bad arity 2 (u32_at g (p + 8))) _ b))

abbrev pub GoalIs : List ℕ → ℕ → List ℕ → Verdict → Type 0
GoalIs t symbols g (Ok u) = WholeGoal t symbols g
GoalIs t symbols g (Err r) = GoalRefusal (number_of r.reason) r.place

module _ (t : List ℕ) (symbols : ℕ) (g : List ℕ) where
  -- the same of the n facts from fact k on
  abbrev FactsAre : ℕ → ℕ → Verdict → Type 0
  FactsAre k n (Ok u) = (i : ℕ) → k ≤ i → i < k + n → goal_fact_bad t symbols g (18 * i) ≡ false
  FactsAre k n (Err r) = GoalRefusal (number_of r.reason) r.place

  goal-fact-kind : (p : ℕ) → goal_fact_bad t symbols g p ≡ false → get_or g p 0 ≡ 16
  unfolding goal_fact_bad
  goal-fact-kind p e = eqb-true (get_or g p 0) 16 (not-false (eqb (get_or g p 0) 16) (or-false-left (not (eqb (get_or g p 0) 16)) _ e))

  goal-fact-declared : (p : ℕ) → goal_fact_bad t symbols g p ≡ false → get_or g (p + 1) 0 < symbols
  unfolding goal_fact_bad
  goal-fact-declared p e =
      leb-false symbols (get_or g (p + 1) 0) (or-false-left (leb symbols (get_or g (p + 1) 0)) _ (or-false-right (not (eqb (get_or g p 0) 16)) _ e))

  goal-fact-later : (p : ℕ) → goal_fact_bad t symbols g p ≡ false → (k : ℕ) → k < 4 → arity_at t (get_or g (p + 1) 0) ≤ k → u32_at g (p + 2 + 4 * k) ≡ 0
  unfolding goal_fact_bad
  goal-fact-later p e =
      later-zero (arity_at t (get_or g (p + 1) 0)) g (p + 2)
      (or-false-right (leb symbols (get_or g (p + 1) 0)) _ (or-false-right (not (eqb (get_or g p 0) 16)) _ e))

  one-fact : (k n : ℕ) → goal_fact_bad t symbols g (18 * k) ≡ false → (v : Verdict) → FactsAre (k + 1) n v → FactsAre k (suc n) v
  one-fact k n e (Ok v) u = λ i l m. first-or-later i m (eq-or-lt_of_le l)
    where
      first-or-later : (i : ℕ) → i < k + suc n → (k ≡ i) ⊎ (k < i) → goal_fact_bad t symbols g (18 * i) ≡ false
      first-or-later i m (inl d) = rw (← d) e
      first-or-later i m (inr d) = u i (omega arith) (omega arith)
  one-fact k n e (Err r) u = u

  facts-are : (k n : ℕ) → k + n ≤ most_goal_facts → FactsAre k n (facts_verdict t symbols g k n)
  unfolding facts_verdict
  facts-are k zero l = λ i a b. absurd (omega arith)
  facts-are k (suc n) l = go (goal_fact_bad t symbols g (18 * k)) refl (facts-are (k + 1) n (omega arith))
    where
      go : (b : Bool) → goal_fact_bad t symbols g (18 * k) ≡ b → FactsAre (k + 1) n (facts_verdict t symbols g (k + 1) n)
          → FactsAre k (suc n) (elim b [ true ↦ refused BadGoalFact k | false ↦ facts_verdict t symbols g (k + 1) n ])
      go true e u = record { low = omega arith; high = omega arith; near = omega arith }
      go false e u = one-fact k n e (facts_verdict t symbols g (k + 1) n) u

  counted : length g % 18 ≡ 0 → length g / 18 ≤ most_goal_facts → (v : Verdict) → FactsAre 0 (length g / 18) v → GoalIs t symbols g v
  counted e l (Ok v) u = record {
    good = record {
      whole = omega (arith, div-add-mod (length g) 18);
      few = l;
      kinds = λ i m. goal-fact-kind (18 * i) (u i (omega arith) (omega arith));
      declared = λ i m. goal-fact-declared (18 * i) (u i (omega arith) (omega arith));
    };
    facts = λ i m. u i (omega arith) (omega arith);
    later = λ i m. goal-fact-later (18 * i) (u i (omega arith) (omega arith));
  }
  counted e l (Err r) u = u

  pub goal-is : GoalIs t symbols g (goal_verdict t symbols g)
  unfolding goal_verdict
  goal-is = go (eqb (length g % 18) 0) refl
    where
      go' : length g % 18 ≡ 0 → (b : Bool) → leb (length g / 18) most_goal_facts ≡ b
          → GoalIs t symbols g (cond b (facts_verdict t symbols g 0 (length g / 18)) (refused LongGoal 0))
      go' e true q =
          let l : length g / 18 ≤ 64 = leb-true (length g / 18) 64 q in
          counted e l (facts_verdict t symbols g 0 (length g / 18)) (facts-are 0 (length g / 18) (omega arith))
      go' e false q = record { low = omega arith; high = omega arith; near = omega arith }

      go : (b : Bool) → eqb (length g % 18) 0 ≡ b
          → GoalIs t symbols g
          (cond b (cond (leb (length g / 18) most_goal_facts) (facts_verdict t symbols g 0 (length g / 18)) (refused LongGoal 0)) (refused GoalLength 0))
      go true e = go' (eqb-true (length g % 18) 0 e) (leb (length g / 18) most_goal_facts) refl
      go false e = record { low = omega arith; high = omega arith; near = omega arith }

  pub whole-goal : goal_verdict t symbols g ≡ Ok tt → WholeGoal t symbols g
  whole-goal e = subst (GoalIs t symbols g) e goal-is

  pub good-goal : goal_verdict t symbols g ≡ Ok tt → GoodGoal symbols g
  good-goal e = (whole-goal e).good

  pub goal-places : (r : Refusal) → goal_verdict t symbols g ≡ Err r → GoalRefusal (number_of r.reason) r.place
  goal-places r e = subst (GoalIs t symbols g) e goal-is

-- ---- "The longest good table has 23,681 bytes."

pub length-limit : (t : List ℕ) → 23681 < length t → (read_of t).verdict ≡ Ok tt → ⊥
length-limit t l e = let short : length t ≤ 23681 = (good-table t e).short in omega arith
