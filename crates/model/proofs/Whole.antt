-- All that the tests of a good table tell: every byte of kind, every field and every variable of every record passed its tests, the rules stand one
-- behind the other, and the end record is the last byte. Reading carries it along beside Sane (Good): the symbols so far, the finished rules as a
-- chain up to the start of the rule that is being read, and that rule up to where the scan stands.
use Prim.Native.Nat.{ℕ, zero, suc, ◌+◌, ◌-◌, ◌*◌, ◌≤◌, ◌<◌}
use mathlib.Core.Path.{◌≡◌, refl, sym, ap, ◌∙◌}
use mathlib.Core.Logic.{◌⊎◌, inl, inr}
use mathlib.Core.Bool.{Bool, true, false, cond}
use mathlib.Core.List.{List, [], ◌∷◌, ◌++◌}
use native.Mathlib.Omega.{arith}
use native.Mathlib.Numerals.{add-one}
use native.Mathlib.Nat.{eq-or-lt_of_le, eq-zero-or-pos}
use lib.Dec.{ltb}
use lib.ListN.{length, get_or, take}
use lib.Seq.{take-suc, take-set-le}
use borrow.Author.Tests.{ltb-false}
use Rattle.model.specs.declared.Kind.{Kind}
use Rattle.model.specs.declared.Kind.TheVariants.{NextSymbol, NextRule, KeptHead, RemovedHead, Comparison, BodyFact, BodyFail, EndOfTable}
use Rattle.model.specs.declared.RuleShape.{RuleShape}
use Rattle.model.specs.declared.Scan.{Scan}
use Rattle.std.specs.Prelude.{Ok, Err}
use Rattle.model.specs.declared.Behind.TheVariants.{Next, Done}
use Rattle.model.specs.declared.Reason.TheVariants.{BytesBehind}
use Rattle.model.specs.declared.Reading.{Reading}
use Rattle.model.specs.Refusals.{refused}
use Rattle.model.specs.Fields.{head_bad, guard_bad, body_fact_bad, bad_field}
use Rattle.model.specs.Variables.{strange_guard, strange_fact, strange}
use Rattle.model.specs.Reading.{no_shape, no_shapes, first_scan, reading, with_part, with_rule, with_symbol, with_kept, with_removed, with_guard}
use Rattle.model.specs.Reading.{RecordStep, with_item, behind, record_of, noted, ended, go_on, read_from, read_of}
use Rattle.model.specs.Table.{is_fact, behind_item, heads_start, guards_start, items_start}
use Rattle.model.proofs.Good.{Sane, Early, Passed, ItemsBy, StepIs, items-none, items-snoc, behind-fact, behind-fail, six-fact, seven-fail}
use Rattle.model.proofs.Good.{noted-some, first-sane, past-heads, not-early, not-late, record-by, record-is}

-- a body item: "body fact" or "body fail"; a fact's fields are good, and its variables stand in heads
pub record ItemWhole (t : List ℕ) (symbols start heads p : ℕ) : Type 0 where
  pub kind : (get_or t p 0 ≡ 6) ⊎ (get_or t p 0 ≡ 7)
  pub fields : is_fact t p ≡ true → body_fact_bad t p symbols ≡ false
  pub usual : is_fact t p ≡ true → strange_fact t start heads p ≡ false

-- n body items from p on, behind which q is
abbrev pub ItemsWhole : List ℕ → ℕ → ℕ → ℕ → ℕ → ℕ → ℕ → Type 0
ItemsWhole t symbols start heads p n q = ItemsBy t (ItemWhole t symbols start heads) p n q

pub record GuardWhole (t : List ℕ) (start heads p : ℕ) : Type 0 where
  pub kind : get_or t p 0 ≡ 5
  pub fields : guard_bad t p ≡ false
  pub usual : strange_guard t start heads p ≡ false

-- a rule, behind which q is
pub record RuleWhole (t : List ℕ) (symbols : ℕ) (r : RuleShape) (q : ℕ) : Type 0 where
  pub begins : get_or t r.start 0 ≡ 2
  pub kept : (i : ℕ) → i < r.kept → get_or t (heads_start r + 22 * i) 0 ≡ 3
  pub removed : (i : ℕ) → r.kept ≤ i → i < r.heads → get_or t (heads_start r + 22 * i) 0 ≡ 4
  pub heads : (i : ℕ) → i < r.heads → head_bad t (heads_start r + 22 * i) symbols ≡ false
  pub guards : (i : ℕ) → i < r.guards → GuardWhole t r.start r.heads (guards_start r + 24 * i)
  pub items : ItemsWhole t symbols r.start r.heads (items_start r) r.items q

-- rules one behind the other, from p on, behind the last of which q is
abbrev pub RulesWhole : List ℕ → ℕ → ℕ → List RuleShape → ℕ → Type 0
RulesWhole t symbols p [] q = p ≡ q
RulesWhole t symbols p (r ∷ rs) q = (r.start ≡ p) × ((m : ℕ) × RuleWhole t symbols r m × RulesWhole t symbols m rs q)

-- a reading of t in which every record passed
pub record ReadingWhole (t : List ℕ) (r : Reading) : Type 0 where
  pub symbols : (i : ℕ) → i < r.symbols → get_or t (2 * i) 0 ≡ 1
  pub arities : (i : ℕ) → i < r.symbols → get_or t (2 * i + 1) 0 ≤ 4
  pub last : ℕ
  pub rules : RulesWhole t r.symbols (2 * r.symbols) (take r.rules r.shapes) last
  pub ends : get_or t last 0 ≡ 8
  pub long : length t ≡ suc last

abbrev pub TableWhole : List ℕ → Type 0
TableWhole t = ReadingWhole t (read_of t)

-- ---- the invariant

pub record InWhole (t : List ℕ) (s : Scan) (shapes : List RuleShape) : Type 0 where
  pub before : RulesWhole t s.symbols (2 * s.symbols) (take (s.rules - 1) shapes) s.shape.start
  pub rule : RuleWhole t s.symbols s.shape s.at
  pub all_kept : s.stage ≤ 2 → s.shape.kept ≡ s.shape.heads

pub record Whole (t : List ℕ) (s : Scan) (shapes : List RuleShape) : Type 0 where
  pub symbols : (i : ℕ) → i < s.symbols → get_or t (2 * i) 0 ≡ 1
  pub arities : (i : ℕ) → i < s.symbols → get_or t (2 * i + 1) 0 ≤ 4
  pub in_rule : 1 ≤ s.stage → InWhole t s shapes

first-whole : (t : List ℕ) → Whole t first_scan no_shapes
first-whole t = record {
  symbols = λ i (l : i < 0). absurd (omega arith);
  arities = λ i (l : i < 0). absurd (omega arith);
  in_rule = λ (l : 1 ≤ 0). absurd (omega arith);
}

-- what holds below n and at n holds below n + 1
below : (P : ℕ → Type 0) (n : ℕ) → ((i : ℕ) → i < n → P i) → P n → (i : ℕ) → i < n + 1 → P i
below P n u x i l = go (eq-or-lt_of_le {n = i} {m = n} (omega arith))
  where
    go : (i ≡ n) ⊎ (i < n) → P i
    go (inl e) = rw e x
    go (inr m) = u i m

rules-snoc : (t : List ℕ) (symbols p : ℕ) (rs : List RuleShape) (r : RuleShape) (q : ℕ) → RulesWhole t symbols p rs r.start → RuleWhole t symbols r q
    → RulesWhole t symbols p (rs ++ (r ∷ [])) q
rules-snoc t symbols p [] r q e w = (sym e, (q, w, refl))
rules-snoc t symbols p (x ∷ rs) r q e w = (e.0, (e.1.0, e.1.1, rules-snoc t symbols e.1.0 rs r q e.1.2 w))

-- the rule that is being read is noted behind the finished ones
noted-take : (shapes : List RuleShape) (s : Scan) (n : ℕ) → n + 1 ≤ s.rules → take n (noted shapes s) ≡ take n shapes
noted-take shapes s n l = rw (noted-some shapes s (omega arith)) (take-set-le n shapes (s.rules - 1) s.shape (omega arith))

module _ (t : List ℕ) (s : Scan) (shapes : List RuleShape) (h : Sane t s shapes) (w : Whole t s shapes) where
  -- so far all rules are whole
  rules-so-far : RulesWhole t s.symbols (2 * s.symbols) (take s.rules shapes) s.at
  rules-so-far = go (eq-zero-or-pos s.stage)
    where
      go : (s.stage ≡ 0) ⊎ (0 < s.stage) → RulesWhole t s.symbols (2 * s.symbols) (take s.rules shapes) s.at
      go (inl z) = let e = h.early z in rw e.no_rule (sym e.behind_symbols)
      go (inr p) =
          let some = (h.in_rule p).some_rule in
          let r = w.in_rule p in
          let n : s.rules ≡ suc (s.rules - 1) = omega arith in
          let room : s.rules - 1 < length shapes = omega (arith, h.long, h.few_rules) in
          let taken : take s.rules shapes ≡ take (s.rules - 1) shapes ++ (s.shape ∷ []) =
          ap (λ (k : ℕ). take k shapes) n
          ∙ take-suc shapes (s.rules - 1) no_shape room
          ∙ ap (λ (x : RuleShape). take (s.rules - 1) shapes ++ (x ∷ [])) (h.current p)
          in
          rw taken (rules-snoc t s.symbols (2 * s.symbols) (take (s.rules - 1) shapes) s.shape s.at r.before r.rule)

  -- ---- one record more

  symbol-whole : Passed t s NextSymbol → Whole t (with_symbol s) (noted shapes (with_symbol s))
  unfolding bad_field
  symbol-whole q =
      let late : s.stage ≤ 0 = not-late NextSymbol s.stage q.ordered in
      let e : Early s = h.early (omega arith) in
      let here : s.at ≡ 2 * s.symbols = e.behind_symbols in
      record {
        symbols = below (λ (i : ℕ). get_or t (2 * i) 0 ≡ 1) s.symbols w.symbols (rw here at q.byte);
        arities = below (λ (i : ℕ). get_or t (2 * i + 1) 0 ≤ 4) s.symbols w.arities (rw here at (ltb-false 4 (get_or t (s.at + 1) 0) q.fields));
        in_rule = λ (l : 1 ≤ 0). absurd (omega arith);
      }

  rule-whole : Passed t s NextRule → Whole t (with_rule s) (noted shapes (with_rule s))
  rule-whole q =
      let next = with_rule s in
      let n : s.rules + 1 - 1 ≡ s.rules = omega arith in
      record {
        symbols = w.symbols;
        arities = w.arities;
        in_rule = λ l. record {
          before = rw (n, noted-take shapes next s.rules (omega arith)) rules-so-far;
          rule = record {
            begins = q.byte;
            kept = λ i (l : i < 0). absurd (omega arith);
            removed = λ i e (l : i < 0). absurd (omega arith);
            heads = λ i (l : i < 0). absurd (omega arith);
            guards = λ i (l : i < 0). absurd (omega arith);
            items = omega arith;
          };
          all_kept = λ e. refl;
        };
      }

  -- one part more of the rule that is being read
  part-whole : (size stage : ℕ) (shape : RuleShape) → 1 ≤ s.stage → shape.start ≡ s.shape.start → RuleWhole t s.symbols shape (s.at + size)
      → (stage ≤ 2 → shape.kept ≡ shape.heads) → Whole t (with_part s size stage shape) (noted shapes (with_part s size stage shape))
  part-whole size stage shape l e r k =
      let some = (h.in_rule l).some_rule in
      record {
        symbols = w.symbols;
        arities = w.arities;
        in_rule = λ m. record {
          before = rw (noted-take shapes (with_part s size stage shape) (s.rules - 1) (omega arith), e) (w.in_rule l).before;
          rule = r;
          all_kept = k;
        };
      }

  kept-whole : Passed t s KeptHead → Whole t (with_part s 22 2 (with_kept s.shape)) (noted shapes (with_part s 22 2 (with_kept s.shape)))
  unfolding bad_field
  kept-whole q =
      let one : 1 ≤ s.stage = not-early KeptHead s.stage q.ordered in
      let late : s.stage ≤ 2 = not-late KeptHead s.stage q.ordered in
      let c = h.in_rule one in
      let r = (w.in_rule one).rule in
      let all : s.shape.kept ≡ s.shape.heads = (w.in_rule one).all_kept late in
      let no_guard : s.shape.guards ≡ 0 = c.no_guard (omega arith) in
      let no_item : s.shape.items ≡ 0 = c.no_item (omega arith) in
      let here : s.at ≡ items_start s.shape = c.at_items (omega arith) in
      let head : s.at ≡ heads_start s.shape + 22 * s.shape.heads = omega arith in
      part-whole 22 2 (with_kept s.shape) one refl
      (record {
        begins = r.begins;
        kept = below (λ (i : ℕ). get_or t (heads_start s.shape + 22 * i) 0 ≡ 3) s.shape.heads (λ i l. r.kept i (omega arith)) (rw head at q.byte);
        removed = λ i (a : s.shape.heads + 1 ≤ i) (b : i < s.shape.heads + 1). absurd (omega arith);
        heads = below (λ (i : ℕ). head_bad t (heads_start s.shape + 22 * i) s.symbols ≡ false) s.shape.heads r.heads (rw head at q.fields);
        guards = λ i (a : i < s.shape.guards). absurd (omega arith);
        items = items-none t (ItemWhole t s.symbols s.shape.start (s.shape.heads + 1)) _ s.shape.items _ no_item (omega arith);
      })
      (λ e. refl)

  removed-whole : Passed t s RemovedHead → Whole t (with_part s 22 3 (with_removed s.shape)) (noted shapes (with_part s 22 3 (with_removed s.shape)))
  unfolding bad_field
  removed-whole q =
      let one : 1 ≤ s.stage = not-early RemovedHead s.stage q.ordered in
      let late : s.stage ≤ 3 = not-late RemovedHead s.stage q.ordered in
      let c = h.in_rule one in
      let r = (w.in_rule one).rule in
      let no_guard : s.shape.guards ≡ 0 = c.no_guard late in
      let no_item : s.shape.items ≡ 0 = c.no_item (omega arith) in
      let here : s.at ≡ items_start s.shape = c.at_items (omega arith) in
      let head : s.at ≡ heads_start s.shape + 22 * s.shape.heads = omega arith in
      part-whole 22 3 (with_removed s.shape) one refl
      (record {
        begins = r.begins;
        kept = r.kept;
        removed = λ i a b.
            below (λ (i : ℕ). s.shape.kept ≤ i → get_or t (heads_start s.shape + 22 * i) 0 ≡ 4) s.shape.heads (λ i l k. r.removed i k l)
            (λ k. rw head at q.byte) i b a;
        heads = below (λ (i : ℕ). head_bad t (heads_start s.shape + 22 * i) s.symbols ≡ false) s.shape.heads r.heads (rw head at q.fields);
        guards = λ i (a : i < s.shape.guards). absurd (omega arith);
        items = items-none t (ItemWhole t s.symbols s.shape.start (s.shape.heads + 1)) _ s.shape.items _ no_item (omega arith);
      })
      (λ (e : 3 ≤ 2). absurd (omega arith))

  guard-whole : Passed t s Comparison → Whole t (with_part s 24 4 (with_guard s.shape)) (noted shapes (with_part s 24 4 (with_guard s.shape)))
  unfolding bad_field strange
  guard-whole q =
      let one : 1 ≤ s.stage = not-early Comparison s.stage q.ordered in
      let late : s.stage ≤ 4 = not-late Comparison s.stage q.ordered in
      let c = h.in_rule one in
      let r = (w.in_rule one).rule in
      let no_item : s.shape.items ≡ 0 = c.no_item late in
      let here : s.at ≡ items_start s.shape = c.at_items late in
      let new : GuardWhole t s.shape.start s.shape.heads s.at = record { kind = q.byte; fields = q.fields; usual = q.usual } in
      part-whole 24 4 (with_guard s.shape) one refl
      (record {
        begins = r.begins;
        kept = r.kept;
        removed = r.removed;
        heads = r.heads;
        guards = below (λ (i : ℕ). GuardWhole t s.shape.start s.shape.heads (guards_start s.shape + 24 * i)) s.shape.guards r.guards
            (rw here at new);
        items = items-none t (ItemWhole t s.symbols s.shape.start s.shape.heads) _ s.shape.items _ no_item (omega arith);
      })
      (λ (e : 4 ≤ 2). absurd (omega arith))

  -- a body item of either kind
  item-whole : (size : ℕ) → 2 ≤ s.stage → behind_item t s.at ≡ s.at + size → ItemWhole t s.symbols s.shape.start s.shape.heads s.at
      → Whole t (with_part s size 5 (with_item s.shape)) (noted shapes (with_part s size 5 (with_item s.shape)))
  item-whole size two e i =
      let one : 1 ≤ s.stage = omega arith in
      let r = (w.in_rule one).rule in
      part-whole size 5 (with_item s.shape) one refl
      (record {
        begins = r.begins;
        kept = r.kept;
        removed = r.removed;
        heads = r.heads;
        guards = r.guards;
        items = rw (add-one s.shape.items, ← e)
            (items-snoc t (ItemWhole t s.symbols s.shape.start s.shape.heads) (items_start s.shape) s.shape.items s.at r.items i);
      })
      (λ (e : 5 ≤ 2). absurd (omega arith))

  fact-whole : Passed t s BodyFact → Whole t (with_part s 46 5 (with_item s.shape)) (noted shapes (with_part s 46 5 (with_item s.shape)))
  unfolding bad_field strange
  fact-whole q =
      item-whole 46 (past-heads t s shapes h BodyFact (omega arith) q.ordered q.headed) (behind-fact t s.at (six-fact t s.at q.byte))
      (record { kind = inl q.byte; fields = λ e. q.fields; usual = λ e. q.usual })

  fail-whole : Passed t s BodyFail → Whole t (with_part s 1 5 (with_item s.shape)) (noted shapes (with_part s 1 5 (with_item s.shape)))
  fail-whole q =
      let none : is_fact t s.at ≡ false = seven-fail t s.at q.byte in
      item-whole 1 (past-heads t s shapes h BodyFail (omega arith) q.ordered q.headed) (behind-fail t s.at none)
      (record { kind = inr q.byte; fields = λ e. absurd (never e none); usual = λ e. absurd (never e none) })
    where
      never : {b : Bool} → b ≡ true → b ≡ false → ⊥
      never e d = cc

  -- what a record comes to; an end record ends a whole table
  abbrev StepWhole : RecordStep → Type 0
  StepWhole (Ok (Next s')) = Whole t s' (noted shapes s')
  StepWhole (Err r) = Unit {0}
  StepWhole (Ok (Done p)) = (p ≡ s.at + 1) × (get_or t s.at 0 ≡ 8) × (s.at + 1 ≤ length t)

  behind-whole : (k : Kind) → Passed t s k → StepWhole (Ok (behind s k))
  unfolding behind
  behind-whole NextSymbol q = symbol-whole q
  behind-whole NextRule q = rule-whole q
  behind-whole KeptHead q = kept-whole q
  behind-whole RemovedHead q = removed-whole q
  behind-whole Comparison q = guard-whole q
  behind-whole BodyFact q = fact-whole q
  behind-whole BodyFail q = fail-whole q
  behind-whole EndOfTable q = (refl, q.byte, q.lies)

  record-whole : StepWhole (record_of t s)
  record-whole = record-by t s shapes h StepWhole (λ r k. tt) behind-whole

  -- ---- the end record

  end-whole : (p : ℕ) → StepWhole (Ok (Done p)) → ended t p ≡ Ok tt → ReadingWhole t (reading (ended t p) s.symbols s.rules shapes)
  unfolding ended
  end-whole p d = go (ltb p (length t)) refl
    where
      go : (b : Bool) → ltb p (length t) ≡ b → cond b (refused BytesBehind p) (Ok tt) ≡ Ok (tt {0})
          → ReadingWhole t (reading (cond b (refused BytesBehind p) (Ok tt)) s.symbols s.rules shapes)
      go true l e = absurd cc
      go false l e = record {
        symbols = w.symbols;
        arities = w.arities;
        last = s.at;
        rules = rules-so-far;
        ends = d.1;
        long = omega (arith, ltb-false p (length t) l, d.0, d.2);
      }

-- ---- the whole table

pub read-whole : (n : ℕ) (t : List ℕ) (s : Scan) (shapes : List RuleShape) → Sane t s shapes → Whole t s shapes → (read_from n t s shapes).verdict ≡ Ok tt
    → ReadingWhole t (read_from n t s shapes)
unfolding read_from go_on
read-whole zero t s shapes h w = λ e. absurd cc
read-whole (suc n) t s shapes h w = go (record_of t s) (record-is t s shapes h) (record-whole t s shapes h w) (read-whole n t)
  where
    go : (r : RecordStep) → StepIs t s shapes r → StepWhole t s shapes h w r
        → ((s' : Scan) (shapes' : List RuleShape) → Sane t s' shapes' → Whole t s' shapes' → (read_from n t s' shapes').verdict ≡ Ok tt
        → ReadingWhole t (read_from n t s' shapes'))
        → (go_on t s shapes (read_from n t) r).verdict ≡ Ok tt → ReadingWhole t (go_on t s shapes (read_from n t) r)
    go (Ok (Next s')) a b ih e = ih s' (noted shapes s') a.1 b e
    go (Err r) a b ih e = absurd cc
    go (Ok (Done p)) a b ih e = end-whole t s shapes h w p b e

pub whole-table : (t : List ℕ) → (read_of t).verdict ≡ Ok tt → TableWhole t
unfolding read_of
whole-table t e = read-whole (length t) t first_scan no_shapes (first-sane t) (first-whole t) e
