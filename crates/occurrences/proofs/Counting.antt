-- What counting through the heads of a rule, through the rules, and behind a place comes to: what is found among the places left, behind those still
-- to be passed, stays the same.
use Prim.Native.Nat.{ℕ, zero, suc, ◌+◌, ◌-◌, ◌*◌, ◌<◌, ◌≤◌}
use mathlib.Core.Path.{◌≡◌, refl, sym, ap, ◌∙◌}
use mathlib.Core.Bool.{Bool, true, false}
use Rattle.std.specs.Prelude.{Option, Some, None, slice_get}
use Rattle.std.specs.declared.ops.ControlFlow.{ControlFlow}
use Rattle.std.specs.declared.ops.ControlFlow.TheVariants.{Break, Continue}
use mathlib.Core.List.{List, ◌∷◌, ◌++◌, append_assoc, append-nil}
use native.Mathlib.Omega.{arith}
use native.Mathlib.Numerals.{add-one}
use lib.Dec.{eqb}
use lib.ListN.{length, get_or, drop_of_length-le}
use lib.Seq.{drop-cons, get_or-take, length-take-le}
use borrow.Author.Tests.{eq-eqb, ne_eqb}
use Rattle.model.specs.declared.Symbol.{Symbol}
use Rattle.model.specs.declared.RuleShape.{RuleShape}
use Rattle.model.specs.declared.HeadPlace.{HeadPlace}
use Rattle.model.specs.Limits.{most_rules}
use Rattle.model.specs.Reading.{no_shape, read_of}
use Rattle.model.specs.Table.{no_rule, head_at, heads_from, heads_start, table_of, rule_of, rule_at, place_if, places_in, places_from, places}
use Rattle.model.proofs.Good.{GoodRule, GoodTable, good-table}
use Rattle.model.proofs.Decoded.{heads-take, rule-heads, rules-length, rule-at}
use Rattle.records.proofs.PartsLie.{heads-in}
use Rattle.occurrences.specs.Counting.{places_behind, left_from, places_left, looked_at, HeadsLie, Looked, Countable, Standing}

abbrev place : ℕ → ℕ → HeadPlace
place n k = record { rule = record { 0 = n }; head = k }

-- ---- the heads of a rule, from the last to the first

module _ (t : List ℕ) (s : Symbol) (n : ℕ) where
  same : ℕ → Bool
  same p = eqb (get_or t p 0) s.0

  last : (p k m : ℕ) → places_in s n k (heads_from t p (suc m)) ≡ place_if (same (p + 22 * m + 1)) (place n (k + m)) ++ places_in s n k (heads_from t p m)
  unfolding places_in heads_from head_at same
  last p k zero =
      let e : p + 22 * 0 + 1 ≡ p + 1 = omega arith in
      let f : k + 0 ≡ k = omega arith in
      rw (e, f) (sym (append-nil (place_if (eqb (get_or t (p + 1) 0) s.0) (place n k))))
  last p k (suc m) =
      let e : p + 22 + 22 * m + 1 ≡ p + 22 * suc m + 1 = omega arith in
      let f : suc k + m ≡ k + suc m = omega arith in
      let own = place_if (eqb (get_or t (p + 1) 0) s.0) (place n k) in
      ap (λ l. l ++ own) (last (p + 22) (suc k) m)
      ∙ append_assoc (place_if (eqb (get_or t (p + 22 + 22 * m + 1) 0) s.0) (place n (suc k + m))) (places_in s n (suc k) (heads_from t (p + 22) m)) own
      ∙ rw (e, f)

  from-last : (p k : ℕ) → 0 < k
      → places_in s n 0 (heads_from t p k) ≡ place_if (same (p + 22 * (k - 1) + 1)) (place n (k - 1)) ++ places_in s n 0 (heads_from t p (k - 1))
  from-last p zero h = absurd (omega arith)
  from-last p (suc m) h =
      let e : suc m - 1 ≡ m = omega arith in
      let f : 0 + m ≡ m = omega arith in
      rw e (last p 0 m ∙ rw f)

  by-last : (p k : ℕ) (b : Bool) → 0 < k → same (p + 22 * (k - 1) + 1) ≡ b
      → places_in s n 0 (heads_from t p k) ≡ place_if b (place n (k - 1)) ++ places_in s n 0 (heads_from t p (k - 1))
  by-last p k b h e = from-last p k h ∙ ap (λ (x : Bool). place_if x (place n (k - 1)) ++ places_in s n 0 (heads_from t p (k - 1))) e

-- k heads are left of the first k₀, and so many places are to be passed
pub record HeadsLeft (t : List ℕ) (r : RuleShape) (k₀ : ℕ) (s : Symbol) (left₀ k left : ℕ) : Type 0 where
  pub same : (n : ℕ) (later : List HeadPlace) → slice_get (places_in s n 0 (heads_from t (heads_start r) k) ++ later) left
      ≡ slice_get (places_in s n 0 (heads_from t (heads_start r) k₀) ++ later) left₀
  pub lie : HeadsLie t r k

pub heads-begin : {t : List ℕ} {r : RuleShape} {k : ℕ} → HeadsLie t r k → (s : Symbol) (left : ℕ) → HeadsLeft t r k s left k left
heads-begin l s left = record { same = λ n later. refl; lie = l }

module _ {t : List ℕ} {r : RuleShape} {k₀ : ℕ} {s : Symbol} {left₀ k left : ℕ} (i : HeadsLeft t r k₀ s left₀ k left) where
  pub heads-end : k ≤ 0 → Looked t r k₀ s left₀ (Continue left)
  unfolding looked_at places_in heads_from
  heads-end h = record { same = λ n later. none-left k (omega arith) n later ∙ i.same n later }
    where
      none-left : (k : ℕ) → k ≡ 0 → (n : ℕ) (later : List HeadPlace)
          → slice_get later left ≡ slice_get (places_in s n 0 (heads_from t (heads_start r) k) ++ later) left
      none-left zero e n later = refl
      none-left (suc k) e n later = absurd (omega arith)

  module _ (h : 0 < k) {p : ℕ} (at : p ≡ heads_start r + 22 * (k - 1)) where
    pub head-read : p + 1 < length t
    head-read = omega (arith, at, i.lie.few, i.lie.within)

    fewer : HeadsLie t r (k - 1)
    fewer = record { few = omega (arith, i.lie.few); few_heads = i.lie.few_heads; within = i.lie.within }

    abbrev below : ℕ → List HeadPlace
    below n = places_in s n 0 (heads_from t (heads_start r) (k - 1))

    by-head : (b : Bool) → eqb (get_or t (p + 1) 0) s.0 ≡ b → (n : ℕ) (later : List HeadPlace)
        → slice_get ((place_if b (place n (k - 1)) ++ below n) ++ later) left ≡ slice_get (places_in s n 0 (heads_from t (heads_start r) k₀) ++ later) left₀
    unfolding same
    by-head b e n later =
        ap (λ (x : List HeadPlace). slice_get (x ++ later) left) (sym (by-last t s n (heads_start r) k b h (rw (← at) e))) ∙ i.same n later

    pub head-other : (get_or t (p + 1) 0 ≡ s.0 → ⊥) → HeadsLeft t r k₀ s left₀ (k - 1) left
    head-other d = record { same = by-head false (ne_eqb (get_or t (p + 1) 0) s.0 d); lie = fewer }

    module _ (e : get_or t (p + 1) 0 ≡ s.0) where
      its-own : (n : ℕ) (later : List HeadPlace)
          → slice_get (place n (k - 1) ∷ (below n ++ later)) left ≡ slice_get (places_in s n 0 (heads_from t (heads_start r) k₀) ++ later) left₀
      its-own = by-head true (eq-eqb (get_or t (p + 1) 0) s.0 e)

      pub head-found : left ≡ 0 → Looked t r k₀ s left₀ (Break (k - 1))
      unfolding looked_at
      head-found z = record { same = λ n later. rw z at (its-own n later) }

      passed : (m : ℕ) → left ≡ suc m → (n : ℕ) (later : List HeadPlace)
          → slice_get (below n ++ later) (left - 1) ≡ slice_get (places_in s n 0 (heads_from t (heads_start r) k₀) ++ later) left₀
      passed m q n later = let u : suc m - 1 ≡ m = omega arith in rw (q, u) (rw q at (its-own n later))

      pub head-passed : (left ≡ 0 → ⊥) → HeadsLeft t r k₀ s left₀ (k - 1) (left - 1)
      head-passed z = record { same = passed (left - 1) (omega (arith, z)); lie = fewer }

-- ---- the rules, from the first to the last

module _ {t : List ℕ} {shapes : List RuleShape} (c : Countable t shapes) where
  sound : GoodTable t
  sound = good-table t c.good

  count : length shapes ≡ (read_of t).rules
  count = ap length c.laid ∙ length-take-le (read_of t).rules (read_of t).shapes (omega (arith, sound.few_rules, sound.shapes))

  pub rules-few : length shapes ≤ most_rules
  rules-few = omega (arith, count, sound.few_rules)

  all-rules : length (table_of t).rules ≡ length shapes
  all-rules = rules-length t sound.shapes sound.few_rules ∙ sym count

  module _ {n : ℕ} (h : n < length shapes) where
    abbrev shape : RuleShape
    shape = get_or shapes n no_shape

    -- the index has each rule of the table where it stands
    pub rule-laid : shape ≡ get_or (read_of t).shapes n no_shape
    rule-laid = ap (λ (x : List RuleShape). get_or x n no_shape) c.laid ∙ get_or-take (read_of t).rules (read_of t).shapes n no_shape (omega (arith, count))

    sound-rule : GoodRule t (read_of t).symbols shape
    sound-rule = rw rule-laid (sound.each n (omega (arith, count)))

    own-rule : rule_at (table_of t) (record { 0 = n }) ≡ rule_of t shape
    own-rule = rule-at t sound.shapes sound.few_rules (record { 0 = n }) (omega (arith, count)) ∙ ap (rule_of t) (sym rule-laid)

    -- a rule's first k heads, and the rules behind it
    own-left : (s : Symbol) (k : ℕ) → k ≤ shape.heads
        → places_left (table_of t) s n k ≡ places_in s n 0 (heads_from t (heads_start shape) k) ++ places_behind (table_of t) s (suc n)
    unfolding places_left left_from places_behind rule_at
    own-left s k l = rw (
      drop-cons (table_of t).rules n no_rule (omega (arith, all-rules)),
      own-rule,
      rule-heads t shape sound-rule.kept_few,
      heads-take t (heads_start shape) shape.heads k l,
    ) refl

    own-places : (s : Symbol)
        → places_behind (table_of t) s n ≡ places_in s n 0 (heads_from t (heads_start shape) shape.heads) ++ places_behind (table_of t) s (suc n)
    unfolding places_behind places_from rule_at
    own-places s = rw (
      drop-cons (table_of t).rules n no_rule (omega (arith, all-rules)),
      own-rule,
      rule-heads t shape sound-rule.kept_few,
    ) refl

    lies : (k : ℕ) → k ≤ shape.heads → HeadsLie t shape k
    lies k l = record { few = l; few_heads = sound-rule.few_heads; within = heads-in shape sound-rule.parts_in }

    pub heads-lie : HeadsLie t shape shape.heads
    heads-lie = lies shape.heads (omega arith)

    -- what a look through all its heads says of the places from it on
    module _ {s : Symbol} {left : ℕ} {look : ControlFlow ℕ ℕ} (w : Looked t shape shape.heads s left look) where
      looked-on : looked_at n (places_behind (table_of t) s (suc n)) look ≡ slice_get (places_behind (table_of t) s n) left
      looked-on = w.same n (places_behind (table_of t) s (suc n)) ∙ ap (λ (l : List HeadPlace). slice_get l left) (sym (own-places s))

      pub rule-found : {k : ℕ} → look ≡ Break k → Some (place n k) ≡ slice_get (places_behind (table_of t) s n) left
      unfolding looked_at
      rule-found e = rw e at looked-on

      pub rule-passed : {m : ℕ} → look ≡ Continue m → slice_get (places_behind (table_of t) s (n + 1)) m ≡ slice_get (places_behind (table_of t) s n) left
      unfolding looked_at
      rule-passed e = rw (add-one n) (rw e at looked-on)

  pub none-behind : (s : Symbol) {n : ℕ} (left : ℕ) → length shapes ≤ n → None ≡ slice_get (places_behind (table_of t) s n) left
  unfolding places_behind places_from
  none-behind s {n} left h = let e = drop_of_length-le (table_of t).rules {i = n} (omega (arith, all-rules)) in rw e refl

  -- a place of the table: what a look through the heads below its own says of the places behind it
  module _ {p : HeadPlace} (w : Standing t p) where
    pub its-rule : p.rule.0 < length shapes
    its-rule = omega (arith, count, w.rule_in)

    abbrev its : RuleShape
    its = get_or shapes p.rule.0 no_shape

    its-heads : p.head ≤ its.heads
    its-heads = rw (rule-laid its-rule) (omega (arith, w.head_in))

    pub below-lie : HeadsLie t its p.head
    below-lie = lies its-rule p.head its-heads

    module _ {s : Symbol} {left : ℕ} {look : ControlFlow ℕ ℕ} (v : Looked t its p.head s left look) where
      abbrev later : List HeadPlace
      later = places_behind (table_of t) s (suc p.rule.0)

      looked-below : looked_at p.rule.0 later look ≡ slice_get (places_left (table_of t) s p.rule.0 p.head) left
      looked-below = v.same p.rule.0 later ∙ ap (λ (x : List HeadPlace). slice_get x left) (sym (own-left its-rule s p.head its-heads))

      pub below-found : {h : ℕ} → look ≡ Break h → Some (place p.rule.0 h) ≡ slice_get (places_left (table_of t) s p.rule.0 p.head) left
      unfolding looked_at
      below-found e = rw e at looked-below

      pub below-passed : {m : ℕ} → look ≡ Continue m → {x : Option HeadPlace} → x ≡ slice_get (places_behind (table_of t) s (p.rule.0 + 1)) m
          → x ≡ slice_get (places_left (table_of t) s p.rule.0 p.head) left
      unfolding looked_at
      below-passed e u = u ∙ rw (add-one p.rule.0) (rw e at looked-below)

pub all-behind : (t : List ℕ) (s : Symbol) (i : ℕ) → slice_get (places_behind (table_of t) s 0) i ≡ slice_get (places (table_of t) s) i
unfolding places_behind places
all-behind t s i = refl
