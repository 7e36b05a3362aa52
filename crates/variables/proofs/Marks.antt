-- The marks of a rule's variables: what marking a head adds, what a record leaves of them, and what a mark says of a slot. A head more stands behind
-- the others, so that a variable is in one of the heads where it is in one of the earlier ones or in the last.
use Prim.Native.Nat.{ℕ, zero, suc, ◌+◌, ◌*◌, ◌%◌, ◌<◌, ◌≤◌}
use mathlib.Core.Path.{◌≡◌, refl, sym, ap, ◌∙◌, subst}
use mathlib.Core.List.{List}
use mathlib.Core.Bool.{Bool, true, false, cond, not, ◌||◌, ◌&&◌, true≢false, or_assoc, or_comm, or-false, and-true, and-false}
use native.Mathlib.Omega.{arith}
use native.Mathlib.Numerals.{add-one}
use native.Mathlib.Nat.{mod-eq_of_lt}
use lib.ListN.{length, get_or, set, replicate, length-set, get_or-replicate}
use lib.Seq.{get_or-set_same, get_or-set_other}
use lib.Dec.{ltb, eqb}
use borrow.Author.Tests.{ltb-true, lt-ltb, le-ltb, eqb-true, eqb-false}
use Rattle.wire.specs.Wire.{u32_at, signed_of}
use Rattle.model.specs.Slots.{slot_by, slot_at}
use Rattle.model.specs.Variables.{is_variable, head_has, in_heads, strange_slot, strange}
use Rattle.model.specs.declared.Kind.{Kind}
use Rattle.model.specs.declared.Kind.TheVariants.{NextSymbol, NextRule, KeptHead, RemovedHead, Comparison, BodyFact, BodyFail, EndOfTable}
use Rattle.model.specs.declared.Scan.{Scan}
use Rattle.model.specs.declared.RuleShape.{RuleShape}
use Rattle.model.specs.declared.Slot.{Slot}
use Rattle.model.specs.declared.Slot.TheVariants.{Unused, Constant, Variable, Bad}
use Rattle.variables.specs.Named.{Named, Follows, headless, head, same, marked, marked_first, marked_head}

-- ---- what holds of a slot, by the tests of its tag and its value

by-tests : (P : Slot → Type 0) (value : ℕ) (tag0 tag1 tag2 none low : Bool) → P Unused → P (Constant (signed_of value)) → P Bad
    → (tag2 ≡ true → low ≡ true → P (Variable value))
    → P (cond tag0 (cond none Unused Bad) (cond tag1 (Constant (signed_of value)) (cond tag2 (cond low (Variable value) Bad) Bad)))
by-tests P value true tag1 tag2 true low u c b v = u
by-tests P value true tag1 tag2 false low u c b v = b
by-tests P value false true tag2 none low u c b v = c
by-tests P value false false true none true u c b v = v refl refl
by-tests P value false false true none false u c b v = b
by-tests P value false false false none low u c b v = b

by-slot : (P : Slot → Type 0) (tag value : ℕ) → P Unused → P (Constant (signed_of value)) → P Bad
    → (eqb tag 2 ≡ true → ltb value 16 ≡ true → P (Variable value)) → P (slot_by tag value)
unfolding slot_by
by-slot P tag value = by-tests P value (eqb tag 0) (eqb tag 1) (eqb tag 2) (eqb value 0) (ltb value 16)

-- ---- a slot's variable has a mark

abbrev Small : Slot → Type 0
Small Unused = Unit {0}
Small (Constant z) = Unit {0}
Small (Variable v) = v < 16
Small Bad = Unit {0}

pub variable-small : (t : List ℕ) (p : ℕ) {s : Slot} {v : ℕ} → s ≡ slot_at t p → s ≡ Variable v → v < 16
unfolding slot_at
variable-small t p e d = let value = u32_at t (p + 1) in subst Small (sym e ∙ d)
    (by-slot Small (get_or t p 0) value tt tt tt (λ tag low. ltb-true value 16 low))

-- ---- marking

marked-sized : (s : Slot) (l : List Bool) → length (marked s l) ≡ length l
unfolding marked
marked-sized Unused l = refl
marked-sized (Constant z) l = refl
marked-sized (Variable w) l = length-set l w true
marked-sized Bad l = refl

set-has : (l : List Bool) (w v : ℕ) (b : Bool) → eqb w v ≡ b → v < length l → get_or (set l w true) v false ≡ (b || get_or l v false)
set-has l w v true e h = rw (eqb-true w v e) (get_or-set_same l v true false h)
set-has l w v false e h = get_or-set_other l w v true false (λ (q : v ≡ w). eqb-false w v e (sym q))

marked-has : (s : Slot) (l : List Bool) (v : ℕ) → v < length l → get_or (marked s l) v false ≡ (is_variable s v || get_or l v false)
unfolding marked is_variable
marked-has Unused l v h = refl
marked-has (Constant z) l v h = refl
marked-has (Variable w) l v h = set-has l w v (eqb w v) refl h
marked-has Bad l v h = refl

in-order : (a b c d l : Bool) → (d || (c || (b || (a || l)))) ≡ (l || (a || (b || (c || d))))
in-order a b c d l = rw (or_comm d (c || (b || (a || l))), or_comm c (b || (a || l)), or_comm b (a || l), or_comm a l) (simp or_assoc)

module _ (t : List ℕ) (p : ℕ) (l : List Bool) where
  head-sized : length (marked_head t p l) ≡ length l
  unfolding marked_head
  head-sized = simp marked-sized

  head-has : (v : ℕ) → v < length l → get_or (marked_head t p l) v false ≡ (get_or l v false || head_has t p v)
  unfolding marked_head head_has
  head-has v h =
      let a = slot_at t (p + 2) in
      let b = slot_at t (p + 7) in
      let c = slot_at t (p + 12) in
      let d = slot_at t (p + 17) in
      marked-has d (marked c (marked b (marked a l))) v (simp marked-sized h)
      ∙ ap (λ (x : Bool). is_variable d v || x) (marked-has c (marked b (marked a l)) v (simp marked-sized h))
      ∙ ap (λ (x : Bool). is_variable d v || (is_variable c v || x)) (marked-has b (marked a l) v (simp marked-sized h))
      ∙ ap (λ (x : Bool). is_variable d v || (is_variable c v || (is_variable b v || x))) (marked-has a l v h)
      ∙ in-order (is_variable a v) (is_variable b v) (is_variable c v) (is_variable d v) (get_or l v false)

-- ---- the marks, as the code writes them

module _ (t : List ℕ) (p : ℕ) where
  module _ {s : Slot} (e : s ≡ slot_at t p) (l : List Bool) where
    pub variable-marked : {v : ℕ} → s ≡ Variable v → set l v true ≡ marked (slot_at t p) l
    unfolding marked
    variable-marked d = rw (← e, d)

    -- any other slot
    pub other-marked : ((v : ℕ) → s ≡ Variable v → ⊥) → l ≡ marked (slot_at t p) l
    unfolding marked
    other-marked d = rw (← e) (go s d)
      where
        go : (x : Slot) → ((v : ℕ) → x ≡ Variable v → ⊥) → l ≡ marked x l
        go Unused d = refl
        go (Constant z) d = refl
        go (Variable v) d = absurd (d v refl)
        go Bad d = refl

  pub first-marked : (k : ℕ) (l : List Bool) {a b : List Bool} → a ≡ marked_first t p k l → b ≡ marked (slot_at t (p + 2 + 5 * k)) a
      → b ≡ marked_first t p (k + 1) l
  unfolding marked_first
  first-marked k l e f = rw (add-one k, ← e) f

  pub head-marked : (l : List Bool) {d : List Bool} → d ≡ marked_first t p 4 l → d ≡ marked_head t p l
  unfolding marked_head marked_first
  head-marked l e =
      let a : p + 2 + 5 * 0 ≡ p + 2 = omega arith in
      let b : p + 2 + 5 * 1 ≡ p + 7 = omega arith in
      let c : p + 2 + 5 * 2 ≡ p + 12 = omega arith in
      let f : p + 2 + 5 * 3 ≡ p + 17 = omega arith in
      e ∙ rw (a, b, c, f)

-- ---- a head more

one-more : (t : List ℕ) (p n v : ℕ) → in_heads t p (suc n) v ≡ (in_heads t p n v || head_has t (p + 22 * n) v)
unfolding in_heads
one-more t p zero v = let e : p + 22 * 0 ≡ p = omega arith in rw e (or-false (head_has t p v))
one-more t p (suc n) v =
    let e : p + 22 * suc n ≡ p + 22 + 22 * n = omega arith in
    rw e
    (ap (λ (x : Bool). head_has t p v || x) (one-more t (p + 22) n v)
    ∙ sym (or_assoc (head_has t p v) (in_heads t (p + 22) n v) (head_has t (p + 22 + 22 * n) v)))

pub none-named : (t : List ℕ) (rule : RuleShape) → rule.heads ≡ 0 → Named t rule (replicate 16 false)
unfolding in_heads
none-named t rule e = record { sized = refl; marks = λ v h. rw e (get_or-replicate 16 v false false h) }

module _ {t : List ℕ} {at : ℕ} {before after : RuleShape} {named : List Bool} (w : Named t before named) where
  has-more : after.heads ≡ before.heads + 1 → after.start ≡ before.start → at ≡ before.start + 1 + 22 * before.heads
      → Named t after (marked_head t at named)
  has-more e d f =
      let more : after.heads ≡ suc before.heads = omega arith in
      record {
        sized = head-sized t at named ∙ w.sized;
        marks = λ v h. head-has t at named v (omega (arith, w.sized))
            ∙ rw (w.marks v h, f) (rw (d, more) (sym (one-more t (before.start + 1) before.heads v)));
      }

  pub head-lies : Follows t at before after → before.heads < after.heads → at + 22 ≤ length t
  head-lies (headless e) h = absurd (omega arith)
  head-lies (head e d f lies) h = lies
  head-lies (same e d) h = absurd (omega arith)

  pub more-named : Follows t at before after → before.heads < after.heads → Named t after (marked_head t at named)
  more-named (headless e) h = absurd (omega arith)
  more-named (head e d f lies) h = has-more e d f
  more-named (same e d) h = absurd (omega arith)

  pub fewer-named : Follows t at before after → after.heads < before.heads → Named t after (replicate 16 false)
  fewer-named (headless e) h = none-named t after e
  fewer-named (head e d f lies) h = absurd (omega arith)
  fewer-named (same e d) h = absurd (omega arith)

  pub still-named : Follows t at before after → after.heads ≤ before.heads → before.heads ≤ after.heads → Named t after named
  unfolding in_heads
  still-named (headless e) l h = let z : before.heads ≡ 0 = omega arith in record { sized = w.sized; marks = λ v k. rw e (rw z at (w.marks v k)) }
  still-named (head e d f lies) l h = absurd (omega arith)
  still-named (same e d) l h = record { sized = w.sized; marks = λ v k. rw (e, d) (w.marks v k) }

-- ---- looking up

module _ {t : List ℕ} {rule : RuleShape} {named : List Bool} (w : Named t rule named) where
  abbrev strange_by : ℕ → ℕ → Bool
  strange_by tag value = strange_slot t rule.start rule.heads (slot_by tag value)

  no-variable : (tag value : ℕ) → (eqb tag 2 && ltb value 16) ≡ false → false ≡ strange_by tag value
  unfolding strange_slot
  no-variable tag value n =
      by-slot (λ (s : Slot). false ≡ strange_slot t rule.start rule.heads s) tag value refl refl refl (λ e d. absurd (true≢false (rw (e, d) at n)))

  variable : (tag value : ℕ) (b : Bool) → get_or named (value % 16) false ≡ b → eqb tag 2 ≡ true → ltb value 16 ≡ true → not b ≡ strange_by tag value
  unfolding slot_by strange_slot
  variable tag value b m e d =
      let low : value < 16 = ltb-true value 16 d in
      let own : value % 16 ≡ value = mod-eq_of_lt low in
      rw (eqb-true tag 2 e, d) (ap not (sym m ∙ ap (λ (v : ℕ). get_or named v false) own ∙ w.marks value low))

  by-mark : (tag value : ℕ) (b x y : Bool) → get_or named (value % 16) false ≡ b → eqb tag 2 ≡ x → ltb value 16 ≡ y → (x && (y && not b)) ≡ strange_by tag value
  by-mark tag value b true true m e d = variable tag value b m e d
  by-mark tag value b true false m e d = no-variable tag value (rw (e, d))
  by-mark tag value b false y m e d = no-variable tag value (rw e)

  never : (x y : Bool) → (x && (y && false)) ≡ false
  never true true = refl
  never true false = refl
  never false y = refl

  module _ (p : ℕ) {value : ℕ} (e : value ≡ u32_at t (p + 1)) where
    -- the three answers: the variable is marked; none is so high; what the tag says
    pub is-marked : get_or named (value % 16) false ≡ true → false ≡ strange_slot t rule.start rule.heads (slot_at t p)
    unfolding slot_at
    is-marked m = rw (← e) (sym (never (eqb (get_or t p 0) 2) (ltb value 16)) ∙ by-mark (get_or t p 0) value true _ _ m refl refl)

    pub too-high : 16 ≤ value → false ≡ strange_slot t rule.start rule.heads (slot_at t p)
    unfolding slot_at
    too-high h = rw (← e) (no-variable (get_or t p 0) value (rw (le-ltb value 16 h) (and-false (eqb (get_or t p 0) 2))))

    pub by-tag : get_or named (value % 16) false ≡ false → value < 16 → eqb (get_or t p 0) 2 ≡ strange_slot t rule.start rule.heads (slot_at t p)
    unfolding slot_at
    by-tag m h = rw (← e) (sym (and-true (eqb (get_or t p 0) 2)) ∙ by-mark (get_or t p 0) value false _ true m refl (lt-ltb value 16 h))

-- ---- a record that names no variable

pub other-kind : (t : List ℕ) (s : Scan) (k : Kind) → (k ≡ Comparison → ⊥) → (k ≡ BodyFact → ⊥) → false ≡ strange t s k
unfolding strange
other-kind t s NextSymbol d e = refl
other-kind t s NextRule d e = refl
other-kind t s KeptHead d e = refl
other-kind t s RemovedHead d e = refl
other-kind t s Comparison d e = absurd (d refl)
other-kind t s BodyFact d e = absurd (e refl)
other-kind t s BodyFail d e = refl
other-kind t s EndOfTable d e = refl
