-- The rules of a good table, one after the other: what a turn of each loop for B and M finds. The number of a symbol's head places is the number
-- of heads with that symbol, summed over the rules, since a head is a place of its own symbol and of no other.
use Prim.Native.Nat.{ℕ, suc, max, ◌+◌, ◌*◌, ◌<◌, ◌≤◌}
use mathlib.Core.Path.{◌≡◌, refl, ap, ◌∙◌}
use mathlib.Core.Bool.{Bool, true, false, cond}
use mathlib.Core.List.{List, [], ◌∷◌}
use native.Mathlib.Omega.{arith}
use native.Mathlib.Numerals.{add-one}
use lib.ListN.{length, get_or, drop, length-append}
use Rattle.model.specs.declared.Symbol.{Symbol}
use Rattle.model.specs.declared.HeadPlace.{HeadPlace}
use Rattle.model.specs.declared.Reading.{Reading}
use Rattle.model.specs.declared.RuleShape.{RuleShape}
use Rattle.model.specs.Reading.{no_shape, read_of}
use Rattle.model.specs.Table.{Head, Rule, Table, heads, heads_start, heads_from, items_start, items_from, table_of, rule_of, same_symbol, place_if}
use Rattle.model.specs.Table.{places_in, places_from, places}
use Rattle.model.specs.Weights.{heads_weight, body_weight, body_facts, most_facts, most_places}
use Rattle.model.proofs.Decoded.{rule-body, rule-heads}
use Rattle.rule_weights.specs.Views.{Counted, Known, Lies}
use Rattle.rule_weights.proofs.Parts.{Part}
use Rattle.rule_weights.proofs.Turns.{few-rules, first, last}
use Rattle.step_bound.specs.Views.{heads_with, all_heads_with}
use Rattle.step_bound.proofs.Parts.{is, heads-with, one, facts-one}

-- ---- B

-- the most so far is `most`, and the most of what is left is `rest`
pub record Most (whole rest top most : ℕ) : Type 0 where
  pub same : max most rest ≡ whole
  pub few : most ≤ top

abbrev facts_from : List ℕ → ℕ → ℕ
facts_from t i = most_facts (drop i (table_of t).rules)

module _ {t : List ℕ} {r : Reading} (k : Known t r) {i whole most : ℕ} (m : Most whole (facts_from t i) 4 most) where
  pub more-facts : i < r.rules → {facts : ℕ} → Counted (body_facts (rule_of t (get_or r.shapes i no_shape)).body) 4 facts
      → Most whole (facts_from t (i + 1)) 4 (max facts most)
  unfolding most_facts
  more-facts h c = record { same = omega (arith, ap most_facts (first k h), m.same, c.same); few = omega (arith, c.few, m.few) }

  pub facts-done : r.rules ≤ i → Counted whole 4 most
  unfolding most_facts
  facts-done h = record { same = omega (arith, m.same, ap most_facts (last k h)); few = m.few }

-- ---- M

one-place : (b : Bool) (p : HeadPlace) → length (place_if b p) ≡ cond b 1 0
one-place true p = refl
one-place false p = refl

module _ (s : Symbol) where
  places-in-rule : (n k : ℕ) (hs : List Head) → length (places_in s n k hs) ≡ heads_with s hs
  unfolding places_in heads_with
  places-in-rule n k [] = refl
  places-in-rule n k (h ∷ hs) =
      let p : HeadPlace = record { rule = record { 0 = n }; head = k } in
      omega (
        arith,
        length-append (places_in s n (suc k) hs) (place_if (same_symbol h.symbol s) p),
        places-in-rule n (suc k) hs,
        one-place (same_symbol h.symbol s) p,
      )

  places-in-rules : (n : ℕ) (rs : List Rule) → length (places_from s n rs) ≡ all_heads_with s rs
  unfolding places_from all_heads_with
  places-in-rules n [] = refl
  places-in-rules n (r ∷ rs) =
      omega (arith, length-append (places_in s n 0 (heads r)) (places_from s (suc n) rs), places-in-rule n 0 (heads r), places-in-rules (suc n) rs)

  -- the number of places of s is the number of heads with s, over all rules
  pub places-count : (t : Table) → length (places t s) ≡ all_heads_with s t.rules
  unfolding places
  places-count t = places-in-rules 0 t.rules

  abbrev with_from : List ℕ → ℕ → ℕ
  with_from t i = all_heads_with s (drop i (table_of t).rules)

  module _ {t : List ℕ} {r : Reading} (k : Known t r) where
    pub places-begin : Part (length (places (table_of t) s)) (with_from t 0) (4 * 0) 0
    places-begin = record { same = omega (arith, places-count (table_of t)); few = omega arith }

    module _ {i count whole : ℕ} (l : Part whole (with_from t i) (4 * i) count) where
      pub places-turn : {c : ℕ} → i < r.rules → Counted (heads_with s (heads (rule_of t (get_or r.shapes i no_shape)))) 4 c
          → Part whole (with_from t (i + 1)) (4 * (i + 1)) (count + c)
      unfolding all_heads_with
      places-turn h c =
          record { same = omega (arith, l.same, c.same, ap (all_heads_with s) (first k h)); few = omega (arith, l.few, c.few) }

      pub places-fit : {c : ℕ} → i < r.rules → c ≤ 4 → count + c ≤ 256
      places-fit h c = omega (arith, l.few, few-rules k)

      pub places-done : r.rules ≤ i → i ≤ r.rules → Counted whole 256 count
      unfolding all_heads_with
      places-done h e = record { same = omega (arith, l.same, ap (all_heads_with s) (last k h)); few = omega (arith, l.few, few-rules k) }

pub more-places : (t : Table) (n : ℕ) {most count : ℕ} → Counted (most_places t n) 256 most → Counted (length (places t (record { 0 = n }))) 256 count
    → Counted (most_places t (n + 1)) 256 (max count most)
unfolding most_places
more-places t n e c = record { same = rw (add-one n) (omega (arith, e.same, c.same)); few = omega (arith, e.few, c.few) }

pub no-places : (t : Table) → Counted (most_places t 0) 256 0
unfolding most_places
no-places t = record { same = refl; few = omega arith }

pub places-all : {t : List ℕ} {r : Reading} → Known t r → (n : ℕ) {most : ℕ} → Counted (most_places (table_of t) n) 256 most → n ≤ r.symbols → r.symbols ≤ n
    → Counted (most_places (table_of t) (read_of t).symbols) 256 most
places-all {t} {r} k n c a b =
    let q : n ≡ r.symbols = omega arith in
    let e : n ≡ (read_of t).symbols = q ∙ ap (λ (r : Reading). r.symbols) k.same in
    rw (← e) c

-- ---- a rule by where it stands

module _ {t : List ℕ} {r : RuleShape} (l : Lies t r) {p : ℕ} where
  pub rule-facts : {n : ℕ} → p ≡ items_start r → Counted (body_weight one (items_from t p r.items)) 4 n → Counted (body_facts (rule_of t r).body) 4 n
  rule-facts e c = rw (rule-body t r, ← e, ← facts-one (items_from t p r.items)) c

  pub rule-with : (s : Symbol) {n : ℕ} → p ≡ heads_start r + 22 * 0 → Counted (heads_weight (is s) (heads_from t p r.heads)) 4 n
      → Counted (heads_with s (heads (rule_of t r))) 4 n
  rule-with s e c =
      let first : heads_start r ≡ p = omega arith in
      rw (rule-heads t r l.kept_few, first, ← heads-with s (heads_from t p r.heads)) c
