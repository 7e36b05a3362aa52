-- What lies behind a symbol's place: the places in the heads below its own and in the rules behind its own. No place comes twice, because heads fall
-- within a rule and rules rise, so that a place alone tells how far counting is.
use Prim.Native.Nat.{ℕ, zero, suc, ◌-◌, ◌<◌, ◌≤◌}
use mathlib.Core.Path.{◌≡◌, refl, sym, ap, ◌∙◌}
use mathlib.Core.Bool.{Bool, true, false}
use Rattle.std.specs.Prelude.{Some, slice_get}
use mathlib.Core.List.{List, [], ◌∷◌, ◌++◌}
use native.Mathlib.Omega.{arith}
use lib.Dec.{ltb}
use lib.ListN.{length, take, drop}
use lib.Seq.{drop-append-le}
use borrow.Author.Tests.{ltb-true, ltb-false}
use Rattle.model.specs.declared.Symbol.{Symbol}
use Rattle.model.specs.declared.HeadPlace.{HeadPlace}
use Rattle.model.specs.Table.{Head, Rule, Table, heads, same_symbol, place_if, places_in, places_from, places}
use Rattle.occurrences.specs.Counting.{left_from, places_left}
use Rattle.occurrences.proofs.Elements.{elem-first, elem-second, drop-second}

abbrev place : ℕ → ℕ → HeadPlace
place n k = record { rule = record { 0 = n }; head = k }

-- ---- in a rule

-- p is a place of rule n among the heads from k on, and what `left` holds comes behind it
record BehindHead (s : Symbol) (n k : ℕ) (hs : List Head) (left : List HeadPlace) (p : HeadPlace) : Type 0 where
  own : p.rule.0 ≡ n
  from : k ≤ p.head
  rest : left ≡ places_in s n k (take (p.head - k) hs)

only-one : (b : Bool) (i n k : ℕ) (p : HeadPlace) → slice_get (place_if b (place n k)) i ≡ Some p → (i ≡ 0) × (place n k ≡ p) × (b ≡ true)
only-one true zero n k p e = (refl, cc, refl)
only-one true (suc i) n k p e = absurd (let w : ◌≡◌ {A = ℕ} 0 1 = cc in omega arith)
only-one false i n k p e = absurd (let w : ◌≡◌ {A = ℕ} 0 1 = cc in omega arith)

-- a head before the others: its place comes behind theirs
module _ (s : Symbol) (n k : ℕ) (h : Head) (hs : List Head) (c : ℕ) (p : HeadPlace) where
  abbrev others : List HeadPlace
  others = places_in s n (suc k) hs

  abbrev its : List HeadPlace
  its = place_if (same_symbol h.symbol s) (place n k)

  behind-first : (b : Bool) → ltb c (length others) ≡ b → slice_get (others ++ its) c ≡ Some p
      → (slice_get others c ≡ Some p → BehindHead s n (suc k) hs (drop (suc c) others) p)
      → BehindHead s n k (h ∷ hs) (drop (suc c) (others ++ its)) p
  unfolding places_in
  behind-first true q e more =
      let l : c < length others = ltb-true c (length others) q in
      let w = more (sym (elem-first others its c l) ∙ e) in
      let m : p.head - k ≡ suc (p.head - suc k) = omega (arith, w.from) in
      record {
        own = w.own;
        from = omega (arith, w.from);
        rest = drop-append-le (suc c) others its (omega arith) ∙ ap (λ (x : List HeadPlace). x ++ its) w.rest
            ∙ ap (λ (x : ℕ). places_in s n k (take x (h ∷ hs))) (sym m);
      }
  behind-first false q e more =
      let l : length others ≤ c = ltb-false c (length others) q in
      let w = only-one (same_symbol h.symbol s) (c - length others) n k p (sym (elem-second others its c l) ∙ e) in
      let m : suc c - length others ≡ 1 = omega (arith, w.0) in
      let z : p.head - k ≡ 0 = rw (← w.1) (omega arith) in
      record {
        own = rw (← w.1) refl;
        from = rw (← w.1) (omega arith);
        rest = drop-second others its (suc c) (omega arith) ∙ rw (m, w.2, z) refl;
      }

behind-head : (s : Symbol) (n k : ℕ) (hs : List Head) (c : ℕ) (p : HeadPlace) → slice_get (places_in s n k hs) c ≡ Some p
    → BehindHead s n k hs (drop (suc c) (places_in s n k hs)) p
unfolding places_in
behind-head s n k [] c p e = absurd (let w : ◌≡◌ {A = ℕ} 0 1 = cc in omega arith)
behind-head s n k (h ∷ hs) c p e = behind-first s n k h hs c p (ltb c (length (places_in s n (suc k) hs))) refl e (behind-head s n (suc k) hs c p)

-- ---- in the rules

record BehindRule (s : Symbol) (n : ℕ) (rs : List Rule) (left : List HeadPlace) (p : HeadPlace) : Type 0 where
  from : n ≤ p.rule.0
  rest : left ≡ left_from s p.rule.0 p.head (drop (p.rule.0 - n) rs)

-- a rule before the others: its places come first
module _ (s : Symbol) (n : ℕ) (r : Rule) (rs : List Rule) (c : ℕ) (p : HeadPlace) where
  abbrev own-places : List HeadPlace
  own-places = places_in s n 0 (heads r)

  abbrev later : List HeadPlace
  later = places_from s (suc n) rs

  behind-own : (b : Bool) → ltb c (length own-places) ≡ b → slice_get (own-places ++ later) c ≡ Some p
      → (slice_get later (c - length own-places) ≡ Some p → BehindRule s (suc n) rs (drop (suc (c - length own-places)) later) p)
      → BehindRule s n (r ∷ rs) (drop (suc c) (own-places ++ later)) p
  unfolding left_from
  behind-own true q e more =
      let l : c < length own-places = ltb-true c (length own-places) q in
      let w = behind-head s n 0 (heads r) c p (sym (elem-first own-places later c l) ∙ e) in
      let z : p.rule.0 - n ≡ 0 = omega (arith, w.own) in
      let k : p.head - 0 ≡ p.head = omega arith in
      record {
        from = omega (arith, w.own);
        rest = drop-append-le (suc c) own-places later (omega arith) ∙ ap (λ (x : List HeadPlace). x ++ later) w.rest ∙ rw (z, w.own, k) refl;
      }
  behind-own false q e more =
      let l : length own-places ≤ c = ltb-false c (length own-places) q in
      let w = more (sym (elem-second own-places later c l) ∙ e) in
      let m : suc c - length own-places ≡ suc (c - length own-places) = omega arith in
      let z : p.rule.0 - n ≡ suc (p.rule.0 - suc n) = omega (arith, w.from) in
      record {
        from = omega (arith, w.from);
        rest = drop-second own-places later (suc c) (omega arith) ∙ ap (λ (x : ℕ). drop x later) m ∙ w.rest ∙ rw z refl;
      }

behind-rule : (s : Symbol) (n : ℕ) (rs : List Rule) (c : ℕ) (p : HeadPlace) → slice_get (places_from s n rs) c ≡ Some p
    → BehindRule s n rs (drop (suc c) (places_from s n rs)) p
unfolding places_from
behind-rule s n [] c p e = absurd (let w : ◌≡◌ {A = ℕ} 0 1 = cc in omega arith)
behind-rule s n (r ∷ rs) c p e =
    behind-own s n r rs c p (ltb c (length (places_in s n 0 (heads r)))) refl e (behind-rule s (suc n) rs (c - length (places_in s n 0 (heads r))) p)

-- behind the place with index c
pub behind-place : (t : Table) (s : Symbol) (c : ℕ) (p : HeadPlace) → slice_get (places t s) c ≡ Some p
    → drop (suc c) (places t s) ≡ places_left t s p.rule.0 p.head
unfolding places places_left
behind-place t s c p e =
    let z : p.rule.0 - 0 ≡ p.rule.0 = omega arith in
    (behind-rule s 0 t.rules c p e).rest ∙ ap (λ (x : ℕ). left_from s p.rule.0 p.head (drop x t.rules)) z
