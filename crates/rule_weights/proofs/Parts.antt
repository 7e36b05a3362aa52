-- The parts of a rule, one after the other: what a turn of each summing loop adds. What is summed, with what is still to be summed, stays the whole.
use Prim.Native.Nat.{ℕ, zero, suc, ◌+◌, ◌-◌, ◌*◌, ◌<◌, ◌≤◌}
use mathlib.Core.Path.{◌≡◌, refl, sym, ap, subst, ◌∙◌}
use mathlib.Core.Bool.{Bool, true, false}
use mathlib.Core.List.{List}
use native.Mathlib.Omega.{arith}
use native.Mathlib.Nat.{mul-le-mul_left}
use lib.ListN.{get_or}
use Rattle.model.specs.declared.Symbol.{Symbol}
use Rattle.model.specs.Table.{symbol_at, head_at, heads_from, is_fact, behind_item, body_fact_at, items_from}
use Rattle.model.specs.Weights.{heads_weight, body_weight}
use Rattle.model.proofs.Decoded.{items-first, item-fact, item-fail}
use Rattle.records.specs.Geometry.{ItemsLie}
use Rattle.records.proofs.PartsLie.{rest-lies}
use Rattle.rule_weights.specs.Views.{Counted, Gives, rows_weight}

-- `sum` is summed, at most `most`, and `rest` is left
pub record Part (whole rest most sum : ℕ) : Type 0 where
  pub same : sum + rest ≡ whole
  pub few : sum ≤ most

pub ended : {whole rest most sum : ℕ} → Part whole rest most sum → rest ≡ 0 → Counted whole most sum
ended l e = record { same = omega (arith, l.same); few = l.few }

-- the same of k bytes, whatever they are: they fit, and where they are what w says, they are its part
pub record Summed (post : Symbol → ℕ → Type 0) (whole rest : (Symbol → ℕ) → ℕ) (sum k : ℕ) : Type 0 where
  pub fits : sum ≤ 255 * k
  pub counts : (w : Symbol → ℕ) (top : ℕ) → Gives post w top → Part (whole w) (rest w) (top * k) sum

module _ {post : Symbol → ℕ → Type 0} {whole rest : (Symbol → ℕ) → ℕ} {sum k : ℕ} (l : Summed post whole rest sum k) where
  pub one-more : {rest' : (Symbol → ℕ) → ℕ} {b r : ℕ} → b < 256 → r < 256 → post (record { 0 = b }) r
      → ((w : Symbol → ℕ) → rest w ≡ w (record { 0 = b }) + rest' w) → Summed post whole rest' (sum + r) (k + 1)
  one-more {rest'} {b} {r} h f p e = record {
    fits = omega (arith, l.fits);
    counts = λ w top g.
        let c = g.each (record { 0 = b }) r h f p in
        let d = l.counts w top g in
        record { same = omega (arith, d.same, c.same, e w); few = omega (arith, d.few, c.few) };
  }

  pub none-more : {rest' : (Symbol → ℕ) → ℕ} → ((w : Symbol → ℕ) → rest w ≡ rest' w) → Summed post whole rest' sum (k + 1)
  none-more e = record {
    fits = omega (arith, l.fits);
    counts = λ w top g. let d = l.counts w top g in record { same = omega (arith, d.same, e w); few = omega (arith, d.few) };
  }

  pub summed : {n : ℕ} → k ≤ n → ((w : Symbol → ℕ) → rest w ≡ 0) → (w : Symbol → ℕ) (top : ℕ) → Gives post w top → Counted (whole w) (n * top) sum
  summed h e w top g = let d = l.counts w top g in record { same = omega (arith, d.same, e w); few = omega (arith, d.few, mul-le-mul_left top h) }

pub summing : {post : Symbol → ℕ → Type 0} (whole : (Symbol → ℕ) → ℕ) → Summed post whole whole 0 0
summing whole = record { fits = omega arith; counts = λ w top g. record { same = omega arith; few = omega arith } }

-- a byte is at most 255
pub byte-counted : {x r : ℕ} → r ≡ x → r < 256 → Counted x 255 r
byte-counted e h = record { same = e; few = omega arith }

-- ---- records of one size

-- from the record k on
unfoldable pub rows_rest : List ℕ → ℕ → ℕ → ℕ → ℕ → (Symbol → ℕ) → ℕ
rows_rest t from size n k w = rows_weight w t (from + size * k) size (n - k)

module _ (t : List ℕ) (from size n : ℕ) where
  rows-turn : (k : ℕ) → k < n → (w : Symbol → ℕ)
      → rows_rest t from size n k w ≡ w (record { 0 = get_or t (from + size * k + 1) 0 }) + rows_rest t from size n (k + 1) w
  unfolding rows_rest rows_weight
  rows-turn k h w =
      let p : from + size * (k + 1) ≡ from + size * k + size = omega arith in
      let m : n - k ≡ suc (n - (k + 1)) = omega arith in
      rw (m, p)

  pub rows-none : (k : ℕ) → n ≤ k → (w : Symbol → ℕ) → rows_rest t from size n k w ≡ 0
  unfolding rows_rest rows_weight
  rows-none k h w = let z : n - k ≡ 0 = omega arith in rw z

  pub rows-begin : {post : Symbol → ℕ → Type 0} → Summed post (λ w. rows_weight w t from size n) (rows_rest t from size n 0) 0 0
  unfolding rows_rest
  rows-begin {post} =
      let m : n - 0 ≡ n = omega arith in
      let p : from + size * 0 ≡ from = omega arith in
      subst (λ (q : ℕ). Summed post (λ w. rows_weight w t from size n) (λ w. rows_weight w t q size (n - 0)) 0 0) (sym p)
      (subst (λ (m : ℕ). Summed post (λ w. rows_weight w t from size n) (λ w. rows_weight w t from size m) 0 0) (sym m) (summing _))

  pub row-added : {post : Symbol → ℕ → Type 0} {whole : (Symbol → ℕ) → ℕ} {k sum b r x : ℕ}
      → Summed post whole (rows_rest t from size n k) sum k → k < n → b < 256 → b ≡ get_or t (from + size * k + 1) 0 → r < 256 → post (record { 0 = b }) r
      → x ≡ r → Summed post whole (rows_rest t from size n (k + 1)) (sum + x) (k + 1)
  row-added {k = k} l h bb e f p q =
      rw q (one-more l bb f p (λ w. rows-turn k h w ∙ ap (λ (b : ℕ). w (record { 0 = b }) + rows_rest t from size n (k + 1) w) (sym e)))

-- the heads of a rule
pub heads-rows : (w : Symbol → ℕ) (t : List ℕ) (p n : ℕ) → heads_weight w (heads_from t p n) ≡ rows_weight w t p 22 n
unfolding heads_weight heads_from head_at rows_weight
heads-rows w t p zero = refl
heads-rows w t p (suc n) = ap (λ (m : ℕ). w (symbol_at t (p + 1)) + m) (heads-rows w t (p + 22) n)

pub heads-counted : (w : Symbol → ℕ) (t : List ℕ) (p n top : ℕ) {k m : ℕ} → n ≤ 4 → k ≡ n → Counted (rows_weight w t p 22 k) (k * top) m
    → Counted (heads_weight w (heads_from t p n)) (4 * top) m
heads-counted w t p n top h e c =
    let d = (rw e at c) in record { same = d.same ∙ sym (heads-rows w t p n); few = omega (arith, d.few, mul-le-mul_left top h) }

-- ---- body items

-- n items from p on
unfoldable pub items_rest : List ℕ → ℕ → ℕ → (Symbol → ℕ) → ℕ
items_rest t p n w = body_weight w (items_from t p n)

pub fact-turn : (t : List ℕ) (p n : ℕ) → 0 < n → is_fact t p ≡ true → (w : Symbol → ℕ)
    → items_rest t p n w ≡ w (record { 0 = get_or t (p + 1) 0 }) + items_rest t (behind_item t p) (n - 1) w
unfolding items_rest body_weight body_fact_at
fact-turn t p n h e w = rw (items-first t p n h, item-fact t p e)

pub fail-turn : (t : List ℕ) (p n : ℕ) → 0 < n → is_fact t p ≡ false → (w : Symbol → ℕ) → items_rest t p n w ≡ items_rest t (behind_item t p) (n - 1) w
unfolding items_rest body_weight
fail-turn t p n h e w = rw (items-first t p n h, item-fail t p e)

pub items-none : (t : List ℕ) (p n : ℕ) → n ≤ 0 → (w : Symbol → ℕ) → items_rest t p n w ≡ 0
unfolding items_rest body_weight items_from
items-none t p zero h w = refl
items-none t p (suc n) h w = absurd (omega arith)

module _ (t : List ℕ) (p n : ℕ) {post : Symbol → ℕ → Type 0} {whole : (Symbol → ℕ) → ℕ} {sum k next : ℕ}
    (l : Summed post whole (items_rest t p (n - k)) sum k) (h : k < n) (b : next ≡ behind_item t p) {f : Bool} (q : f ≡ is_fact t p) where
  later : n - (k + 1) ≡ n - k - 1
  later = omega arith

  pub fact-added : f ≡ true → {s r x : ℕ} → s < 256 → s ≡ get_or t (p + 1) 0 → r < 256 → post (record { 0 = s }) r → x ≡ r → {sum' : ℕ} → sum' ≡ sum + x
      → Summed post whole (items_rest t next (n - (k + 1))) sum' (k + 1)
  fact-added d {s} ss e g a z y =
      rw (y, z, b, later)
      (one-more l ss g a
      (λ w. fact-turn t p (n - k) (omega arith) (sym q ∙ d) w
      ∙ ap (λ (s : ℕ). w (record { 0 = s }) + items_rest t (behind_item t p) (n - k - 1) w) (sym e)))

  pub fail-passed : f ≡ false → {sum' : ℕ} → sum' ≡ sum → Summed post whole (items_rest t next (n - (k + 1))) sum' (k + 1)
  fail-passed d y = rw (y, b, later) (none-more l (λ w. fail-turn t p (n - k) (omega arith) (sym q ∙ d) w))

pub items-begin : {post : Symbol → ℕ → Type 0} (t : List ℕ) (p n : ℕ) → Summed post (items_rest t p n) (items_rest t p (n - 0)) 0 0
items-begin {post} t p n = let m : n - 0 ≡ n = omega arith in subst (λ (m : ℕ). Summed post (items_rest t p n) (items_rest t p m) 0 0) (sym m) (summing _)

pub lie-begin : (t : List ℕ) (p n : ℕ) → ItemsLie t p n → ItemsLie t p (n - 0)
lie-begin t p n l = let m : n - 0 ≡ n = omega arith in subst (ItemsLie t p) (sym m) l

pub lie-later : (t : List ℕ) (p n k : ℕ) → ItemsLie t p (n - k) → k < n → {next : ℕ} → next ≡ behind_item t p → ItemsLie t next (n - (k + 1))
lie-later t p n k l h {next} b =
    let m : n - (k + 1) ≡ n - k - 1 = omega arith in
    subst (ItemsLie t next) (sym m) (rest-lies t p (n - k) l (omega arith) b)
