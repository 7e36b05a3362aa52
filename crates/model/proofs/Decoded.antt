-- The lists that a table and a goal are decoded to: how long they are, what stands at an index, how they split. The rows of each sort but body
-- items have one size, so that their laws are shared: they follow from what `none` and `one more` rows are.
-- Of a good table: every head's symbol is declared, and a rule has no more parts, the table no more rules and a symbol no more head places
-- than the limits say.
use Prim.Native.Nat.{ℕ, zero, suc, ◌+◌, ◌-◌, ◌*◌, ◌/◌, ◌≤◌, ◌<◌}
use mathlib.Core.Path.{◌≡◌, refl, sym, ap, ◌∙◌, subst}
use mathlib.Core.Bool.{Bool, true, false, cond}
use mathlib.Core.List.{List, [], ◌∷◌, ◌++◌, map}
use native.Mathlib.Omega.{arith}
use native.Mathlib.Nat.{mul-suc}
use lib.ListN.{length, get_or, take, drop, length-append, length-map, length-drop}
use lib.Seq.{length-take-le, get_or-take, drop-cons}
use borrow.Author.Tests.{eqb-true}
use Rattle.model.specs.declared.Symbol.{Symbol}
use Rattle.model.specs.declared.RuleNumber.{RuleNumber}
use Rattle.model.specs.declared.Fact.{Fact}
use Rattle.model.specs.declared.RuleShape.{RuleShape}
use Rattle.model.specs.declared.HeadPlace.{HeadPlace}
use Rattle.model.specs.Limits.{most_rules, most_heads, most_guards, most_items, most_goal_facts}
use Rattle.model.specs.Reading.{read_of, no_shape}
use Rattle.model.specs.Table.{Head, Guard, BodyItem, body_fact, body_fail, Rule, Table, heads, head_at, guard_at, body_fact_at, is_fact, item_at}
use Rattle.model.specs.Table.{behind_item, heads_from, guards_from, items_from, heads_start, guards_start, items_start, rule_of, table_by, table_of}
use Rattle.model.specs.Table.{no_rule, rule_at, same_symbol, place_if, places_in, places_from, places}
use Rattle.model.specs.Goal.{fact_at, facts_from, goal_of}
use Rattle.model.proofs.Every.{every, every-append, every-by, every-map, every-weaken}
use Rattle.model.proofs.Good.{ItemIn, ItemsIn, GoodRule, GoodTable, GoodGoal}

-- ---- rows of one size, one behind the other

module _ {A : Type 0} (at : ℕ → A) (size : ℕ) (from : ℕ → ℕ → List A) (none : (p : ℕ) → from p 0 ≡ [])
    (more : (p n : ℕ) → from p (suc n) ≡ at p ∷ from (p + size) n) where
  rows-length : (p n : ℕ) → length (from p n) ≡ n
  rows-length p zero = rw (none p)
  rows-length p (suc n) = rw (more p n) (ap suc (rows-length (p + size) n))

  rows-first : (p n : ℕ) → 0 < n → from p n ≡ at p ∷ from (p + size) (n - 1)
  rows-first p zero h = absurd (omega arith)
  rows-first p (suc n) h = let e : suc n - 1 ≡ n = omega arith in rw (more p n, e)

  further : (p n : ℕ) → p + size + size * n ≡ p + size * suc n
  further p n = omega (arith, mul-suc size n)

  rows-append : (p m n : ℕ) → from p (m + n) ≡ from p m ++ from (p + size * m) n
  rows-append p zero n = let e : p + size * 0 ≡ p = omega arith in let z : 0 + n ≡ n = omega arith in rw (none p, e, z)
  rows-append p (suc m) n = let z : suc m + n ≡ suc (m + n) = omega arith in rw (z, more p m, more p (m + n), rows-append (p + size) m n, further p m)

  rows-at : (p n i : ℕ) (d : A) → i < n → get_or (from p n) i d ≡ at (p + size * i)
  rows-at p zero i d h = absurd (omega arith)
  rows-at p (suc n) zero d h = let e : p + size * 0 ≡ p = omega arith in rw (more p n, e)
  rows-at p (suc n) (suc i) d h = rw (more p n) (rows-at (p + size) n i d (omega arith) ∙ ap at (further p i))

  rows-drop : (p n i : ℕ) → i ≤ n → drop i (from p n) ≡ from (p + size * i) (n - i)
  rows-drop p n zero h = let e : p + size * 0 ≡ p = omega arith in let d : n - 0 ≡ n = omega arith in rw (e, d)
  rows-drop p zero (suc i) h = absurd (omega arith)
  rows-drop p (suc n) (suc i) h = let e : suc n - suc i ≡ n - i = omega arith in rw (more p n, e, ← further p i) (rows-drop (p + size) n i (omega arith))

  rows-take : (p n i : ℕ) → i ≤ n → take i (from p n) ≡ from p i
  rows-take p n zero h = rw (none p)
  rows-take p zero (suc i) h = absurd (omega arith)
  rows-take p (suc n) (suc i) h = rw (more p n, more p i, rows-take (p + size) n i (omega arith))

-- ---- heads

module _ (t : List ℕ) where
  pub heads-none : (p : ℕ) → heads_from t p 0 ≡ []
  unfolding heads_from
  heads-none p = refl

  pub heads-more : (p n : ℕ) → heads_from t p (suc n) ≡ head_at t p ∷ heads_from t (p + 22) n
  unfolding heads_from
  heads-more p n = refl

  pub heads-first : (p n : ℕ) → 0 < n → heads_from t p n ≡ head_at t p ∷ heads_from t (p + 22) (n - 1)
  heads-first = rows-first (head_at t) 22 (heads_from t) heads-none heads-more

  pub heads-length : (p n : ℕ) → length (heads_from t p n) ≡ n
  heads-length = rows-length (head_at t) 22 (heads_from t) heads-none heads-more

  pub heads-append : (p m n : ℕ) → heads_from t p (m + n) ≡ heads_from t p m ++ heads_from t (p + 22 * m) n
  heads-append = rows-append (head_at t) 22 (heads_from t) heads-none heads-more

  pub heads-at : (p n i : ℕ) (d : Head) → i < n → get_or (heads_from t p n) i d ≡ head_at t (p + 22 * i)
  heads-at = rows-at (head_at t) 22 (heads_from t) heads-none heads-more

  pub heads-drop : (p n i : ℕ) → i ≤ n → drop i (heads_from t p n) ≡ heads_from t (p + 22 * i) (n - i)
  heads-drop = rows-drop (head_at t) 22 (heads_from t) heads-none heads-more

  pub heads-take : (p n i : ℕ) → i ≤ n → take i (heads_from t p n) ≡ heads_from t p i
  heads-take = rows-take (head_at t) 22 (heads_from t) heads-none heads-more

-- ---- guards

module _ (t : List ℕ) where
  pub guards-none : (p : ℕ) → guards_from t p 0 ≡ []
  unfolding guards_from
  guards-none p = refl

  pub guards-more : (p n : ℕ) → guards_from t p (suc n) ≡ guard_at t p ∷ guards_from t (p + 24) n
  unfolding guards_from
  guards-more p n = refl

  pub guards-first : (p n : ℕ) → 0 < n → guards_from t p n ≡ guard_at t p ∷ guards_from t (p + 24) (n - 1)
  guards-first = rows-first (guard_at t) 24 (guards_from t) guards-none guards-more

  pub guards-length : (p n : ℕ) → length (guards_from t p n) ≡ n
  guards-length = rows-length (guard_at t) 24 (guards_from t) guards-none guards-more

  pub guards-append : (p m n : ℕ) → guards_from t p (m + n) ≡ guards_from t p m ++ guards_from t (p + 24 * m) n
  guards-append = rows-append (guard_at t) 24 (guards_from t) guards-none guards-more

  pub guards-at : (p n i : ℕ) (d : Guard) → i < n → get_or (guards_from t p n) i d ≡ guard_at t (p + 24 * i)
  guards-at = rows-at (guard_at t) 24 (guards_from t) guards-none guards-more

  pub guards-drop : (p n i : ℕ) → i ≤ n → drop i (guards_from t p n) ≡ guards_from t (p + 24 * i) (n - i)
  guards-drop = rows-drop (guard_at t) 24 (guards_from t) guards-none guards-more

-- ---- goal facts

module _ (g : List ℕ) where
  pub facts-none : (p : ℕ) → facts_from g p 0 ≡ []
  unfolding facts_from
  facts-none p = refl

  pub facts-more : (p n : ℕ) → facts_from g p (suc n) ≡ fact_at g p ∷ facts_from g (p + 18) n
  unfolding facts_from
  facts-more p n = refl

  pub facts-first : (p n : ℕ) → 0 < n → facts_from g p n ≡ fact_at g p ∷ facts_from g (p + 18) (n - 1)
  facts-first = rows-first (fact_at g) 18 (facts_from g) facts-none facts-more

  pub facts-length : (p n : ℕ) → length (facts_from g p n) ≡ n
  facts-length = rows-length (fact_at g) 18 (facts_from g) facts-none facts-more

  pub facts-append : (p m n : ℕ) → facts_from g p (m + n) ≡ facts_from g p m ++ facts_from g (p + 18 * m) n
  facts-append = rows-append (fact_at g) 18 (facts_from g) facts-none facts-more

  pub facts-at : (p n i : ℕ) (d : Fact) → i < n → get_or (facts_from g p n) i d ≡ fact_at g (p + 18 * i)
  facts-at = rows-at (fact_at g) 18 (facts_from g) facts-none facts-more

  pub facts-drop : (p n i : ℕ) → i ≤ n → drop i (facts_from g p n) ≡ facts_from g (p + 18 * i) (n - i)
  facts-drop = rows-drop (fact_at g) 18 (facts_from g) facts-none facts-more

  pub facts-take : (p n i : ℕ) → i ≤ n → take i (facts_from g p n) ≡ facts_from g p i
  facts-take = rows-take (fact_at g) 18 (facts_from g) facts-none facts-more

  pub goal-length : length (goal_of g) ≡ length g / 18
  unfolding goal_of
  goal-length = facts-length 0 (length g / 18)

  pub goal-at : (i : ℕ) (d : Fact) → i < length g / 18 → get_or (goal_of g) i d ≡ fact_at g (18 * i)
  unfolding goal_of
  goal-at i d h = facts-at 0 (length g / 18) i d h ∙ (let e : 0 + 18 * i ≡ 18 * i = omega arith in rw e)

-- ---- body items: a row is 46 bytes or 1

module _ (t : List ℕ) where
  pub items-none : (p : ℕ) → items_from t p 0 ≡ []
  unfolding items_from
  items-none p = refl

  pub items-more : (p n : ℕ) → items_from t p (suc n) ≡ item_at t p ∷ items_from t (behind_item t p) n
  unfolding items_from
  items-more p n = refl

  pub items-first : (p n : ℕ) → 0 < n → items_from t p n ≡ item_at t p ∷ items_from t (behind_item t p) (n - 1)
  items-first p zero h = absurd (omega arith)
  items-first p (suc n) h = let e : suc n - 1 ≡ n = omega arith in rw (items-more p n, e)

  pub items-length : (p n : ℕ) → length (items_from t p n) ≡ n
  items-length p zero = rw (items-none p)
  items-length p (suc n) = rw (items-more p n) (ap suc (items-length (behind_item t p) n))

  -- an item as its kind says
  pub item-fact : (p : ℕ) → is_fact t p ≡ true → item_at t p ≡ body_fact_at t p
  unfolding item_at
  item-fact p e = rw e

  pub item-fail : (p : ℕ) → is_fact t p ≡ false → item_at t p ≡ body_fail
  unfolding item_at
  item-fail p e = rw e

-- ---- a rule, by where it stands

module _ (t : List ℕ) (r : RuleShape) where
  pub rule-kept : (rule_of t r).kept ≡ heads_from t (heads_start r) r.kept
  unfolding rule_of
  rule-kept = refl

  pub rule-removed : (rule_of t r).removed ≡ heads_from t (heads_start r + 22 * r.kept) (r.heads - r.kept)
  unfolding rule_of
  rule-removed = refl

  pub rule-guards : (rule_of t r).guards ≡ guards_from t (guards_start r) r.guards
  unfolding rule_of
  rule-guards = refl

  pub rule-body : (rule_of t r).body ≡ items_from t (items_start r) r.items
  unfolding rule_of
  rule-body = refl

  pub rule-heads : r.kept ≤ r.heads → heads (rule_of t r) ≡ heads_from t (heads_start r) r.heads
  unfolding rule_of
  rule-heads h =
      let e : r.kept + (r.heads - r.kept) ≡ r.heads = omega arith in
      sym (heads-append t (heads_start r) r.kept (r.heads - r.kept)) ∙ ap (heads_from t (heads_start r)) e

-- ---- a table

map-at : {A B : Type 0} (f : A → B) (l : List A) (i : ℕ) (d : A) (d' : B) → i < length l → get_or (map f l) i d' ≡ f (get_or l i d)
map-at f [] i d d' h = absurd (omega arith)
map-at f (x ∷ l) zero d d' h = refl
map-at f (x ∷ l) (suc i) d d' h = map-at f l i d d' (omega arith)

module _ (t : List ℕ) where
  pub table-symbols : (table_of t).symbols ≡ (read_of t).symbols
  unfolding table_of table_by
  table-symbols = refl

  pub table-rules : (table_of t).rules ≡ map (rule_of t) (take (read_of t).rules (read_of t).shapes)
  unfolding table_of table_by
  table-rules = refl

  module _ (long : length (read_of t).shapes ≡ most_rules) (few : (read_of t).rules ≤ most_rules) where
    taken : length (take (read_of t).rules (read_of t).shapes) ≡ (read_of t).rules
    taken = length-take-le (read_of t).rules (read_of t).shapes (omega arith)

    pub rules-length : length (table_of t).rules ≡ (read_of t).rules
    rules-length = ap length table-rules ∙ length-map (take (read_of t).rules (read_of t).shapes) (rule_of t) ∙ taken

    pub rule-at : (n : RuleNumber) → n.0 < (read_of t).rules → rule_at (table_of t) n ≡ rule_of t (get_or (read_of t).shapes n.0 no_shape)
    unfolding rule_at
    rule-at n h =
        ap (λ (l : List Rule). get_or l n.0 no_rule) table-rules
        ∙ map-at (rule_of t) (take (read_of t).rules (read_of t).shapes) n.0 no_shape no_rule (omega (arith, taken))
        ∙ ap (rule_of t) (get_or-take (read_of t).rules (read_of t).shapes n.0 no_shape h)

-- ---- of a good table

-- the symbol of a body fact is declared
abbrev pub BodyDeclared : ℕ → BodyItem → Type 0
BodyDeclared symbols (body_fact s es) = s.0 < symbols
BodyDeclared symbols body_fail = Unit {0}

module _ (t : List ℕ) (symbols : ℕ) where
  heads-declared : (p n : ℕ) → ((i : ℕ) → i < n → get_or t (p + 22 * i + 1) 0 < symbols) → every (λ (h : Head). h.symbol.0 < symbols) (heads_from t p n)
  unfolding head_at
  heads-declared p n h =
      every-by (λ (h : Head). h.symbol.0 < symbols) (heads_from t p n) (head_at t p)
      (λ i l. let m : i < n = omega (arith, heads-length t p n) in rw (heads-at t p n i (head_at t p) m) (h i m))

  item-declared : (p : ℕ) → ItemIn t symbols p → BodyDeclared symbols (item_at t p)
  unfolding item_at body_fact_at
  item-declared p i = go (is_fact t p) refl
    where
      go : (b : Bool) → is_fact t p ≡ b → BodyDeclared symbols (cond b (body_fact_at t p) body_fail)
      go true e = i.declared e
      go false e = tt

  items-declared : (p n : ℕ) → ItemsIn t symbols p n → every (BodyDeclared symbols) (items_from t p n)
  items-declared p zero w = rw (items-none t p) tt
  items-declared p (suc n) w = rw (items-more t p n) (item-declared p w.0, items-declared (behind_item t p) n w.1)

module _ (t : List ℕ) (g : GoodTable t) where
  pub rules-few : length (table_of t).rules ≤ most_rules
  rules-few = omega (arith, rules-length t g.shapes g.few_rules, g.few_rules)

  pub every-shape : every (GoodRule t (read_of t).symbols) (take (read_of t).rules (read_of t).shapes)
  every-shape =
      every-by (GoodRule t (read_of t).symbols) (take (read_of t).rules (read_of t).shapes) no_shape
      (λ i l.
      let m : i < (read_of t).rules = omega (arith, taken t g.shapes g.few_rules) in
      rw (get_or-take (read_of t).rules (read_of t).shapes i no_shape m) (g.each i m))

  -- what holds of each good rule holds of each rule of the table
  pub every-rule : (P : Rule → Type 0) → ((r : RuleShape) → GoodRule t (read_of t).symbols r → P (rule_of t r)) → every P (table_of t).rules
  every-rule P f =
      rw (table-rules t)
      (every-map P (rule_of t) (take (read_of t).rules (read_of t).shapes)
      (every-weaken (GoodRule t (read_of t).symbols) (λ (r : RuleShape). P (rule_of t r)) f (take (read_of t).rules (read_of t).shapes) every-shape))

  pub every-head-declared : every (λ (r : Rule). every (λ (h : Head). h.symbol.0 < (table_of t).symbols) (heads r)) (table_of t).rules
  every-head-declared =
      rw (table-symbols t)
      (every-rule (λ (r : Rule). every (λ (h : Head). h.symbol.0 < (read_of t).symbols) (heads r))
      (λ r q. subst (every (λ (h : Head). h.symbol.0 < (read_of t).symbols)) (sym (rule-heads t r q.kept_few))
      (heads-declared t (read_of t).symbols (heads_start r) r.heads q.heads_declared)))

  pub every-body-declared : every (λ (r : Rule). every (BodyDeclared (table_of t).symbols) r.body) (table_of t).rules
  every-body-declared =
      rw (table-symbols t)
      (every-rule (λ (r : Rule). every (BodyDeclared (read_of t).symbols) r.body)
      (λ r q. subst (every (BodyDeclared (read_of t).symbols)) (sym (rule-body t r))
      (items-declared t (read_of t).symbols (items_start r) r.items q.body_in)))

  pub every-heads-few : every (λ (r : Rule). length (heads r) ≤ most_heads) (table_of t).rules
  every-heads-few =
      every-rule (λ (r : Rule). length (heads r) ≤ most_heads) (λ r q. rw (rule-heads t r q.kept_few, heads-length t (heads_start r) r.heads) q.few_heads)

  pub every-heads-some : every (λ (r : Rule). 1 ≤ length (heads r)) (table_of t).rules
  every-heads-some =
      every-rule (λ (r : Rule). 1 ≤ length (heads r)) (λ r q. rw (rule-heads t r q.kept_few, heads-length t (heads_start r) r.heads) q.some_head)

  pub every-guards-few : every (λ (r : Rule). length r.guards ≤ most_guards) (table_of t).rules
  every-guards-few =
      every-rule (λ (r : Rule). length r.guards ≤ most_guards) (λ r q. rw (rule-guards t r, guards-length t (guards_start r) r.guards) q.few_guards)

  pub every-body-few : every (λ (r : Rule). length r.body ≤ most_items) (table_of t).rules
  every-body-few = every-rule (λ (r : Rule). length r.body ≤ most_items) (λ r q. rw (rule-body t r, items-length t (items_start r) r.items) q.few_items)

-- ---- of a good goal

module _ (symbols : ℕ) (g : List ℕ) (good : GoodGoal symbols g) where
  pub goal-few : length (goal_of g) ≤ most_goal_facts
  goal-few = rw (goal-length g) good.few

  pub every-fact-declared : every (λ (f : Fact). f.symbol.0 < symbols) (goal_of g)
  unfolding fact_at
  every-fact-declared =
      every-by (λ (f : Fact). f.symbol.0 < symbols) (goal_of g) (fact_at g 0)
      (λ i l. let m : i < length g / 18 = omega (arith, goal-length g) in rw (goal-at g i (fact_at g 0) m) (good.declared i m))

-- ---- head places

module _ (s : Symbol) where
  place_if-few : (b : Bool) (p : HeadPlace) → length (place_if b p) ≤ 1
  place_if-few true p = omega arith
  place_if-few false p = omega arith

  places_in-few : (n k : ℕ) (hs : List Head) → length (places_in s n k hs) ≤ length hs
  unfolding places_in
  places_in-few n k [] = omega arith
  places_in-few n k (h ∷ hs) =
      let p : HeadPlace = record { rule = record { 0 = n }; head = k } in
      omega (
        arith,
        length-append (places_in s n (suc k) hs) (place_if (same_symbol h.symbol s) p),
        places_in-few n (suc k) hs,
        place_if-few (same_symbol h.symbol s) p,
      )

  places_from-few : (n : ℕ) (rs : List Rule) → every (λ (r : Rule). length (heads r) ≤ most_heads) rs → length (places_from s n rs) ≤ 4 * length rs
  unfolding places_from
  places_from-few n [] u = omega arith
  places_from-few n (r ∷ rs) u =
      omega (arith, length-append (places_in s n 0 (heads r)) (places_from s (suc n) rs), places_in-few n 0 (heads r), u.0, places_from-few (suc n) rs u.1)

-- 64 rules of at most 4 heads
pub places-few : (t : List ℕ) → GoodTable t → (s : Symbol) → length (places (table_of t) s) ≤ 256
unfolding places
places-few t g s = omega (arith, places_from-few s 0 (table_of t).rules (every-heads-few t g), rules-few t g)

-- what drop leaves, where it leaves something
module _ {A : Type 0} (l : List A) (k : ℕ) (x : A) (xs : List A) (e : drop k l ≡ x ∷ xs) where
  left-lt : k < length l
  left-lt = omega (arith, length-drop k l, ap length e)

  left-first : (d : A) → get_or l k d ≡ x
  left-first d = let c = drop-cons l k d left-lt in cc

  left-rest : drop (suc k) l ≡ xs
  left-rest = let c = drop-cons l k x left-lt in cc

-- a head place of s is one: its rule and its head are there, and the head's symbol is s
pub record PlaceIn (t : Table) (s : Symbol) (p : HeadPlace) : Type 0 where
  pub rule_in : p.rule.0 < length t.rules
  pub head_in : p.head < length (heads (rule_at t p.rule))
  pub symbol_same : (d : Head) → (get_or (heads (rule_at t p.rule)) p.head d).symbol.0 ≡ s.0

module _ (t : Table) (s : Symbol) where
  -- the places among hs, the heads from k on of rule n
  places_in-in : (n k : ℕ) (hs : List Head) → n < length t.rules → drop k (heads (rule_at t (record { 0 = n }))) ≡ hs → every (PlaceIn t s) (places_in s n k hs)
  unfolding places_in
  places_in-in n k [] l e = tt
  places_in-in n k (h ∷ hs) l e =
      every-append (PlaceIn t s) (places_in s n (suc k) hs) _
      (places_in-in n (suc k) hs l (left-rest (heads (rule_at t (record { 0 = n }))) k h hs e))
      (go (same_symbol h.symbol s) refl)
    where
      go : (b : Bool) → same_symbol h.symbol s ≡ b → every (PlaceIn t s) (place_if b (record { rule = record { 0 = n }; head = k }))
      go true q = (
        record {
          rule_in = l;
          head_in = left-lt (heads (rule_at t (record { 0 = n }))) k h hs e;
          symbol_same = λ d. ap (λ (x : Head). x.symbol.0) (left-first (heads (rule_at t (record { 0 = n }))) k h hs e d) ∙ eqb-true h.symbol.0 s.0 q;
        },
        tt,
      )
      go false q = tt

  places_from-in : (n : ℕ) (rs : List Rule) → drop n t.rules ≡ rs → every (PlaceIn t s) (places_from s n rs)
  unfolding places_from rule_at
  places_from-in n [] e = tt
  places_from-in n (r ∷ rs) e =
      let l : n < length t.rules = left-lt t.rules n r rs e in
      every-append (PlaceIn t s) (places_in s n 0 (heads r)) (places_from s (suc n) rs)
      (places_in-in n 0 (heads r) l (ap heads (left-first t.rules n r rs e no_rule)))
      (places_from-in (suc n) rs (left-rest t.rules n r rs e))

  pub places-in : every (PlaceIn t s) (places t s)
  unfolding places
  places-in = places_from-in 0 t.rules refl

-- the same of a good table, by where its rules stand
pub record PlaceShape (t : List ℕ) (p : HeadPlace) : Type 0 where
  pub rule_in : p.rule.0 < (read_of t).rules
  pub head_in : p.head < (get_or (read_of t).shapes p.rule.0 no_shape).heads

module _ (t : List ℕ) (g : GoodTable t) (s : Symbol) where
  place-shape : (p : HeadPlace) → PlaceIn (table_of t) s p → PlaceShape t p
  place-shape p q =
      let inside : p.rule.0 < (read_of t).rules = omega (arith, q.rule_in, rules-length t g.shapes g.few_rules) in
      let shape : RuleShape = get_or (read_of t).shapes p.rule.0 no_shape in
      let r = g.each p.rule.0 inside in
      let e : length (heads (rule_at (table_of t) p.rule)) ≡ shape.heads =
      ap (λ (x : Rule). length (heads x)) (rule-at t g.shapes g.few_rules p.rule inside)
      ∙ ap length (rule-heads t shape r.kept_few)
      ∙ heads-length t (heads_start shape) shape.heads
      in
      record { rule_in = inside; head_in = omega (arith, q.head_in, e) }

  pub places-shape : every (PlaceShape t) (places (table_of t) s)
  places-shape = every-weaken (PlaceIn (table_of t) s) (PlaceShape t) place-shape (places (table_of t) s) (places-in (table_of t) s)
