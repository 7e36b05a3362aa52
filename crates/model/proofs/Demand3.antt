-- The mission's third demand, from bytes: where weighing gives 0, its W and its bound hold of every run of the same table and goal, whatever the
-- step limit and the buffer are. A good weighing says that the table and the goal are good, that each weight is something and that each rule
-- loses weight; M is the most head places of any declared symbol, and a symbol that is not declared has none. The bound is a legal step limit.
use Prim.Native.Nat.{ℕ, zero, suc, max, ◌+◌, ◌*◌, ◌≤◌, ◌<◌}
use native.Mathlib.Nat.{mul-le-mul_right}
use native.Mathlib.Omega.{arith}
use native.Mathlib.Decide.{dec_lt}
use mathlib.Core.Path.{◌≡◌, refl, sym, ap, subst}
use mathlib.Core.Bool.{Bool, true, false}
use mathlib.Core.List.{List, [], ◌∷◌}
use lib.Dec.{eqb, ltb}
use lib.ListN.{length, get_or}
use borrow.Author.Tests.{eqb-true, ltb-true}
use Rattle.std.specs.Prelude.{Option, Some, None, Ok, Err}
use Rattle.model.specs.declared.Symbol.{Symbol}
use Rattle.model.specs.declared.RuleNumber.{RuleNumber}
use Rattle.model.specs.declared.Fact.{Fact}
use Rattle.model.specs.declared.HeadPlace.{HeadPlace}
use Rattle.model.specs.Refusals.{Verdict, number_of}
use Rattle.model.specs.declared.CallResult.{CallResult}
use Rattle.model.specs.declared.Weighing.{Weighing}
use Rattle.model.specs.Limits.{store_room, most_items}
use Rattle.model.specs.Reading.{read_of}
use Rattle.model.specs.Table.{Head, Rule, Table, BodyItem, body_fact, body_fail, heads, table_of, rule_at, places}
use Rattle.model.specs.Goal.{goal_verdict, goal_of}
use Rattle.model.specs.Search.{no_head}
use Rattle.model.specs.Weights.{weight_in, goal_weight, heads_weight, body_weight, body_facts, most_places, most_facts, step_bound, first_zero, first_heavy}
use Rattle.model.specs.Results.{refusal}
use Rattle.model.specs.Calls.{output_of, run_of, weighed, weigh_goal, weigh_rules, weigh_zero, weigh_count, weigh_table, weigh_of}
use Rattle.model.proofs.Every.{every, every-at, every-both, every-weaken}
use Rattle.model.proofs.Lists.{every-get_d}
use Rattle.model.proofs.Good.{good-table, refusal-small, good-goal, goal-places}
use Rattle.model.proofs.Decoded.{every-head-declared, every-body-few, goal-few, places-few, PlaceIn, places-in}
use Rattle.model.proofs.Places.{places-have}
use Rattle.model.proofs.Ranges.{AreBytes}
use Rattle.model.proofs.Results.{run-cases}
use Rattle.model.proofs.Weight.{Loses, Light, Weighs, demand3}

-- ---- M: no symbol has more head places

below-most : (t : Table) (n : ℕ) (s : Symbol) → s.0 < n → length (places t s) ≤ most_places t n
unfolding most_places
below-most t zero s b = omega arith
below-most t (suc n) s b = go (dec_lt s.0 n) (λ c. below-most t n s c)
  where
    go : Dec (s.0 < n) → (s.0 < n → length (places t s) ≤ most_places t n) → length (places t s) ≤ max (length (places t (record { 0 = n }))) (most_places t n)
    go (yes c) ih = omega (arith, ih c)
    go (no c) ih =
        let e : s.0 ≡ n = omega arith in
        let q : s ≡ record { 0 = n } = λ i. record { 0 = e i } in
        omega (arith, ap (λ (z : Symbol). length (places t z)) q)

-- each head's symbol is declared: what a good table has
abbrev pub Declared : Table → Type 0
Declared t = every (λ (r : Rule). every (λ (h : Head). h.symbol.0 < t.symbols) (heads r)) t.rules

few-places : (t : Table) → Declared t → (s : Symbol) → length (places t s) ≤ most_places t t.symbols
few-places t d s = go (places t s) refl (places-in t s) (places-have t s (λ (r : Rule). every (λ (h : Head). h.symbol.0 < t.symbols) (heads r)) d)
  where
    go : (l : List HeadPlace) → places t s ≡ l → every (PlaceIn t s) l
        → every (λ (p : HeadPlace). every (λ (h : Head). h.symbol.0 < t.symbols) (heads (rule_at t p.rule))) l
        → length (places t s) ≤ most_places t t.symbols
    go [] e u v = omega (arith, ap (λ (l : List HeadPlace). length l) e)
    go (p ∷ ps) e u v =
        below-most t t.symbols s
        (omega (
          arith,
          u.0.symbol_same no_head,
          every-at (λ (h : Head). h.symbol.0 < t.symbols) (heads (rule_at t p.rule)) p.head no_head v.0 u.0.head_in,
        ))

-- ---- the tests 41 and 42, turned into facts

nonzero : (k : ℕ) (ws : List ℕ) → first_zero k ws ≡ None → (i : ℕ) → 1 ≤ get_or ws i 1
unfolding first_zero
nonzero k [] e i = omega arith
nonzero k (zero ∷ ws) e i = absurd cc
nonzero k (suc n ∷ ws) e zero = omega arith
nonzero k (suc n ∷ ws) e (suc i) = nonzero (suc k) ws e i

pub all-lose : (w : Symbol → ℕ) (k : ℕ) (rs : List Rule) → first_heavy w k rs ≡ None → every (Loses w) rs
unfolding first_heavy
all-lose w k [] e = tt
all-lose w k (r ∷ rs) e = go (ltb (body_weight w r.body) (heads_weight w r.removed)) refl e (all-lose w (suc k) rs)
  where
    go : (x : Bool) → ltb (body_weight w r.body) (heads_weight w r.removed) ≡ x
        → ◌≡◌ {A = Option RuleNumber} (elim x [ true ↦ first_heavy w (suc k) rs | false ↦ Some (record { 0 = k }) ]) None
        → (first_heavy w (suc k) rs ≡ None → every (Loses w) rs) → Loses w r × every (Loses w) rs
    go true q e ih = (ltb-true (body_weight w r.body) (heads_weight w r.removed) q, ih e)
    go false q e ih = absurd cc

all-short : (rs : List Rule) (B : ℕ) → most_facts rs ≤ B → every (λ (r : Rule). body_facts r.body ≤ B) rs
unfolding most_facts
all-short [] B m = tt
all-short (r ∷ rs) B m = (omega arith, all-short rs B (omega arith))

light : (w : Symbol → ℕ) (rs : List Rule) (B : ℕ) → most_facts rs ≤ B → first_heavy w 0 rs ≡ None → every (Light w B) rs
light w rs B m e =
    every-weaken (λ (r : Rule). Loses w r × (body_facts r.body ≤ B)) (Light w B) (λ r q. record { loses = q.0; short = q.1 }) rs
    (every-both (Loses w) (λ (r : Rule). body_facts r.body ≤ B) rs (all-lose w 0 rs e) (all-short rs B m))

-- ---- what a weighing that gives 0 says

pub record GoodWeighing (t weights g : List ℕ) (x : Weighing) : Type 0 where
  pub table : (read_of t).verdict ≡ Ok tt
  pub counted : length weights ≡ (read_of t).symbols
  pub something : first_zero 0 weights ≡ None
  pub loses : first_heavy (weight_in weights) 0 (table_of t).rules ≡ None
  pub goal : goal_verdict t (read_of t).symbols g ≡ Ok tt
  pub whole : x ≡ weighed t weights g

module _ (t weights g : List ℕ) where
  abbrev Says : Weighing → Type 0
  Says x = x.result.number ≡ 0 → GoodWeighing t weights g x

  module _ (a : (read_of t).verdict ≡ Ok tt) where
    module _ (b : length weights ≡ (read_of t).symbols) where
      module _ (c : first_zero 0 weights ≡ None) where
        goal-says : first_heavy (weight_in weights) 0 (table_of t).rules ≡ None → (v : Verdict) → goal_verdict t (read_of t).symbols g ≡ v
            → Says (weigh_goal t weights g v)
        goal-says d (Ok u) q = λ e. record { table = a; counted = b; something = c; loses = d; goal = q; whole = refl }
        goal-says d (Err r) q = λ e. absurd (omega (arith, (goal-places t (read_of t).symbols g r q).low))

        rules-say : (o : Option RuleNumber) → first_heavy (weight_in weights) 0 (table_of t).rules ≡ o → Says (weigh_rules t weights g o)
        rules-say None q = goal-says q (goal_verdict t (read_of t).symbols g) refl
        rules-say (Some r) q = λ e. absurd (omega arith)

      zero-says : (o : Option Symbol) → first_zero 0 weights ≡ o → Says (weigh_zero t weights g o)
      zero-says None q = rules-say q (first_heavy (weight_in weights) 0 (table_of t).rules) refl
      zero-says (Some s) q = λ e. absurd (omega arith)

    count-says : (x : Bool) → eqb (length weights) (read_of t).symbols ≡ x → Says (weigh_count t weights g x)
    count-says true q = zero-says (eqb-true (length weights) (read_of t).symbols q) (first_zero 0 weights) refl
    count-says false q = λ e. absurd (omega arith)

  table-says : (v : Verdict) → (read_of t).verdict ≡ v → Says (weigh_table t weights g v)
  table-says (Ok u) q = count-says q (eqb (length weights) (read_of t).symbols) refl
  table-says (Err r) q = λ e. absurd (omega (arith, (refusal-small t r q).low))

  pub good-weighing : (weigh_of t weights g).result.number ≡ 0 → GoodWeighing t weights g (weigh_of t weights g)
  unfolding weigh_of
  good-weighing = table-says (read_of t).verdict refl

-- ---- the demand

-- of a run with this limit
pub record Promise (W bound limit : ℕ) (r : CallResult) : Type 0 where
  pub steps : r.steps ≤ bound
  pub firings : r.firings ≤ W
  pub never_limit : bound ≤ limit → r.number ≡ 2 → ⊥
  pub never_full : W ≤ store_room → r.number ≡ 5 → ⊥
  pub never_history : r.number ≡ 7 → ⊥

refused-promise : (W bound limit n p : ℕ) → 16 ≤ n → Promise W bound limit (refusal n p)
refused-promise W bound limit n p h = record {
  steps = omega arith;
  firings = omega arith;
  never_limit = λ l e. omega arith;
  never_full = λ l e. omega arith;
  never_history = λ e. omega arith;
}

module _ (t weights g : List ℕ) (zero_number : (weigh_of t weights g).result.number ≡ 0) where
  good : GoodWeighing t weights g (weigh_of t weights g)
  good = good-weighing t weights g zero_number

  weights-weigh : Weighs (table_of t) (weight_in weights) (most_places (table_of t) (table_of t).symbols) (most_facts (table_of t).rules)
  weights-weigh = record {
    something = λ s. nonzero 0 weights good.something s.0;
    rules = light (weight_in weights) (table_of t).rules (most_facts (table_of t).rules) (omega arith) good.loses;
    few_places = few-places (table_of t) (every-head-declared t (good-table t good.table));
  }

  -- Steps, firings, no ending 2 with a limit from the bound on, no 5 with a weight up to 128, and no 7.
  pub weighed-run : (limit : ℕ) (buffer : List ℕ) → Promise (weigh_of t weights g).weight (weigh_of t weights g).bound limit (run_of t g limit buffer).result
  unfolding weighed output_of
  weighed-run limit buffer =
      subst (λ (x : Weighing). Promise x.weight x.bound limit (run_of t g limit buffer).result) (sym good.whole)
      (let d = demand3 (table_of t) (weight_in weights) (most_places (table_of t) (table_of t).symbols) (most_facts (table_of t).rules) weights-weigh
      (goal_of g) limit in
      run-cases (λ o. Promise (weighed t weights g).weight (weighed t weights g).bound limit o.result) t g limit buffer
      (λ r low high near. refused-promise _ _ limit (number_of r.reason) r.place low)
      (λ k. record { steps = d.steps; firings = d.firings; never_limit = d.never_limit; never_full = d.never_full; never_history = d.never_history }))

-- ---- the bound is a legal limit

facts-few : (is : List BodyItem) → body_facts is ≤ length is
unfolding body_facts
facts-few [] = omega arith
facts-few (body_fact s es ∷ is) = omega (arith, facts-few is)
facts-few (body_fail ∷ is) = omega (arith, facts-few is)

most_facts-few : (rs : List Rule) → every (λ (r : Rule). length r.body ≤ most_items) rs → most_facts rs ≤ most_items
unfolding most_facts
most_facts-few [] u = omega arith
most_facts-few (r ∷ rs) u = omega (arith, facts-few r.body, u.0, most_facts-few rs u.1)

most_places-few : (t : Table) (most : ℕ) → ((s : Symbol) → length (places t s) ≤ most) → (n : ℕ) → most_places t n ≤ most
unfolding most_places
most_places-few t most h zero = omega arith
most_places-few t most h (suc n) = omega (arith, h (record { 0 = n }), most_places-few t most h n)

goal-light : (w : Symbol → ℕ) → ((s : Symbol) → w s ≤ 255) → (fs : List Fact) → goal_weight w fs ≤ 255 * length fs
unfolding goal_weight
goal-light w h [] = omega arith
goal-light w h (f ∷ fs) = omega (arith, h f.symbol, goal-light w h fs)

step-bound-most : (G B W M : ℕ) → G ≤ 64 → B ≤ 4 → W ≤ 16320 → M ≤ 256 → step_bound G B W M ≤ 16875073
unfolding step_bound
step-bound-most G B W M g b w m =
    let few : B * W ≤ 4 * 16320 = omega (arith, mul-le-mul_right W b) in
    let all : G + B * W ≤ 65344 = omega arith in
    omega (arith, mul-le-mul_right (M + 2) all)

-- W is at most 64 times 255, and the bound a legal step limit
pub record Legal (x : Weighing) : Type 0 where
  pub weight : x.weight ≤ 16320
  pub bound : x.bound ≤ 16875073

pub legal-bound : (t weights g : List ℕ) → AreBytes weights → (weigh_of t weights g).result.number ≡ 0 → Legal (weigh_of t weights g)
unfolding weighed
legal-bound t weights g bytes zero_number =
    let k = good t weights g zero_number in
    let G : length (goal_of g) ≤ 64 = goal-few (read_of t).symbols g (good-goal t (read_of t).symbols g k.goal) in
    let small = goal-light (weight_in weights) (λ s. let b = every-get_d (λ (b : ℕ). b < 256) weights s.0 1 bytes (omega arith) in omega arith) (goal_of g) in
    let W : goal_weight (weight_in weights) (goal_of g) ≤ 16320 = omega arith in
    subst Legal (sym k.whole)
    (record {
      weight = W;
      bound = step-bound-most (length (goal_of g)) _ _ _ G (most_facts-few (table_of t).rules (every-body-few t (good-table t k.table))) W
          (most_places-few (table_of t) 256 (places-few t (good-table t k.table)) (table_of t).symbols);
    })
