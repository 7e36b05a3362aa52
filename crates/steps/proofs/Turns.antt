-- The laws of a run's turns: each writes what was decided, which is the definition's step, so that what is left of the run equals the whole.
use mathlib.Core.Path.{◌≡◌, refl, sym, ap, subst, ◌∙◌}
use mathlib.Core.List.{List, [], ◌∷◌, ◌++◌}
use Prim.Native.Nat.{ℕ, suc, ◌+◌, ◌-◌, ◌<◌, ◌≤◌}
use native.Mathlib.Omega.{arith}
use native.Mathlib.Numerals.{add-one}
use lib.ListN.{length, take}
use lib.Seq.{length-take-le}
use Rattle.std.specs.Prelude.{Ok, Err, Result, reverse}
use Rattle.std.proofs.lemmas.List.{length-reverse}
use Rattle.model.specs.declared.Entry.{Entry}
use Rattle.model.specs.declared.Occurrence.{Occurrence}
use Rattle.model.specs.declared.CallResult.{CallResult}
use Rattle.model.specs.Table.{table_of}
use Rattle.model.specs.Steps.{State, activated, dropped, Outcome, moves, fires, fails, stops, step_item}
use Rattle.model.specs.Results.{counts_of}
use Rattle.model.specs.Run.{Ended, ended_as, run_from, run}
use Rattle.model.proofs.Loop.{run-done, run-limit, run-moves, run-fires, run-fails, run-stops}
use Rattle.occurrences.specs.declared.Rules.{Rules}
use Rattle.step.specs.declared.Firing.{Firing}
use Rattle.step.specs.declared.Instance.{Instance}
use Rattle.step.specs.declared.Decision.{Decision}
use Rattle.step.specs.declared.Decision.TheVariants.{Activate, Drop, Default, Fire, Fail as Failing}
use Rattle.step.specs.declared.Ending.{Ending}
use Rattle.step.specs.Outcomes.{at_occurrence, fact_of, fired_as, topped, outcome_of, ending_number, ending_place, Fits, Sure, Decided}
use Rattle.filled.specs.declared.Filled.{Filled}
use Rattle.steps.specs.declared.Run.{Run}
use Rattle.steps.proofs.Lists.{on-top}
use Rattle.steps.specs.States.{stack_of, state_of, stacked, Goes, Finished}

-- the loop's head, after k steps
pub record Running (t : List ℕ) (limit : ℕ) (st₀ : State) (r : Run) (k : ℕ) : Type 0 where
  pub table : r.places.rules.table.now ≡ t
  pub next_few : (state_of r).next ≤ suc k
  pub firings_few : r.firings ≤ k
  pub steps : k ≤ limit
  pub same : run_from (table_of t) (limit - k) (counts_of k r.firings) (state_of r) ≡ run (table_of t) limit st₀

pub run-begins : {t : List ℕ} {limit : ℕ} (r : Run) → r.places.rules.table.now ≡ t → r.given ≡ 0 → r.firings ≡ 0 → Running t limit (state_of r) r 0
unfolding run
run-begins {t} {limit} r te g f =
    let q : limit - 0 ≡ limit = omega arith in
    record {
      table = te;
      next_few = omega (arith, g);
      firings_few = omega (arith, f);
      steps = omega arith;
      same = rw (q, f) refl;
    }

module _ {t : List ℕ} {limit : ℕ} {st₀ : State} {r : Run} {k : ℕ} (w : Running t limit st₀ r k) where
  abbrev here : State
  here = state_of r

  abbrev end : Ended
  end = run (table_of t) limit st₀

  -- an ending: what it tells is the definition's, and so is the store
  says : (number place n : ℕ) {result : CallResult} → result ≡ (ended_as number place (counts_of n r.firings) here).result
      → ended_as number place (counts_of n r.firings) here ≡ end → Finished end r result
  unfolding ended_as
  says number place n e q = record { result_is = e ∙ ap (λ (x : Ended). x.result) q; facts = ap (λ (x : Ended). x.store) q }

  pub done : here.stack ≡ [] → {result : CallResult} → result ≡ (ended_as 0 0 (counts_of k r.firings) here).result → Finished end r result
  done z e = says 0 0 k e (sym (run-done (table_of t) (counts_of k r.firings) here z (limit - k)) ∙ w.same)

  out-of-steps : limit ≤ k → {e : Entry} {es : List Entry} → here.stack ≡ e ∷ es
      → {result : CallResult} → result ≡ (ended_as 2 0 (counts_of k r.firings) here).result → Finished end r result
  out-of-steps l {e} {es} top q =
      let z : limit - k ≡ 0 = omega arith in
      says 2 0 k q (sym (run-limit (table_of t) (counts_of k r.firings) here e es top)
      ∙ ap (λ (x : ℕ). run_from (table_of t) x (counts_of k r.firings) here) (sym z) ∙ w.same)

  module _ (more : k < limit) {e : Entry} {es : List Entry} (top : here.stack ≡ e ∷ es) where
    left-over : limit - k ≡ suc (limit - (k + 1))
    left-over = omega arith

    on : run_from (table_of t) (suc (limit - (k + 1))) (counts_of k r.firings) here ≡ end
    on = ap (λ (y : ℕ). run_from (table_of t) y (counts_of k r.firings) here) (sym left-over) ∙ w.same

    abbrev Steps : Outcome → Type 0
    Steps o = step_item (table_of t) here e es e.item ≡ o

    pub stopped-end : {number place : ℕ} → Steps (stops number place) → ended_as number place (counts_of k r.firings) here ≡ end
    stopped-end {number} {place} s = sym (run-stops (table_of t) (counts_of k r.firings) here e es top (limit - (k + 1)) number place s) ∙ on

    pub failed-end : Steps fails → ended_as 1 0 (counts_of (k + 1) r.firings) here ≡ end
    failed-end s =
        ap (λ (y : ℕ). ended_as 1 0 (counts_of y r.firings) here) (add-one k)
        ∙ sym (run-fails (table_of t) (counts_of k r.firings) here e es top (limit - (k + 1)) s) ∙ on

    module _ {r' : Run} (te : r'.places.rules.table.now ≡ t) (few : (state_of r').next ≤ suc (k + 1)) where
      pub moved : Steps (moves (state_of r')) → r'.firings ≡ r.firings → Running t limit st₀ r' (k + 1)
      moved s f = record {
        table = te;
        next_few = few;
        firings_few = omega (arith, f, w.firings_few);
        steps = omega arith;
        same =
            ap (λ (y : ℕ). run_from (table_of t) (limit - (k + 1)) (counts_of (k + 1) y) (state_of r')) f
            ∙ ap (λ (y : ℕ). run_from (table_of t) (limit - (k + 1)) (counts_of y r.firings) (state_of r')) (add-one k)
            ∙ sym (run-moves (table_of t) (counts_of k r.firings) here e es top (limit - (k + 1)) (state_of r') s) ∙ on;
      }

      pub fired : Steps (fires (state_of r')) → r'.firings ≡ r.firings + 1 → Running t limit st₀ r' (k + 1)
      fired s f = record {
        table = te;
        next_few = few;
        firings_few = omega (arith, f, w.firings_few);
        steps = omega arith;
        same =
            ap (λ (y : ℕ). run_from (table_of t) (limit - (k + 1)) (counts_of (k + 1) y) (state_of r')) (f ∙ add-one r.firings)
            ∙ ap (λ (y : ℕ). run_from (table_of t) (limit - (k + 1)) (counts_of y (suc r.firings)) (state_of r')) (add-one k)
            ∙ sym (run-fires (table_of t) (counts_of k r.firings) here e es top (limit - (k + 1)) (state_of r') s) ∙ on;
      }

-- ---- behind a decision: e lay on es, and r2 is the run with es alone

pub record Turn (t : List ℕ) (limit : ℕ) (st₀ : State) (r : Run) (k : ℕ) (e : Entry) (es : List Entry) (f : Firing) (d : Result Decision Ending) (r2 : Run)
    : Type 0 where
  pub running : Running t limit st₀ r k
  pub more : k < limit
  pub legal : limit ≤ 20000000
  pub top : (state_of r).stack ≡ e ∷ es
  pub deep : length es ≡ r2.stack.len
  pub decided : Decided (table_of r.places.rules.table.now) e r2.stack.len (state_of r).store (state_of r).history f d
  pub now : state_of r2 ≡ stacked (state_of r) es
  pub same_firings : r2.firings ≡ r.firings
  pub same_rules : r2.places.rules ≡ r.places.rules

pub turn-of : {t : List ℕ} {limit : ℕ} {st₀ : State} {r : Run} {k : ℕ} → Running t limit st₀ r k → k < limit → limit ≤ 20000000
    → {e : Entry} (under : Filled Entry) → take r.stack.len r.stack.places.now ≡ take under.len under.places.now ++ e ∷ []
    → {f : Firing} {d : Result Decision Ending}
    → Decided (table_of r.places.rules.table.now) e under.len (state_of r).store (state_of r).history f d
    → (r2 : Run) → state_of r2 ≡ stacked (state_of r) (reverse (take under.len under.places.now)) → r2.firings ≡ r.firings → r2.stack.len ≡ under.len
    → r2.places.rules ≡ r.places.rules → Turn t limit st₀ r k e (reverse (take under.len under.places.now)) f d r2
turn-of w more legal under last dec r2 now fs ln rs = record {
  running = w;
  more = more;
  legal = legal;
  top = on-top (take under.len under.places.now) last;
  deep = length-reverse (take under.len under.places.now) ∙ length-take-le under.len under.places.now under.fits ∙ sym ln;
  decided = rw ln dec;
  now = now;
  same_firings = fs;
  same_rules = rs;
}

module _ {t : List ℕ} {limit : ℕ} {st₀ : State} {r : Run} {k : ℕ} {e : Entry} {es : List Entry} {f : Firing} {d : Result Decision Ending} {r2 : Run}
    (u : Turn t limit st₀ r k e es f d r2) where
  abbrev w : Running t limit st₀ r k
  w = u.running

  by : {x : Result Decision Ending} → d ≡ x → step_item (table_of t) (state_of r) e es e.item ≡ outcome_of (state_of r) e es f x
  by {x} y =
      ap (λ (z : List ℕ). step_item (table_of z) (state_of r) e es e.item) (sym w.table)
      ∙ u.decided.same (state_of r) es (record { stack = u.top; deep = u.deep; stored = refl; noted = refl }) ∙ ap (outcome_of (state_of r) e es f) y

  table-now : (r' : Run) → r'.places.rules ≡ r2.places.rules → r'.places.rules.table.now ≡ t
  table-now r' y = ap (λ (x : Rules). x.table.now) (y ∙ u.same_rules) ∙ w.table

  stored-now : length (state_of r).store ≡ r2.store.len
  stored-now = ap (λ (x : State). length x.store) (sym u.now) ∙ length-take-le r2.store.len r2.store.places.now r2.store.fits

  noted-now : length (state_of r).history ≡ r2.history.len
  noted-now = ap (λ (x : State). length x.history) (sym u.now) ∙ length-take-le r2.history.len r2.history.places.now r2.history.fits

  next-now : suc r2.given ≡ (state_of r).next
  next-now = ap (λ (x : State). x.next) u.now

  -- an ending tells what the run holds
  told : (number place m : ℕ) {result : CallResult} → result ≡ (ended_as number place (counts_of m r2.firings) (state_of r2)).result
      → {end : Ended} → ended_as number place (counts_of m r.firings) (state_of r) ≡ end → Finished end r2 result
  unfolding ended_as
  told number place m q y = record {
    result_is = q ∙ ap (λ (x : ℕ). (ended_as number place (counts_of m x) (state_of r2)).result) u.same_firings
        ∙ ap (λ (x : State). (ended_as number place (counts_of m r.firings) x).result) u.now ∙ ap (λ (x : Ended). x.result) y;
    facts = ap (λ (x : State). x.store) u.now ∙ ap (λ (x : Ended). x.store) y;
  }

  pub store-room : d ≡ Ok Activate → r2.store.len < 128
  unfolding Sure
  store-room y = let h = subst (Sure r2.stack.len (length (state_of r).store) (length (state_of r).history)) y u.decided.sure in omega (arith, h, stored-now)

  pub ids-room : r2.given + 1 < 4294967296
  ids-room = omega (arith, next-now, w.next_few, w.steps, u.legal)

  pub firings-room : r2.firings + 1 < 4294967296
  firings-room = omega (arith, u.same_firings, w.firings_few, w.steps, u.legal)

  pub fits : {g : Instance} → d ≡ Ok (Fire g) → Fits g r2.stack.len r2.history.len
  unfolding Sure
  fits {g} y =
      let h : Fits g r2.stack.len (length (state_of r).history)
      = subst (Sure r2.stack.len (length (state_of r).store) (length (state_of r).history)) y u.decided.sure in
      rw (← noted-now) h

  pub activates : d ≡ Ok Activate → {r' : Run} → Goes r2 r' (activated (state_of r2) e (stack_of r2) (fact_of e.item)) r2.firings
      → Running t limit st₀ r' (k + 1)
  unfolding outcome_of activated
  activates y {r'} h =
      let at : state_of r' ≡ activated (state_of r) e es (fact_of e.item) = h.state ∙ ap (λ (x : State). activated x e x.stack (fact_of e.item)) u.now in
      moved w u.more u.top (table-now r' h.rules) (omega (arith, ap (λ (x : State). x.next) at, w.next_few)) (by y ∙ ap moves (sym at))
      (h.firings ∙ u.same_firings)

  pub drops : d ≡ Ok Drop → Running t limit st₀ r2 (k + 1)
  unfolding outcome_of dropped
  drops y = moved w u.more u.top (table-now r2 refl) (omega (arith, next-now, w.next_few)) (by y ∙ ap moves (sym u.now)) u.same_firings

  pub defaults : {j : Occurrence} → d ≡ Ok (Default j) → {r' : Run} → Goes r2 r' (stacked (state_of r2) (at_occurrence e j ∷ stack_of r2)) r2.firings
      → Running t limit st₀ r' (k + 1)
  unfolding outcome_of topped
  defaults {j} y {r'} h =
      let at : state_of r' ≡ topped (state_of r) (at_occurrence e j) es = h.state ∙ ap (λ (s : State). stacked s (at_occurrence e j ∷ s.stack)) u.now in
      moved w u.more u.top (table-now r' h.rules) (omega (arith, ap (λ (s : State). s.next) at, w.next_few)) (by y ∙ ap moves (sym at))
      (h.firings ∙ u.same_firings)

  pub fires-on : {g : Instance} → d ≡ Ok (Fire g) → {r' : Run}
      → Goes r2 r' (fired_as (state_of r2) e (stack_of r2) g (take g.shape.heads f.chosen) (take g.shape.items f.body)) (r2.firings + 1)
      → Running t limit st₀ r' (k + 1)
  unfolding outcome_of fired_as
  fires-on {g} y {r'} h =
      let at : state_of r' ≡ fired_as (state_of r) e es g (take g.shape.heads f.chosen) (take g.shape.items f.body)
      = h.state ∙ ap (λ (x : State). fired_as x e x.stack g (take g.shape.heads f.chosen) (take g.shape.items f.body)) u.now in
      fired w u.more u.top (table-now r' h.rules) (omega (arith, ap (λ (x : State). x.next) at, w.next_few)) (by y ∙ ap fires (sym at))
      (h.firings ∙ ap (λ (x : ℕ). x + 1) u.same_firings)

  pub fails-now : d ≡ Ok Failing → {result : CallResult} → result ≡ (ended_as 1 0 (counts_of (k + 1) r2.firings) (state_of r2)).result
      → Finished (run (table_of t) limit st₀) r2 result
  unfolding outcome_of
  fails-now y q = told 1 0 (k + 1) q (failed-end w u.more u.top (by y))

  pub stops-now : {x : Ending} → d ≡ Err x → {number place : ℕ} → number ≡ ending_number x → place ≡ ending_place x
      → {result : CallResult} → result ≡ (ended_as number place (counts_of k r2.firings) (state_of r2)).result → Finished (run (table_of t) limit st₀) r2 result
  unfolding outcome_of
  stops-now {x} y {number} {place} a b q =
      told (ending_number x) (ending_place x) k (q ∙ ap (λ (z : ℕ). (ended_as z place (counts_of k r2.firings) (state_of r2)).result) a
      ∙ ap (λ (z : ℕ). (ended_as (ending_number x) z (counts_of k r2.firings) (state_of r2)).result) b) (stopped-end w u.more u.top (by y))

-- ---- the ends of the loop

module _ {t : List ℕ} {limit : ℕ} {st₀ : State} {r : Run} {k : ℕ} (w : Running t limit st₀ r k) where
  pub emptied : r.stack.len ≡ 0 → (r' : Run) → state_of r' ≡ state_of r → r'.firings ≡ r.firings
      → {result : CallResult} → result ≡ (ended_as 0 0 (counts_of k r'.firings) (state_of r')).result → Finished (run (table_of t) limit st₀) r' result
  unfolding ended_as
  emptied z r' s f q =
      let e : Finished (run (table_of t) limit st₀) r _ = done w (rw z refl) refl in
      record {
        result_is = q ∙ ap (λ (x : ℕ). (ended_as 0 0 (counts_of k x) (state_of r')).result) f
            ∙ ap (λ (x : State). (ended_as 0 0 (counts_of k r.firings) x).result) s ∙ e.result_is;
        facts = ap (λ (x : State). x.store) s ∙ e.facts;
      }

  -- no step is left
  pub at-limit-done : limit ≤ k → r.stack.len ≡ 0
      → {result : CallResult} → result ≡ (ended_as 0 0 (counts_of limit r.firings) (state_of r)).result → Finished (run (table_of t) limit st₀) r result
  at-limit-done l z q = let e : limit ≡ k = omega (arith, w.steps) in done w (rw z refl) (rw e at q)

  pub at-limit : limit ≤ k → (r.stack.len ≡ 0 → ⊥)
      → {result : CallResult} → result ≡ (ended_as 2 0 (counts_of limit r.firings) (state_of r)).result → Finished (run (table_of t) limit st₀) r result
  at-limit l z {result} q = go (stack_of r) refl
    where
      go : (xs : List Entry) → stack_of r ≡ xs → Finished (run (table_of t) limit st₀) r result
      go [] y =
          let count = length-take-le r.stack.len r.stack.places.now r.stack.fits in
          absurd (z (sym count ∙ sym (length-reverse (take r.stack.len r.stack.places.now)) ∙ ap length y))
      go (e ∷ es) y = let m : limit ≡ k = omega (arith, w.steps) in out-of-steps w l y (rw m at q)
