-- Laws of the search on plain values: one turn of the loop over the stored facts. What is tried from fact i on equals the whole, so that the
-- first answer that is not "nothing" is the definition's.
use Rattle.std.proofs.Common.{◌≡◌, refl, sym, ap, ◌∙◌, ℕ, zero, suc, ◌+◌, ◌-◌, ◌<◌, ◌≤◌, Bool, true, false, cond, List}
use Rattle.std.proofs.Common.{[], ◌∷◌, ◌++◌, length, take, get_or, set, eqb, leb, Option, Some, None, arith, add-one, length-set}
use Rattle.std.proofs.Math.Seq.{take-suc-set, take-set-le, length-take-le, get_or-take, get_or-set_same, get_or-set_other, set-get_or}
use borrow.Author.Tests.{eq-eqb, ne_eqb, eqb-true, eqb-false, leb-true, leb-false}
use Rattle.model.specs.declared.FactId.{FactId}
use Rattle.model.specs.declared.Fact.{Fact}
use Rattle.model.specs.declared.Stored.{Stored}
use Rattle.model.specs.declared.Fired.{Fired}
use Rattle.model.specs.declared.Binding.{Binding}
use Rattle.model.specs.declared.HeadPlace.{HeadPlace}
use Rattle.model.specs.declared.Kind.TheVariants.{KeptHead}
use Rattle.model.specs.Limits.{most_heads}
use Rattle.model.specs.Matching.{bound_if, match_head}
use Rattle.model.specs.Records.{size_of}
use Rattle.model.specs.Table.{Head, Rule, heads, head_at, heads_from, heads_start, rule_of}
use Rattle.model.specs.Search.{Found, nothing, nobody, may_stand, or_else, first_of, and_then, complete, candidate}
use Rattle.model.specs.Search.{search, stored_fact, no_head, from_active, first_instance}
use Rattle.records.proofs.PartsLie.{head-in}
use Rattle.model.proofs.Decoded.{heads-none, heads-first, heads-at, rule-heads}
use Rattle.matching.specs.declared.Probe.{Probe}
use Rattle.search.specs.declared.Quest.{Quest}
use Rattle.search.specs.declared.Trial.{Trial}
use Rattle.search.specs.declared.Trial.TheVariants.{Applies, Nothing, UndefinedGuard}
use Rattle.matching.proofs.Probed.{no-pass}
use Rattle.matching.proofs.Passing.{passes-here, passes-behind, passing-long}
use Rattle.matching.specs.Views.{Probing, passes_of, from_passing}
use Rattle.search.specs.Views.{candidate_of, found_as, head_of, partner_from, sought_of, Ready, Sought, Posed, Answered}

-- ---- the chosen ones

chosen-more : (chosen : List FactId) (k : ℕ) (x : FactId) → length chosen ≡ most_heads → k < most_heads
    → take (k + 1) (set chosen k x) ≡ take k chosen ++ (x ∷ [])
chosen-more chosen k x l h =
    let w : k < length chosen = omega arith in
    ap (λ (n : ℕ). take n (set chosen k x)) (add-one k) ∙ take-suc-set chosen k x w

chosen-length : (chosen : List FactId) (k : ℕ) → length chosen ≡ most_heads → k ≤ most_heads → length (take k chosen) ≡ k
chosen-length chosen k l h = length-take-le k chosen (omega arith)

take-less : (l m : List FactId) (k : ℕ) → take (suc k) l ≡ take (suc k) m → take k l ≡ take k m
take-less l m k e = sym (shorter l k) ∙ ap (take k) e ∙ shorter m k
  where
    shorter : (l : List FactId) (k : ℕ) → take k (take (suc k) l) ≡ take k l
    shorter l zero = refl
    shorter [] (suc k) = refl
    shorter (x ∷ l) (suc k) = ap (λ (m : List FactId). x ∷ m) (shorter l k)

-- the ones before k are as they were, after a store at k and a search that keeps the ones before k + 1
kept-before : (chosen₀ chosen after : List FactId) (k : ℕ) (x : FactId) → take (k + 1) after ≡ take (k + 1) (set chosen k x)
    → take k chosen ≡ take k chosen₀ → take k after ≡ take k chosen₀
kept-before chosen₀ chosen after k x e w = take-less after (set chosen k x) k (rw (add-one k) at e) ∙ take-set-le k chosen k x (omega arith) ∙ w

-- ---- the search

complete-any : (store : List Stored) (past : List Fired) (p : HeadPlace) (r : Rule) (active : FactId) (chosen : List FactId) (b : Binding)
    → complete [] past p r active chosen b ≡ complete store past p r active chosen b
unfolding complete
complete-any store past p r active chosen b = refl

module _ (q : Quest) (k : ℕ) (chosen : List FactId) (b : Binding) where
  -- the definition's answer from head k on, the facts for those before it being the first k of an array
  abbrev sought : Found
  sought = sought_of q k (take k chosen) b

  -- no head is left: a complete match
  none-left : k ≡ q.shape.heads → {r : Trial}
      → found_as r (take k chosen) b ≡ complete [] q.past.now q.place (rule_of q.table.now q.shape) q.active (take k chosen) b
      → Sought sought r q.shape.heads k chosen chosen b
  unfolding sought_of search
  none-left same {r} e =
      let z : q.shape.heads - k ≡ 0 = omega arith in
      record {
        answer = ap (λ (n : ℕ). found_as r (take n chosen) b) (sym same) ∙ e ∙ rw (z, heads-none q.table.now (head_of q k)) (complete-any _ _ _ _ _ _ _);
        before = refl;
      }

  module _ (whole : length chosen ≡ most_heads) (few : q.shape.heads ≤ most_heads) (more : k < q.shape.heads) where
    heads-are : heads_from q.table.now (head_of q k) (q.shape.heads - k)
        ≡ head_at q.table.now (head_of q k) ∷ heads_from q.table.now (head_of q (k + 1)) (q.shape.heads - (k + 1))
    heads-are =
        let p : head_of q k + size_of KeptHead ≡ head_of q (k + 1) = omega arith in
        let n : q.shape.heads - k - 1 ≡ q.shape.heads - (k + 1) = omega arith in
        rw (← p, ← n) (heads-first q.table.now (head_of q k) (q.shape.heads - k) (omega arith))

    chosen-count : eqb (length (take k chosen)) q.place.head ≡ eqb k q.place.head
    chosen-count = ap (λ (n : ℕ). eqb n q.place.head) (chosen-length chosen k whole (omega arith))

    -- the active fact stands at its place
    at-active : k ≡ q.place.head → sought ≡ sought_of q (k + 1) (take (k + 1) (set chosen k q.active)) b
    unfolding sought_of search
    at-active e =
        let next : take (k + 1) (set chosen k q.active) ≡ take k chosen ++ (q.active ∷ []) = chosen-more chosen k q.active whole (omega arith) in
        rw (heads-are, chosen-count, eq-eqb _ _ e, search) (sym (ap (λ (l : List FactId). sought_of q (k + 1) l b) next))

-- ---- stored facts, tried as partners for head k

-- one fact, and the rest of the search behind it
unfoldable pub try_one : Quest → ℕ → List FactId → Binding → Stored → Found
try_one q k chosen b s = and_then (candidate_of q.active (head_at q.table.now (head_of q k)) chosen b s) (λ c. sought_of q (k + 1) (chosen ++ (s.id ∷ [])) c)

unfoldable pub tried : Quest → ℕ → List FactId → Binding → List Stored → Found
tried q k chosen b ss = first_of (try_one q k chosen b) ss

-- the active fact has its place, and the next partner's head is another
pub record Placed (q : Quest) (chosen : List FactId) (left k : ℕ) : Type 0 where
  pub ready : Ready q chosen left k
  pub elsewhere : k ≡ q.place.head → ⊥
  pub whole : length chosen ≡ most_heads

-- the loop over the facts for head k, which stands at p: what it was lent is as it was, but for the chosen ones from k on, and what is tried of
-- the facts that are left is the whole
pub record Trying (q : Quest) (left k p : ℕ) (probe : Probe) (chosen₀ chosen : List FactId) (b₀ b : Binding) (ss : List Stored) : Type 0 where
  pub placed : Placed q chosen₀ left k
  pub any_left : left ≡ 0 → ⊥
  pub here : p ≡ head_of q k
  pub inside : p + size_of KeptHead ≤ length q.table.now
  pub asks : Probing (head_at q.table.now p) b₀ probe
  pub few_heads : q.shape.heads ≤ most_heads
  pub more : k < q.shape.heads
  pub kept : take k chosen ≡ take k chosen₀
  pub whole : length chosen ≡ most_heads
  pub unbound : b ≡ b₀
  pub same : tried q k (take k chosen₀) b₀ ss ≡ sought_of q k (take k chosen₀) b₀

no-fact : (active : FactId) (h : Head) (chosen : List FactId) (b : Binding) (s : Stored) → match_head h s.fact b ≡ None
    → candidate_of active h chosen b s ≡ None
unfolding candidate_of
no-fact active h chosen b s = go (may_stand active chosen s.id)
  where
    go : (x : Bool) → match_head h s.fact b ≡ None → ◌≡◌ {A = Option Binding} (elim x [ true ↦ match_head h s.fact b | false ↦ None ]) None
    go true e = e
    go false e = refl

wins : (o : Trial) (chosen : List FactId) (b : Binding) (later : Found) → (o ≡ Nothing → ⊥) → or_else (found_as o chosen b) later ≡ found_as o chosen b
unfolding found_as
wins Applies chosen b later n = refl
wins Nothing chosen b later n = absurd (n refl)
wins UndefinedGuard chosen b later n = refl

none-left-of : (ss : List Stored) → length ss ≡ 0 → ss ≡ []
none-left-of [] l = refl
none-left-of (s ∷ ss) l = absurd (omega arith)

-- behind the first fact that passes there are fewer left
pub fewer : (probe : Probe) (ss passing rest : List Stored) → passing ≡ from_passing probe ss → length rest + 1 ≡ length passing → length rest < length ss
fewer probe ss passing rest e l = omega (arith, ap length e, passing-long probe ss)

-- ---- one turn of the loop

module _ {q : Quest} {left k p : ℕ} {probe : Probe} {chosen₀ chosen : List FactId} {b₀ b : Binding} {ss : List Stored}
    (r : Trying q left k p probe chosen₀ chosen b₀ b ss) where
  -- the chosen facts that the loop was lent
  abbrev before : List FactId
  before = take k chosen₀

  -- the end of the search
  abbrev Ended : Trial → List FactId → Binding → Type 0
  Ended o after c = Sought (sought_of q k before b₀) o q.shape.heads k chosen₀ after c

  pub tried-out : length ss ≡ 0 → Ended Nothing chosen b
  unfolding tried first_of found_as
  tried-out l = record { answer = sym (ap (tried q k before b₀) (none-left-of ss l)) ∙ r.same; before = r.kept }

  pub ready-next : (x : FactId) → Ready q (set chosen k x) (left - 1) (k + 1)
  ready-next x =
      let w = r.placed.ready in
      let d = r.placed.elsewhere in
      let any = r.any_left in
      record {
        parts_in = w.parts_in;
        few_heads = w.few_heads;
        head_in = w.head_in;
        ahead = λ h. omega (arith, w.ahead (omega arith), any);
        behind = λ h. omega (arith, w.behind (omega (arith, d)), any);
        seated = λ h.
            let under : q.place.head < k = omega (arith, d) in
            get_or-set_other chosen k q.place.head x nobody (λ z. d (sym z))
            ∙ sym (get_or-take k chosen q.place.head nobody under)
            ∙ ap (λ (l : List FactId). get_or l q.place.head nobody) r.kept
            ∙ get_or-take k chosen₀ q.place.head nobody under
            ∙ w.seated under;
      }

  -- a fact is a candidate for nothing where its match is none
  none-tried : (s : Stored) → candidate_of q.active (head_at q.table.now p) before b₀ s ≡ None → try_one q k before b₀ s ≡ nothing
  unfolding try_one
  none-tried s e = rw (← r.here, e)

  -- facts that do not show what the probe asks are passed over
  skipped : (xs : List Stored) → tried q k before b₀ (from_passing probe xs) ≡ tried q k before b₀ xs
  unfolding tried first_of from_passing
  skipped [] = refl
  skipped (s ∷ xs) = go (passes_of probe s.fact) refl (skipped xs)
    where
      go : (x : Bool) → passes_of probe s.fact ≡ x → tried q k before b₀ (from_passing probe xs) ≡ tried q k before b₀ xs
          → tried q k before b₀ (from_passing probe (s ∷ xs)) ≡ tried q k before b₀ (s ∷ xs)
      go true e ih = ap (tried q k before b₀) (passes-here probe s xs e)
      go false e ih =
          let misses : match_head (head_at q.table.now p) s.fact b₀ ≡ None = no-pass (head_at q.table.now p) b₀ probe r.asks s.fact e in
          let none = none-tried s (no-fact q.active (head_at q.table.now p) before b₀ s misses) in
          ap (tried q k before b₀) (passes-behind probe s xs e) ∙ ih ∙ sym (ap (λ (x : Found). or_else x (tried q k before b₀ xs)) none)

  pub on-passing : Trying q left k p probe chosen₀ chosen b₀ b (from_passing probe ss)
  on-passing = record {
    placed = r.placed;
    any_left = r.any_left;
    here = r.here;
    inside = r.inside;
    asks = r.asks;
    few_heads = r.few_heads;
    more = r.more;
    kept = r.kept;
    whole = r.whole;
    unbound = r.unbound;
    same = skipped ss ∙ r.same;
  }

  module _ {s : Stored} {rest : List Stored} (at : ss ≡ s ∷ rest) where
    -- the next turn
    abbrev Next : List FactId → Type 0
    Next after = Trying q left k p probe chosen₀ after b₀ b rest

    first-one : tried q k before b₀ ss ≡ or_else (try_one q k before b₀ s) (tried q k before b₀ rest)
    unfolding tried first_of
    first-one = rw (tried, at) refl

    -- a fact with which nothing is found
    next-one : (after : List FactId) → take k after ≡ take k chosen₀ → length after ≡ most_heads → try_one q k before b₀ s ≡ nothing → Next after
    next-one after kept long n = record {
      placed = r.placed;
      any_left = r.any_left;
      here = r.here;
      inside = r.inside;
      asks = r.asks;
      few_heads = r.few_heads;
      more = r.more;
      kept = kept;
      whole = long;
      unbound = r.unbound;
      same = sym (first-one ∙ ap (λ (x : Found). or_else x (tried q k before b₀ rest)) n) ∙ r.same;
    }

    -- the fact as a candidate: what the match left, in the loop's own terms
    module _ (ok : Bool) (c : Binding) (m : bound_if ok c ≡ candidate_of q.active (head_at q.table.now p) (take k chosen) b s) where
      as-candidate : bound_if ok c ≡ candidate_of q.active (head_at q.table.now p) before b₀ s
      as-candidate = rw (← r.kept, ← r.unbound) m

      pub no-match : ok ≡ false → Next chosen
      no-match f = next-one chosen r.kept r.whole (none-tried s (sym as-candidate ∙ rw f refl))

      -- a match, and the search behind it
      module _ (yes : ok ≡ true) {o : Trial} {after : List FactId} {e : Binding}
          (w : Sought (sought_of q (k + 1) (take (k + 1) (set chosen k s.id)) c) o q.shape.heads (k + 1) (set chosen k s.id) after e) where
        chosen-are : take (k + 1) (set chosen k s.id) ≡ before ++ (s.id ∷ [])
        chosen-are =
            chosen-more chosen k s.id r.whole (omega (arith, r.more, r.few_heads)) ∙ ap (λ (l : List FactId). l ++ (s.id ∷ [])) r.kept

        found-is : try_one q k before b₀ s ≡ found_as o (take q.shape.heads after) e
        unfolding try_one
        found-is =
            let behind = ap (λ (l : List FactId). sought_of q (k + 1) l c) chosen-are in
            rw (← r.here, ← as-candidate, yes) (sym (w.answer ∙ behind))

        after-kept : take k after ≡ take k chosen₀
        after-kept = kept-before chosen₀ chosen after k s.id w.before r.kept

        pub found-nothing : length after ≡ most_heads → o ≡ Nothing → Next after
        unfolding found_as
        found-nothing l z = next-one after after-kept l (found-is ∙ rw z refl)

        -- any other answer is the whole search's
        pub answer-found : (o ≡ Nothing → ⊥) → Ended o after e
        answer-found n =
            let first = ap (λ (x : Found). or_else x (tried q k before b₀ rest)) found-is in
            let won = wins o (take q.shape.heads after) e (tried q k before b₀ rest) n in
            record { answer = sym (first-one ∙ first ∙ won) ∙ r.same; before = after-kept }

-- ---- the active fact keeps its own place: with it among the chosen, the search from head `from` on is the one for the next partner

-- what follows once the active fact has its place
module _ {q : Quest} {chosen : List FactId} {left k : ℕ} (s : Placed q chosen left k) where
  -- the next partner's head stands before the active fact's place or behind it
  either-side : {P : Type 0} → (k < q.place.head → k + left + 1 ≡ q.shape.heads → P)
      → (q.place.head < k → k + left ≡ q.shape.heads → P) → P
  either-side {P} before behind = go (leb q.place.head k) refl
    where
      go : (x : Bool) → leb q.place.head k ≡ x → P
      go true e =
          let h : q.place.head ≤ k = leb-true _ _ e in
          let d = s.elsewhere in
          let l : q.place.head < k = omega (arith, d) in
          behind l (s.ready.behind l)
      go false e = let l : k < q.place.head = leb-false _ _ e in before l (s.ready.ahead (omega arith))

  -- no partner is left: the heads are through
  pub through : left ≡ 0 → k ≡ q.shape.heads
  through z = either-side (λ l e. omega (arith, s.ready.head_in)) (λ l e. omega arith)

  pub at-most : k ≤ q.shape.heads
  at-most = either-side (λ l e. omega arith) (λ l e. omega arith)

  module _ (some : left ≡ 0 → ⊥) where
    some-left : k < q.shape.heads
    some-left = either-side (λ l e. omega (arith, s.ready.head_in)) (λ l e. omega (arith, some))

    pub more-few : k < most_heads
    more-few = omega (arith, some-left, s.ready.few_heads)

    module _ {p : ℕ} (here : p ≡ head_of q k) where
      pub head-inside : p + size_of KeptHead ≤ length q.table.now
      head-inside = omega (arith, head-in q.shape s.ready.parts_in some-left)

      pub tries : {probe : Probe} {b : Binding} → Probing (head_at q.table.now p) b probe → Trying q left k p probe chosen chosen b b q.store.now
      unfolding tried try_one sought_of search candidate candidate_of
      tries {probe} {b} asks =
          let few = s.ready.few_heads in
          let first = heads-are q k chosen b s.whole few some-left in
          let count = chosen-count q k chosen b s.whole few some-left in
          record {
            placed = s;
            any_left = some;
            here = here;
            inside = head-inside;
            asks = asks;
            few_heads = few;
            more = some-left;
            kept = refl;
            whole = s.whole;
            unbound = refl;
            same = sym (rw (first, count, ne_eqb _ _ s.elsewhere, search) refl);
          }

module _ {q : Quest} {chosen : List FactId} {left from : ℕ} (r : Ready q chosen left from) (whole : length chosen ≡ most_heads) where
  pub from-few : from ≤ most_heads
  from-few = go (leb from q.place.head) refl
    where
      go : (x : Bool) → leb from q.place.head ≡ x → from ≤ most_heads
      go true e = omega (arith, r.ahead (leb-true _ _ e), r.few_heads)
      go false e = omega (arith, r.behind (leb-false _ _ e), r.few_heads)

  pub place-few : q.place.head < most_heads
  place-few = omega (arith, r.head_in, r.few_heads)

  module _ {k : ℕ} (ke : k ≡ partner_from from q.place.head) where
    -- the chosen facts with the active one at its place
    abbrev seated : List FactId
    seated = set chosen q.place.head q.active

    next-is : {x : Bool} → eqb from q.place.head ≡ x → k ≡ cond x (from + 1) from
    unfolding partner_from
    next-is e = ke ∙ ap (λ (y : Bool). cond y (from + 1) from) e

    pub seat : Placed q seated left k
    seat = go (eqb from q.place.head) refl
      where
        placed : (k ≡ q.place.head → ⊥) → (k ≤ q.place.head → k + left + 1 ≡ q.shape.heads)
            → (q.place.head < k → k + left ≡ q.shape.heads) → Placed q (set chosen q.place.head q.active) left k
        placed d ahead behind = record {
          elsewhere = d;
          whole = length-set chosen q.place.head q.active ∙ whole;
          ready = record {
            parts_in = r.parts_in;
            few_heads = r.few_heads;
            head_in = r.head_in;
            ahead = ahead;
            behind = behind;
            seated = λ h. get_or-set_same chosen q.place.head q.active nobody (omega (arith, place-few, whole));
          };
        }

        go : (x : Bool) → eqb from q.place.head ≡ x → Placed q (set chosen q.place.head q.active) left k
        go true e =
            let own : from ≡ q.place.head = eqb-true _ _ e in
            let n : k ≡ from + 1 = next-is e in
            placed (λ z. omega arith) (λ h. absurd (omega arith)) (λ h. omega (arith, r.ahead (omega arith)))
        go false e =
            let n : k ≡ from = next-is e in
            placed (λ z. eqb-false _ _ e (sym n ∙ z)) (λ h. omega (arith, r.ahead (omega arith))) (λ h. omega (arith, r.behind (omega arith)))

    kept-under : take from seated ≡ take from chosen
    kept-under = go (leb from q.place.head) refl
      where
        go : (x : Bool) → leb from q.place.head ≡ x → take from (set chosen q.place.head q.active) ≡ take from chosen
        go true e = take-set-le from chosen q.place.head q.active (leb-true _ _ e)
        go false e =
            let stands = sym (r.seated (leb-false _ _ e)) in
            ap (take from) (ap (set chosen q.place.head) stands ∙ set-get_or chosen q.place.head nobody)

    module _ (b : Binding) where
      abbrev sought_from : ℕ → List FactId → Found
      sought_from n l = sought_of q n (take n l) b

      same-sought : sought_from from chosen ≡ sought_from k seated
      same-sought = go (eqb from q.place.head) refl
        where
          go : (x : Bool) → eqb from q.place.head ≡ x → sought_from from chosen ≡ sought_from k seated
          go true e =
              let own : from ≡ q.place.head = eqb-true _ _ e in
              at-active q from chosen b whole r.few_heads (omega (arith, r.head_in)) own
              ∙ ap (λ (i : ℕ). sought_from (from + 1) (set chosen i q.active)) own
              ∙ ap (λ (i : ℕ). sought_from i seated) (sym (next-is e))
          go false e =
              ap (λ (l : List FactId). sought_of q from l b) (sym kept-under)
              ∙ ap (λ (i : ℕ). sought_from i seated) (sym (next-is e))

      -- the answer for the next partner is the whole search's
      pub seat-back : {o : Trial} {after : List FactId} {c : Binding} → Sought (sought_from k seated) o q.shape.heads k seated after c
          → Sought (sought_from from chosen) o q.shape.heads from chosen after c
      seat-back {o} {after} {c} s = record { answer = s.answer ∙ sym same-sought; before = go (eqb from q.place.head) refl ∙ kept-under }
        where
          go : (x : Bool) → eqb from q.place.head ≡ x → take from after ≡ take from (set chosen q.place.head q.active)
          go true e = take-less after (set chosen q.place.head q.active) from (rw (next-is e, add-one from) at s.before)
          go false e = rw (next-is e) at s.before

      pub judged-last : left ≡ 0 → {o : Trial}
          → found_as o (take k seated) b ≡ complete [] q.past.now q.place (rule_of q.table.now q.shape) q.active (take k seated) b
          → Sought (sought_from from chosen) o q.shape.heads from chosen seated b
      judged-last z e = seat-back (none-left q k seated b (through seat z) e)

-- ---- the active fact

module _ {q : Quest} {b₀ : Binding} (r : Posed q b₀) where
  abbrev first : Found
  first = first_instance q.store.now q.past.now q.place (rule_of q.table.now q.shape) q.active

  pub not-stored : stored_fact q.active q.store.now ≡ None → (chosen : List FactId) (b : Binding) → Answered first Nothing q.shape.heads chosen b
  unfolding first_instance found_as
  not-stored e chosen b = record { answer = sym (rw e refl) }

  pub ready-first : (chosen : List FactId) → Ready q chosen (q.shape.heads - 1) 0
  ready-first chosen = record {
    parts_in = r.parts_in;
    few_heads = r.few_heads;
    head_in = r.head_in;
    ahead = λ h. omega (arith, r.head_in);
    behind = λ h. absurd (omega arith);
    seated = λ h. absurd (omega arith);
  }

  module _ {p : ℕ} (here : p ≡ head_of q q.place.head) where
    pub own-head-in : p + size_of KeptHead ≤ length q.table.now
    own-head-in = omega (arith, head-in q.shape r.parts_in r.head_in)

    own-head : get_or (heads (rule_of q.table.now q.shape)) q.place.head no_head ≡ head_at q.table.now p
    own-head =
        ap (λ (l : List Head). get_or l q.place.head no_head) (rule-heads q.table.now q.shape r.kept_few)
        ∙ heads-at q.table.now (heads_start q.shape) q.shape.heads q.place.head no_head r.head_in
        ∙ ap (head_at q.table.now) (sym here)

    module _ {f : Fact} (e : stored_fact q.active q.store.now ≡ Some f) (ok : Bool) (b : Binding)
        (m : bound_if ok b ≡ match_head (head_at q.table.now p) f b₀) where
      begins : first ≡ from_active q.store.now q.past.now q.place (rule_of q.table.now q.shape) q.active (bound_if ok b)
      unfolding first_instance
      begins = rw (e, own-head, ← r.free, ← m) refl

      pub no-place : ok ≡ false → (chosen : List FactId) (c : Binding) → Answered first Nothing q.shape.heads chosen c
      unfolding found_as
      no-place n chosen c = record { answer = sym (begins ∙ rw n refl) }

      pub sought-first : ok ≡ true → {chosen₀ : List FactId} {o : Trial} {chosen : List FactId} {c : Binding}
          → Sought (sought_of q 0 (take 0 chosen₀) b) o q.shape.heads 0 chosen₀ chosen c → Answered first o q.shape.heads chosen c
      unfolding sought_of
      sought-first y {chosen₀} {o} {chosen} {c} s =
          let start : head_of q 0 ≡ heads_start q.shape = omega arith in
          let all : q.shape.heads - 0 ≡ q.shape.heads = omega arith in
          record { answer = s.answer ∙ sym (begins ∙ rw (y, rule-heads q.table.now q.shape r.kept_few, start, all) refl) }
