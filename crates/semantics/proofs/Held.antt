-- The definition's history is what document 01's holds of all firings: as lists, oldest first and in the four-place form. At the start both are
-- empty. A fact that enters has a new identifier, so that no firing names it; a firing of a rule without removed heads is put down in both; one that
-- removes facts prunes the definition's history, and the firings that name one of them are no longer held.
use Prim.Native.Nat.{ℕ, ◌≤◌, ◌<◌}
use native.Mathlib.Omega.{arith}
use mathlib.Core.Path.{◌≡◌, refl, sym, ◌∙◌, ap}
use mathlib.Core.Bool.{Bool, true, false, not, ◌&&◌, ◌||◌}
use mathlib.Core.List.{List, [], ◌∷◌, ◌++◌, Memᴰ}
use lib.ListN.{length, drop, length-append}
use lib.Seq.{drop-length}
use borrow.Author.Tests.{ne_eqb}
use Rattle.model.specs.declared.FactId.{FactId}
use Rattle.model.specs.declared.RuleNumber.{RuleNumber}
use Rattle.model.specs.declared.Fact.{Fact}
use Rattle.model.specs.declared.Item.{Item}
use Rattle.model.specs.declared.Entry.{Entry}
use Rattle.model.specs.declared.Stored.{Stored}
use Rattle.model.specs.declared.Binding.{Binding}
use Rattle.model.specs.declared.HeadPlace.{HeadPlace}
use Rattle.model.specs.Limits.{most_heads}
use Rattle.model.specs.Table.{Head, Rule, Table, heads, no_rule, rule_at}
use Rattle.model.specs.declared.Fired.{Fired}
use Rattle.model.specs.Search.{same_id, is_among, nobody, four, fired_of}
use Rattle.model.specs.Steps.{State, keep, without, names, pruned, prunes, step_item}
use Rattle.model.proofs.Every.{every, every-weaken}
use Rattle.model.proofs.Lists.{every-get_d, map-snoc, keep-snoc, keep-keep}
use Rattle.model.proofs.Sound.{ids_of, same-id}
use Rattle.model.proofs.Pruning.{is_among-append, Live}
use Rattle.semantics.specs.Instances.{Matching, firing}
use Rattle.semantics.specs.Chosen.{removes_none, are_among, is_held, held}
use Rattle.semantics.proofs.Following.{among-mem, ids-mem, Whole, Follows, heads-count, nobody-live, now, after, pruned-behind}
use Rattle.semantics.proofs.Steps.{FewHeads, Knows, Taken, item-taken}

-- oldest first, each with four places
abbrev pub written : List Fired → List Fired
written [] = []
written (u ∷ us) = written us ++ (fired_of u.rule u.ids ∷ [])

written-length : (us : List Fired) → length (written us) ≡ length us
written-length [] = refl
written-length (u ∷ us) = simp length-append (omega (arith, written-length us))

-- store, history and T: the history is what document 01's holds of T
abbrev pub Held : Table → Knows
Held t S history T = history ≡ written (held t S T)

-- so both have the same length
pub held-length : (t : Table) (S : List Stored) (history T : List Fired) → Held t S history T → length history ≡ length (held t S T)
held-length t S history T h = ap length h ∙ written-length (held t S T)

-- ---- lists

module _ {A : Type 0} (p : A → Bool) where
  keep-by : (q : A → Bool) (xs : List A) → every (λ x. p x ≡ q x) xs → keep p xs ≡ keep q xs
  unfolding keep
  keep-by q [] u = refl
  keep-by q (x ∷ xs) u =
      ap (λ (b : Bool). elim b [ true ↦ x ∷ keep p xs | false ↦ keep p xs ]) u.0
      ∙ ap (λ (l : List A). elim (q x) [ true ↦ x ∷ l | false ↦ l ]) (keep-by q xs u.1)

  keep-all : (xs : List A) → ((x : A) → p x ≡ true) → keep p xs ≡ xs
  unfolding keep
  keep-all [] h = refl
  keep-all (x ∷ xs) h = rw (h x, keep) (ap (λ l. x ∷ l) (keep-all xs h))

  keep-snoc-not : (xs : List A) (y : A) → p y ≡ false → keep p (xs ++ (y ∷ [])) ≡ keep p xs
  unfolding keep
  keep-snoc-not [] y q = rw (q, keep)
  keep-snoc-not (x ∷ xs) y q = ap (λ (l : List A). elim (p x) [ true ↦ x ∷ l | false ↦ l ]) (keep-snoc-not xs y q)

abbrev as_written : (Fired → Bool) → Fired → Bool
as_written p u = p (fired_of u.rule u.ids)

written-keep : (p : Fired → Bool) (us : List Fired) → keep p (written us) ≡ written (keep (as_written p) us)
unfolding keep
written-keep p [] = refl
written-keep p (u ∷ us) = go (as_written p u) refl (written-keep p us)
  where
    go : (b : Bool) → as_written p u ≡ b → keep p (written us) ≡ written (keep (as_written p) us)
        → keep p (written us ++ (fired_of u.rule u.ids ∷ []))
        ≡ written (elim b [ true ↦ u ∷ keep (as_written p) us | false ↦ keep (as_written p) us ])
    go true e ih = keep-snoc p (written us) (fired_of u.rule u.ids) e ∙ ap (λ (l : List Fired). l ++ (fired_of u.rule u.ids ∷ [])) ih
    go false e ih = keep-snoc-not p (written us) (fired_of u.rule u.ids) e ∙ ih

-- ---- which firings are held of a store

held-by : (t : Table) (S S' : List Stored) (T : List Fired) → every (λ (u : Fired). are_among u.ids (ids_of S) ≡ are_among u.ids (ids_of S')) T
    → held t S T ≡ held t S' T
unfolding held is_held
held-by t S S' T h =
    keep-by (is_held t S) (is_held t S') T
    (every-weaken (λ (u : Fired). are_among u.ids (ids_of S) ≡ are_among u.ids (ids_of S')) (λ (u : Fired). is_held t S u ≡ is_held t S' u)
    (λ u e. ap (λ (x : Bool). removes_none (rule_at t u.rule).removed && x) e) T h)

held-cons : (t : Table) (S : List Stored) (u : Fired) (T : List Fired) (x : Bool) → is_held t S u ≡ x
    → held t S (u ∷ T) ≡ elim x [ true ↦ u ∷ held t S T | false ↦ held t S T ]
unfolding held keep
held-cons t S u T x e = ap (λ (b : Bool). elim b [ true ↦ u ∷ held t S T | false ↦ held t S T ]) e

-- the new identifier is none of those given before
among-new : (n : ℕ) (S : List Stored) (new : Stored) → new.id.0 ≡ n → (is : List FactId) → every (λ (i : FactId). i.0 < n) is
    → are_among is (ids_of S) ≡ are_among is (ids_of (S ++ (new ∷ [])))
unfolding are_among is_among
among-new n S new e [] u = refl
among-new n S new e (i ∷ is) u =
    ap (λ (x : Bool). x && are_among is (ids_of S)) one ∙ ap (λ (x : Bool). is_among i (ids_of (S ++ (new ∷ []))) && x) (among-new n S new e is u.1)
  where
    or-none : (x : Bool) → (x || false) ≡ x
    or-none true = refl
    or-none false = refl

    one : is_among i (ids_of S) ≡ is_among i (ids_of (S ++ (new ∷ [])))
    one =
        let d : same_id i new.id ≡ false = ne_eqb i.0 new.id.0 (λ (q : i.0 ≡ new.id.0). omega (arith, u.0, q, e)) in
        sym (ap (is_among i) (map-snoc (λ (s : Stored). s.id) S new) ∙ is_among-append i (ids_of S) (new.id ∷ []) ∙ rw d (or-none (is_among i (ids_of S))))

-- facts of a store
among-all : (S ss : List Stored) → every (λ s. Memᴰ s S) ss → are_among (ids_of ss) (ids_of S) ≡ true
unfolding are_among
among-all S [] u = refl
among-all S (s ∷ ss) u = rw (among-mem s.id (ids_of S) (ids-mem s S u.0)) (among-all S ss u.1)

without-nil : (S : List Stored) → without [] S ≡ S
unfolding without is_among
without-nil S = keep-all (λ (s : Stored). not (is_among s.id [])) S (λ s. refl)

-- what is left of a store
among-left : (gone : List FactId) (S : List Stored) (i : FactId) → is_among i (ids_of (without gone S)) ≡ (is_among i (ids_of S) && not (is_among i gone))
unfolding without keep is_among
among-left gone [] i = refl
among-left gone (s ∷ S) i = go (is_among s.id gone) (same_id i s.id) refl refl (among-left gone S i)
  where
    and-false : (x : Bool) → (x && false) ≡ false
    and-false true = refl
    and-false false = refl

    same : (g : Bool) → is_among s.id gone ≡ g → same_id i s.id ≡ true → is_among i gone ≡ g
    same g e q = ap (λ (j : FactId). is_among j gone) (same-id i s.id q) ∙ e

    go : (g x : Bool) → is_among s.id gone ≡ g → same_id i s.id ≡ x
        → is_among i (ids_of (without gone S)) ≡ (is_among i (ids_of S) && not (is_among i gone))
        → is_among i (ids_of (elim (not g) [ true ↦ s ∷ without gone S | false ↦ without gone S ])) ≡ ((x || is_among i (ids_of S)) && not (is_among i gone))
    go true true e q ih = ih ∙ rw (same true e q) (and-false (is_among i (ids_of S)))
    go true false e q ih = ih
    go false true e q ih = rw (q, same false e q)
    go false false e q ih = rw q ih

are-among-left : (gone : List FactId) (S : List Stored) (is : List FactId)
    → are_among is (ids_of (without gone S)) ≡ (are_among is (ids_of S) && not (names is gone))
unfolding are_among names
are-among-left gone S [] = refl
are-among-left gone S (i ∷ is) =
    ap (λ (x : Bool). x && are_among is (ids_of (without gone S))) (among-left gone S i)
    ∙ ap (λ (x : Bool). (is_among i (ids_of S) && not (is_among i gone)) && x) (are-among-left gone S is)
    ∙ shuffle (is_among i (ids_of S)) (is_among i gone) (are_among is (ids_of S)) (names is gone)
  where
    shuffle : (a x b y : Bool) → ((a && not x) && (b && not y)) ≡ ((a && b) && not (x || y))
    shuffle false x b y = refl
    shuffle true true true y = refl
    shuffle true true false y = refl
    shuffle true false true y = refl
    shuffle true false false y = refl

-- the four places name what the identifiers name
names-four : (gone : List FactId) → Live gone nobody → (is : List FactId) → length is ≤ 4 → names (four is) gone ≡ names is gone
unfolding four names
names-four gone n [] l = rw n
names-four gone n (a ∷ []) l = rw n
names-four gone n (a ∷ b ∷ []) l = rw n
names-four gone n (a ∷ b ∷ c ∷ []) l = rw n
names-four gone n (a ∷ b ∷ c ∷ d ∷ []) l = refl
names-four gone n (a ∷ b ∷ c ∷ d ∷ e ∷ is) l = absurd (omega (arith, l))

-- ---- the four steps

few-at : (t : Table) → FewHeads t → (n : RuleNumber) → length (heads (rule_at t n)) ≤ most_heads
unfolding rule_at
few-at t few n = every-get_d (λ (r : Rule). length (heads r) ≤ most_heads) t.rules n.0 no_rule few (omega arith)

module _ (t : Table) (few : FewHeads t) (st : State) (T : List Fired) (k : Follows t st T) (h : Held t st.store st.history T) where
  pub entered-held : (f : Fact) → Held t (st.store ++ (record { id = record { 0 = st.next }; fact = f } ∷ [])) st.history T
  entered-held f =
      let new : Stored = record { id = record { 0 = st.next }; fact = f } in
      h ∙ ap written (held-by t st.store (st.store ++ (new ∷ [])) T
      (every-weaken (Whole t st.next) (λ (u : Fired). are_among u.ids (ids_of st.store) ≡ are_among u.ids (ids_of (st.store ++ (new ∷ []))))
      (λ u w. among-new st.next st.store new refl u.ids w.given) T k.whole))

  module _ (p : HeadPlace) (i : FactId) (facts : List Stored) (b : Binding) (w : Matching st.store p (rule_at t p.rule) i facts b) where
    abbrev H : List Stored
    H = drop (length (rule_at t p.rule).kept) facts

    -- what is pruned away of T is no longer held
    pruned-held : pruned (ids_of H) st.history ≡ written (held t (now t st T k p i facts b w) T)
    unfolding pruned held is_held fired_of
    pruned-held =
        let stays : Fired → Bool = λ u. not (names u.ids (ids_of H)) in
        let both : Fired → Bool = λ u. is_held t st.store u && as_written stays u in
        ap (pruned (ids_of H)) h ∙ written-keep stays (held t st.store T)
        ∙ ap written (keep-keep (as_written stays) (is_held t st.store) both (λ u. refl) T
        ∙ keep-by both (is_held t (now t st T k p i facts b w)) T
        (every-weaken (Whole t st.next) (λ (u : Fired). both u ≡ is_held t (now t st T k p i facts b w) u) one T k.whole))
      where
        and-assoc : (a b c : Bool) → ((a && b) && c) ≡ (a && (b && c))
        and-assoc true b c = refl
        and-assoc false b c = refl

        one : (u : Fired) → Whole t st.next u
            → (is_held t st.store u && not (names (fired_of u.rule u.ids).ids (ids_of H))) ≡ is_held t (now t st T k p i facts b w) u
        one u o =
            let none : Bool = removes_none (rule_at t u.rule).removed in
            let f = names-four (ids_of H) (nobody-live t st T k p i facts b w) u.ids (omega (arith, o.counted, few-at t few u.rule)) in
            ap (λ (x : Bool). is_held t st.store u && not x) f ∙ and-assoc none (are_among u.ids (ids_of st.store)) (not (names u.ids (ids_of H)))
            ∙ ap (λ (x : Bool). none && x) (sym (are-among-left (ids_of H) st.store u.ids))

    module _ (e : (rule_at t p.rule).removed ≡ []) where
      -- without removed heads the store stays
      store-same : now t st T k p i facts b w ≡ st.store
      store-same =
          let n : length (rule_at t p.rule).kept ≡ length facts
          = omega (
            arith,
            heads-count b (heads (rule_at t p.rule)) facts w.matched,
            length-append (rule_at t p.rule).kept (rule_at t p.rule).removed,
            ap length e,
          ) in
          ap (λ (l : List Stored). without (ids_of l) st.store) (ap (λ (m : ℕ). drop m facts) n ∙ drop-length facts) ∙ without-nil st.store

      new-held : is_held t (now t st T k p i facts b w) (firing p facts) ≡ true
      unfolding is_held
      new-held = rw (e, store-same) (among-all st.store facts w.stored)

    not-held : (x : Head) (hs : List Head) → (rule_at t p.rule).removed ≡ x ∷ hs → is_held t (now t st T k p i facts b w) (firing p facts) ≡ false
    unfolding is_held
    not-held x hs e = rw e

    pub behind-held : (removed : List Head) → (rule_at t p.rule).removed ≡ removed
        → Held t (now t st T k p i facts b w) (after t st T k p i facts b w removed) (firing p facts ∷ T)
    behind-held [] e =
        ap (λ (l : List Fired). l ++ (fired_of p.rule (ids_of facts) ∷ [])) h
        ∙ sym (ap written (held-cons t (now t st T k p i facts b w) (firing p facts) T true (new-held e)
        ∙ ap (λ (S : List Stored). firing p facts ∷ held t S T) (store-same e)))
    behind-held (x ∷ hs) e = pruned-held ∙ sym (ap written (held-cons t (now t st T k p i facts b w) (firing p facts) T false (not-held x hs e)))

-- ---- so each step of the definition keeps it

pub start-held : (t : Table) → Held t [] [] []
unfolding held keep
start-held t = refl

module _ (t : Table) (few : FewHeads t) (st : State) (T : List Fired) (k : Follows t st T) (e : Entry) (es : List Entry) (q : st.stack ≡ e ∷ es)
    (h : Held t st.store st.history T) where
  pub step-held : (it : Item) → e.item ≡ it → Taken t (Held t) st T prunes (step_item t st e es it)
  step-held = item-taken t few st T k e es q (Held t) prunes (record {
    here = h;
    entered = entered-held t few st T k h;
    behind = λ p i facts b w. pruned-behind t st T k p i facts b w (rule_at t p.rule).removed refl;
    known = λ p i facts b w. behind-held t few st T k h p i facts b w (rule_at t p.rule).removed refl;
  })
