-- A state of the definition and a history T that keeps every firing, as the relation has it: what ties them together, and that each kind of step
-- keeps it. T and the definition's history, which holds rules without removed heads only and is pruned, differ by firings that name a fact which
-- has left the store; no instance names such a fact, since no identifier is given twice. So both know the same instances.
use Prim.Native.Nat.{ℕ, zero, suc, ◌≤◌, ◌<◌}
use native.Mathlib.Omega.{arith}
use mathlib.Core.Path.{◌≡◌, refl, sym, ◌∙◌, ap, subst}
use mathlib.Core.Bool.{Bool, true, false, not, ◌&&◌, ◌||◌}
use Rattle.std.specs.Prelude.{Option, Some, None}
use mathlib.Core.Logic.{◌⊎◌, inl, inr}
use mathlib.Core.List.{List, [], ◌∷◌, ◌++◌, Memᴰ}
use lib.IntN.{ℤ}
use lib.Dec.{eqb}
use lib.ListN.{length, get_or, drop, length-append, length-map}
use lib.Seq.{ext_get_or}
use borrow.Author.Tests.{eqb-true, eq-eqb}
use Rattle.model.specs.declared.FactId.{FactId}
use Rattle.model.specs.declared.Symbol.{Symbol}
use Rattle.model.specs.declared.RuleNumber.{RuleNumber}
use Rattle.model.specs.declared.Fact.{Fact}
use Rattle.model.specs.declared.Item.{Item}
use Rattle.model.specs.declared.Item.TheVariants.{Waiting, Active, Fail}
use Rattle.model.specs.declared.Entry.{Entry}
use Rattle.model.specs.declared.Stored.{Stored}
use Rattle.model.specs.declared.Binding.{Binding}
use Rattle.model.specs.declared.HeadPlace.{HeadPlace}
use Rattle.model.specs.Limits.{most_heads}
use Rattle.model.specs.Table.{Head, Table, BodyItem, body_fact, body_fail, heads, rule_at}
use Rattle.model.specs.declared.Fired.{Fired}
use Rattle.model.specs.Search.{same_id, is_among, nobody, four, fired_of, same_ids, same_fired, in_history}
use Rattle.model.specs.Steps.{State, argument_values, waiting_if, item_entry, cons_defined, body_entries, keep, without, names, pruned, remembered}
use Rattle.model.specs.Steps.{activated, advanced, dropped}
use Rattle.model.specs.Keeping.{kept_all}
use Rattle.model.proofs.Every.{every, every-weaken}
use Rattle.model.proofs.Lists.{every-snoc, every-mem, every-kept, OptionIs, and-left, and-right, not-true}
use Rattle.model.proofs.Sound.{ids_of, same-id}
use Rattle.model.proofs.Kept.{Rising, rising-within, rising-snoc, rising-keep}
use Rattle.model.proofs.Pruning.{same_ids-eq, Live, four-live, in_history-pruned}
use Rattle.semantics.specs.Instances.{HeadsAre, Matching, firing}
use Rattle.semantics.specs.Refined.{Without}
use Rattle.semantics.proofs.Occurrence.{same-stored}

-- ---- identifiers in lists

pub among-mem : (i : FactId) (is : List FactId) → Memᴰ i is → is_among i is ≡ true
unfolding is_among
among-mem i [] m = absurd (mathlib.Core.List.Memᴰ.not-nil m)
among-mem i (j ∷ is) m = go (mathlib.Core.List.Memᴰ.cases_cons m) (λ m. among-mem i is m)
  where
    or-true : (a b : Bool) → b ≡ true → (a || b) ≡ true
    or-true true b e = refl
    or-true false b e = e

    go : (i ≡ j) ⊎ Memᴰ i is → (Memᴰ i is → is_among i is ≡ true) → (same_id i j || is_among i is) ≡ true
    go (inl e) ih = rw (eq-eqb i.0 j.0 (ap (λ (x : FactId). x.0) e))
    go (inr m) ih = or-true (same_id i j) (is_among i is) (ih m)

mem-among : (i : FactId) (is : List FactId) → is_among i is ≡ true → Memᴰ i is
unfolding is_among
mem-among i [] e = absurd cc
mem-among i (j ∷ is) e = go (same_id i j) refl e (λ e. mem-among i is e)
  where
    go : (x : Bool) → same_id i j ≡ x → (x || is_among i is) ≡ true → (is_among i is ≡ true → Memᴰ i is) → Memᴰ i (j ∷ is)
    go true q e ih = mathlib.Core.List.Memᴰ.head (same-id i j q)
    go false q e ih = mathlib.Core.List.Memᴰ.tail (ih e)

pub ids-mem : (s : Stored) (ss : List Stored) → Memᴰ s ss → Memᴰ s.id (ids_of ss)
ids-mem s [] m = absurd (mathlib.Core.List.Memᴰ.not-nil m)
ids-mem s (x ∷ ss) m = go (mathlib.Core.List.Memᴰ.cases_cons m) (λ m. ids-mem s ss m)
  where
    go : (s ≡ x) ⊎ Memᴰ s ss → (Memᴰ s ss → Memᴰ s.id (ids_of ss)) → Memᴰ s.id (ids_of (x ∷ ss))
    go (inl e) ih = mathlib.Core.List.Memᴰ.head (ap (λ (y : Stored). y.id) e)
    go (inr m) ih = mathlib.Core.List.Memᴰ.tail (ih m)

mem-ids : (i : FactId) (ss : List Stored) → Memᴰ i (ids_of ss) → (s : Stored) × Memᴰ s ss × (s.id ≡ i)
mem-ids i [] m = absurd (mathlib.Core.List.Memᴰ.not-nil m)
mem-ids i (x ∷ ss) m = go (mathlib.Core.List.Memᴰ.cases_cons m) (λ m. mem-ids i ss m)
  where
    go : (i ≡ x.id) ⊎ Memᴰ i (ids_of ss) → (Memᴰ i (ids_of ss) → (s : Stored) × Memᴰ s ss × (s.id ≡ i))
        → (s : Stored) × Memᴰ s (x ∷ ss) × (s.id ≡ i)
    go (inl e) ih = (x, mathlib.Core.List.Memᴰ.head refl, sym e)
    go (inr m) ih = let r = ih m in (r.0, mathlib.Core.List.Memᴰ.tail r.1, r.2)

mem-drop : {A : Type 0} (n : ℕ) (l : List A) (x : A) → Memᴰ x (drop n l) → Memᴰ x l
mem-drop zero l x m = m
mem-drop (suc n) [] x m = m
mem-drop (suc n) (y ∷ l) x m = mathlib.Core.List.Memᴰ.tail (mem-drop n l x m)

-- ---- what `keep` leaves

keep-mem : {A : Type 0} (p : A → Bool) (l : List A) (x : A) → Memᴰ x (keep p l) → Memᴰ x l × (p x ≡ true)
unfolding keep
keep-mem p [] x m = absurd (mathlib.Core.List.Memᴰ.not-nil m)
keep-mem p (y ∷ l) x m = go (p y) refl m (λ m. keep-mem p l x m)
  where
    now : p y ≡ true → (x ≡ y) ⊎ Memᴰ x (keep p l) → (Memᴰ x (keep p l) → Memᴰ x l × (p x ≡ true)) → Memᴰ x (y ∷ l) × (p x ≡ true)
    now q (inl e) ih = (mathlib.Core.List.Memᴰ.head e, ap p e ∙ q)
    now q (inr m) ih = (mathlib.Core.List.Memᴰ.tail (ih m).0, (ih m).1)

    go : (b : Bool) → p y ≡ b → Memᴰ x (elim b [ true ↦ y ∷ keep p l | false ↦ keep p l ]) → (Memᴰ x (keep p l) → Memᴰ x l × (p x ≡ true))
        → Memᴰ x (y ∷ l) × (p x ≡ true)
    go true q m ih = now q (mathlib.Core.List.Memᴰ.cases_cons m) ih
    go false q m ih = (mathlib.Core.List.Memᴰ.tail (ih m).0, (ih m).1)

mem-keep : {A : Type 0} (p : A → Bool) (l : List A) (x : A) → Memᴰ x l → p x ≡ true → Memᴰ x (keep p l)
unfolding keep
mem-keep p [] x m e = absurd (mathlib.Core.List.Memᴰ.not-nil m)
mem-keep p (y ∷ l) x m e = go (p y) refl (mathlib.Core.List.Memᴰ.cases_cons m) (λ m. mem-keep p l x m e)
  where
    go : (b : Bool) → p y ≡ b → (x ≡ y) ⊎ Memᴰ x l → (Memᴰ x l → Memᴰ x (keep p l))
        → Memᴰ x (elim b [ true ↦ y ∷ keep p l | false ↦ keep p l ])
    go true q (inl e') ih = mathlib.Core.List.Memᴰ.head e'
    go true q (inr m) ih = mathlib.Core.List.Memᴰ.tail (ih m)
    go false q (inl e') ih = absurd (let f = ap p e' in cc)
    go false q (inr m) ih = ih m

-- ---- the store behind a firing

module _ (store H : List Stored) where
  left-mem : (s : Stored) → Memᴰ s (without (ids_of H) store) → Memᴰ s store × (not (is_among s.id (ids_of H)) ≡ true)
  unfolding without
  left-mem s m = keep-mem (λ (x : Stored). not (is_among x.id (ids_of H))) store s m

  -- what was removed has no identifier that is left
  pub left-other : (s x : Stored) → Memᴰ s (without (ids_of H) store) → Memᴰ x H → s.id.0 ≡ x.id.0 → ⊥
  left-other s x m n e =
      let i : s.id ≡ x.id = same-id s.id x.id (eq-eqb s.id.0 x.id.0 e) in
      let a : is_among s.id (ids_of H) ≡ true = subst (λ (j : FactId). is_among j (ids_of H) ≡ true) (sym i) (among-mem x.id (ids_of H) (ids-mem x H n)) in
      let b = not-true (is_among s.id (ids_of H)) (left-mem s m).1 in
      cc

  pub without-is : (hi : ℕ) → Rising 1 hi store → every (λ s. Memᴰ s store) H → Without H store (without (ids_of H) store)
  unfolding without
  without-is hi rising u = record {
    taken = λ s m. (left-mem s m).0;
    apart = λ s m n. left-other s s m n refl;
    left = λ s m n. mem-keep (λ (x : Stored). not (is_among x.id (ids_of H))) store s m (ap not (none s m n (is_among s.id (ids_of H)) refl));
  }
    where
      none : (s : Stored) → Memᴰ s store → (Memᴰ s H → ⊥) → (x : Bool) → is_among s.id (ids_of H) ≡ x → is_among s.id (ids_of H) ≡ false
      none s m n true e =
          let f = mem-ids s.id H (mem-among s.id (ids_of H) e) in
          let q : f.0 ≡ s
          = same-stored 1 hi store f.0 s rising (every-mem (λ s. Memᴰ s store) H u f.0 f.1) m (ap (λ (i : FactId). i.0) f.2) in
          absurd (n (subst (λ (y : Stored). Memᴰ y H) q f.1))
      none s m n false e = e

-- ---- a rule's four places tell its firings apart

four-same : (is js : List FactId) → length is ≡ length js → length is ≤ 4 → four is ≡ four js → is ≡ js
unfolding four
four-same is js n l e = ext_get_or nobody is js n at
  where
    at : (i : ℕ) → i < length is → get_or is i nobody ≡ get_or js i nobody
    at zero h = ap (λ (x : List FactId). get_or x 0 nobody) e
    at (suc zero) h = ap (λ (x : List FactId). get_or x 1 nobody) e
    at (suc (suc zero)) h = ap (λ (x : List FactId). get_or x 2 nobody) e
    at (suc (suc (suc zero))) h = ap (λ (x : List FactId). get_or x 3 nobody) e
    at (suc (suc (suc (suc i)))) h = absurd (omega arith)

pub in-history : (e : Fired) (ds : List Fired) → in_history e ds ≡ true → Memᴰ e ds
unfolding in_history same_fired
in-history e [] q = absurd cc
in-history e (d ∷ ds) q = go (same_fired d e) refl q (λ q. in-history e ds q)
  where
    go : (x : Bool) → same_fired d e ≡ x → (x || in_history e ds) ≡ true → (in_history e ds ≡ true → Memᴰ e ds) → Memᴰ e (d ∷ ds)
    go true s q ih =
        let a = eqb-true d.rule.0 e.rule.0 (and-left (eqb d.rule.0 e.rule.0) (same_ids d.ids e.ids) s) in
        let b = same_ids-eq d.ids e.ids (and-right (eqb d.rule.0 e.rule.0) (same_ids d.ids e.ids) s) in
        mathlib.Core.List.Memᴰ.head (λ i. record { rule = record { 0 = sym a i }; ids = sym b i })
    go false s q ih = mathlib.Core.List.Memᴰ.tail (ih q)

same-ids : (is : List FactId) → same_ids is is ≡ true
unfolding same_ids
same-ids [] = refl
same-ids (i ∷ is) = rw (eq-eqb i.0 i.0 refl) (same-ids is)

history-mem : (e : Fired) (ds : List Fired) → Memᴰ e ds → in_history e ds ≡ true
unfolding in_history same_fired
history-mem e [] m = absurd (mathlib.Core.List.Memᴰ.not-nil m)
history-mem e (d ∷ ds) m = go (mathlib.Core.List.Memᴰ.cases_cons m) (λ m. history-mem e ds m)
  where
    or-true : (a b : Bool) → b ≡ true → (a || b) ≡ true
    or-true true b e = refl
    or-true false b e = e

    go : (e ≡ d) ⊎ Memᴰ e ds → (Memᴰ e ds → in_history e ds ≡ true)
        → ((eqb d.rule.0 e.rule.0 && same_ids d.ids e.ids) || in_history e ds) ≡ true
    go (inl q) ih =
        let a = eq-eqb d.rule.0 e.rule.0 (ap (λ (f : Fired). f.rule.0) (sym q)) in
        let b = subst (λ (f : Fired). same_ids d.ids f.ids ≡ true) (sym q) (same-ids d.ids) in
        rw (a, b)
    go (inr m) ih = or-true (eqb d.rule.0 e.rule.0 && same_ids d.ids e.ids) (in_history e ds) (ih m)

-- ---- what ties a state to a history T

-- a firing of the definition's history is one of T
abbrev pub Noted : List Fired → Fired → Type 0
Noted T d = (u : Fired) × Memᴰ u T × (d ≡ fired_of u.rule u.ids)

-- a firing that names a fact which has left the store
pub record NamesGone (store : List Stored) (next : ℕ) (u : Fired) : Type 0 where
  pub id : FactId
  pub named : Memᴰ id u.ids
  pub given : id.0 < next
  pub gone : (s : Stored) → Memᴰ s store → s.id.0 ≡ id.0 → ⊥

-- a firing of T is one of the definition's history, unless it names such a fact
abbrev pub Accounted : List Fired → List Stored → ℕ → Fired → Type 0
Accounted history store next u = (in_history (fired_of u.rule u.ids) history ≡ true) ⊎ NamesGone store next u

abbrev pub ItemIs : ℕ → Symbol → Item → Type 0
ItemIs n s (Waiting f) = s ≡ f.symbol
ItemIs n s (Active i j) = i.0 < n
ItemIs n s Fail = Unit {0}

abbrev pub EntryIs : ℕ → Entry → Type 0
EntryIs n e = ItemIs n e.symbol e.item

-- as many identifiers as its rule has heads, all given
pub record Whole (t : Table) (next : ℕ) (u : Fired) : Type 0 where
  pub counted : length u.ids ≡ length (heads (rule_at t u.rule))
  pub given : every (λ (i : FactId). i.0 < next) u.ids

-- the definition's history holds rules without removed heads only
abbrev pub Keeps : Table → Fired → Type 0
Keeps t d = (rule_at t d.rule).removed ≡ []

pub record Follows (t : Table) (st : State) (T : List Fired) : Type 0 where
  pub rising : Rising 1 st.next st.store
  pub entries : every (EntryIs st.next) st.stack
  pub keeps : every (Keeps t) st.history
  pub noted : every (Noted T) st.history
  pub accounted : every (Accounted st.history st.store st.next) T
  pub whole : every (Whole t st.next) T

-- ---- both know the same instances

pub heads-count : (θ : Binding) (hs : List Head) (ss : List Stored) → HeadsAre θ hs ss → length ss ≡ length hs
heads-count θ [] [] m = refl
heads-count θ [] (s ∷ ss) m = absurd m
heads-count θ (h ∷ hs) [] m = absurd m
heads-count θ (h ∷ hs) (s ∷ ss) m = ap suc (heads-count θ hs ss m.1)

module _ (t : Table) (st : State) (T : List Fired) (k : Follows t st T) (p : HeadPlace) (i : FactId) (facts : List Stored) (θ : Binding)
    (m : Matching st.store p (rule_at t p.rule) i facts θ) where
  pub ids-count : length (ids_of facts) ≡ length (heads (rule_at t p.rule))
  ids-count = length-map facts (λ (s : Stored). s.id) ∙ heads-count θ (heads (rule_at t p.rule)) facts m.matched

  -- an instance of T is in the definition's history
  pub known-here : Memᴰ (firing p facts) T → in_history (fired_of p.rule (ids_of facts)) st.history ≡ true
  known-here n = go (every-mem (Accounted st.history st.store st.next) T k.accounted (firing p facts) n)
    where
      go : Accounted st.history st.store st.next (firing p facts) → in_history (fired_of p.rule (ids_of facts)) st.history ≡ true
      go (inl q) = q
      go (inr g) =
          let f = mem-ids g.id facts g.named in
          absurd (g.gone f.0 (every-mem (λ s. Memᴰ s st.store) facts m.stored f.0 f.1) (ap (λ (j : FactId). j.0) f.2))

  -- and one of the definition's history is in T
  pub known-there : length (heads (rule_at t p.rule)) ≤ most_heads → in_history (fired_of p.rule (ids_of facts)) st.history ≡ true
      → Memᴰ (firing p facts) T
  unfolding fired_of
  known-there few q =
      let d = every-mem (Noted T) st.history k.noted (fired_of p.rule (ids_of facts)) (in-history (fired_of p.rule (ids_of facts)) st.history q) in
      let u : Fired = d.0 in
      let a : p.rule ≡ u.rule = ap (λ (f : Fired). f.rule) d.2 in
      let c : four (ids_of facts) ≡ four u.ids = ap (λ (f : Fired). f.ids) d.2 in
      let w = every-mem (Whole t st.next) T k.whole u d.1 in
      let n : length (ids_of facts) ≡ length u.ids = ids-count ∙ ap (λ (x : RuleNumber). length (heads (rule_at t x))) a ∙ sym w.counted in
      let e : ids_of facts ≡ u.ids = four-same (ids_of facts) u.ids n (omega (arith, ids-count)) c in
      subst (λ (f : Fired). Memᴰ f T) (λ j. record { rule = sym a j; ids = sym e j }) d.1

-- ---- what a firing leaves of both histories

module _ (t : Table) (st : State) (T : List Fired) (k : Follows t st T) (p : HeadPlace) (i : FactId) (facts : List Stored) (θ : Binding)
    (m : Matching st.store p (rule_at t p.rule) i facts θ) where
  abbrev pub H : List Stored
  H = drop (length (rule_at t p.rule).kept) facts

  abbrev pub now : List Stored
  now = without (ids_of H) st.store

  H-stored : every (λ s. Memᴰ s st.store) H
  H-stored = every-drop-stored (length (rule_at t p.rule).kept) facts m.stored
    where
      every-drop-stored : (n : ℕ) (ss : List Stored) → every (λ s. Memᴰ s st.store) ss → every (λ s. Memᴰ s st.store) (drop n ss)
      every-drop-stored zero ss u = u
      every-drop-stored (suc n) [] u = tt
      every-drop-stored (suc n) (s ∷ ss) u = every-drop-stored n ss u.1

  stored-given : (s : Stored) → Memᴰ s st.store → (1 ≤ s.id.0) × (s.id.0 < st.next)
  stored-given s n = every-mem _ st.store (rising-within 1 st.next st.store k.rising) s n

  pub store-behind : Without H st.store now
  store-behind = without-is st.store H st.next k.rising H-stored

  pub rising-behind : Rising 1 st.next now
  unfolding without
  rising-behind = rising-keep (λ (s : Stored). not (is_among s.id (ids_of H))) 1 st.next st.store k.rising

  gone-later : (u : Fired) → NamesGone st.store st.next u → NamesGone now st.next u
  gone-later u g = record { id = g.id; named = g.named; given = g.given; gone = λ s n e. g.gone s (store-behind.taken s n) e }

  -- a fact of H is gone now
  names-gone : (u : Fired) (x : Stored) → Memᴰ x.id u.ids → Memᴰ x H → NamesGone now st.next u
  names-gone u x n h = record {
    id = x.id;
    named = n;
    given = (stored-given x (every-mem (λ s. Memᴰ s st.store) H H-stored x h)).1;
    gone = λ s l e. left-other st.store H s x l h e;
  }

  pub new-whole : Whole t st.next (firing p facts)
  new-whole = record { counted = ids-count t st T k p i facts θ m; given = all facts m.stored }
    where
      all : (ss : List Stored) → every (λ s. Memᴰ s st.store) ss → every (λ (j : FactId). j.0 < st.next) (ids_of ss)
      all [] u = tt
      all (s ∷ ss) u = ((stored-given s u.0).1, all ss u.1)

  abbrev pub after : List Head → List Fired
  after removed = remembered removed (fired_of p.rule (ids_of facts)) (ids_of H) st.history

  noted-later : (T' : List Fired) → ((u : Fired) → Memᴰ u T → Memᴰ u T') → every (Noted T') st.history
  noted-later T' h = every-weaken (Noted T) (Noted T') (λ d n. (n.0, h n.0 n.1, n.2)) st.history k.noted

  -- a rule with removed heads: what is pruned away was noted before
  noted-pruned : (h : Head) (hs : List Head) (T' : List Fired) → ((u : Fired) → Memᴰ u T → Memᴰ u T') → every (Noted T') (after (h ∷ hs))
  unfolding pruned
  noted-pruned h hs T' f = every-kept (Noted T') (λ (d : Fired). not (names d.ids (ids_of H))) st.history (noted-later T' f)

  noted-behind : (removed : List Head) → every (Noted (firing p facts ∷ T)) (after removed)
  noted-behind [] =
      every-snoc (Noted (firing p facts ∷ T)) st.history (fired_of p.rule (ids_of facts))
      (noted-later (firing p facts ∷ T) (λ u n. mathlib.Core.List.Memᴰ.tail n))
      (firing p facts, mathlib.Core.List.Memᴰ.head refl, refl)
  noted-behind (h ∷ hs) = noted-pruned h hs (firing p facts ∷ T) (λ u n. mathlib.Core.List.Memᴰ.tail n)

  -- whether a list of identifiers names a fact of H
  names-mem : (is : List FactId) → names is (ids_of H) ≡ true → (x : Stored) × Memᴰ x.id is × Memᴰ x H
  unfolding names
  names-mem [] e = absurd cc
  names-mem (j ∷ is) e = go (is_among j (ids_of H)) refl e (λ e. names-mem is e)
    where
      go : (x : Bool) → is_among j (ids_of H) ≡ x → (x || names is (ids_of H)) ≡ true
          → (names is (ids_of H) ≡ true → (x : Stored) × Memᴰ x.id is × Memᴰ x H)
          → (x : Stored) × Memᴰ x.id (j ∷ is) × Memᴰ x H
      go true q e ih = let f = mem-ids j H (mem-among j (ids_of H) q) in (f.0, mathlib.Core.List.Memᴰ.head f.2, f.1)
      go false q e ih = let f = ih e in (f.0, mathlib.Core.List.Memᴰ.tail f.1, f.2)

  names-live : (is : List FactId) → names is (ids_of H) ≡ false → every (Live (ids_of H)) is
  unfolding names
  names-live [] e = tt
  names-live (j ∷ is) e = (left (is_among j (ids_of H)) e, names-live is (right (is_among j (ids_of H)) e))
    where
      left : (x : Bool) → (x || names is (ids_of H)) ≡ false → x ≡ false
      left true e = e
      left false e = refl

      right : (x : Bool) → (x || names is (ids_of H)) ≡ false → names is (ids_of H) ≡ false
      right true e = absurd cc
      right false e = e

  pub nobody-live : Live (ids_of H) nobody
  nobody-live = go (is_among nobody (ids_of H)) refl
    where
      go : (x : Bool) → is_among nobody (ids_of H) ≡ x → is_among nobody (ids_of H) ≡ false
      go true e =
          let f = mem-ids nobody H (mem-among nobody (ids_of H) e) in
          absurd (omega (arith, (stored-given f.0 (every-mem (λ s. Memᴰ s st.store) H H-stored f.0 f.1)).0, ap (λ (j : FactId). j.0) f.2))
      go false e = e

  history-snoc : (e d : Fired) → in_history e st.history ≡ true → in_history e (st.history ++ (d ∷ [])) ≡ true
  history-snoc e d q = history-mem e (st.history ++ (d ∷ [])) (grow st.history (in-history e st.history q))
    where
      grow : (ds : List Fired) → Memᴰ e ds → Memᴰ e (ds ++ (d ∷ []))
      grow [] m = absurd (mathlib.Core.List.Memᴰ.not-nil m)
      grow (x ∷ ds) m = more (mathlib.Core.List.Memᴰ.cases_cons m) (λ m. grow ds m)
        where
          more : (e ≡ x) ⊎ Memᴰ e ds → (Memᴰ e ds → Memᴰ e (ds ++ (d ∷ []))) → Memᴰ e (x ∷ (ds ++ (d ∷ [])))
          more (inl q) ih = mathlib.Core.List.Memᴰ.head q
          more (inr m) ih = mathlib.Core.List.Memᴰ.tail (ih m)

  -- the firings of T before it
  accounted-behind : (removed : List Head) → every (Accounted (after removed) now st.next) T
  unfolding fired_of
  accounted-behind removed =
      every-weaken (Accounted st.history st.store st.next) (Accounted (after removed) now st.next) (λ u a. go removed u a) T k.accounted
    where
      cut : (h : Head) (hs : List Head) (u : Fired) (x : Bool) → names u.ids (ids_of H) ≡ x → in_history (fired_of u.rule u.ids) st.history ≡ true
          → Accounted (after (h ∷ hs)) now st.next u
      cut h hs u true n q = let f = names-mem u.ids n in inr (names-gone u f.0 f.1 f.2)
      cut h hs u false n q =
          inl (in_history-pruned (ids_of H) (fired_of u.rule u.ids) (four-live (ids_of H) u.ids nobody-live (names-live u.ids n)) st.history ∙ q)

      go : (removed : List Head) (u : Fired) → Accounted st.history st.store st.next u → Accounted (after removed) now st.next u
      go removed u (inr g) = inr (gone-later u g)
      go [] u (inl q) = inl (history-snoc (fired_of u.rule u.ids) (fired_of p.rule (ids_of facts)) q)
      go (h ∷ hs) u (inl q) = cut h hs u (names u.ids (ids_of H)) refl q

  -- and the new one
  new-gone : (h : Head) (hs : List Head) → (rule_at t p.rule).removed ≡ h ∷ hs → NamesGone now st.next (firing p facts)
  new-gone h hs e =
      let f = first (length (rule_at t p.rule).kept) facts (longer e) in
      names-gone (firing p facts) f.0 (ids-mem f.0 facts (mem-drop (length (rule_at t p.rule).kept) facts f.0 f.1)) f.1
    where
      longer : (rule_at t p.rule).removed ≡ h ∷ hs → length (rule_at t p.rule).kept < length facts
      longer e =
          omega (
            arith,
            heads-count θ (heads (rule_at t p.rule)) facts m.matched,
            length-append (rule_at t p.rule).kept (rule_at t p.rule).removed,
            ap length e,
          )

      first : (n : ℕ) (ss : List Stored) → n < length ss → (x : Stored) × Memᴰ x (drop n ss)
      first zero [] l = absurd (omega arith)
      first zero (x ∷ ss) l = (x, mathlib.Core.List.Memᴰ.head refl)
      first (suc n) [] l = absurd (omega arith)
      first (suc n) (x ∷ ss) l = first n ss (omega arith)

  new-accounted : (removed : List Head) → (rule_at t p.rule).removed ≡ removed → Accounted (after removed) now st.next (firing p facts)
  new-accounted [] e = inl (history-mem (fired_of p.rule (ids_of facts)) (st.history ++ (fired_of p.rule (ids_of facts) ∷ [])) (last st.history))
    where
      last : (ds : List Fired) → Memᴰ (fired_of p.rule (ids_of facts)) (ds ++ (fired_of p.rule (ids_of facts) ∷ []))
      last [] = mathlib.Core.List.Memᴰ.head refl
      last (d ∷ ds) = mathlib.Core.List.Memᴰ.tail (last ds)
  new-accounted (h ∷ hs) e = inr (new-gone h hs e)

  keeps-behind : (removed : List Head) → (rule_at t p.rule).removed ≡ removed → every (Keeps t) (after removed)
  unfolding pruned fired_of
  keeps-behind [] e = every-snoc (Keeps t) st.history (fired_of p.rule (ids_of facts)) k.keeps e
  keeps-behind (h ∷ hs) e = every-kept (Keeps t) (λ (d : Fired). not (names d.ids (ids_of H))) st.history k.keeps

  -- a history that the definition may have behind the firing: the pruned one, or one that keeps all of the rules without removed heads
  pub record Behind (history : List Fired) : Type 0 where
    pub keeps : every (Keeps t) history
    pub noted : every (Noted (firing p facts ∷ T)) history
    pub accounted : every (Accounted history now st.next) (firing p facts ∷ T)

  pub pruned-behind : (removed : List Head) → (rule_at t p.rule).removed ≡ removed → Behind (after removed)
  pruned-behind removed e = record {
    keeps = keeps-behind removed e;
    noted = noted-behind removed;
    accounted = (new-accounted removed e, accounted-behind removed);
  }

  pub kept-behind : (removed : List Head) → (rule_at t p.rule).removed ≡ removed
      → Behind (kept_all removed (fired_of p.rule (ids_of facts)) (ids_of H) st.history)
  kept-behind [] e = pruned-behind [] e
  kept-behind (h ∷ hs) e = record {
    keeps = k.keeps;
    noted = noted-later (firing p facts ∷ T) (λ u n. mathlib.Core.List.Memᴰ.tail n);
    accounted = (
      inr (new-gone h hs e),
      every-weaken (Accounted st.history st.store st.next) (Accounted st.history now st.next) later T k.accounted,
    );
  }
    where
      later : (u : Fired) → Accounted st.history st.store st.next u → Accounted st.history now st.next u
      later u (inl q) = inl q
      later u (inr g) = inr (gone-later u g)

-- ---- a body's entries wait or fail

cons-entries : (P : Entry → Type 0) (a : Option Entry) (o : Option (List Entry)) → OptionIs P a → OptionIs (every P) o → OptionIs (every P) (cons_defined a o)
cons-entries P None o u v = tt
cons-entries P (Some e) None u v = tt
cons-entries P (Some e) (Some es) u v = (u, v)

item-entry : (n : ℕ) (b : Binding) (item : BodyItem) → OptionIs (EntryIs n) (item_entry b item)
unfolding item_entry
item-entry n b body_fail = tt
item-entry n b (body_fact s es) = go (argument_values b es)
  where
    go : (v : Option (List ℤ)) → OptionIs (EntryIs n) (waiting_if s v)
    go None = tt
    go (Some vs) = refl

pub body-entries : (n : ℕ) (b : Binding) (items : List BodyItem) → OptionIs (every (EntryIs n)) (body_entries b items)
unfolding body_entries
body-entries n b [] = tt
body-entries n b (i ∷ items) = cons-entries (EntryIs n) (item_entry b i) (body_entries b items) (item-entry n b i) (body-entries n b items)

-- ---- the steps that are no firing

item-later : (n : ℕ) (s : Symbol) (i : Item) → ItemIs n s i → ItemIs (suc n) s i
item-later n s (Waiting f) u = u
item-later n s (Active i j) u = omega (arith, u)
item-later n s Fail u = u

whole-later : (t : Table) (n : ℕ) (u : Fired) → Whole t n u → Whole t (suc n) u
whole-later t n u w = record {
  counted = w.counted;
  given = every-weaken (λ (i : FactId). i.0 < n) (λ (i : FactId). i.0 < suc n) (λ i l. omega (arith, l)) u.ids w.given;
}

module _ (t : Table) (st : State) (T : List Fired) (k : Follows t st T) (e : Entry) (es : List Entry) (entries : every (EntryIs st.next) (e ∷ es)) where
  pub activated-follows : (f : Fact) → Follows t (activated st e es f) T
  unfolding activated
  activated-follows f =
      let new : Stored = record { id = record { 0 = st.next }; fact = f } in
      record {
        rising = rising-snoc 1 st.next st.store new refl k.rising;
        entries = (
          omega arith,
          every-weaken (EntryIs st.next) (EntryIs (suc st.next)) (λ x u. item-later st.next x.symbol x.item u) es entries.1,
        );
        keeps = k.keeps;
        noted = k.noted;
        accounted = every-weaken (Accounted st.history st.store st.next)
            (Accounted st.history (st.store ++ (new ∷ [])) (suc st.next)) later T k.accounted;
        whole = every-weaken (Whole t st.next) (Whole t (suc st.next)) (whole-later t st.next) T k.whole;
      }
    where
      other : (u : Fired) (g : NamesGone st.store st.next u) (s : Stored)
          → Memᴰ s st.store ⊎ Memᴰ s (record { id = record { 0 = st.next }; fact = f } ∷ []) → s.id.0 ≡ g.id.0 → ⊥
      other u g s (inl m) e = g.gone s m e
      other u g s (inr m) e = omega (arith, g.given, ap (λ (x : Stored). x.id.0) (mathlib.Core.List.Memᴰ.eq_of_singleton m))

      later : (u : Fired) → Accounted st.history st.store st.next u
          → Accounted st.history (st.store ++ (record { id = record { 0 = st.next }; fact = f } ∷ [])) (suc st.next) u
      later u (inl h) = inl h
      later u (inr g) =
          inr
          (record {
            id = g.id;
            named = g.named;
            given = omega (arith, g.given);
            gone = λ s m e. other u g s (mathlib.Core.List.Memᴰ.append_cases st.store m) e;
          })

  pub dropped-follows : Follows t (dropped st es) T
  unfolding dropped
  dropped-follows = record { rising = k.rising; entries = entries.1; keeps = k.keeps; noted = k.noted; accounted = k.accounted; whole = k.whole }

  pub advanced-follows : (i : FactId) (j : ℕ) → i.0 < st.next → Follows t (advanced st e es i j) T
  unfolding advanced
  advanced-follows i j l = record {
    rising = k.rising;
    entries = (l, entries.1);
    keeps = k.keeps;
    noted = k.noted;
    accounted = k.accounted;
    whole = k.whole;
  }
