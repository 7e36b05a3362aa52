-- What the search finds at an occurrence, said of instances: the ways to complete the empty choice are the instances. So `first_instance` says
-- `nothing` only if each instance is in the history or has a false guard, and otherwise finds the first that is not.
use Prim.Native.Nat.{ℕ, zero, suc, ◌+◌, ◌-◌, ◌≤◌, ◌<◌}
use native.Mathlib.Omega.{arith}
use mathlib.Core.Path.{◌≡◌, refl, sym, ◌∙◌, ap, subst}
use mathlib.Core.Bool.{Bool, true, false, ◌||◌}
use Rattle.std.specs.Prelude.{Option, Some, None, slice_get}
use mathlib.Core.Logic.{◌⊎◌, inl, inr}
use mathlib.Core.List.Memᴰ
use mathlib.Core.List.{List, [], ◌∷◌, ◌++◌, Memᴰ}
use lib.Dec.{eqb, ltb}
use lib.ListN.{length, get_or}
use borrow.Author.Tests.{eqb-true, eqb-false, eq-eqb, ne_eqb, ltb-true, ltb-false}
use Rattle.model.specs.declared.FactId.{FactId}
use Rattle.model.specs.declared.Fact.{Fact}
use Rattle.model.specs.declared.Stored.{Stored}
use Rattle.model.specs.declared.Binding.{Binding}
use Rattle.model.specs.declared.HeadPlace.{HeadPlace}
use Rattle.model.specs.Table.{Head, Rule, heads}
use Rattle.model.specs.Guards.{unbound}
use Rattle.model.specs.Matching.{match_head}
use Rattle.model.specs.declared.Fired.{Fired}
use Rattle.model.specs.Search.{same_id, is_among, fact_if, stored_fact, may_stand, no_head, search, from_active, with_active, first_instance}
use Rattle.model.proofs.Every.{every, every-weaken, every-both}
use Rattle.model.proofs.Lists.{every-mem, or-both, or-false-left, or-false-right, OptionIs}
use Rattle.model.proofs.Sound.{Differs, Distinct, ids_of, same-id, stored-is, stands-other, stands-anew}
use Rattle.model.proofs.Kept.{Rising, rising-within}
use Rattle.model.proofs.Pruning.{is_among-append}
use Rattle.semantics.specs.Instances.{HeadIs, HeadsAre, Matching}
use Rattle.semantics.proofs.Match.{Sized, unbound-part, Extends, Matched, head-matched}
use Rattle.semantics.proofs.Found.{Verdict, verdict-same, length-snoc, At, Fill, Completion, search-verdict}

-- ---- lists

pub index-mem : {A : Type 0} (l : List A) (n : ℕ) (x : A) → slice_get l n ≡ Some x → Memᴰ x l
index-mem [] n x e = absurd cc
index-mem (y ∷ l) zero x e = let q : x ≡ y = cc in Memᴰ.head q
index-mem (y ∷ l) (suc n) x e = Memᴰ.tail (index-mem l n x e)

-- the fact of an identifier at an index
index-fact : (ss : List Stored) (n : ℕ) (i : FactId) → slice_get (ids_of ss) n ≡ Some i → (s : Stored) × (slice_get ss n ≡ Some s) × (s.id ≡ i)
index-fact [] n i e = absurd cc
index-fact (s ∷ ss) zero i e = (s, refl, cc)
index-fact (s ∷ ss) (suc n) i e = index-fact ss n i e

index-id : (ss : List Stored) (n : ℕ) (s : Stored) → slice_get ss n ≡ Some s → slice_get (ids_of ss) n ≡ Some s.id
index-id [] n s e = absurd cc
index-id (x ∷ ss) zero s e = let q : x ≡ s = cc in ap (λ (y : Stored). Some y.id) q
index-id (x ∷ ss) (suc n) s e = index-id ss n s e

index-head : (θ : Binding) (hs : List Head) (ss : List Stored) (n : ℕ) (s : Stored) → HeadsAre θ hs ss → slice_get ss n ≡ Some s
    → HeadIs θ (get_or hs n no_head) s.fact
index-head θ [] [] n s m e = absurd cc
index-head θ [] (x ∷ ss) n s m e = absurd m
index-head θ (h ∷ hs) [] n s m e = absurd m
index-head θ (h ∷ hs) (x ∷ ss) zero s m e = let q : x ≡ s = cc in subst (λ (y : Stored). HeadIs θ h y.fact) q m.0
index-head θ (h ∷ hs) (x ∷ ss) (suc n) s m e = index-head θ hs ss n s m.1 e

-- ---- the facts of a store whose identifiers rise are told by these

pub above : (lo hi : ℕ) (ss : List Stored) (x : Stored) → Rising lo hi ss → Memᴰ x ss → lo ≤ x.id.0
above lo hi ss x r m = (every-mem _ ss (rising-within lo hi ss r) x m).0

pub same-stored : (lo hi : ℕ) (ss : List Stored) (x y : Stored) → Rising lo hi ss → Memᴰ x ss → Memᴰ y ss → x.id.0 ≡ y.id.0 → x ≡ y
same-stored lo hi [] x y r m n e = absurd (Memᴰ.not-nil m)
same-stored lo hi (s ∷ ss) x y r m n e = go (Memᴰ.cases_cons m) (Memᴰ.cases_cons n) (same-stored (suc s.id.0) hi ss x y r.1)
  where
    go : (x ≡ s) ⊎ Memᴰ x ss → (y ≡ s) ⊎ Memᴰ y ss → (Memᴰ x ss → Memᴰ y ss → x.id.0 ≡ y.id.0 → x ≡ y) → x ≡ y
    go (inl p) (inl q) ih = p ∙ sym q
    go (inl p) (inr q) ih = absurd (omega (arith, above (suc s.id.0) hi ss y r.1 q, ap (λ (z : Stored). z.id.0) p))
    go (inr p) (inl q) ih = absurd (omega (arith, above (suc s.id.0) hi ss x r.1 p, ap (λ (z : Stored). z.id.0) q))
    go (inr p) (inr q) ih = ih p q e

stored-some : (x : Stored) (i : FactId) (ss : List Stored) → Memᴰ x ss → x.id.0 ≡ i.0 → stored_fact i ss ≡ None → ⊥
unfolding stored_fact
stored-some x i [] m e n = Memᴰ.not-nil m
stored-some x i (s ∷ ss) m e n = go (same_id s.id i) refl (Memᴰ.cases_cons m) n (λ m q. stored-some x i ss m e q)
  where
    go : (b : Bool) → same_id s.id i ≡ b → (x ≡ s) ⊎ Memᴰ x ss → fact_if b s.fact (stored_fact i ss) ≡ None
        → (Memᴰ x ss → stored_fact i ss ≡ None → ⊥) → ⊥
    go true q c n ih = cc
    go false q (inl c) n ih = eqb-false s.id.0 i.0 q (sym (ap (λ (z : Stored). z.id.0) c) ∙ e)
    go false q (inr c) n ih = ih c n

may-stand : (active : FactId) (chosen : List FactId) (i : FactId) → same_id i active ≡ false → is_among i chosen ≡ false → may_stand active chosen i ≡ true
unfolding may_stand
may-stand active chosen i p q = rw (p, q)

-- ---- from the ways to complete the empty choice to the instances

module _ (store : List Stored) (history : List Fired) (p : HeadPlace) (r : Rule) (own : Stored) (θ : Binding) where
  fill-stored : (hs : List Head) (chosen : List FactId) (ss : List Stored) → Fill store history p r own θ hs chosen ss → every (λ s. Memᴰ s store) ss
  fill-stored [] chosen [] f = tt
  fill-stored [] chosen (s ∷ ss) f = absurd f
  fill-stored (h ∷ hs) chosen [] f = tt
  fill-stored (h ∷ hs) chosen (s ∷ ss) f = (f.1, fill-stored hs (chosen ++ (s.id ∷ [])) ss f.3)

  fill-heads : (hs : List Head) (chosen : List FactId) (ss : List Stored) → Fill store history p r own θ hs chosen ss → HeadsAre θ hs ss
  fill-heads [] chosen [] f = tt
  fill-heads [] chosen (s ∷ ss) f = f
  fill-heads (h ∷ hs) chosen [] f = f
  fill-heads (h ∷ hs) chosen (s ∷ ss) f = (f.0, fill-heads hs (chosen ++ (s.id ∷ [])) ss f.3)

  fill-here : (n : ℕ) (hs : List Head) (chosen : List FactId) (ss : List Stored) → n < length hs → length chosen + n ≡ p.head
      → Fill store history p r own θ hs chosen ss → slice_get ss n ≡ Some own
  fill-here n [] chosen ss l e f = absurd (omega arith)
  fill-here n (h ∷ hs) chosen [] l e f = absurd f
  fill-here zero (h ∷ hs) chosen (s ∷ ss) l e f =
      ap Some (subst (λ (x : Bool). At store history p r own x chosen s) (eq-eqb (length chosen) p.head (omega arith)) f.2)
  fill-here (suc n) (h ∷ hs) chosen (s ∷ ss) l e f = fill-here n hs (chosen ++ (s.id ∷ [])) ss (omega arith) (omega (arith, length-snoc chosen s.id)) f.3

  abbrev NotIn : List FactId → Stored → Type 0
  NotIn chosen s = is_among s.id chosen ≡ false

  among-snoc : (i j : FactId) (chosen : List FactId) → is_among i (chosen ++ (j ∷ [])) ≡ (is_among i chosen || (same_id i j || false))
  unfolding is_among
  among-snoc i j chosen = is_among-append i chosen (j ∷ [])

  or-none : (x : Bool) → (x || false) ≡ false → x ≡ false
  or-none x e = or-false-left x false e

  fill-distinct : (hs : List Head) (chosen : List FactId) (ss : List Stored) → (length chosen ≤ p.head → NotIn chosen own)
      → Fill store history p r own θ hs chosen ss → Distinct ss × every (NotIn chosen) ss
  fill-distinct [] chosen [] a f = (tt, tt)
  fill-distinct [] chosen (s ∷ ss) a f = absurd f
  fill-distinct (h ∷ hs) chosen [] a f = absurd f
  fill-distinct (h ∷ hs) chosen (s ∷ ss) a f =
      let ih
      = fill-distinct hs (chosen ++ (s.id ∷ [])) ss (λ l. apart (eqb (length chosen) p.head) refl f.2 (omega (arith, l, length-snoc chosen s.id)))
      f.3 in (
        (every-weaken (NotIn (chosen ++ (s.id ∷ []))) (Differs s) (λ x n. differs x (sym (among-snoc x.id s.id chosen) ∙ n)) ss ih.1, ih.0),
        (
          new (eqb (length chosen) p.head) refl f.2,
          every-weaken (NotIn (chosen ++ (s.id ∷ []))) (NotIn chosen)
              (λ x n. or-false-left (is_among x.id chosen) (same_id x.id s.id || false) (sym (among-snoc x.id s.id chosen) ∙ n)) ss ih.1,
        ),
      )
    where
      differs : (x : Stored) → (is_among x.id chosen || (same_id x.id s.id || false)) ≡ false → Differs s x
      differs x n e =
          eqb-false x.id.0 s.id.0 (or-none (same_id x.id s.id) (or-false-right (is_among x.id chosen) (same_id x.id s.id || false) n))
          (sym e)

      new : (x : Bool) → eqb (length chosen) p.head ≡ x → At store history p r own (eqb (length chosen) p.head) chosen s → NotIn chosen s
      new true e q =
          let o : s ≡ own = subst (λ (x : Bool). At store history p r own x chosen s) e q in
          rw o (a (omega (arith, eqb-true (length chosen) p.head e)))
      new false e q = stands-anew own.id chosen s.id (subst (λ (x : Bool). At store history p r own x chosen s) e q)

      apart : (x : Bool) → eqb (length chosen) p.head ≡ x → At store history p r own (eqb (length chosen) p.head) chosen s
          → suc (length chosen) ≤ p.head → NotIn (chosen ++ (s.id ∷ [])) own
      apart true e q l = absurd (omega (arith, eqb-true (length chosen) p.head e))
      apart false e q l =
          let o = stands-other own.id chosen s.id (subst (λ (x : Bool). At store history p r own x chosen s) e q) in
          among-snoc own.id s.id chosen ∙ or-both (is_among own.id chosen) (same_id own.id s.id || false) (a (omega arith))
          (or-both (same_id own.id s.id) false
          (ne_eqb own.id.0 s.id.0 (λ (q : own.id.0 ≡ s.id.0). eqb-false s.id.0 own.id.0 o (sym q))) refl)

  -- ---- and back

  instance-fill : (hs : List Head) (chosen : List FactId) (ss : List Stored) → HeadsAre θ hs ss → every (λ s. Memᴰ s store) ss → Distinct ss
      → every (NotIn chosen) ss
      → ((n : ℕ) → length chosen + n ≡ p.head → slice_get ss n ≡ Some own) → (p.head < length chosen → is_among own.id chosen ≡ true)
      → Fill store history p r own θ hs chosen ss
  instance-fill [] chosen [] m s d n here past = tt
  instance-fill [] chosen (x ∷ ss) m s d n here past = m
  instance-fill (h ∷ hs) chosen [] m s d n here past = m
  instance-fill (h ∷ hs) chosen (x ∷ ss) m s d n here past = (
    m.0,
    s.0,
    at (eqb (length chosen) p.head) refl,
    instance-fill hs (chosen ++ (x.id ∷ [])) ss m.1 s.1 d.1
        (every-weaken (λ y. Differs x y × NotIn chosen y) (NotIn (chosen ++ (x.id ∷ [])))
        (λ y q. among-snoc y.id x.id chosen ∙ or-both (is_among y.id chosen) (same_id y.id x.id || false) q.1
        (or-both (same_id y.id x.id) false (ne_eqb y.id.0 x.id.0 (λ (e : y.id.0 ≡ x.id.0). q.0 (sym e))) refl))
        ss (every-both (Differs x) (NotIn chosen) ss d.0 n.1))
        (λ k e. here (suc k) (omega (arith, length-snoc chosen x.id)))
        (λ l. among-snoc own.id x.id chosen ∙ later (eqb (length chosen) p.head) refl (omega (arith, l, length-snoc chosen x.id))),
  )
    where
      or-true : (a b : Bool) → b ≡ true → (a || b) ≡ true
      or-true true b e = refl
      or-true false b e = e

      or-left : (a b : Bool) → a ≡ true → (a || b) ≡ true
      or-left true b e = refl
      or-left false b e = absurd cc

      first : length chosen ≡ p.head → x ≡ own
      first e = let q = here 0 (omega arith) in cc

      later : (b : Bool) → eqb (length chosen) p.head ≡ b → p.head < suc (length chosen)
          → (is_among own.id chosen || (same_id own.id x.id || false)) ≡ true
      later true e l =
          or-true (is_among own.id chosen) (same_id own.id x.id || false)
          (or-left (same_id own.id x.id) false
          (eq-eqb own.id.0 x.id.0 (ap (λ (z : Stored). z.id.0) (sym (first (eqb-true (length chosen) p.head e))))))
      later false e l = or-left (is_among own.id chosen) (same_id own.id x.id || false) (past (omega (arith, eqb-false (length chosen) p.head e)))

      other : (b : Bool) → ltb (length chosen) p.head ≡ b → (length chosen ≡ p.head → ⊥) → x.id.0 ≡ own.id.0 → ⊥
      other true e o q =
          let l = ltb-true (length chosen) p.head e in
          let g : slice_get ss (p.head - suc (length chosen)) ≡ Some own = here (suc (p.head - suc (length chosen))) (omega arith) in
          every-mem (Differs x) ss d.0 own (index-mem ss (p.head - suc (length chosen)) own g) q
      other false e o q =
          let l = past (omega (arith, ltb-false (length chosen) p.head e, o)) in
          let i : own.id ≡ x.id = same-id own.id x.id (eq-eqb own.id.0 x.id.0 (sym q)) in
          let f = ap (λ (z : FactId). is_among z chosen) i in
          let g = n.0 in
          cc

      at : (b : Bool) → eqb (length chosen) p.head ≡ b → At store history p r own (eqb (length chosen) p.head) chosen x
      at true e = subst (λ (b : Bool). At store history p r own b chosen x) (sym e) (first (eqb-true (length chosen) p.head e))
      at false e =
          subst (λ (b : Bool). At store history p r own b chosen x) (sym e)
          (may-stand own.id chosen x.id (ne_eqb x.id.0 own.id.0
          (λ (q : x.id.0 ≡ own.id.0). other (ltb (length chosen) p.head) refl (eqb-false (length chosen) p.head e) q)) n.0)

-- ---- the search at an occurrence

module _ (store : List Stored) (history : List Fired) (p : HeadPlace) (r : Rule) (hi : ℕ) (rising : Rising 1 hi store)
    (inside : p.head < length (heads r)) where
  -- the active fact of an instance is the stored one of its identifier
  instance-own : (own : Stored) → Memᴰ own store → (ss : List Stored) (θ : Binding) → Matching store p r own.id ss θ → slice_get ss p.head ≡ Some own
  instance-own own mine ss θ c =
      let f = index-fact ss p.head own.id c.here in
      f.1 ∙ ap Some (same-stored 1 hi store f.0 own rising
      (every-mem (λ s. Memᴰ s store) ss c.stored f.0 (index-mem ss p.head f.0 f.1)) mine (ap (λ (i : FactId). i.0) f.2))

  module _ (own : Stored) (mine : Memᴰ own store) (b : Binding) (u : Extends (λ η. HeadIs η (get_or (heads r) p.head no_head) own.fact) unbound b) where
    instance-way : (ss : List Stored) (θ : Binding) → Matching store p r own.id ss θ → Completion store history p r own (heads r) [] b ss θ
    unfolding is_among
    instance-way ss θ c =
        let at : slice_get ss p.head ≡ Some own = instance-own own mine ss θ c in
        record {
          fill = instance-fill store history p r own θ (heads r) [] ss c.matched c.stored c.distinct (every-all ss)
              (λ n e. let q : n ≡ p.head = omega arith in rw q at) (λ l. absurd (omega arith));
          part = u.least θ (unbound-part θ) (index-head θ (heads r) ss p.head own c.matched at);
          least = λ η q m. c.least η m;
        }
      where
        every-all : (ss : List Stored) → every (λ s. is_among s.id [] ≡ false) ss
        every-all [] = tt
        every-all (s ∷ ss) = (refl, every-all ss)

    way-instance : (ss : List Stored) (θ : Binding) → Completion store history p r own (heads r) [] b ss θ → Matching store p r own.id ss θ
    unfolding is_among
    way-instance ss θ c =
        let at : slice_get ss p.head ≡ Some own = fill-here store history p r own θ p.head (heads r) [] ss inside (omega arith) c.fill in
        record {
          stored = fill-stored store history p r own θ (heads r) [] ss c.fill;
          distinct = (fill-distinct store history p r own θ (heads r) [] ss (λ l. refl) c.fill).0;
          matched = fill-heads store history p r own θ (heads r) [] ss c.fill;
          least = λ η m. c.least η (u.least η (unbound-part η) (index-head η (heads r) ss p.head own m at)) m;
          here = index-id ss p.head own at;
        }

  unbound-sized : Sized unbound
  unbound-sized = record { values = refl }

  -- what `first_instance` says is so of all instances for the active fact i at head place p
  pub first-verdict : (i : FactId) → Verdict history p r (Matching store p r i) [] (first_instance store history p r i)
  unfolding first_instance
  first-verdict i = go (stored_fact i store) refl (stored-is i store)
    where
      matches : (f : Fact) → Memᴰ (record { id = i; fact = f }) store → (o : Option Binding)
          → Matched (λ η. HeadIs η (get_or (heads r) p.head no_head) f) unbound o
          → Verdict history p r (Matching store p r i) [] (from_active store history p r i o)
      matches f m None u =
          λ ss θ c. absurd (u θ (unbound-part θ)
          (index-head θ (heads r) ss p.head (record { id = i; fact = f }) c.matched (instance-own (record { id = i; fact = f }) m ss θ c)))
      matches f m (Some b) u =
          let own : Stored = record { id = i; fact = f } in
          verdict-same history p r (Completion store history p r own (heads r) [] b) (Matching store p r i) (way-instance own m b u) (instance-way own m b u) []
          (search store history p r i (heads r) [] b) (search-verdict store history p r own m hi rising (heads r) [] b u.sized u.fits refl)

      go : (o : Option Fact) → stored_fact i store ≡ o → OptionIs (λ f. Memᴰ (record { id = i; fact = f }) store) o
          → Verdict history p r (Matching store p r i) [] (with_active store history p r i o)
      go None e m = λ ss θ c.
          let f = index-fact ss p.head i c.here in
          absurd (stored-some f.0 i store (every-mem (λ s. Memᴰ s store) ss c.stored f.0 (index-mem ss p.head f.0 f.1))
          (ap (λ (j : FactId). j.0) f.2) e)
      go (Some f) e m =
          matches f m (match_head (get_or (heads r) p.head no_head) f unbound) (head-matched (get_or (heads r) p.head no_head) f unbound unbound-sized)
