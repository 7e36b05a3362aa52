-- The search is sound and complete, and finds the first: for the heads that are left behind a partial choice, it says `nothing` only if every way
-- to complete the choice is in the history or has a false guard; otherwise what it finds completes the choice, is not in the history, has the guard
-- that it says, and every way that comes before it in document 01's order is in the history or has a false guard. By induction on the heads that
-- are left; inside, on the stored facts, whose identifiers rise.
use Prim.Native.Nat.{ℕ, zero, suc}
use native.Mathlib.Omega.{arith}
use mathlib.Core.Path.{◌≡◌, refl, sym, ◌∙◌, ap, subst}
use mathlib.Core.Bool.{Bool, true, false}
use Rattle.std.specs.Prelude.{Option, Some, None}
use mathlib.Core.Logic.{◌⊎◌, inl, inr}
use mathlib.Core.List.Memᴰ
use mathlib.Core.List.{List, [], ◌∷◌, ◌++◌, append_assoc, append-nil, Memᴰ}
use lib.Dec.{eqb}
use lib.ListN.{length, get_or, drop, length-append}
use borrow.Author.Tests.{eqb-true}
use Rattle.model.specs.declared.FactId.{FactId}
use Rattle.model.specs.declared.Stored.{Stored}
use Rattle.model.specs.declared.Binding.{Binding}
use Rattle.model.specs.declared.HeadPlace.{HeadPlace}
use Rattle.model.specs.Table.{Head, Rule, heads}
use Rattle.model.specs.Guards.{guard_value}
use Rattle.model.specs.Matching.{match_head}
use Rattle.model.specs.declared.Fired.{Fired}
use Rattle.model.specs.Search.{fired_of, in_history, Found, nothing, undefined_guard, applies, unless_known, or_else, first_of, and_then, may_stand}
use Rattle.model.specs.Search.{no_head, complete, candidate, search}
use Rattle.model.proofs.Lists.{every-mem}
use Rattle.model.proofs.Sound.{ids_of}
use Rattle.model.proofs.Kept.{Rising, rising-within}
use Rattle.semantics.specs.Instances.{PartOf, HeadIs, HeadsAre, Before}
use Rattle.semantics.proofs.Match.{Sized, part-refl, part-trans, Extends, Matched, head-later, head-matched, guard-same}

-- ---- lists

drop-at : {A : Type 0} (n : ℕ) (l : List A) (x d : A) (xs : List A) → drop n l ≡ x ∷ xs → get_or l n d ≡ x
drop-at zero [] x d xs e = absurd cc
drop-at zero (y ∷ l) x d xs e = cc
drop-at (suc n) [] x d xs e = absurd cc
drop-at (suc n) (y ∷ l) x d xs e = drop-at n l x d xs e

drop-next : {A : Type 0} (n : ℕ) (l : List A) (x : A) (xs : List A) → drop n l ≡ x ∷ xs → drop (suc n) l ≡ xs
drop-next zero [] x xs e = absurd cc
drop-next zero (y ∷ l) x xs e = cc
drop-next (suc n) [] x xs e = absurd cc
drop-next (suc n) (y ∷ l) x xs e = drop-next n l x xs e

pub length-snoc : {A : Type 0} (l : List A) (x : A) → length (l ++ (x ∷ [])) ≡ suc (length l)
length-snoc l x = simp length-append (omega arith)

-- ---- what a search says, of a set C of ways to complete a choice

module _ (history : List Fired) (p : HeadPlace) (r : Rule) where
  abbrev pub Passed : List FactId → Binding → Type 0
  Passed is θ = in_history (fired_of p.rule is) history ≡ false → guard_value θ r.guards ≡ Some false

  pub record Picked (C : List Stored → Binding → Type 0) (chosen : List FactId) (g : Option Bool) (ss : List Stored) (θ : Binding) : Type 0 where
    pub way : C ss θ
    pub fresh : in_history (fired_of p.rule (chosen ++ ids_of ss)) history ≡ false
    pub guard : guard_value θ r.guards ≡ g
    pub first : (ss' : List Stored) (θ' : Binding) → C ss' θ' → Before (ids_of ss') (ids_of ss) → Passed (chosen ++ ids_of ss') θ'

  abbrev pub Verdict : (List Stored → Binding → Type 0) → List FactId → Found → Type 0
  Verdict C chosen nothing = (ss : List Stored) (θ : Binding) → C ss θ → Passed (chosen ++ ids_of ss) θ
  Verdict C chosen undefined_guard = (ss : List Stored) × (θ : Binding) × Picked C chosen None ss θ
  Verdict C chosen (applies is b) = (ss : List Stored) × Picked C chosen (Some true) ss b × (is ≡ chosen ++ ids_of ss)

  -- the same ways
  module _ (C D : List Stored → Binding → Type 0) (into : (ss : List Stored) (θ : Binding) → C ss θ → D ss θ)
      (from : (ss : List Stored) (θ : Binding) → D ss θ → C ss θ) where
    picked-same : (chosen : List FactId) (g : Option Bool) (ss : List Stored) (θ : Binding) → Picked C chosen g ss θ → Picked D chosen g ss θ
    picked-same chosen g ss θ u = record {
      way = into ss θ u.way;
      fresh = u.fresh;
      guard = u.guard;
      first = λ ss' θ' d b. u.first ss' θ' (from ss' θ' d) b;
    }

    pub verdict-same : (chosen : List FactId) (o : Found) → Verdict C chosen o → Verdict D chosen o
    verdict-same chosen nothing u = λ ss θ d. u ss θ (from ss θ d)
    verdict-same chosen undefined_guard u = (u.0, u.1, picked-same chosen None u.0 u.1 u.2)
    verdict-same chosen (applies is b) u = (u.0, picked-same chosen (Some true) u.0 b u.1, u.2)

  -- the ways that begin with x are those of the choice with x
  module _ (C D : List Stored → Binding → Type 0) (chosen : List FactId) (x : Stored) (into : (ss : List Stored) (θ : Binding) → D ss θ → C (x ∷ ss) θ)
      (from : (ss : List Stored) (θ : Binding) → C ss θ → (rest : List Stored) × (ss ≡ x ∷ rest) × D rest θ) where
    further : (ss : List Stored) → (chosen ++ (x.id ∷ [])) ++ ids_of ss ≡ chosen ++ ids_of (x ∷ ss)
    further ss = append_assoc chosen (x.id ∷ []) (ids_of ss)

    passed-cons : (ss : List Stored) (θ : Binding) → ((rest : List Stored) → ss ≡ x ∷ rest → D rest θ → Passed ((chosen ++ (x.id ∷ [])) ++ ids_of rest) θ)
        → C ss θ → Passed (chosen ++ ids_of ss) θ
    passed-cons ss θ h c =
        let f = from ss θ c in
        subst (λ (l : List Stored). Passed (chosen ++ ids_of l) θ) (sym f.1)
        (subst (λ (l : List FactId). Passed l θ) (further f.0) (h f.0 f.1 f.2))

    before-tail : (rest ss : List Stored) → Before (ids_of (x ∷ rest)) (ids_of (x ∷ ss)) → Before (ids_of rest) (ids_of ss)
    before-tail rest ss (inl l) = absurd (omega (arith, l))
    before-tail rest ss (inr b) = b.1

    picked-cons : (g : Option Bool) (ss : List Stored) (θ : Binding) → Picked D (chosen ++ (x.id ∷ [])) g ss θ → Picked C chosen g (x ∷ ss) θ
    picked-cons g ss θ u = record {
      way = into ss θ u.way;
      fresh = subst (λ (l : List FactId). in_history (fired_of p.rule l) history ≡ false) (further ss) u.fresh;
      guard = u.guard;
      first = λ ss' θ' c b.
          passed-cons ss' θ' (λ rest e d. u.first rest θ' d (before-tail rest ss (subst (λ (l : List Stored). Before (ids_of l) (ids_of (x ∷ ss))) e b))) c;
    }

    pub verdict-cons : (o : Found) → Verdict D (chosen ++ (x.id ∷ [])) o → Verdict C chosen o
    verdict-cons nothing u = λ ss θ c. passed-cons ss θ (λ rest e d. u rest θ d) c
    verdict-cons undefined_guard u = (x ∷ u.0, u.1, picked-cons None u.0 u.1 u.2)
    verdict-cons (applies is b) u = (x ∷ u.0, picked-cons (Some true) u.0 b u.1, u.2 ∙ further u.0)

  -- the ways of C₁, and behind them those of C₂
  module _ (C C₁ C₂ : List Stored → Binding → Type 0) (chosen : List FactId) (parts : (ss : List Stored) (θ : Binding) → C ss θ → C₁ ss θ ⊎ C₂ ss θ)
      (into₁ : (ss : List Stored) (θ : Binding) → C₁ ss θ → C ss θ) (into₂ : (ss : List Stored) (θ : Binding) → C₂ ss θ → C ss θ)
      (behind : (ss ss' : List Stored) (θ θ' : Binding) → C₁ ss θ → C₂ ss' θ' → Before (ids_of ss') (ids_of ss) → ⊥) where
    picked-first : (g : Option Bool) (ss : List Stored) (θ : Binding) → Picked C₁ chosen g ss θ → Picked C chosen g ss θ
    picked-first g ss θ u = record { way = into₁ ss θ u.way; fresh = u.fresh; guard = u.guard; first = λ ss' θ' c b. go ss' θ' b (parts ss' θ' c) }
      where
        go : (ss' : List Stored) (θ' : Binding) → Before (ids_of ss') (ids_of ss) → C₁ ss' θ' ⊎ C₂ ss' θ' → Passed (chosen ++ ids_of ss') θ'
        go ss' θ' b (inl c) = u.first ss' θ' c b
        go ss' θ' b (inr c) = absurd (behind ss ss' θ θ' u.way c b)

    picked-behind : (g : Option Bool) (ss : List Stored) (θ : Binding) → ((ss' : List Stored) (θ' : Binding) → C₁ ss' θ' → Passed (chosen ++ ids_of ss') θ')
        → Picked C₂ chosen g ss θ → Picked C chosen g ss θ
    picked-behind g ss θ v u = record { way = into₂ ss θ u.way; fresh = u.fresh; guard = u.guard; first = λ ss' θ' c b. go ss' θ' b (parts ss' θ' c) }
      where
        go : (ss' : List Stored) (θ' : Binding) → Before (ids_of ss') (ids_of ss) → C₁ ss' θ' ⊎ C₂ ss' θ' → Passed (chosen ++ ids_of ss') θ'
        go ss' θ' b (inl c) = v ss' θ' c
        go ss' θ' b (inr c) = u.first ss' θ' c b

    pub verdict-or : (a b : Found) → Verdict C₁ chosen a → Verdict C₂ chosen b → Verdict C chosen (or_else a b)
    verdict-or nothing nothing u v = λ ss θ c. go ss θ (parts ss θ c)
      where
        go : (ss : List Stored) (θ : Binding) → C₁ ss θ ⊎ C₂ ss θ → Passed (chosen ++ ids_of ss) θ
        go ss θ (inl c) = u ss θ c
        go ss θ (inr c) = v ss θ c
    verdict-or nothing undefined_guard u v = (v.0, v.1, picked-behind None v.0 v.1 u v.2)
    verdict-or nothing (applies is b) u v = (v.0, picked-behind (Some true) v.0 b u v.1, v.2)
    verdict-or undefined_guard b u v = (u.0, u.1, picked-first None u.0 u.1 u.2)
    verdict-or (applies is c) b u v = (u.0, picked-first (Some true) u.0 c u.1, u.2)

-- ---- the ways to complete a choice: facts for the heads that are left, and the least binding that has what is bound and makes those heads equal
-- to the facts. `own` is the active fact

module _ (store : List Stored) (history : List Fired) (p : HeadPlace) (r : Rule) (own : Stored) where
  abbrev pub At : Bool → List FactId → Stored → Type 0
  At true chosen s = s ≡ own
  At false chosen s = may_stand own.id chosen s.id ≡ true

  abbrev pub Fill : Binding → List Head → List FactId → List Stored → Type 0
  Fill θ [] chosen [] = Unit {0}
  Fill θ [] chosen (s ∷ ss) = ⊥
  Fill θ (h ∷ hs) chosen [] = ⊥
  Fill θ (h ∷ hs) chosen (s ∷ ss) =
      HeadIs θ h s.fact × Memᴰ s store × At (eqb (length chosen) p.head) chosen s × Fill θ hs (chosen ++ (s.id ∷ [])) ss

  pub record Completion (hs : List Head) (chosen : List FactId) (b : Binding) (ss : List Stored) (θ : Binding) : Type 0 where
    pub fill : Fill θ hs chosen ss
    pub part : PartOf b θ
    pub least : (η : Binding) → PartOf b η → HeadsAre η hs ss → PartOf θ η

  -- the active fact's head fits it
  abbrev pub OwnFits : Binding → Type 0
  OwnFits b = HeadIs b (get_or (heads r) p.head no_head) own.fact

  -- ---- no head is left

  module _ (chosen : List FactId) (b : Binding) where
    done-guard : (ss : List Stored) (θ : Binding) → Completion [] chosen b ss θ → guard_value θ r.guards ≡ guard_value b r.guards
    done-guard [] θ c = guard-same θ b (c.least b (part-refl b) tt) c.part r.guards
    done-guard (s ∷ ss) θ c = absurd c.fill

    done-ids : (ss : List Stored) (θ : Binding) → Completion [] chosen b ss θ → chosen ++ ids_of ss ≡ chosen
    done-ids [] θ c = append-nil chosen
    done-ids (s ∷ ss) θ c = absurd c.fill

    done-picked : (g : Option Bool) → in_history (fired_of p.rule chosen) history ≡ false → guard_value b r.guards ≡ g
        → Picked history p r (Completion [] chosen b) chosen g [] b
    done-picked g k e = record {
      way = record { fill = tt; part = part-refl b; least = λ η q m. q };
      fresh = rw (append-nil chosen) k;
      guard = e;
      first = λ ss θ c l. absurd (none ss l);
    }
      where
        none : (ss : List Stored) → Before (ids_of ss) [] → ⊥
        none [] l = l
        none (s ∷ ss) l = l

    done-verdict : (known : Bool) (g : Option Bool) → in_history (fired_of p.rule chosen) history ≡ known → guard_value b r.guards ≡ g
        → Verdict history p r (Completion [] chosen b) chosen (unless_known known g chosen b)
    done-verdict true g k e =
        λ ss θ c f. absurd (let n = ap (λ (l : List FactId). in_history (fired_of p.rule l) history) (done-ids ss θ c) in
        cc)
    done-verdict false (Some true) k e = ([], done-picked (Some true) k e, sym (append-nil chosen))
    done-verdict false (Some false) k e = λ ss θ c f. done-guard ss θ c ∙ e
    done-verdict false None k e = ([], b, done-picked None k e)

  -- ---- the next head is the active fact's

  module _ (mine : Memᴰ own store) (h : Head) (hs : List Head) (chosen : List FactId) (b : Binding) (fits : HeadIs b h own.fact)
      (here : eqb (length chosen) p.head ≡ true) where
    own-into : (ss : List Stored) (θ : Binding) → Completion hs (chosen ++ (own.id ∷ [])) b ss θ → Completion (h ∷ hs) chosen b (own ∷ ss) θ
    own-into ss θ c = record {
      fill = (head-later h own.fact b θ c.part fits, mine, subst (λ (x : Bool). At x chosen own) (sym here) refl, c.fill);
      part = c.part;
      least = λ η q m. c.least η q m.1;
    }

    own-from : (ss : List Stored) (θ : Binding) → Completion (h ∷ hs) chosen b ss θ
        → (rest : List Stored) × (ss ≡ own ∷ rest) × Completion hs (chosen ++ (own.id ∷ [])) b rest θ
    own-from [] θ c = absurd c.fill
    own-from (s ∷ rest) θ c =
        let e : s ≡ own = subst (λ (x : Bool). At x chosen s) here c.fill.2 in (
          rest,
          ap (λ (x : Stored). x ∷ rest) e,
          record {
            fill = subst (λ (x : Stored). Fill θ hs (chosen ++ (x.id ∷ [])) rest) e c.fill.3;
            part = c.part;
            least = λ η q m. c.least η q (subst (λ (x : Stored). HeadIs η h x.fact) (sym e) (head-later h own.fact b η q fits), m);
          },
        )

  -- ---- the next head is a partner's

  module _ (h : Head) (hs : List Head) (chosen : List FactId) (b : Binding) (k : Sized b) (off : eqb (length chosen) p.head ≡ false) where
    -- the ways that begin with s, and those that begin with one of a list
    abbrev Begins : Stored → List Stored → Type 0
    Begins s [] = ⊥
    Begins s (x ∷ xs) = x ≡ s

    abbrev BeginsIn : List Stored → List Stored → Type 0
    BeginsIn l [] = ⊥
    BeginsIn l (x ∷ xs) = Memᴰ x l

    abbrev With : Stored → List Stored → Binding → Type 0
    With s ss θ = Completion (h ∷ hs) chosen b ss θ × Begins s ss

    abbrev Among : List Stored → List Stored → Binding → Type 0
    Among l ss θ = Completion (h ∷ hs) chosen b ss θ × BeginsIn l ss

    stands : (s : Stored) (ss : List Stored) (θ : Binding) → With s ss θ → may_stand own.id chosen s.id ≡ true
    stands s [] θ c = absurd c.1
    stands s (x ∷ xs) θ c = subst (λ (y : Stored). may_stand own.id chosen y.id ≡ true) c.1 (subst (λ (y : Bool). At y chosen x) off c.0.fill.2)

    fits : (s : Stored) (ss : List Stored) (θ : Binding) → With s ss θ → HeadIs θ h s.fact
    fits s [] θ c = absurd c.1
    fits s (x ∷ xs) θ c = subst (λ (y : Stored). HeadIs θ h y.fact) c.1 c.0.fill.0

    module _ (s : Stored) (m : Memᴰ s store) (may : may_stand own.id chosen s.id ≡ true) (c : Binding)
        (u : Extends (λ η. HeadIs η h s.fact) b c) where
      with-into : (ss : List Stored) (θ : Binding) → Completion hs (chosen ++ (s.id ∷ [])) c ss θ → With s (s ∷ ss) θ
      with-into ss θ d = (
        record {
          fill = (head-later h s.fact c θ d.part u.fits, m, subst (λ (x : Bool). At x chosen s) (sym off) may, d.fill);
          part = part-trans b c θ u.part d.part;
          least = λ η q n. d.least η (u.least η q n.0) n.1;
        },
        refl,
      )

      with-from : (ss : List Stored) (θ : Binding) → With s ss θ → (rest : List Stored) × (ss ≡ s ∷ rest) × Completion hs (chosen ++ (s.id ∷ [])) c rest θ
      with-from [] θ d = absurd d.1
      with-from (x ∷ rest) θ d = (
        rest,
        ap (λ (y : Stored). y ∷ rest) d.1,
        record {
          fill = subst (λ (y : Stored). Fill θ hs (chosen ++ (y.id ∷ [])) rest) d.1 d.0.fill.3;
          part = u.least θ d.0.part (fits s (x ∷ rest) θ d);
          least = λ η q n. d.0.least η (part-trans b c η u.part q)
              (subst (λ (y : Stored). HeadIs η h y.fact) (sym d.1) (head-later h s.fact c η q u.fits), n);
        },
      )

    module _ (ih : (s : Stored) (c : Binding) → Sized c → PartOf b c
        → Verdict history p r (Completion hs (chosen ++ (s.id ∷ [])) c) (chosen ++ (s.id ∷ []))
        (search store history p r own.id hs (chosen ++ (s.id ∷ [])) c)) where
      abbrev try : Stored → Found
      try s = and_then (candidate store history p r own.id h chosen b s) (λ c. search store history p r own.id hs (chosen ++ (s.id ∷ [])) c)

      one-verdict : (s : Stored) → Memᴰ s store → Verdict history p r (With s) chosen (try s)
      unfolding candidate
      one-verdict s m = go (may_stand own.id chosen s.id) refl
        where
          matches : may_stand own.id chosen s.id ≡ true → (o : Option Binding) → Matched (λ η. HeadIs η h s.fact) b o
              → Verdict history p r (With s) chosen (and_then o (λ c. search store history p r own.id hs (chosen ++ (s.id ∷ [])) c))
          matches may None u = λ ss θ c. absurd (u θ c.0.part (fits s ss θ c))
          matches may (Some c) u =
              verdict-cons history p r (With s) (Completion hs (chosen ++ (s.id ∷ [])) c) chosen s (with-into s m may c u) (with-from s m may c u)
              (search store history p r own.id hs (chosen ++ (s.id ∷ [])) c) (ih s c u.sized u.part)

          go : (x : Bool) → may_stand own.id chosen s.id ≡ x
              → Verdict history p r (With s) chosen
              (and_then (elim x [ true ↦ match_head h s.fact b | false ↦ None ]) (λ c. search store history p r own.id hs (chosen ++ (s.id ∷ [])) c))
          go true e = matches e (match_head h s.fact b) (head-matched h s.fact b k)
          go false e = λ ss θ c. absurd (let f = stands s ss θ c in cc)

      list-verdict : (l : List Stored) (lo hi : ℕ) → ((s : Stored) → Memᴰ s l → Memᴰ s store) → Rising lo hi l
          → Verdict history p r (Among l) chosen (first_of try l)
      unfolding first_of
      list-verdict [] lo hi sub ri = λ ss θ c. absurd (none ss θ c)
        where
          none : (ss : List Stored) (θ : Binding) → Among [] ss θ → ⊥
          none [] θ c = c.1
          none (x ∷ xs) θ c = Memᴰ.not-nil c.1
      list-verdict (s ∷ l) lo hi sub ri =
          verdict-or history p r (Among (s ∷ l)) (With s) (Among l) chosen parts into₁ into₂ behind (try s) (first_of try l)
          (one-verdict s (sub s (Memᴰ.head refl))) (list-verdict l (suc s.id.0) hi (λ x m. sub x (Memᴰ.tail m)) ri.1)
        where
          which : (x : Stored) (xs : List Stored) (θ : Binding) → Completion (h ∷ hs) chosen b (x ∷ xs) θ → (x ≡ s) ⊎ Memᴰ x l
              → With s (x ∷ xs) θ ⊎ Among l (x ∷ xs) θ
          which x xs θ c (inl e) = inl (c, e)
          which x xs θ c (inr m) = inr (c, m)

          parts : (ss : List Stored) (θ : Binding) → Among (s ∷ l) ss θ → With s ss θ ⊎ Among l ss θ
          parts [] θ c = absurd c.1
          parts (x ∷ xs) θ c = which x xs θ c.0 (Memᴰ.cases_cons c.1)

          into₁ : (ss : List Stored) (θ : Binding) → With s ss θ → Among (s ∷ l) ss θ
          into₁ [] θ c = absurd c.1
          into₁ (x ∷ xs) θ c = (c.0, Memᴰ.head c.1)

          into₂ : (ss : List Stored) (θ : Binding) → Among l ss θ → Among (s ∷ l) ss θ
          into₂ [] θ c = absurd c.1
          into₂ (x ∷ xs) θ c = (c.0, Memᴰ.tail c.1)

          above : (x y : Stored) (xs ys : List Stored) → x ≡ s → Memᴰ y l → Before (ids_of (y ∷ ys)) (ids_of (x ∷ xs)) → ⊥
          above x y xs ys e m (inl b) = omega (arith, (every-mem _ l (rising-within (suc s.id.0) hi l ri.1) y m).0, ap (λ (z : Stored). z.id.0) e, b)
          above x y xs ys e m (inr b) =
              omega (
                arith,
                (every-mem _ l (rising-within (suc s.id.0) hi l ri.1) y m).0,
                ap (λ (z : Stored). z.id.0) e,
                ap (λ (i : FactId). i.0) b.0,
              )

          behind : (ss ss' : List Stored) (θ θ' : Binding) → With s ss θ → Among l ss' θ' → Before (ids_of ss') (ids_of ss) → ⊥
          behind [] ss' θ θ' c d b = c.1
          behind (x ∷ xs) [] θ θ' c d b = d.1
          behind (x ∷ xs) (y ∷ ys) θ θ' c d b = above x y xs ys c.1 d.1 b

    -- every way begins with a stored fact
    pub all-among : (ss : List Stored) (θ : Binding) → Completion (h ∷ hs) chosen b ss θ → Among store ss θ
    all-among [] θ c = absurd c.fill
    all-among (x ∷ xs) θ c = (c, c.fill.1)

  -- ---- any heads left

  module _ (mine : Memᴰ own store) (hi : ℕ) (rising : Rising 1 hi store) where
    pub search-verdict : (hs : List Head) (chosen : List FactId) (b : Binding) → Sized b → OwnFits b → drop (length chosen) (heads r) ≡ hs
        → Verdict history p r (Completion hs chosen b) chosen (search store history p r own.id hs chosen b)
    unfolding search complete
    search-verdict [] chosen b k f d = done-verdict chosen b (in_history (fired_of p.rule chosen) history) (guard_value b r.guards) refl refl
    search-verdict (h ∷ hs) chosen b k f d = go (eqb (length chosen) p.head) refl (λ chosen b k f d. search-verdict hs chosen b k f d)
      where
        next : (i : FactId) → drop (length (chosen ++ (i ∷ []))) (heads r) ≡ hs
        next i = ap (λ (n : ℕ). drop n (heads r)) (length-snoc chosen i) ∙ drop-next (length chosen) (heads r) h hs d

        go : (x : Bool) → eqb (length chosen) p.head ≡ x
            → ((chosen : List FactId) (b : Binding) → Sized b → OwnFits b → drop (length chosen) (heads r) ≡ hs
            → Verdict history p r (Completion hs chosen b) chosen (search store history p r own.id hs chosen b))
            → Verdict history p r (Completion (h ∷ hs) chosen b) chosen
            (elim x [
              | true ↦ search store history p r own.id hs (chosen ++ (own.id ∷ [])) b
              | false ↦ first_of (λ s. and_then (candidate store history p r own.id h chosen b s)
                  (λ c. search store history p r own.id hs (chosen ++ (s.id ∷ [])) c)) store
            ])
        go true e ih =
            let here : get_or (heads r) p.head no_head ≡ h
            = ap (λ (n : ℕ). get_or (heads r) n no_head) (sym (eqb-true (length chosen) p.head e)) ∙ drop-at (length chosen) (heads r) h no_head hs d in
            let fits : HeadIs b h own.fact = subst (λ (x : Head). HeadIs b x own.fact) here f in
            verdict-cons history p r (Completion (h ∷ hs) chosen b) (Completion hs (chosen ++ (own.id ∷ [])) b) chosen own
            (own-into mine h hs chosen b fits e) (own-from mine h hs chosen b fits e) (search store history p r own.id hs (chosen ++ (own.id ∷ [])) b)
            (ih (chosen ++ (own.id ∷ [])) b k f (next own.id))
        go false e ih =
            verdict-same history p r (Among h hs chosen b k e store) (Completion (h ∷ hs) chosen b) (λ ss θ c. c.0) (all-among h hs chosen b k e) chosen
            (first_of (λ s. and_then (candidate store history p r own.id h chosen b s)
            (λ c. search store history p r own.id hs (chosen ++ (s.id ∷ [])) c)) store)
            (list-verdict h hs chosen b k e (λ s c j q. ih (chosen ++ (s.id ∷ [])) c j (head-later (get_or (heads r) p.head no_head) own.fact b c q f)
            (next s.id)) store 1 hi (λ s m. m) rising)
