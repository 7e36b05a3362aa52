-- What the search finds: identifiers of facts that are stored, different, and of the heads' symbols, the active one at its place, that are
-- not in the history and whose guard is true. Each partial choice of the search keeps this of the heads before it, and a complete one is
-- tested.
use Prim.Native.Nat.{ℕ, ◌+◌, ◌≤◌, ◌<◌}
use native.Mathlib.Omega.{arith}
use mathlib.Core.Path.{◌≡◌, refl, sym, ◌∙◌, ap, ap₂}
use mathlib.Core.Bool.{Bool, true, false, not, cond}
use Rattle.std.specs.Prelude.{Option, Some, None}
use mathlib.Core.List.{List, [], ◌∷◌, ◌++◌, map, append_assoc, append-nil, Memᴰ}
use lib.Dec.{eqb}
use lib.ListN.{length, get_or, length-append, get_or-append}
use lib.Seq.{get_or-append_seam}
use borrow.Author.Tests.{eqb-true, eqb-false}
use Rattle.model.specs.declared.FactId.{FactId}
use Rattle.model.specs.declared.Symbol.{Symbol}
use Rattle.model.specs.declared.Fact.{Fact}
use Rattle.model.specs.declared.Stored.{Stored}
use Rattle.model.specs.declared.Binding.{Binding}
use Rattle.model.specs.declared.HeadPlace.{HeadPlace}
use Rattle.model.specs.Table.{Head, Rule, heads, same_symbol}
use Rattle.model.specs.Guards.{unbound, guard_value}
use Rattle.model.specs.Matching.{match_head, match_slots, arguments}
use Rattle.model.specs.declared.Fired.{Fired}
use Rattle.model.specs.Search.{same_id, is_among, nobody, fired_of, in_history, Found, nothing, undefined_guard, applies, unless_known, or_else}
use Rattle.model.specs.Search.{first_of, and_then, fact_if, stored_fact, may_stand, no_head, complete, candidate, search, from_active, with_active}
use Rattle.model.specs.Search.{first_instance}
use Rattle.model.proofs.Every.{every}
use Rattle.model.proofs.Lists.{every-snoc, OptionIs, map-snoc, or-false-left, or-false-right, and-left, and-right, not-true}

-- ---- identifiers and symbols that test as the same are the same

pub same-id : (i j : FactId) → same_id i j ≡ true → i ≡ j
same-id i j e = λ k. record { 0 = eqb-true i.0 j.0 e k }

pub same-symbol : (s t : Symbol) → same_symbol s t ≡ true → s ≡ t
same-symbol s t e = λ i. record { 0 = eqb-true s.0 t.0 e i }

-- ---- different facts

abbrev pub Differs : Stored → Stored → Type 0
Differs s r = s.id.0 ≡ r.id.0 → ⊥

abbrev pub Distinct : List Stored → Type 0
Distinct [] = Unit {0}
Distinct (s ∷ ss) = every (Differs s) ss × Distinct ss

abbrev pub ids_of : List Stored → List FactId
ids_of = map (λ s. s.id)

abbrev pub symbols_of : List Stored → List Symbol
symbols_of = map (λ s. s.fact.symbol)

abbrev pub head_symbols : List Head → List Symbol
head_symbols = map (λ h. h.symbol)

distinct-snoc : (ss : List Stored) (s : Stored) → Distinct ss → every (Differs s) ss → Distinct (ss ++ (s ∷ []))
distinct-snoc [] s d e = (tt, tt)
distinct-snoc (r ∷ ss) s d e = (every-snoc (Differs r) ss s d.0 (λ p. e.0 (sym p)), distinct-snoc ss s d.1 e.1)

not-among : (s : Stored) (ss : List Stored) → is_among s.id (ids_of ss) ≡ false → every (Differs s) ss
unfolding is_among
not-among s [] e = tt
not-among s (r ∷ ss) e = (
  eqb-false s.id.0 r.id.0 (or-false-left (same_id s.id r.id) (is_among s.id (ids_of ss)) e),
  not-among s ss (or-false-right (same_id s.id r.id) (is_among s.id (ids_of ss)) e),
)

-- ---- what is known of a match, and of the stored fact of an identifier

matched : (h : Head) (f : Fact) (b c : Binding) → match_head h f b ≡ Some c → h.symbol ≡ f.symbol
unfolding match_head
matched h f b c e = go (same_symbol h.symbol f.symbol) refl e
  where
    go : (x : Bool) → same_symbol h.symbol f.symbol ≡ x → cond x (match_slots h.slots (arguments f) (Some b)) None ≡ Some c → h.symbol ≡ f.symbol
    go true q r = same-symbol h.symbol f.symbol q
    go false q r = cc

pub stored-is : (i : FactId) (ss : List Stored) → OptionIs (λ f. Memᴰ (record { id = i; fact = f }) ss) (stored_fact i ss)
unfolding stored_fact
stored-is i [] = tt
stored-is i (s ∷ ss) = go (same_id s.id i) refl (stored_fact i ss) (stored-is i ss)
  where
    go : (x : Bool) → same_id s.id i ≡ x → (o : Option Fact) → OptionIs (λ f. Memᴰ (record { id = i; fact = f }) ss) o
        → OptionIs (λ f. Memᴰ (record { id = i; fact = f }) (s ∷ ss)) (fact_if x s.fact o)
    go true q o u = Memᴰ.head (ap (λ (j : FactId). record { id = j; fact = s.fact }) (sym (same-id s.id i q)))
    go false q None u = tt
    go false q (Some f) u = Memᴰ.tail u

pub stands-other : (active : FactId) (chosen : List FactId) (i : FactId) → may_stand active chosen i ≡ true → same_id i active ≡ false
unfolding may_stand
stands-other active chosen i e = not-true (same_id i active) (and-left (not (same_id i active)) (not (is_among i chosen)) e)

pub stands-anew : (active : FactId) (chosen : List FactId) (i : FactId) → may_stand active chosen i ≡ true → is_among i chosen ≡ false
unfolding may_stand
stands-anew active chosen i e = not-true (is_among i chosen) (and-right (not (same_id i active)) (not (is_among i chosen)) e)

-- ---- a property of what is found, if anything is

abbrev pub FoundIs : (List FactId → Binding → Type 0) → Found → Type 0
FoundIs P nothing = Unit {0}
FoundIs P undefined_guard = Unit {0}
FoundIs P (applies chosen b) = P chosen b

module _ (P : List FactId → Binding → Type 0) where
  or_else-is : (a b : Found) → FoundIs P a → FoundIs P b → FoundIs P (or_else a b)
  or_else-is nothing b x y = y
  or_else-is undefined_guard b x y = tt
  or_else-is (applies chosen c) b x y = x

  first_of-is : (f : Stored → Found) (ss : List Stored) → ((s : Stored) → Memᴰ s ss → FoundIs P (f s)) → FoundIs P (first_of f ss)
  unfolding first_of
  first_of-is f [] h = tt
  first_of-is f (s ∷ ss) h = or_else-is (f s) (first_of f ss) (h s (Memᴰ.head refl)) (first_of-is f ss (λ r m. h r (Memᴰ.tail m)))

  and_then-is : (o : Option Binding) (next : Binding → Found) → ((c : Binding) → o ≡ Some c → FoundIs P (next c)) → FoundIs P (and_then o next)
  and_then-is None next h = tt
  and_then-is (Some c) next h = h c refl

  unless-is : (known : Bool) (g : Option Bool) (chosen : List FactId) (b : Binding) → (known ≡ false → g ≡ Some true → P chosen b)
      → FoundIs P (unless_known known g chosen b)
  unless-is true g chosen b h = tt
  unless-is false (Some true) chosen b h = h refl refl
  unless-is false (Some false) chosen b h = tt
  unless-is false None chosen b h = tt

-- ---- what each partial choice keeps, a complete one has

module _ (store : List Stored) (history : List Fired) (p : HeadPlace) (r : Rule) (active : FactId) where
  -- a fact that may stand where a head is left, and the binding that its match gives
  pub record Partner (h : Head) (chosen : List FactId) (b : Binding) (s : Stored) (c : Binding) : Type 0 where
    pub stored : Memᴰ s store
    pub stands : may_stand active chosen s.id ≡ true
    pub matches : match_head h s.fact b ≡ Some c

  partner-is : (h : Head) (chosen : List FactId) (b : Binding) (s : Stored) (c : Binding) → Memᴰ s store
      → candidate store history p r active h chosen b s ≡ Some c → Partner h chosen b s c
  unfolding candidate
  partner-is h chosen b s c m e = go (may_stand active chosen s.id) refl e
    where
      go : (x : Bool) → may_stand active chosen s.id ≡ x → ◌≡◌ {A = Option Binding} (elim x [ true ↦ match_head h s.fact b | false ↦ None ]) (Some c)
          → Partner h chosen b s c
      go true q e = record { stored = m; stands = q; matches = e }
      go false q e = absurd cc

  -- Q: of the heads left, the choice and the binding; P: of what is found
  module _ (P : List FactId → Binding → Type 0) (Q : List Head → List FactId → Binding → Type 0)
      (ends : (chosen : List FactId) (b : Binding) → Q [] chosen b → in_history (fired_of p.rule chosen) history ≡ false → guard_value b r.guards ≡ Some true
      → P chosen b)
      (puts : (h : Head) (hs : List Head) (chosen : List FactId) (b : Binding) → length chosen ≡ p.head → Q (h ∷ hs) chosen b
      → Q hs (chosen ++ (active ∷ [])) b)
      (takes : (h : Head) (hs : List Head) (chosen : List FactId) (b : Binding) (s : Stored) (c : Binding) → (length chosen ≡ p.head → ⊥)
      → Partner h chosen b s c → Q (h ∷ hs) chosen b → Q hs (chosen ++ (s.id ∷ [])) c) where
    pub search-is : (hs : List Head) (chosen : List FactId) (b : Binding) → Q hs chosen b → FoundIs P (search store history p r active hs chosen b)
    unfolding search complete
    search-is [] chosen b k =
        unless-is P (in_history (fired_of p.rule chosen) history) (guard_value b r.guards) chosen b (ends chosen b k)
    search-is (h ∷ hs) chosen b k = go (eqb (length chosen) p.head) refl (λ chosen b k. search-is hs chosen b k)
      where
        go : (x : Bool) → eqb (length chosen) p.head ≡ x
            → ((chosen : List FactId) (b : Binding) → Q hs chosen b → FoundIs P (search store history p r active hs chosen b))
            → FoundIs P (elim x [
              | true ↦ search store history p r active hs (chosen ++ (active ∷ [])) b
              | false ↦ first_of
                  (λ s. and_then (candidate store history p r active h chosen b s) (λ c. search store history p r active hs (chosen ++ (s.id ∷ [])) c)) store
            ])
        go true q ih = ih (chosen ++ (active ∷ [])) b (puts h hs chosen b (eqb-true (length chosen) p.head q) k)
        go false q ih =
            first_of-is P _ store
            (λ s m. and_then-is P (candidate store history p r active h chosen b s) (λ c. search store history p r active hs (chosen ++ (s.id ∷ [])) c)
            (λ c e. ih (chosen ++ (s.id ∷ [])) c (takes h hs chosen b s c (eqb-false (length chosen) p.head q) (partner-is h chosen b s c m e) k)))

    pub first-is : ((f : Fact) (b : Binding) → Memᴰ (record { id = active; fact = f }) store
        → match_head (get_or (heads r) p.head no_head) f unbound ≡ Some b → Q (heads r) [] b)
        → FoundIs P (first_instance store history p r active)
    unfolding first_instance
    first-is begins = go (stored_fact active store) (stored-is active store)
      where
        go' : (f : Fact) → Memᴰ (record { id = active; fact = f }) store → (o : Option Binding) → match_head (get_or (heads r) p.head no_head) f unbound ≡ o
            → FoundIs P (from_active store history p r active o)
        go' f m None e = tt
        go' f m (Some b) e = search-is (heads r) [] b (begins f b m e)

        go : (o : Option Fact) → OptionIs (λ f. Memᴰ (record { id = active; fact = f }) store) o → FoundIs P (with_active store history p r active o)
        go None m = tt
        go (Some f) m = go' f m (match_head (get_or (heads r) p.head no_head) f unbound) refl

  -- ---- an instance

  pub record Instance (chosen : List FactId) (b : Binding) : Type 0 where
    pub facts : List Stored
    pub chosen_ids : ids_of facts ≡ chosen
    pub stored : every (λ s. Memᴰ s store) facts
    pub distinct : Distinct facts
    pub symbols : symbols_of facts ≡ head_symbols (heads r)
    pub here : p.head < length chosen → get_or chosen p.head nobody ≡ active
    pub fresh : in_history (fired_of p.rule chosen) history ≡ false
    pub guard : guard_value b r.guards ≡ Some true

  abbrev NotActive : Stored → Type 0
  NotActive s = active.0 ≡ s.id.0 → ⊥

  -- the same of the heads before those that are left
  record Partial (left : List Head) (chosen : List FactId) (b : Binding) : Type 0 where
    fact : Fact
    mine : Memᴰ (record { id = active; fact = fact }) store
    of_head : (get_or (heads r) p.head no_head).symbol ≡ fact.symbol
    facts : List Stored
    before : List Head
    whole : before ++ left ≡ heads r
    counted : length before ≡ length chosen
    chosen_ids : ids_of facts ≡ chosen
    stored : every (λ s. Memᴰ s store) facts
    distinct : Distinct facts
    symbols : symbols_of facts ≡ head_symbols before
    apart : length chosen ≤ p.head → every NotActive facts
    here : p.head < length chosen → get_or chosen p.head nobody ≡ active

  -- one fact more, of the next head's symbol
  more : (h : Head) (hs : List Head) (chosen : List FactId) (b c : Binding) (k : Partial (h ∷ hs) chosen b) (s : Stored)
      → Memᴰ s store → h.symbol ≡ s.fact.symbol → every (Differs s) k.facts
      → (length chosen < p.head → NotActive s) → (length chosen ≡ p.head → s.id ≡ active)
      → Partial hs (chosen ++ (s.id ∷ [])) c
  more h hs chosen b c k s m e d other same = record {
    fact = k.fact;
    mine = k.mine;
    of_head = k.of_head;
    facts = k.facts ++ (s ∷ []);
    before = k.before ++ (h ∷ []);
    whole = append_assoc k.before (h ∷ []) hs ∙ k.whole;
    counted = simp length-append (omega (arith, k.counted));
    chosen_ids = map-snoc (λ (s : Stored). s.id) k.facts s ∙ ap (λ (l : List FactId). l ++ (s.id ∷ [])) k.chosen_ids;
    stored = every-snoc (λ s. Memᴰ s store) k.facts s k.stored m;
    distinct = distinct-snoc k.facts s k.distinct d;
    symbols = map-snoc (λ (s : Stored). s.fact.symbol) k.facts s
        ∙ ap₂ (λ (l : List Symbol) (x : Symbol). l ++ (x ∷ [])) k.symbols (sym e)
        ∙ sym (map-snoc (λ (h : Head). h.symbol) k.before h);
    apart = λ l.
        let n = length-append chosen (s.id ∷ []) in
        every-snoc NotActive k.facts s (k.apart (omega (arith, l))) (other (omega (arith, l)));
    here = λ l. go (length-append chosen (s.id ∷ [])) l (eqb (length chosen) p.head) refl;
  }
    where
      go : length (chosen ++ (s.id ∷ [])) ≡ length chosen + 1 → p.head < length (chosen ++ (s.id ∷ [])) → (x : Bool) → eqb (length chosen) p.head ≡ x
          → get_or (chosen ++ (s.id ∷ [])) p.head nobody ≡ active
      go n l true q =
          let at = eqb-true (length chosen) p.head q in
          ap (λ (i : ℕ). get_or (chosen ++ (s.id ∷ [])) i nobody) (sym at) ∙ get_or-append_seam chosen s.id [] nobody ∙ same at
      go n l false q =
          let off = eqb-false (length chosen) p.head q in
          let b : p.head < length chosen = omega (arith, off) in
          get_or-append chosen (s.id ∷ []) nobody p.head b ∙ k.here b

  -- the head at the active fact's place is the first of those left, if as many have been served
  active-head : (h : Head) (hs : List Head) (chosen : List FactId) (b : Binding) (k : Partial (h ∷ hs) chosen b) → length chosen ≡ p.head
      → h.symbol ≡ k.fact.symbol
  active-head h hs chosen b k q =
      ap (λ (x : Head). x.symbol) (sym (get_or-append_seam k.before h hs no_head))
      ∙ ap₂ (λ (l : List Head) (i : ℕ). (get_or l i no_head).symbol) k.whole (k.counted ∙ q)
      ∙ k.of_head

  pub instance-is : FoundIs Instance (first_instance store history p r active)
  instance-is =
      first-is Instance Partial
      (λ chosen b k fresh guard. record {
        facts = k.facts;
        chosen_ids = k.chosen_ids;
        stored = k.stored;
        distinct = k.distinct;
        symbols = k.symbols ∙ ap head_symbols (sym (append-nil k.before) ∙ k.whole);
        here = k.here;
        fresh = fresh;
        guard = guard;
      })
      (λ h hs chosen b q k. more h hs chosen b b k (record { id = active; fact = k.fact }) k.mine (active-head h hs chosen b k q)
      (k.apart (omega arith)) (λ l. absurd (omega arith)) (λ x. refl))
      (λ h hs chosen b s c off u k.
      more h hs chosen b c k s u.stored (matched h s.fact b c u.matches)
      (not-among s k.facts (ap (is_among s.id) k.chosen_ids ∙ stands-anew active chosen s.id u.stands))
      (λ l x. eqb-false s.id.0 active.0 (stands-other active chosen s.id u.stands) (sym x)) (λ x. absurd (off x)))
      (λ f b m e. record {
        fact = f;
        mine = m;
        of_head = matched (get_or (heads r) p.head no_head) f unbound b e;
        facts = [];
        before = [];
        whole = refl;
        counted = refl;
        chosen_ids = refl;
        stored = tt;
        distinct = tt;
        symbols = refl;
        apart = λ l. tt;
        here = λ l. absurd (omega arith);
      })
