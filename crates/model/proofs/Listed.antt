-- All places, once, in order: the listing of a symbol's head places has every head of that symbol and nothing else, each at one index, in
-- document 01's order. Each part goes by the listing's own recursion: the heads of a rule come with falling place, and all of them have the rule's
-- number; the rules come with rising number. It asks nothing of the table.
use Prim.Native.Nat.{ℕ, zero, suc, ◌+◌, ◌≤◌, ◌<◌}
use native.Mathlib.Omega.{arith}
use mathlib.Core.Path.{◌≡◌, refl, sym, subst}
use mathlib.Core.Logic.{◌⊎◌, inl, inr}
use mathlib.Core.Bool.{Bool, true, false}
use Rattle.std.specs.Prelude.{Some, slice_get}
use mathlib.Core.List.Memᴰ
use mathlib.Core.List.{List, [], ◌∷◌, ◌++◌, Memᴰ}
use lib.Dec.{ltb}
use lib.ListN.{length, get_or}
use borrow.Author.Tests.{eq-eqb, ltb-true, ltb-false}
use Rattle.model.specs.declared.Symbol.{Symbol}
use Rattle.model.specs.declared.HeadPlace.{HeadPlace}
use Rattle.model.specs.Table.{Head, Rule, Table, heads, no_rule, rule_at, same_symbol, place_if, places_in, places_from, places}
use Rattle.model.specs.Search.{no_head}
use Rattle.model.proofs.Every.{every, every-append, every-weaken}
use Rattle.model.proofs.Lists.{OptionIs, index-is}
use Rattle.model.proofs.Decoded.{PlaceIn, places-in}

-- "over rules from first to last, and inside a rule from the last head to the first"
abbrev pub Before : HeadPlace → HeadPlace → Type 0
Before p q = (p.rule.0 < q.rule.0) ⊎ ((p.rule.0 ≡ q.rule.0) × (q.head < p.head))

-- x stands at index i of l
abbrev pub StandsAt : {A : Type 0} → List A → ℕ → A → Type 0
StandsAt l i x = slice_get l i ≡ Some x

-- The listing of s. A place is a head of s if its rule and its head are there and the head has that symbol (PlaceIn).
pub record AllPlaces (t : Table) (s : Symbol) : Type 0 where
  pub complete : (p : HeadPlace) → PlaceIn t s p → (i : ℕ) × StandsAt (places t s) i p
  pub sound : (i : ℕ) (p : HeadPlace) → StandsAt (places t s) i p → PlaceIn t s p
  pub ordered : (i j : ℕ) (p q : HeadPlace) → i < j → StandsAt (places t s) i p → StandsAt (places t s) j q → Before p q

-- ---- complete

abbrev place_of : ℕ → ℕ → HeadPlace
place_of n k = record { rule = record { 0 = n }; head = k }

place_if-has : (b : Bool) (p : HeadPlace) → b ≡ true → Memᴰ p (place_if b p)
place_if-has true p e = Memᴰ.head refl
place_if-has false p e = absurd cc

module _ (s : Symbol) where
  in-rule : (n k : ℕ) (hs : List Head) (i m : ℕ) → i < length hs → (get_or hs i no_head).symbol.0 ≡ s.0 → k + i ≡ m
      → Memᴰ (place_of n m) (places_in s n k hs)
  unfolding places_in
  in-rule n k [] i m l e q = absurd (omega arith)
  in-rule n k (h ∷ hs) zero m l e q =
      let z : k ≡ m = omega arith in
      Memᴰ.append_right (places_in s n (suc k) hs)
      (subst (λ (x : ℕ). Memᴰ (place_of n x) (place_if (same_symbol h.symbol s) (place_of n k))) z
      (place_if-has (same_symbol h.symbol s) (place_of n k) (eq-eqb h.symbol.0 s.0 e)))
  in-rule n k (h ∷ hs) (suc i) m l e q =
      Memᴰ.append_left (place_if (same_symbol h.symbol s) (place_of n k)) (in-rule n (suc k) hs i m (omega arith) e (omega arith))

  in-rules : (n : ℕ) (rs : List Rule) (i m k : ℕ) → i < length rs → n + i ≡ m → k < length (heads (get_or rs i no_rule))
      → (get_or (heads (get_or rs i no_rule)) k no_head).symbol.0 ≡ s.0
      → Memᴰ (place_of m k) (places_from s n rs)
  unfolding places_from
  in-rules n [] i m k l q h e = absurd (omega arith)
  in-rules n (r ∷ rs) zero m k l q h e =
      let z : n ≡ m = omega arith in
      Memᴰ.append_left (places_from s (suc n) rs)
      (subst (λ (x : ℕ). Memᴰ (place_of x k) (places_in s n 0 (heads r))) z (in-rule n 0 (heads r) k k h e (omega arith)))
  in-rules n (r ∷ rs) (suc i) m k l q h e = Memᴰ.append_right (places_in s n 0 (heads r)) (in-rules (suc n) rs i m k (omega arith) (omega arith) h e)

-- ---- in order

abbrev Sorted : List HeadPlace → Type 0
Sorted [] = Unit {0}
Sorted (p ∷ ps) = every (Before p) ps × Sorted ps

sorted-append : (ps qs : List HeadPlace) → Sorted ps → Sorted qs → every (λ p. every (Before p) qs) ps → Sorted (ps ++ qs)
sorted-append [] qs u v w = v
sorted-append (p ∷ ps) qs u v w = (every-append (Before p) ps qs u.0 w.0, sorted-append ps qs u.1 v w.1)

-- what is known of the places of rule n from head k on, and of those from rule n on
record Within (n k : ℕ) (p : HeadPlace) : Type 0 where
  same : p.rule.0 ≡ n
  from : k ≤ p.head

module _ (s : Symbol) where
  within-rule : (n k : ℕ) (hs : List Head) → every (Within n k) (places_in s n k hs)
  unfolding places_in
  within-rule n k [] = tt
  within-rule n k (h ∷ hs) =
      every-append (Within n k) (places_in s n (suc k) hs) _
      (every-weaken (Within n (suc k)) (Within n k) (λ p w. record { same = w.same; from = omega (arith, w.from) }) (places_in s n (suc k) hs)
      (within-rule n (suc k) hs))
      (go (same_symbol h.symbol s))
    where
      go : (b : Bool) → every (Within n k) (place_if b (place_of n k))
      go true = (record { same = refl; from = omega arith }, tt)
      go false = tt

  rule-sorted : (n k : ℕ) (hs : List Head) → Sorted (places_in s n k hs)
  unfolding places_in
  rule-sorted n k [] = tt
  rule-sorted n k (h ∷ hs) = go (same_symbol h.symbol s) (rule-sorted n (suc k) hs)
    where
      go : (b : Bool) → Sorted (places_in s n (suc k) hs) → Sorted (places_in s n (suc k) hs ++ place_if b (place_of n k))
      go true u =
          sorted-append (places_in s n (suc k) hs) (place_of n k ∷ []) u (tt, tt)
          (every-weaken (Within n (suc k)) (λ p. every (Before p) (place_of n k ∷ [])) (λ p w. (inr (w.same, w.from), tt)) (places_in s n (suc k) hs)
          (within-rule n (suc k) hs))
      go false u =
          sorted-append (places_in s n (suc k) hs) [] u tt
          (every-weaken (Within n (suc k)) (λ p. every (Before p) []) (λ p w. tt) (places_in s n (suc k) hs) (within-rule n (suc k) hs))

  from-rule : (n : ℕ) (rs : List Rule) → every (λ (p : HeadPlace). n ≤ p.rule.0) (places_from s n rs)
  unfolding places_from
  from-rule n [] = tt
  from-rule n (r ∷ rs) =
      every-append (λ (p : HeadPlace). n ≤ p.rule.0) (places_in s n 0 (heads r)) (places_from s (suc n) rs)
      (every-weaken (Within n 0) (λ (p : HeadPlace). n ≤ p.rule.0) (λ p w. omega (arith, w.same)) (places_in s n 0 (heads r)) (within-rule n 0 (heads r)))
      (every-weaken (λ (p : HeadPlace). suc n ≤ p.rule.0) (λ (p : HeadPlace). n ≤ p.rule.0) (λ p l. omega arith) (places_from s (suc n) rs)
      (from-rule (suc n) rs))

  rules-sorted : (n : ℕ) (rs : List Rule) → Sorted (places_from s n rs)
  unfolding places_from
  rules-sorted n [] = tt
  rules-sorted n (r ∷ rs) =
      sorted-append (places_in s n 0 (heads r)) (places_from s (suc n) rs) (rule-sorted n 0 (heads r)) (rules-sorted (suc n) rs)
      (every-weaken (Within n 0) (λ p. every (Before p) (places_from s (suc n) rs))
      (λ p w. every-weaken (λ (q : HeadPlace). suc n ≤ q.rule.0) (Before p) (λ q l. inl (omega (arith, w.same))) (places_from s (suc n) rs)
      (from-rule (suc n) rs))
      (places_in s n 0 (heads r)) (within-rule n 0 (heads r)))

-- ---- by index

index-of : {A : Type 0} {x : A} (l : List A) → Memᴰ x l → (i : ℕ) × StandsAt l i x
index-of {A = A} [] m = elim m [ ]
index-of (y ∷ l) (Memᴰ.head e) = (0, rw (sym e))
index-of (y ∷ l) (Memᴰ.tail m) = let r = index-of l m in (suc r.0, r.1)

stands : {A : Type 0} (P : A → Type 0) (l : List A) → every P l → (i : ℕ) (x : A) → StandsAt l i x → P x
stands P l u i x e = (subst (OptionIs (λ x. P x × (i < length l))) e (index-is P l i u)).0

sorted-at : (l : List HeadPlace) → Sorted l → (i j : ℕ) (p q : HeadPlace) → i < j → StandsAt l i p → StandsAt l j q → Before p q
sorted-at [] u i j p q h a b = absurd cc
sorted-at (x ∷ l) u zero zero p q h a b = absurd (omega arith)
sorted-at (x ∷ l) u zero (suc j) p q h a b = let e : x ≡ p = cc in subst (λ (y : HeadPlace). Before y q) e (stands (Before x) l u.0 j q b)
sorted-at (x ∷ l) u (suc i) zero p q h a b = absurd (omega arith)
sorted-at (x ∷ l) u (suc i) (suc j) p q h a b = sorted-at l u.1 i j p q (omega arith) a b

-- ---- the theorem

pub all-places : (t : Table) (s : Symbol) → AllPlaces t s
unfolding places rule_at
all-places t s = record {
  complete = λ p w. index-of (places t s)
      (in-rules s 0 t.rules p.rule.0 p.rule.0 p.head w.rule_in (omega arith) w.head_in (w.symbol_same no_head));
  sound = stands (PlaceIn t s) (places t s) (places-in t s);
  ordered = sorted-at (places t s) (rules-sorted s 0 t.rules);
}

-- so that no place comes before itself, and each head of s stands at one index alone
before-other : (p : HeadPlace) → Before p p → ⊥
before-other p (inl l) = omega arith
before-other p (inr l) = omega (arith, l.1)

pub record OneIndex (t : Table) (s : Symbol) (p : HeadPlace) : Type 0 where
  pub index : ℕ
  pub stands : StandsAt (places t s) index p
  pub alone : (j : ℕ) → StandsAt (places t s) j p → j ≡ index

pub one-index : (t : Table) (s : Symbol) (p : HeadPlace) → PlaceIn t s p → OneIndex t s p
one-index t s p w = record { index = at.0; stands = at.1; alone = λ j e. same j e (ltb j at.0) (ltb at.0 j) refl refl }
  where
    at : (i : ℕ) × StandsAt (places t s) i p
    at = (all-places t s).complete p w

    never : (i j : ℕ) → StandsAt (places t s) i p → StandsAt (places t s) j p → i < j → ⊥
    never i j a b h = before-other p ((all-places t s).ordered i j p p h a b)

    same : (j : ℕ) → StandsAt (places t s) j p → (x y : Bool) → ltb j at.0 ≡ x → ltb at.0 j ≡ y → j ≡ at.0
    same j e true y a b = absurd (never j at.0 e at.1 (ltb-true j at.0 a))
    same j e false true a b = absurd (never at.0 j at.1 e (ltb-true at.0 j b))
    same j e false false a b = omega (arith, ltb-false j at.0 a, ltb-false at.0 j b)
