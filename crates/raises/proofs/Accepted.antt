-- What a search ends with. Weights that it finds are accepted by weighing: there is one for each symbol, none is zero, and every rule loses weight. A
-- rule at which it stops cannot be raised: its raises are never used up, since each adds at least 1 to a sum of at most 255 a symbol, which began at 1 a
-- symbol. Asks that each removed head's symbol is declared and that there are at most 32 symbols, as in a good table.
use Prim.Native.Nat.{ℕ, zero, suc, ◌+◌, ◌*◌, ◌<◌, ◌≤◌}
use mathlib.Core.Path.{◌≡◌, refl, ◌∙◌}
use mathlib.Core.List.{List, [], ◌∷◌}
use native.Mathlib.Omega.{arith}
use lib.ListN.{length, get_or, set, replicate, length-set, length-replicate}
use Rattle.std.specs.Prelude.{Option, Some, None}
use Rattle.model.specs.Table.{Head, Rule, no_rule}
use Rattle.model.specs.Weights.{weight_in, first_zero, first_heavy}
use Rattle.model.proofs.Every.{every, every-at}
use Rattle.raise.specs.declared.NewWeight.{NewWeight}
use Rattle.raise.specs.Raise.{to, raise_of}
use Rattle.raise.proofs.Raising.{raised}
use Rattle.raises.specs.Search.{most_raises, Sought, found, stopped, search_from, search_of}
use Rattle.raises.proofs.Ends.{Heavy, heavy-at, Ends, ends}

-- ---- what holds of each weight, by its symbol

abbrev pub Each : List ℕ → (ℕ → ℕ → Type 0) → Type 0
Each ws Q = (i : ℕ) → Q i (get_or ws i 1)

pub set-each : (Q : ℕ → ℕ → Type 0) (ws : List ℕ) (s x : ℕ) → Each ws Q → Q s x → Each (set ws s x) Q
set-each Q [] s x p h i = p i
set-each Q (w ∷ ws) zero x p h zero = h
set-each Q (w ∷ ws) zero x p h (suc i) = p (suc i)
set-each Q (w ∷ ws) (suc s) x p h zero = p 0
set-each Q (w ∷ ws) (suc s) x p h (suc i) = set-each (λ j. Q (suc j)) ws s x (λ j. p (suc j)) h i

pub ones-each : (Q : ℕ → ℕ → Type 0) (n : ℕ) → ((i : ℕ) → Q i 1) → Each (replicate n 1) Q
ones-each Q zero h i = h i
ones-each Q (suc n) h zero = h 0
ones-each Q (suc n) h (suc i) = ones-each (λ j. Q (suc j)) n (λ j. h (suc j)) i

-- a weight from 1 to 255
pub record Weight (i w : ℕ) : Type 0 where
  pub low : 1 ≤ w
  pub high : w ≤ 255

no-zero : (k : ℕ) (ws : List ℕ) → Each ws Weight → first_zero k ws ≡ None
unfolding first_zero
no-zero k [] p = refl
no-zero k (zero ∷ ws) p = absurd (omega (arith, (p 0).low))
no-zero k (suc n ∷ ws) p = no-zero (suc k) ws (λ i. record { low = (p (suc i)).low; high = (p (suc i)).high })

-- ---- the sum of the weights

unfoldable pub total : List ℕ → ℕ
total [] = 0
total (w ∷ ws) = w + total ws

total-set : (ws : List ℕ) (s x : ℕ) → s < length ws → total (set ws s x) + get_or ws s 1 ≡ total ws + x
unfolding total
total-set [] s x h = absurd (omega arith)
total-set (w ∷ ws) zero x h = omega arith
total-set (w ∷ ws) (suc s) x h = omega (arith, total-set ws s x (omega arith))

total-few : (ws : List ℕ) → Each ws Weight → total ws ≤ 255 * length ws
unfolding total
total-few [] p = omega arith
total-few (w ∷ ws) p = omega (arith, (p 0).high, total-few ws (λ i. record { low = (p (suc i)).low; high = (p (suc i)).high }))

total-ones : (n : ℕ) → total (replicate n 1) ≡ n
unfolding total
total-ones zero = refl
total-ones (suc n) = omega (arith, total-ones n)

-- ---- what each raise keeps

-- each removed head's symbol is declared
abbrev pub Declared : List Rule → ℕ → Type 0
Declared rules symbols = every (λ (r : Rule). every (λ (h : Head). h.symbol.0 < symbols) r.removed) rules

-- there is a weight for each symbol, and the raises left make up for what the sum lacks
pub record Kept (symbols n : ℕ) (ws : List ℕ) : Type 0 where
  pub long : length ws ≡ symbols
  pub weights : Each ws Weight
  pub room : 255 * symbols ≤ total ws + n

module _ (rules : List Rule) (symbols : ℕ) (declared : Declared rules symbols) where
  -- a raise is of a declared symbol, and adds something
  record Adds (ws : List ℕ) (s x : ℕ) : Type 0 where
    inside : s < length ws
    more : get_or ws s 1 < x
    small : x ≤ 255

  adds : (ws : List ℕ) (r s x : ℕ) → length ws ≡ symbols → Heavy (weight_in ws) rules r → raise_of ws (get_or rules r no_rule) ≡ to s x → Adds ws s x
  adds ws r s x l h e =
      let d = raised ws (get_or rules r no_rule) s x e in
      let all = every-at (λ (r : Rule). every (λ (h : Head). h.symbol.0 < symbols) r.removed) rules r no_rule declared h.inside in
      let first : every (λ (h : Head). h.symbol.0 < symbols) (d.head ∷ d.rest) = rw d.first at all in
      record { inside = omega (arith, first.0, d.symbol); more = omega (arith, h.weighs, d.weight); small = d.small }

  module _ (n : ℕ) (ws : List ℕ) (r s x : ℕ) (k : Kept symbols (suc n) ws) (h : Heavy (weight_in ws) rules r)
      (e : raise_of ws (get_or rules r no_rule) ≡ to s x) where
    pub raise-keeps : Kept symbols n (set ws s x)
    raise-keeps =
        let a = adds ws r s x k.long h e in
        record {
          long = length-set ws s x ∙ k.long;
          weights = set-each Weight ws s x k.weights (record { low = omega (arith, a.more); high = a.small });
          room = omega (arith, k.room, a.more, total-set ws s x a.inside);
        }

  -- with no raise left all weights are 255, so that none can be raised
  pub all-raised : (ws : List ℕ) (r s x : ℕ) → Kept symbols 0 ws → Heavy (weight_in ws) rules r → raise_of ws (get_or rules r no_rule) ≡ to s x → ⊥
  all-raised ws r s x k h e =
      let a = adds ws r s x k.long h e in
      let few = total-few (set ws s x) (set-each Weight ws s x k.weights (record { low = omega (arith, a.more); high = a.small })) in
      omega (arith, few, k.room, a.more, total-set ws s x a.inside, length-set ws s x, k.long)

pub ones-kept : (symbols : ℕ) → symbols ≤ 32 → Kept symbols most_raises (replicate symbols 1)
ones-kept symbols h = record {
  long = length-replicate {A = ℕ} symbols 1;
  weights = ones-each Weight symbols (λ i. record { low = omega arith; high = omega arith });
  room = omega (arith, total-ones symbols);
}

-- ---- the end

pub record Accepted (rules : List Rule) (symbols : ℕ) (ws : List ℕ) : Type 0 where
  pub long : length ws ≡ symbols
  pub something : first_zero 0 ws ≡ None
  pub loses : first_heavy (weight_in ws) 0 rules ≡ None

-- with these weights r is the first rule that does not lose weight, and it cannot be raised
pub record Stuck (rules : List Rule) (r : ℕ) (ws : List ℕ) : Type 0 where
  pub heavy : first_heavy (weight_in ws) 0 rules ≡ Some (record { 0 = r })
  pub full : raise_of ws (get_or rules r no_rule) ≡ None

abbrev pub Settled : List Rule → ℕ → Sought → Type 0
Settled rules symbols (found ws) = Accepted rules symbols ws
Settled rules symbols (stopped r ws) = Stuck rules r ws

module _ (rules : List Rule) (symbols : ℕ) (declared : Declared rules symbols) (few : symbols ≤ 32) where
  settled : (o : Sought) → Ends rules (Kept symbols) o → Settled rules symbols o
  settled (found ws) e = record { long = e.kept.long; something = no-zero 0 ws e.kept.weights; loses = e.loses }
  settled (stopped r ws) e = record { heavy = e.heavy; full = go (raise_of ws (get_or rules r no_rule)) refl }
    where
      go : (c : Option NewWeight) → raise_of ws (get_or rules r no_rule) ≡ c → raise_of ws (get_or rules r no_rule) ≡ None
      go (Some x) q =
          let none-left : Kept symbols 0 ws = rw (e.stuck x.symbol.0 x.weight q) at e.kept in
          absurd (all-raised rules symbols declared ws r x.symbol.0 x.weight none-left (heavy-at (weight_in ws) rules r e.heavy) q)
      go None q = q

  pub search-settles : Settled rules symbols (search_of rules symbols)
  unfolding search_of
  search-settles =
      settled (search_from most_raises rules (replicate symbols 1))
      (ends rules (Kept symbols) (raise-keeps rules symbols declared) most_raises (replicate symbols 1) (ones-kept symbols few))
