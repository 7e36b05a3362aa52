-- Goals: over a good table a goal is good exactly if it is the encoding of a well-formed goal, whose facts it is read to. As for a rule's parts: a fact's
-- bytes are read to its symbol and its arguments, the later of which are zero, and a fact that passes its tests is the bytes of what is used of it.
use Prim.Native.Nat.{ℕ, zero, suc, ◌+◌, ◌*◌, ◌/◌, ◌%◌, ◌≤◌, ◌<◌}
use mathlib.Core.Path.{◌≡◌, refl, sym, ap, ◌∙◌, subst}
use mathlib.Core.Logic.{◌↔◌}
use mathlib.Core.Bool.{Bool, true, false, not, ◌&&◌}
use mathlib.Core.List.{List, [], ◌∷◌, map}
use native.Mathlib.Omega.{arith}
use native.Mathlib.Nat.{mul-suc}
use lib.Dec.{ltb, leb, eqb}
use lib.IntN.{ℤ, pos}
use lib.ListN.{length, get_or, take, replicate, length-map}
use lib.Seq.{length-take-le}
use borrow.Author.Tests.{lt-leb, le-leb, ltb-true, ltb-false}
use Rattle.numbers.proofs.Laws.{InRange, in-range-fits, fits-in-range}
use Rattle.wire.specs.Wire.{u32_at, i32_at, signed_of, bits_of, bytes4}
use Rattle.wire.proofs.Laws.{bits-below, signed-bits, signed-fits, signed-low}
use Rattle.model.specs.declared.Fact.{Fact}
use Rattle.std.specs.Prelude.{Ok}
use Rattle.model.specs.declared.Reason.TheVariants.{BadGoalFact}
use Rattle.model.specs.Refusals.{Verdict, refused}
use Rattle.model.specs.Fields.{arity_at}
use Rattle.model.specs.Reading.{read_of}
use Rattle.model.specs.Matching.{arguments}
use Rattle.model.specs.Table.{symbol_at}
use Rattle.model.specs.Goal.{fact_at, facts_from, later_bad, later_places_bad, goal_fact_bad, facts_verdict, goal_verdict, goal_of}
use Rattle.model.proofs.Every.{every, every-take}
use Rattle.model.proofs.Ranges.{AreBytes}
use Rattle.model.proofs.Good.{WholeGoal, whole-goal}
use Rattle.model.proofs.Decoded.{facts-length}
use Rattle.grammar.specs.Tree.{GoalFact}
use Rattle.grammar.specs.Encode.{each_bytes, places_bytes, argument_bytes, goal_fact_bytes, encode_goal}
use Rattle.grammar.specs.WellFormed.{Uses, GoalFactGood, GoalGood}
use Rattle.grammar.specs.Layout.{numbered, laid_places, laid_fact, arities_of, goal_fact_tree, goal_tree}
use Rattle.grammar.proofs.Same.{Same, same-first, same-rest, same-more, same-left, same-right, same-at, same-self, same-whole, word-decodes}
use Rattle.grammar.proofs.Same.{word-encodes, zeros-decode, zeros-encode}
use Rattle.grammar.proofs.Slots.{below, bits-at}
use Rattle.grammar.proofs.Places.{rows_at, used_bad, four-used, places-long, places-decode, places-encode, laid-used}
use Rattle.grammar.proofs.Tests.{no-test}
use Rattle.grammar.proofs.Parts.{each-long, each-decode, uses-few}
use Rattle.grammar.proofs.Bytes.{goal-encoding-bytes}
use Rattle.grammar.proofs.Encoded.{map-back}
use Rattle.grammar.proofs.Grammar.{Written, rows-written, arities-count, arities-few, arities-declared, arities-small}

-- ---- arguments

argument-long : (z : ℤ) → length (argument_bytes z) ≡ 4
unfolding bytes4
argument-long z = refl

abbrev itself : ℤ → ℤ
itself z = z

module _ (g : List ℕ) where
  bits-decode : (p : ℕ) (z : ℤ) → InRange z → Same g p (argument_bytes z) → u32_at g p ≡ bits_of z
  bits-decode p z r s = word-decodes g p (bits_of z) (bits-below z (in-range-fits r)) s

  pub argument-decodes : (p : ℕ) (z : ℤ) → InRange z → Same g p (argument_bytes z) → i32_at g p ≡ z
  unfolding i32_at
  argument-decodes p z r s = ap signed_of (bits-decode p z r s) ∙ signed-bits z (in-range-fits r)

  zero-decodes : (p : ℕ) → Same g p (replicate 4 0) → i32_at g p ≡ pos 0
  unfolding i32_at
  zero-decodes p s = ap signed_of (zeros-decode g p s) ∙ signed-low 0 (omega arith)

  argument-zero : (p : ℕ) → u32_at g p ≡ 0 → i32_at g p ≡ pos 0
  unfolding i32_at
  argument-zero p e = ap signed_of e ∙ signed-low 0 (omega arith)

module _ (g : List ℕ) (u : AreBytes g) where
  argument-encodes : (p : ℕ) (z : ℤ) → i32_at g p ≡ z → Same g p (argument_bytes z)
  unfolding i32_at
  argument-encodes p z e = word-encodes g u p (bits_of z) (bits-at g u p z e)

  zero-encodes : (p : ℕ) → i32_at g p ≡ pos 0 → Same g p (replicate 4 0)
  unfolding i32_at bits_of
  zero-encodes p e = zeros-encode g p (bits-at g u p (pos 0) e)

  argument-ranged : (p : ℕ) → InRange (i32_at g p)
  unfolding i32_at
  argument-ranged p = fits-in-range (signed-fits (u32_at g p) (below g u p))

-- ---- the tests of a fact

-- an argument that is not used is zero
abbrev argument_bad : Bool → ℕ → Bool
argument_bad true value = false
argument_bad false value = not (eqb value 0)

later-bad : (arity place value : ℕ) → later_bad arity place value ≡ argument_bad (ltb place arity) value
unfolding later_bad
later-bad arity place value = go (ltb place arity) refl
  where
    go : (b : Bool) → ltb place arity ≡ b → (leb arity place && not (eqb value 0)) ≡ argument_bad b value
    go true e = rw (lt-leb arity place (ltb-true place arity e))
    go false e = rw (le-leb arity place (ltb-false place arity e))

-- the four words from a place on, each four behind the last
four-words : (g : List ℕ) (p : ℕ) → rows_at (u32_at g) 4 p 4 ≡ u32_at g p ∷ u32_at g (p + 4) ∷ u32_at g (p + 8) ∷ u32_at g (p + 12) ∷ []
four-words g p =
    let a : p + 4 + 4 ≡ p + 8 = omega arith in
    let b : p + 8 + 4 ≡ p + 12 = omega arith in
    rw (a, b)

later-places : (arity : ℕ) (g : List ℕ) (p : ℕ) → later_places_bad arity g p ≡ used_bad argument_bad arity (rows_at (u32_at g) 4 p 4)
unfolding later_places_bad
later-places arity g p =
    let tests : later_places_bad arity g p ≡ used_bad argument_bad arity (u32_at g p ∷ u32_at g (p + 4) ∷ u32_at g (p + 8) ∷ u32_at g (p + 12) ∷ []) =
    rw (
      later-bad arity 0 (u32_at g p),
      later-bad arity 1 (u32_at g (p + 4)),
      later-bad arity 2 (u32_at g (p + 8)),
      later-bad arity 3 (u32_at g (p + 12)),
    )
    (four-used argument_bad arity (u32_at g p) (u32_at g (p + 4)) (u32_at g (p + 8)) (u32_at g (p + 12))) in
    tests ∙ ap (used_bad argument_bad arity) (sym (four-words g p))

-- ---- one fact

pub goal-fact-long : (f : GoalFact) → length (goal_fact_bytes f) ≡ 18
unfolding goal_fact_bytes
goal-fact-long f = omega (arith, places-long argument_bytes 4 argument-long 4 f.arguments)

-- four arguments behind the symbol
fact-arguments : (g : List ℕ) (p : ℕ) → arguments (fact_at g p) ≡ rows_at (i32_at g) 4 (p + 2) 4
unfolding fact_at
fact-arguments g p =
    let a : p + 2 + 4 ≡ p + 6 = omega arith in
    let b : p + 6 + 4 ≡ p + 10 = omega arith in
    let c : p + 10 + 4 ≡ p + 14 = omega arith in
    rw (a, b, c)

fact-symbol : (g : List ℕ) (p : ℕ) → (fact_at g p).symbol ≡ symbol_at g (p + 1)
unfolding fact_at
fact-symbol g p = refl

module _ (g : List ℕ) (p : ℕ) (f : GoalFact) (s : Same g p (goal_fact_bytes f)) where
  kind-at : get_or g p 0 ≡ 16
  unfolding goal_fact_bytes
  kind-at = same-first g p 16 _ s

  symbol-at : get_or g (p + 1) 0 ≡ f.symbol
  unfolding goal_fact_bytes
  symbol-at = same-first g (p + 1) f.symbol _ (same-rest g p 16 _ s)

  places-at : Same g (p + 2) (places_bytes argument_bytes 4 4 f.arguments)
  unfolding goal_fact_bytes
  places-at = same-at g (p + 1 + 1) (p + 2) _ (omega arith) (same-rest g (p + 1) f.symbol _ (same-rest g p 16 _ s))

  arguments-at : every InRange f.arguments → arguments (fact_at g p) ≡ laid_places itself (pos 0) 4 f.arguments
  arguments-at r =
      fact-arguments g p
      ∙ places-decode argument_bytes 4 itself (pos 0) g (i32_at g) argument-long InRange (argument-decodes g) (zero-decodes g) (p + 2) 4 f.arguments r
      places-at

-- what stands at a place that is laid out
laid-get : (n k : ℕ) (zs : List ℤ) → k < n → get_or (laid_places itself (pos 0) n zs) k (pos 0) ≡ get_or zs k (pos 0)
unfolding laid_places
laid-get zero k zs h = absurd (omega arith)
laid-get (suc n) zero [] h = refl
laid-get (suc n) zero (z ∷ zs) h = refl
laid-get (suc n) (suc k) [] h = laid-get n k [] (omega arith)
laid-get (suc n) (suc k) (z ∷ zs) h = laid-get n k zs (omega arith)

pub goal-fact-decodes : (g : List ℕ) (p : ℕ) (f : GoalFact) → every InRange f.arguments → Same g p (goal_fact_bytes f) → fact_at g p ≡ laid_fact f
unfolding laid_fact fact_at
goal-fact-decodes g p f r s =
    let e = arguments-at g p f s r in
    let at : (k : ℕ) (h : k < 4) → get_or (arguments (fact_at g p)) k (pos 0) ≡ get_or f.arguments k (pos 0) =
    λ k h. ap (λ (l : List ℤ). get_or l k (pos 0)) e ∙ laid-get 4 k f.arguments h in
    let named = symbol-at g p f s in
    let x0 = at 0 (omega arith) in
    let x1 = at 1 (omega arith) in
    let x2 = at 2 (omega arith) in
    let x3 = at 3 (omega arith) in
    λ i. record { symbol = numbered (named i); arguments = x0 i ∷ x1 i ∷ x2 i ∷ x3 i ∷ [] }

module _ (t arities : List ℕ) (declared : (k : ℕ) → k < length arities → arity_at t k ≡ get_or arities k 0) (small : every (λ (a : ℕ). a ≤ 4) arities) where
  goal-fact-passes : (g : List ℕ) (p : ℕ) (f : GoalFact) → GoalFactGood arities f → Same g p (goal_fact_bytes f) → goal_fact_bad t (length arities) g p ≡ false
  unfolding goal_fact_bad
  goal-fact-passes g p f w s =
      let few = uses-few arities small f.symbol (length f.arguments) w.symbol in
      let arity : arity_at t f.symbol ≡ length f.arguments = declared f.symbol w.symbol.declared ∙ sym w.symbol.uses in
      let words = places-decode argument_bytes 4 bits_of 0 g (u32_at g) argument-long InRange (bits-decode g) (zeros-decode g) (p + 2) 4 f.arguments
      w.arguments (places-at g p f s) in
      rw (kind-at g p f s, symbol-at g p f s, lt-leb (length arities) f.symbol w.symbol.declared, arity, later-places (length f.arguments) g (p + 2))
      (ap (used_bad argument_bad (length f.arguments)) words
      ∙ laid-used bits_of 0 argument_bad InRange (λ z r. refl) refl 4 f.arguments few w.arguments)

-- the first ones of four numbers, the later of which are zero
first-ones : (zs : List ℤ) → length zs ≤ 4
    → take (length zs) (get_or zs 0 (pos 0) ∷ get_or zs 1 (pos 0) ∷ get_or zs 2 (pos 0) ∷ get_or zs 3 (pos 0) ∷ []) ≡ zs
first-ones [] h = refl
first-ones (a ∷ []) h = refl
first-ones (a ∷ b ∷ []) h = refl
first-ones (a ∷ b ∷ c ∷ []) h = refl
first-ones (a ∷ b ∷ c ∷ d ∷ []) h = refl
first-ones (a ∷ b ∷ c ∷ d ∷ e ∷ zs) h = absurd (omega arith)

-- ---- a fact that passes its tests

rows-get : (at : ℕ → ℤ) (size p n k : ℕ) → k < n → get_or (rows_at at size p n) k (pos 0) ≡ at (p + size * k)
rows-get at size p zero k h = absurd (omega arith)
rows-get at size p (suc n) zero h = let e : p + size * 0 ≡ p = omega arith in rw e
rows-get at size p (suc n) (suc k) h =
    let e : p + size * suc k ≡ p + size + size * k = omega (arith, mul-suc size k) in
    rw e (rows-get at size (p + size) n k (omega arith))

-- numbers of which the later are zero are laid out from the first ones
padded : (zs : List ℤ) (a : ℕ) → ((k : ℕ) → k < length zs → a ≤ k → get_or zs k (pos 0) ≡ pos 0) → zs ≡ laid_places itself (pos 0) (length zs) (take a zs)
unfolding laid_places
padded [] a h = refl
padded (z ∷ zs) zero h =
    ap (λ (x : ℤ). x ∷ zs) (h 0 (omega arith) (omega arith)) ∙ ap (λ (l : List ℤ). pos 0 ∷ l) (padded zs zero (λ k l m. h (suc k) (omega arith) (omega arith)))
padded (z ∷ zs) (suc a) h = ap (λ (l : List ℤ). z ∷ l) (padded zs a (λ k l m. h (suc k) (omega arith) (omega arith)))

facts-rows : (g : List ℕ) (p n : ℕ) → facts_from g p n ≡ rows_at (fact_at g) 18 p n
unfolding facts_from
facts-rows g p zero = refl
facts-rows g p (suc n) = ap (λ (l : List Fact). fact_at g p ∷ l) (facts-rows g (p + 18) n)

module _ (t arities : List ℕ) (declared : (k : ℕ) → k < length arities → arity_at t k ≡ get_or arities k 0) (small : every (λ (a : ℕ). a ≤ 4) arities)
    (g : List ℕ) (u : AreBytes g) (p : ℕ) (kind : get_or g p 0 ≡ 16) (known : get_or g (p + 1) 0 < length arities)
    (later : (k : ℕ) → k < 4 → arity_at t (get_or g (p + 1) 0) ≤ k → u32_at g (p + 2 + 4 * k) ≡ 0) where
  uses-at : Uses arities (get_or g (p + 1) 0) (get_or arities (get_or g (p + 1) 0) 0)
  uses-at = record { declared = known; uses = refl }

  goal-fact-fits : GoalFactGood arities (goal_fact_tree arities (fact_at g p))
  unfolding goal_fact_tree fact_at
  goal-fact-fits =
      let few = uses-few arities small _ _ uses-at in
      record {
        symbol = record { declared = known; uses = length-take-le (get_or arities (get_or g (p + 1) 0) 0) (arguments (fact_at g p)) few };
        arguments = every-take InRange (get_or arities (get_or g (p + 1) 0) 0) (arguments (fact_at g p))
            (argument-ranged g u (p + 2), (argument-ranged g u (p + 6), (argument-ranged g u (p + 10), (argument-ranged g u (p + 14), tt))));
      }

  goal-fact-encodes : Same g p (goal_fact_bytes (goal_fact_tree arities (fact_at g p)))
  unfolding goal_fact_tree goal_fact_bytes
  goal-fact-encodes =
      let a = get_or arities (get_or g (p + 1) 0) 0 in
      let rows = rows_at (i32_at g) 4 (p + 2) 4 in
      let zeros : (k : ℕ) → k < 4 → a ≤ k → get_or rows k (pos 0) ≡ pos 0 =
      λ k h l. rows-get (i32_at g) 4 (p + 2) 4 k h ∙ argument-zero g (p + 2 + 4 * k) (later k h (omega (arith, declared (get_or g (p + 1) 0) known))) in
      let placed : Same g (p + 2) (places_bytes argument_bytes 4 4 (take a rows)) =
      places-encode argument_bytes 4 itself (pos 0) g (i32_at g) argument-long (argument-encodes g u) (zero-encodes g u) (p + 2) 4 (take a rows)
      (padded rows a zeros) in
      rw (fact-symbol g p, fact-arguments g p)
      (same-more g p 16 _ kind (same-more g (p + 1) (get_or g (p + 1) 0) _ refl (same-at g (p + 2) (p + 1 + 1) _ (omega arith) placed)))

-- ---- a goal

module _ (t arities : List ℕ) (declared : (k : ℕ) → k < length arities → arity_at t k ≡ get_or arities k 0) (small : every (λ (a : ℕ). a ≤ 4) arities) where
  facts-good : (g : List ℕ) (k n : ℕ) → ((i : ℕ) → k ≤ i → i < k + n → goal_fact_bad t (length arities) g (18 * i) ≡ false)
      → facts_verdict t (length arities) g k n ≡ Ok tt
  unfolding facts_verdict
  facts-good g k zero h = refl
  facts-good g k (suc n) h =
      go (goal_fact_bad t (length arities) g (18 * k)) (h k (omega arith) (omega arith))
      (facts-good g (k + 1) n (λ i l m. h i (omega arith) (omega arith)))
    where
      go : (b : Bool) → b ≡ false → facts_verdict t (length arities) g (k + 1) n ≡ Ok tt
          → ◌≡◌ {A = Verdict} (elim b [ true ↦ refused BadGoalFact k | false ↦ facts_verdict t (length arities) g (k + 1) n ]) (Ok tt)
      go true e q = no-test e
      go false e q = q

  facts-pass : (g : List ℕ) (fs : List GoalFact) (p : ℕ) → every (GoalFactGood arities) fs → Same g p (each_bytes goal_fact_bytes fs)
      → (i : ℕ) → i < length fs → goal_fact_bad t (length arities) g (p + 18 * i) ≡ false
  unfolding each_bytes
  facts-pass g [] p w s i h = absurd (omega arith)
  facts-pass g (f ∷ fs) p w s zero h =
      let e : p + 18 * 0 ≡ p = omega arith in
      rw e (goal-fact-passes t arities declared small g p f w.0 (same-left g p (goal_fact_bytes f) (each_bytes goal_fact_bytes fs) s))
  facts-pass g (f ∷ fs) p w s (suc i) h =
      let e : p + 18 * suc i ≡ p + 18 + 18 * i = omega arith in
      rw e (facts-pass g fs (p + 18) w.1
      (same-at g (p + length (goal_fact_bytes f)) (p + 18) _ (omega (arith, goal-fact-long f)) (same-right g p (goal_fact_bytes f) _ s)) i (omega arith))

  goal-count : (fs : List GoalFact) → length (encode_goal fs) ≡ 18 * length fs
  unfolding encode_goal
  goal-count fs = each-long goal_fact_bytes 18 goal-fact-long fs

  goal-self : (fs : List GoalFact) → Same (encode_goal fs) 0 (each_bytes goal_fact_bytes fs)
  unfolding encode_goal
  goal-self fs = same-self (encode_goal fs)

  -- the encoding of a well-formed goal is good
  pub goal-good : (fs : List GoalFact) → GoalGood arities fs → goal_verdict t (length arities) (encode_goal fs) ≡ Ok tt
  unfolding goal_verdict
  goal-good fs w =
      let n = goal-count fs in
      let none : length (encode_goal fs) % 18 ≡ 0 = omega arith in
      let all : length (encode_goal fs) / 18 ≡ length fs = omega arith in
      rw (none, all, le-leb (length fs) 64 w.few)
      (facts-good (encode_goal fs) 0 (length fs) (λ i l m.
      let e : 0 + 18 * i ≡ 18 * i = omega arith in
      rw e at (facts-pass (encode_goal fs) fs 0 w.facts (goal-self fs) i (omega arith))))

  -- and is read to the goal's facts
  pub goal-facts : (fs : List GoalFact) → GoalGood arities fs → goal_of (encode_goal fs) ≡ map laid_fact fs
  unfolding goal_of
  goal-facts fs w =
      let n = goal-count fs in
      let all : length (encode_goal fs) / 18 ≡ length fs = omega arith in
      ap (facts_from (encode_goal fs) 0) all
      ∙ facts-rows (encode_goal fs) 0 (length fs)
      ∙ each-decode goal_fact_bytes 18 goal-fact-long (encode_goal fs) (fact_at (encode_goal fs)) laid_fact (GoalFactGood arities)
      (λ p f q. goal-fact-decodes (encode_goal fs) p f q.arguments) 0 fs w.facts (goal-self fs)

  goal-fact-back : (f : GoalFact) → GoalFactGood arities f → goal_fact_tree arities (laid_fact f) ≡ f
  unfolding goal_fact_tree laid_fact
  goal-fact-back f w =
      let e : take (get_or arities f.symbol 0) (arguments (laid_fact f)) ≡ f.arguments =
      ap (λ (n : ℕ). take n (arguments (laid_fact f))) (sym w.symbol.uses)
      ∙ first-ones f.arguments (uses-few arities small f.symbol (length f.arguments) w.symbol) in
      λ i. record { symbol = f.symbol; arguments = e i }

  -- reading it back gives the goal
  pub goal-back : (fs : List GoalFact) → GoalGood arities fs → goal_tree arities (encode_goal fs) ≡ fs
  unfolding goal_tree
  goal-back fs w =
      ap (map (goal_fact_tree arities)) (goal-facts fs w) ∙ map-back laid_fact (goal_fact_tree arities) (GoalFactGood arities) goal-fact-back fs w.facts

  -- a good goal is written as what is read back of it
  goal-written : (g : List ℕ) → AreBytes g → WholeGoal t (length arities) g
      → Written goal_fact_bytes (GoalFactGood arities) g 0 (length g) (goal_tree arities g)
  unfolding goal_tree goal_of
  goal-written g u w =
      let z : (i : ℕ) → 18 * i ≡ 0 + 18 * i = λ i. omega arith in
      let n = length g / 18 in
      let end : length g ≡ 0 + 18 * n = omega (arith, w.good.whole) in
      let kind : (i : ℕ) (h : i < n) → get_or g (0 + 18 * i) 0 ≡ 16 = λ i h. rw (← z i) (w.good.kinds i h) in
      let known : (i : ℕ) (h : i < n) → get_or g (0 + 18 * i + 1) 0 < length arities = λ i h. rw (← z i) (w.good.declared i h) in
      let later : (i : ℕ) (h : i < n) (k : ℕ) → k < 4 → arity_at t (get_or g (0 + 18 * i + 1) 0) ≤ k → u32_at g (0 + 18 * i + 2 + 4 * k) ≡ 0 =
      λ i h. subst (λ (p : ℕ). (k : ℕ) → k < 4 → arity_at t (get_or g (p + 1) 0) ≤ k → u32_at g (p + 2 + 4 * k) ≡ 0) (z i) (w.later i h) in
      rw (facts-rows g 0 n)
      (subst (λ (q : ℕ). Written goal_fact_bytes (GoalFactGood arities) g 0 q (map (goal_fact_tree arities) (rows_at (fact_at g) 18 0 n))) (sym end)
      (rows-written goal_fact_bytes 18 goal-fact-long g (fact_at g) (GoalFactGood arities) (goal_fact_tree arities) 0 n
      (λ i h. goal-fact-encodes t arities declared small g u (0 + 18 * i) (kind i h) (known i h) (later i h))
      (λ i h. goal-fact-fits t arities declared small g u (0 + 18 * i) (kind i h) (known i h) (later i h))))

  goal-formed : (g : List ℕ) → AreBytes g → WholeGoal t (length arities) g → GoalGood arities (goal_tree arities g)
  unfolding goal_tree goal_of
  goal-formed g u w = record {
    few = omega (arith, length-map (goal_of g) (goal_fact_tree arities), facts-length g 0 (length g / 18), w.good.few);
    facts = (goal-written g u w).good;
  }

  goal-bytes : (g : List ℕ) → AreBytes g → WholeGoal t (length arities) g → encode_goal (goal_tree arities g) ≡ g
  unfolding encode_goal
  goal-bytes g u w =
      let q = goal-written g u w in
      same-whole g (each_bytes goal_fact_bytes (goal_tree arities g)) (omega (arith, q.ends)) q.same

-- ---- the theorems, over a good table

-- fs is a goal that is well formed over the arities, and whose encoding is g
pub record EncodesGoal (arities g : List ℕ) (fs : List GoalFact) : Type 0 where
  pub formed : GoalGood arities fs
  pub bytes : encode_goal fs ≡ g

module _ (t : List ℕ) (e : (read_of t).verdict ≡ Ok tt) where
  -- A list of numbers is made of bytes and is a good goal for a good table exactly if it is the encoding of a goal that is well formed over its arities.
  pub goal-exactly : (g : List ℕ)
      → (AreBytes g × (goal_verdict t (read_of t).symbols g ≡ Ok tt)) ↔ ((fs : List GoalFact) × EncodesGoal (arities_of t) g fs)
  goal-exactly g =
      let n : (read_of t).symbols ≡ length (arities_of t) = sym (arities-count t e) in
      let whole : goal_verdict t (read_of t).symbols g ≡ Ok tt → WholeGoal t (length (arities_of t)) g =
      λ q. subst (λ (k : ℕ). WholeGoal t k g) n (whole-goal t (read_of t).symbols g q) in (
        λ q. (
          goal_tree (arities_of t) g,
          record {
            formed = goal-formed t (arities_of t) (arities-declared t e) (arities-small t e) g q.0 (whole q.1);
            bytes = goal-bytes t (arities_of t) (arities-declared t e) (arities-small t e) g q.0 (whole q.1);
          },
        ),
        λ w. rw (n, ← w.1.bytes) (
          goal-encoding-bytes (arities_of t) (arities-few t e) w.0 w.1.formed,
          goal-good t (arities_of t) (arities-declared t e) (arities-small t e) w.0 w.1.formed,
        ),
      )

  -- The encoding of a well-formed goal is read to its facts, and back to the goal.
  pub record GoalReadsBack (fs : List GoalFact) : Type 0 where
    pub facts : goal_of (encode_goal fs) ≡ map laid_fact fs
    pub goal : goal_tree (arities_of t) (encode_goal fs) ≡ fs

  pub goal-reads-back : (fs : List GoalFact) → GoalGood (arities_of t) fs → GoalReadsBack fs
  goal-reads-back fs w = record {
    facts = goal-facts t (arities_of t) (arities-declared t e) (arities-small t e) fs w;
    goal = goal-back t (arities_of t) (arities-declared t e) (arities-small t e) fs w;
  }

  -- There is no other.
  pub only-goal : (g : List ℕ) (fs : List GoalFact) → EncodesGoal (arities_of t) g fs → fs ≡ goal_tree (arities_of t) g
  only-goal g fs q = sym (goal-reads-back fs q.formed).goal ∙ ap (goal_tree (arities_of t)) q.bytes

  -- Two well-formed goals with one encoding are equal.
  pub one-goal : (fs gs : List GoalFact) → GoalGood (arities_of t) fs → GoalGood (arities_of t) gs → encode_goal fs ≡ encode_goal gs → fs ≡ gs
  one-goal fs gs v w q = sym (goal-reads-back fs v).goal ∙ ap (goal_tree (arities_of t)) q ∙ (goal-reads-back gs w).goal
