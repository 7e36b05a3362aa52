-- The table of a text is refused with 19, 20 or 22 alone, or is good. Its records have known kinds and their kinds' lengths, stand in order, in each rule
-- behind a head, up to the end record, which is last: so 16, 17, 18, 21 and 23 never come, whatever the records hold.
use Prim.Native.Nat.{ℕ, zero, suc, ◌+◌, ◌≤◌, ◌<◌}
use native.Mathlib.Omega.{arith}
use mathlib.Core.Path.{◌≡◌, refl, ap, ◌∙◌}
use mathlib.Core.Bool.{false}
use mathlib.Core.List.{List, [], ◌∷◌, ◌++◌, Memᴰ}
use lib.Dec.{eqb}
use lib.ListN.{length, get_or, length-append}
use borrow.Author.Tests.{lt-leb, le-ltb, ne_eqb}
use Rattle.model.specs.declared.Kind.{Kind}
use Rattle.model.specs.declared.Kind.TheVariants.{NextSymbol, NextRule, KeptHead, RemovedHead, Comparison, BodyFact, BodyFail, EndOfTable}
use Rattle.model.specs.declared.RuleShape.{RuleShape}
use Rattle.model.specs.declared.Scan.{Scan}
use Rattle.std.specs.Prelude.{Some, Ok, Err}
use Rattle.model.specs.declared.Behind.TheVariants.{Next, Done}
use Rattle.model.specs.declared.Reason.TheVariants.{TooMany, BadField, StrangeVariable}
use Rattle.model.specs.declared.Refusal.{Refusal}
use Rattle.model.specs.Refusals.{Verdict, number_of, refused}
use Rattle.model.specs.Records.{kind_of, size_of, earliest_of, latest_of, out_of_order, headless, too_many}
use Rattle.model.specs.Fields.{bad_field}
use Rattle.model.specs.Variables.{strange}
use Rattle.model.specs.Reading.{RecordStep, behind, fields_of, ordered_of, tested_of, known_of, record_of}
use Rattle.model.specs.Reading.{noted, ended, go_on, read_from, read_of, first_scan, no_shapes}
use Rattle.model.specs.Calls.{verdict_result, check_of}
use Rattle.model.proofs.Every.{every}
use Rattle.model.proofs.Lists.{either}
use Rattle.grammar.specs.Tree.{HeadTree, GuardTree, ItemTree, fact, fail, RuleTree, TableTree}
use Rattle.grammar.specs.Encode.{each_bytes, symbol_bytes, head_bytes, guard_bytes, item_bytes, rule_bytes, encode}
use Rattle.grammar.proofs.Same.{same-first, same-self}
use Rattle.grammar.proofs.Parts.{head-long, guard-long, fact-long}
use Rattle.grammar.proofs.Reading.{At, at-left, at-right, at-rest}
use Rattle.text.specs.Tokens.{Lexed}
use Rattle.text.specs.Text.{RuleShaped, Shaped}
use Rattle.parsing.specs.Parsed.{tree, parsed}
use Rattle.parsing.proofs.Exactly.{text-exactly}

-- ---- numbers

abbrev pub Among : List ℕ → ℕ → Type 0
Among ns n = Memᴰ n ns

-- a verdict that a text's table can get
abbrev Fair : Verdict → Type 0
Fair (Ok u) = Unit {0}
Fair (Err r) = Among (19 ∷ 20 ∷ 22 ∷ []) (number_of r.reason)

-- ---- one record

-- a record whose kind, length and place in the order are right
record Placed (t : List ℕ) (at stage : ℕ) (k : Kind) : Type 0 where
  kind : kind_of (get_or t at 0) ≡ Some k
  some : 1 ≤ size_of k
  lies : at + size_of k ≤ length t
  early : earliest_of k ≤ stage
  late : stage ≤ latest_of k
  headed : headless k stage ≡ false

-- is refused with 19, 20 or 22, or read
record-fair : (P : RecordStep → Type 0) (t : List ℕ) (s : Scan) (k : Kind) → Placed t s.at s.stage k
    → ((r : Refusal) → Among (19 ∷ 20 ∷ 22 ∷ []) (number_of r.reason) → P (Err r)) → P (Ok (behind s k)) → P (record_of t s)
unfolding record_of known_of tested_of ordered_of fields_of out_of_order
record-fair P t s k r stops goes =
    rw (
      lt-leb (length t) s.at (omega (arith, r.some, r.lies)),
      r.kind,
      le-ltb (length t) (s.at + size_of k) r.lies,
      le-ltb s.stage (earliest_of k) r.early,
      le-ltb (latest_of k) s.stage r.late,
      r.headed,
    )
    (either P (too_many k s) (refused TooMany s.at) _ (λ e. stops (record { reason = TooMany; place = s.at }) (Memᴰ.head refl))
    (λ e. either P (bad_field t s k) (refused BadField s.at) _ (λ f. stops (record { reason = BadField; place = s.at }) (Memᴰ.tail (Memᴰ.head refl)))
    (λ f. either P (strange t s k) (refused StrangeVariable s.at) (Ok (behind s k))
    (λ g. stops (record { reason = StrangeVariable; place = s.at }) (Memᴰ.tail (Memᴰ.tail (Memᴰ.head refl)))) (λ g. goes))))

-- ---- from a place on

-- from a place and a stage on, every reading ends in a verdict that is fair
abbrev FairFrom : List ℕ → ℕ → ℕ → Type 0
FairFrom t at stage = (s : Scan) → s.at ≡ at → s.stage ≡ stage → (n : ℕ) (shapes : List RuleShape) → length t ≤ n + at
    → Fair (read_from n t s shapes).verdict

-- what may come of a record at a place
abbrev FairStep : List ℕ → ℕ → RecordStep → Type 0
FairStep t at (Ok (Next s)) = (at < s.at) × FairFrom t s.at s.stage
FairStep t at (Err r) = Among (19 ∷ 20 ∷ 22 ∷ []) (number_of r.reason)
FairStep t at (Ok (Done p)) = p ≡ length t

fair-record : (t : List ℕ) (at stage : ℕ) (k : Kind) → Placed t at stage k → ((s : Scan) → s.at ≡ at → FairStep t at (Ok (behind s k))) → FairFrom t at stage
unfolding read_from
fair-record t at stage k r follows s e f zero shapes h = absurd (omega (arith, r.some, r.lies))
fair-record t at stage k r follows s e f (suc n) shapes h =
    go (record_of t s) (record-fair (FairStep t at) t s k (rw (e, f) r) (λ r a. a) (follows s e))
  where
    go : (x : RecordStep) → FairStep t at x → Fair (go_on t s shapes (read_from n t) x).verdict
    go (Ok (Next s')) u = unfold go_on in u.1 s' refl refl n (noted shapes s') (omega (arith, u.0))
    go (Err r) u = unfold go_on in u
    go (Ok (Done p)) u = unfold go_on ended in rw (le-ltb p (length t) (omega arith)) tt

-- ---- the parts of a rule

-- a part of a rule: its record leads on to the stage `last`
record Part (bs : List ℕ) (last : ℕ) (k : Kind) : Type 0 where
  kind : (t : List ℕ) (p : ℕ) → At t p bs → kind_of (get_or t p 0) ≡ Some k
  long : length bs ≡ size_of k
  some : 1 ≤ size_of k
  early : earliest_of k ≤ 1
  late : last ≤ latest_of k
  goes : (s : Scan) → (s' : Scan) × (behind s k ≡ Next s') × (s'.at ≡ s.at + size_of k) × (s'.stage ≡ last)

-- headless asks for the stage 1 alone
headed-from : (k : Kind) (stage : ℕ) → 2 ≤ stage → headless k stage ≡ false
headed-from NextSymbol stage h = refl
headed-from NextRule stage h = ne_eqb stage 1 (λ (e : stage ≡ 1). omega arith)
headed-from KeptHead stage h = refl
headed-from RemovedHead stage h = refl
headed-from Comparison stage h = ne_eqb stage 1 (λ (e : stage ≡ 1). omega arith)
headed-from BodyFact stage h = ne_eqb stage 1 (λ (e : stage ≡ 1). omega arith)
headed-from BodyFail stage h = ne_eqb stage 1 (λ (e : stage ≡ 1). omega arith)
headed-from EndOfTable stage h = ne_eqb stage 1 (λ (e : stage ≡ 1). omega arith)

module _ (t : List ℕ) {A : Type 0} (bytes : A → List ℕ) (kind : A → Kind) (last : ℕ) (part : (x : A) → Part (bytes x) last (kind x)) (two : 2 ≤ last) where
  -- parts of a sort, one behind the other
  fair-parts : (xs : List A) (at stage : ℕ) → 1 ≤ stage → stage ≤ last → ((x : A) → headless (kind x) stage ≡ false) → At t at (each_bytes bytes xs)
      → ((stage' : ℕ) → stage ≤ stage' → stage' ≤ last → (1 ≤ length xs → stage' ≡ last) → FairFrom t (at + length (each_bytes bytes xs)) stage')
      → FairFrom t at stage
  unfolding each_bytes
  fair-parts [] at stage l m o a q = let e : at + 0 ≡ at = omega arith in rw e at (q stage (omega arith) m (λ h. absurd (omega arith)))
  fair-parts (x ∷ xs) at stage l m o a q =
      let here : At t at (bytes x) = at-left t at (bytes x) (each_bytes bytes xs) a in
      let whole : at + length (bytes x) + length (each_bytes bytes xs) ≡ at + length (bytes x ++ each_bytes bytes xs)
      = omega (arith, length-append (bytes x) (each_bytes bytes xs)) in
      let later : FairFrom t (at + length (bytes x)) last
      = fair-parts xs (at + length (bytes x)) last (omega arith) (omega arith) (λ y. headed-from (kind y) last two)
      (at-right t at (at + length (bytes x)) (bytes x) (each_bytes bytes xs) refl a)
      (λ stage' l' m' e. rw whole (q stage' (omega arith) m' (λ h. omega arith))) in
      fair-record t at stage (kind x)
      (record {
        kind = (part x).kind t at here;
        some = (part x).some;
        lies = omega (arith, here.lies, (part x).long);
        early = omega (arith, (part x).early);
        late = omega (arith, (part x).late);
        headed = o x;
      })
      (λ s e.
      let g = (part x).goes s in
      let there : g.0.at ≡ at + length (bytes x) = omega (arith, g.2, (part x).long) in
      rw g.1 (omega (arith, g.2, (part x).some), rw (there, g.3) later))

-- the kind of a record that begins with its byte
kind-at : (b : ℕ) (bs : List ℕ) (k : Kind) → kind_of b ≡ Some k → (t : List ℕ) (p : ℕ) → At t p (b ∷ bs) → kind_of (get_or t p 0) ≡ Some k
kind-at b bs k e t p a = ap kind_of (same-first t p b bs a.same) ∙ e

-- a part that begins with the byte b, of kind k
part-with : (b : ℕ) (bs : List ℕ) (last : ℕ) (k : Kind) → kind_of b ≡ Some k → length (b ∷ bs) ≡ size_of k
    → (1 ≤ size_of k) × (earliest_of k ≤ 1) × (last ≤ latest_of k)
    → ((s : Scan) → (s' : Scan) × (behind s k ≡ Next s') × (s'.at ≡ s.at + size_of k) × (s'.stage ≡ last)) → Part (b ∷ bs) last k
part-with b bs last k e long places goes = record {
  kind = kind-at b bs k e;
  long = long;
  some = places.0;
  early = places.1;
  late = places.2;
  goes = goes;
}

kept-part : (h : HeadTree) → Part (head_bytes 3 h) 2 KeptHead
unfolding head_bytes kind_of behind
kept-part h = part-with 3 _ 2 KeptHead refl (head-long 3 h) (omega arith) (λ s. (_, refl, refl, refl))

removed-part : (h : HeadTree) → Part (head_bytes 4 h) 3 RemovedHead
unfolding head_bytes kind_of behind
removed-part h = part-with 4 _ 3 RemovedHead refl (head-long 4 h) (omega arith) (λ s. (_, refl, refl, refl))

guard-part : (g : GuardTree) → Part (guard_bytes g) 4 Comparison
unfolding guard_bytes kind_of behind
guard-part g = part-with 5 _ 4 Comparison refl (guard-long g) (omega arith) (λ s. (_, refl, refl, refl))

abbrev item_kind : ItemTree → Kind
item_kind (fact s es) = BodyFact
item_kind fail = BodyFail

item-part : (i : ItemTree) → Part (item_bytes i) 5 (item_kind i)
unfolding item_bytes kind_of behind
item-part (fact k es) = part-with 6 _ 5 BodyFact refl (fact-long k es) (omega arith) (λ s. (_, refl, refl, refl))
item-part fail = part-with 7 _ 5 BodyFail refl refl (omega arith) (λ s. (_, refl, refl, refl))

-- ---- rules

module _ (t : List ℕ) where
  -- behind a rule, and before the first, no head is missing
  fair-rule : (r : RuleTree) (at stage : ℕ) → 1 ≤ length r.kept + length r.removed → stage ≤ 5 → eqb stage 1 ≡ false → At t at (rule_bytes r)
      → ((stage' : ℕ) → stage' ≤ 5 → eqb stage' 1 ≡ false → FairFrom t (at + length (rule_bytes r)) stage') → FairFrom t at stage
  unfolding rule_bytes kind_of behind
  fair-rule r at stage some l o a q =
      let ks = each_bytes (head_bytes 3) r.kept in
      let rs = each_bytes (head_bytes 4) r.removed in
      let gs = each_bytes guard_bytes r.guards in
      let is = each_bytes item_bytes r.items in
      let a1 = at-rest t at 2 (ks ++ (rs ++ (gs ++ is))) a in
      let a2 = at-right t (at + 1) (at + 1 + length ks) ks (rs ++ (gs ++ is)) refl a1 in
      let a3 = at-right t (at + 1 + length ks) (at + 1 + length ks + length rs) rs (gs ++ is) refl a2 in
      let a4 = at-right t (at + 1 + length ks + length rs) (at + 1 + length ks + length rs + length gs) gs is refl a3 in
      let all : at + 1 + length ks + length rs + length gs + length is ≡ at + suc (length (ks ++ (rs ++ (gs ++ is))))
      = omega (arith, length-append ks (rs ++ (gs ++ is)), length-append rs (gs ++ is), length-append gs is) in
      let body : FairFrom t (at + 1) 1
      = fair-parts t (head_bytes 3) (λ h. KeptHead) 2 kept-part (omega arith) r.kept (at + 1) 1 (omega arith) (omega arith) (λ h. refl)
      (at-left t (at + 1) ks (rs ++ (gs ++ is)) a1)
      (λ s1 l1 m1 e1.
      fair-parts t (head_bytes 4) (λ h. RemovedHead) 3 removed-part (omega arith) r.removed (at + 1 + length ks) s1 l1 (omega arith) (λ h. refl)
      (at-left t (at + 1 + length ks) rs (gs ++ is) a2)
      (λ s2 l2 m2 e2.
      let two : 2 ≤ s2 = stage-two (length r.kept) (length r.removed) s1 s2 some l1 e1 l2 e2 in
      fair-parts t guard_bytes (λ g. Comparison) 4 guard-part (omega arith) r.guards (at + 1 + length ks + length rs) s2 (omega arith) (omega arith)
      (λ g. headed-from Comparison s2 two) (at-left t (at + 1 + length ks + length rs) gs is a3)
      (λ s3 l3 m3 e3.
      fair-parts t item_bytes item_kind 5 item-part (omega arith) r.items (at + 1 + length ks + length rs + length gs) s3 (omega arith) (omega arith)
      (λ i. headed-from (item_kind i) s3 (omega arith)) a4
      (λ s4 l4 m4 e4. rw all (q s4 m4 (headed-from NextRule s4 (omega arith))))))) in
      fair-record t at stage NextRule
      (record { kind = kind-at 2 _ NextRule refl t at a; some = omega arith; lies = omega (arith, a.lies); early = omega arith; late = l; headed = o })
      (λ s e. (omega arith, rw e body))
    where
      stage-two : (m n s1 s2 : ℕ) → 1 ≤ m + n → 1 ≤ s1 → (1 ≤ m → s1 ≡ 2) → s1 ≤ s2 → (1 ≤ n → s2 ≡ 3) → 2 ≤ s2
      stage-two zero n s1 s2 h l1 e1 l2 e2 = let e : s2 ≡ 3 = e2 (omega arith) in omega arith
      stage-two (suc m) n s1 s2 h l1 e1 l2 e2 = let e : s1 ≡ 2 = e1 (omega arith) in omega arith

  fair-rules : (rs : List RuleTree) (at stage : ℕ) → every RuleShaped rs → stage ≤ 5 → eqb stage 1 ≡ false → At t at (each_bytes rule_bytes rs)
      → ((stage' : ℕ) → stage' ≤ 5 → eqb stage' 1 ≡ false → FairFrom t (at + length (each_bytes rule_bytes rs)) stage') → FairFrom t at stage
  unfolding each_bytes
  fair-rules [] at stage u l o a q = let e : at + 0 ≡ at = omega arith in rw e at (q stage l o)
  fair-rules (r ∷ rs) at stage u l o a q =
      let whole : at + length (rule_bytes r) + length (each_bytes rule_bytes rs) ≡ at + length (rule_bytes r ++ each_bytes rule_bytes rs)
      = omega (arith, length-append (rule_bytes r) (each_bytes rule_bytes rs)) in
      fair-rule r at stage u.0.some_head l o (at-left t at (rule_bytes r) (each_bytes rule_bytes rs) a)
      (λ s1 l1 o1. fair-rules rs (at + length (rule_bytes r)) s1 u.1 l1 o1
      (at-right t at (at + length (rule_bytes r)) (rule_bytes r) (each_bytes rule_bytes rs) refl a)
      (λ s2 l2 o2. rw whole (q s2 l2 o2)))

  fair-symbols : (ns : List ℕ) (at : ℕ) → At t at (each_bytes symbol_bytes ns) → FairFrom t (at + length (each_bytes symbol_bytes ns)) 0 → FairFrom t at 0
  unfolding each_bytes symbol_bytes kind_of behind
  fair-symbols [] at a q = let e : at + 0 ≡ at = omega arith in rw e at q
  fair-symbols (n ∷ ns) at a q =
      let whole : at + 2 + length (each_bytes symbol_bytes ns) ≡ at + suc (suc (length (each_bytes symbol_bytes ns))) = omega arith in
      let here = at-left t at (1 ∷ n ∷ []) (each_bytes symbol_bytes ns) a in
      let later : FairFrom t (at + 2) 0 = fair-symbols ns (at + 2) (at-right t at (at + 2) (1 ∷ n ∷ []) (each_bytes symbol_bytes ns) refl a) (rw whole q) in
      fair-record t at 0 NextSymbol
      (record { kind = kind-at 1 _ NextSymbol refl t at here; some = omega arith; lies = here.lies; early = omega arith; late = omega arith; headed = refl })
      (λ s e. (omega arith, rw e later))

  fair-end : (at stage : ℕ) → stage ≤ 5 → eqb stage 1 ≡ false → At t at (8 ∷ []) → at + 1 ≡ length t → FairFrom t at stage
  unfolding kind_of behind
  fair-end at stage l o a e =
      fair-record t at stage EndOfTable
      (record { kind = kind-at 8 [] EndOfTable refl t at a; some = omega arith; lies = a.lies; early = omega arith; late = l; headed = o })
      (λ s d. omega arith)

-- ---- tables

-- the number of a check is 0, or one that the verdict has
check-among : (v : Verdict) → Fair v → Among (0 ∷ 19 ∷ 20 ∷ 22 ∷ []) (verdict_result v).number
unfolding verdict_result
check-among (Ok v) u = Memᴰ.head refl
check-among (Err r) u = Memᴰ.tail u

-- The table of a tree that has the counts of the grammar is good, or is refused with 19, 20 or 22.
pub only-19-20-22 : (w : TableTree) → Shaped w → Among (0 ∷ 19 ∷ 20 ∷ 22 ∷ []) (check_of (encode w)).number
unfolding check_of read_of encode
only-19-20-22 w u =
    let t = encode w in
    let ns = each_bytes symbol_bytes w.arities in
    let rs = each_bytes rule_bytes w.rules in
    let a : At t 0 (ns ++ (rs ++ (8 ∷ []))) = record { same = same-self t; lies = omega arith } in
    let b : At t (length ns) (rs ++ (8 ∷ [])) = at-right t 0 (length ns) ns (rs ++ (8 ∷ [])) (omega arith) a in
    let c : At t (length ns + length rs) (8 ∷ []) = at-right t (length ns) (length ns + length rs) rs (8 ∷ []) refl b in
    let long : length ns + length rs + 1 ≡ length t = omega (arith, length-append ns (rs ++ (8 ∷ [])), length-append rs (8 ∷ [])) in
    let rules : FairFrom t (length ns) 0
    = fair-rules t w.rules (length ns) 0 u.rules (omega arith) refl (at-left t (length ns) rs (8 ∷ []) b)
    (λ stage l o. fair-end t (length ns + length rs) stage l o c long) in
    let zeroth : 0 + length ns ≡ length ns = omega arith in
    let symbols : FairFrom t 0 0 = fair-symbols t w.arities 0 (at-left t 0 ns (rs ++ (8 ∷ [])) a) (rw zeroth rules) in
    check-among (read_from (length t) t first_scan no_shapes).verdict (symbols first_scan refl refl (length t) no_shapes (omega arith))

-- So it is of every text that is read.
pub text-number : (l : Lexed) (w : TableTree) → parsed l ≡ tree w → Among (0 ∷ 19 ∷ 20 ∷ 22 ∷ []) (check_of (encode w)).number
text-number l w e = only-19-20-22 w ((text-exactly l w).0 e).1.shaped
