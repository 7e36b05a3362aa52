-- Reading the bytes of a well-formed tree: the scan goes over its records one by one, and each passes its tests. What is read is said of the scan's own
-- numbers, so that the count of records left (each takes a byte) is asked for once, in `reads-next`. Behind the last rule stand the shapes of all rules.
use Prim.Native.Nat.{ℕ, zero, suc, ◌+◌, ◌-◌, ◌*◌, ◌≤◌, ◌<◌}
use mathlib.Core.Path.{◌≡◌, refl, sym, ap, ◌∙◌, subst}
use mathlib.Core.Bool.{false}
use mathlib.Core.List.{List, [], ◌∷◌, ◌++◌, map}
use native.Mathlib.Omega.{arith}
use lib.Dec.{eqb, leb}
use lib.ListN.{length, get_or, set, length-append}
use lib.Seq.{set-set}
use borrow.Author.Tests.{lt-leb, le-ltb, ne_eqb}
use Rattle.model.specs.declared.Kind.{Kind}
use Rattle.model.specs.declared.Kind.TheVariants.{NextSymbol, NextRule, KeptHead, RemovedHead, Comparison, BodyFact, BodyFail, EndOfTable}
use Rattle.model.specs.declared.RuleShape.{RuleShape}
use Rattle.model.specs.declared.Scan.{Scan}
use Rattle.std.specs.Prelude.{Some, Ok}
use Rattle.model.specs.declared.Behind.TheVariants.{Next, Done}
use Rattle.model.specs.declared.Reading.{Reading}
use Rattle.model.specs.Records.{kind_of, size_of, earliest_of, latest_of, out_of_order, headless, too_many}
use Rattle.model.specs.Fields.{arity_at, head_bad, bad_field}
use Rattle.model.specs.Variables.{strange, strange_guard, strange_fact}
use Rattle.model.specs.Reading.{reading, behind, fields_of, ordered_of, tested_of, known_of, record_of, noted, ended, go_on, read_from}
use Rattle.model.specs.Table.{Head, head_at, heads_from, guard_at}
use Rattle.model.proofs.Every.{every, every-append}
use Rattle.model.proofs.Lists.{or-both}
use Rattle.model.proofs.Good.{noted-some, noted-none}
use Rattle.model.proofs.Decoded.{heads-append}
use Rattle.grammar.specs.Tree.{Formula, HeadTree, GuardTree, ItemTree, fact, fail, RuleTree, heads_of, head_terms}
use Rattle.grammar.specs.Encode.{each_bytes, symbol_bytes, head_bytes, guard_bytes, item_bytes, rule_bytes}
use Rattle.grammar.specs.WellFormed.{FormulaKnown, HeadGood, GuardGood, ItemGood, RuleGood}
use Rattle.grammar.specs.Layout.{laid_head, laid_guard, expression_of, no_expression}
use Rattle.grammar.proofs.Same.{Same, same-first, same-rest, same-left, same-right, same-at}
use Rattle.grammar.proofs.Parts.{head-long, head-decodes, head-passes, guard-long, guard-decodes, guard-passes, guard-strange, fact-long}
use Rattle.grammar.proofs.Parts.{fact-decodes, each-long, each-decode, heads-rows, fact-passes, fact-strange, formula-known, none-known, heads-few}
use Rattle.grammar.proofs.Parts.{expression_strange, FactReads}
use Rattle.grammar.proofs.Tests.{any_of, laid-any}

-- ---- bytes that stand in t, and lie in it

pub record At (t : List ℕ) (p : ℕ) (bs : List ℕ) : Type 0 where
  pub same : Same t p bs
  pub lies : p + length bs ≤ length t

module _ (t : List ℕ) where
  pub at-left : (p : ℕ) (xs ys : List ℕ) → At t p (xs ++ ys) → At t p xs
  at-left p xs ys a = record { same = same-left t p xs ys a.same; lies = omega (arith, a.lies, length-append xs ys) }

  pub at-right : (p q : ℕ) (xs ys : List ℕ) → p + length xs ≡ q → At t p (xs ++ ys) → At t q ys
  at-right p q xs ys e a = record {
    same = same-at t (p + length xs) q ys e (same-right t p xs ys a.same);
    lies = omega (arith, a.lies, length-append xs ys);
  }

  pub at-at : (p q : ℕ) (bs : List ℕ) → q ≡ p → At t p bs → At t q bs
  at-at p q bs e a = subst (λ (n : ℕ). At t n bs) (sym e) a

  pub at-rest : (p b : ℕ) (bs : List ℕ) → At t p (b ∷ bs) → At t (p + 1) bs
  at-rest p b bs a = record { same = same-rest t p b bs a.same; lies = omega (arith, a.lies) }

-- ---- the scan, by its numbers

abbrev pub shape_of : ℕ → ℕ → ℕ → ℕ → ℕ → RuleShape
shape_of start kept heads guards items = record { start = start; kept = kept; heads = heads; guards = guards; items = items }

abbrev pub scan_of : ℕ → ℕ → ℕ → ℕ → RuleShape → Scan
scan_of at stage symbols rules shape = record { at = at; stage = stage; symbols = symbols; rules = rules; shape = shape }

-- reading goes on from s to r, however many records are counted, if they are enough
pub record Reads (t : List ℕ) (s : Scan) (shapes : List RuleShape) (r : Reading) : Type 0 where
  pub reads : (n : ℕ) → length t ≤ n + s.at → read_from n t s shapes ≡ r

-- the tests that a record of kind k passes
pub record Passes (t : List ℕ) (s : Scan) (k : Kind) : Type 0 where
  pub kind : kind_of (get_or t s.at 0) ≡ Some k
  pub some : 1 ≤ size_of k
  pub lies : s.at + size_of k ≤ length t
  pub early : earliest_of k ≤ s.stage
  pub late : s.stage ≤ latest_of k
  pub headed : headless k s.stage ≡ false
  pub few : too_many k s ≡ false
  pub fields : bad_field t s k ≡ false
  pub usual : strange t s k ≡ false

record-passes : (t : List ℕ) (s : Scan) (k : Kind) → Passes t s k → record_of t s ≡ Ok (behind s k)
unfolding record_of known_of tested_of ordered_of fields_of out_of_order
record-passes t s k p =
    rw (
      lt-leb (length t) s.at (omega (arith, p.some, p.lies)),
      p.kind,
      le-ltb (length t) (s.at + size_of k) p.lies,
      le-ltb s.stage (earliest_of k) p.early,
      le-ltb (latest_of k) s.stage p.late,
      p.headed,
      p.few,
      p.fields,
      p.usual,
    )

reads-next : (t : List ℕ) (s next : Scan) (shapes later : List RuleShape) (r : Reading) (k : Kind) → Passes t s k → behind s k ≡ Next next → s.at < next.at
    → noted shapes next ≡ later → Reads t next later r → Reads t s shapes r
unfolding read_from go_on
reads-next t s next shapes later r k p b l e q = record { reads = go }
  where
    go : (n : ℕ) → length t ≤ n + s.at → read_from n t s shapes ≡ r
    go zero h = absurd (omega (arith, p.some, p.lies))
    go (suc n) h = rw (record-passes t s k p, b, e) (q.reads n (omega arith))

-- the rule that is read is the last noted
noted-first : (shapes : List RuleShape) (s : Scan) (k : ℕ) → s.rules ≡ k + 1 → noted shapes s ≡ set shapes k s.shape
noted-first shapes s k e =
    let d : s.rules - 1 ≡ k = omega arith in
    noted-some shapes s (omega arith) ∙ ap (λ (n : ℕ). set shapes n s.shape) d

noted-again : (shapes : List RuleShape) (s : Scan) (k : ℕ) (x : RuleShape) → s.rules ≡ k + 1 → noted (set shapes k x) s ≡ set shapes k s.shape
noted-again shapes s k x e = noted-first (set shapes k x) s k e ∙ set-set shapes k x s.shape

-- ---- symbols

-- the kind of a record that begins with its byte
kind-of : (t : List ℕ) (p b : ℕ) (bs : List ℕ) (k : Kind) → kind_of b ≡ Some k → At t p (b ∷ bs) → kind_of (get_or t p 0) ≡ Some k
kind-of t p b bs k e a = ap kind_of (same-first t p b bs a.same) ∙ e

module _ (t : List ℕ) (r : Reading) where
  pub reads-symbols : (arities : List ℕ) (at k : ℕ) (shape : RuleShape) (shapes : List RuleShape) → every (λ (a : ℕ). a ≤ 4) arities → k + length arities ≤ 32
      → At t at (each_bytes symbol_bytes arities)
      → ((at' k' : ℕ) → at' ≡ at + 2 * length arities → k' ≡ k + length arities → Reads t (scan_of at' 0 k' 0 shape) shapes r)
      → Reads t (scan_of at 0 k 0 shape) shapes r
  unfolding each_bytes symbol_bytes bad_field strange behind kind_of
  reads-symbols [] at k shape shapes g l a q = q at k (omega arith) (omega arith)
  reads-symbols (x ∷ xs) at k shape shapes g l a q =
      let here = at-left t at (symbol_bytes x) (each_bytes symbol_bytes xs) a in
      let arity : get_or t (at + 1) 0 ≡ x = same-first t (at + 1) x [] (at-rest t at 1 (x ∷ []) here).same in
      let next = scan_of (at + 2) 0 (k + 1) 0 shape in
      reads-next t (scan_of at 0 k 0 shape) next shapes shapes r NextSymbol
      (record {
        kind = kind-of t at 1 (x ∷ []) NextSymbol refl here;
        some = omega arith;
        lies = here.lies;
        early = omega arith;
        late = omega arith;
        headed = refl;
        few = lt-leb 32 k (omega arith);
        fields = le-ltb 4 (get_or t (at + 1) 0) (omega (arith, g.0));
        usual = refl;
      })
      refl (omega arith) (noted-none shapes next refl)
      (reads-symbols xs (at + 2) (k + 1) shape shapes g.1 (omega arith)
      (at-right t at (at + 2) (symbol_bytes x) (each_bytes symbol_bytes xs) refl a)
      (λ at' k' e d. q at' k' (omega arith) (omega arith)))

-- ---- the parts of a rule

not-one : (stage : ℕ) → 2 ≤ stage → eqb stage 1 ≡ false
not-one stage l = ne_eqb stage 1 (λ (e : stage ≡ 1). omega arith)

pub fail-long : length (item_bytes fail) ≡ 1
unfolding item_bytes
fail-long = refl

-- one part more of the rule that is being read, rule k of table t
reads-part : (t : List ℕ) (r : Reading) (m k : ℕ) (shapes : List RuleShape) (at stage at' stage' : ℕ) (x y : RuleShape) (kind : Kind)
    → Passes t (scan_of at stage m (k + 1) x) kind → behind (scan_of at stage m (k + 1) x) kind ≡ Next (scan_of at' stage' m (k + 1) y) → at < at'
    → Reads t (scan_of at' stage' m (k + 1) y) (set shapes k y) r
    → Reads t (scan_of at stage m (k + 1) x) (set shapes k x) r
reads-part t r m k shapes at stage at' stage' x y kind p b l q =
    reads-next t (scan_of at stage m (k + 1) x) (scan_of at' stage' m (k + 1) y) (set shapes k x) (set shapes k y) r kind p b l
    (noted-again shapes (scan_of at' stage' m (k + 1) y) k x refl) q

-- what the definition says of a kind of head, where `kept` of n heads are kept
record HeadKind (byte : ℕ) (kind : Kind) (last : ℕ) (kept : ℕ → ℕ) : Type 0 where
  named : kind_of byte ≡ Some kind
  size : size_of kind ≡ 22
  early : earliest_of kind ≡ 1
  late : latest_of kind ≡ last
  headed : (stage : ℕ) → headless kind stage ≡ false
  few : (s : Scan) → too_many kind s ≡ leb 4 s.shape.heads
  fields : (t : List ℕ) (s : Scan) → bad_field t s kind ≡ head_bad t s.at s.symbols
  usual : (t : List ℕ) (s : Scan) → strange t s kind ≡ false
  goes : (at stage m k start n : ℕ) → behind (scan_of at stage m k (shape_of start (kept n) n 0 0)) kind
      ≡ Next (scan_of (at + 22) last m k (shape_of start (kept (n + 1)) (n + 1) 0 0))

kept-kind : HeadKind 3 KeptHead 2 (λ n. n)
unfolding kind_of bad_field strange behind
kept-kind = record {
  named = refl;
  size = refl;
  early = refl;
  late = refl;
  headed = λ stage. refl;
  few = λ s. refl;
  fields = λ t s. refl;
  usual = λ t s. refl;
  goes = λ at stage m k start n. refl;
}

removed-kind : (kept : ℕ) → HeadKind 4 RemovedHead 3 (λ n. kept)
unfolding kind_of bad_field strange behind
removed-kind kept = record {
  named = refl;
  size = refl;
  early = refl;
  late = refl;
  headed = λ stage. refl;
  few = λ s. refl;
  fields = λ t s. refl;
  usual = λ t s. refl;
  goes = λ at stage m k start n. refl;
}

module _ (t arities : List ℕ) (declared : (k : ℕ) → k < length arities → arity_at t k ≡ get_or arities k 0) (small : every (λ (a : ℕ). a ≤ 4) arities)
    (r : Reading) (k : ℕ) (shapes : List RuleShape) (start : ℕ) where
  -- the scan in the rule
  abbrev in_rule : ℕ → ℕ → ℕ → ℕ → ℕ → ℕ → Type 0
  in_rule at stage kept heads guards items =
      Reads t (scan_of at stage (length arities) (k + 1) (shape_of start kept heads guards items)) (set shapes k (shape_of start kept heads guards items)) r

  -- heads of one kind
  module _ (byte : ℕ) (kind : Kind) (last : ℕ) (kept : ℕ → ℕ) (two : 2 ≤ last) (says : HeadKind byte kind last kept) where
    head-passed : (at stage n : ℕ) (h : HeadTree) → 1 ≤ stage → stage ≤ last → n < 4 → HeadGood arities h → At t at (head_bytes byte h)
        → Passes t (scan_of at stage (length arities) (k + 1) (shape_of start (kept n) n 0 0)) kind
    unfolding head_bytes
    head-passed at stage n h l m few g a =
        let s = scan_of at stage (length arities) (k + 1) (shape_of start (kept n) n 0 0) in
        record {
          kind = kind-of t at byte _ kind says.named a;
          some = omega (arith, says.size);
          lies = omega (arith, a.lies, head-long byte h, says.size);
          early = omega (arith, says.early);
          late = omega (arith, says.late);
          headed = says.headed stage;
          few = says.few s ∙ lt-leb 4 n few;
          fields = says.fields t s ∙ head-passes t arities declared small at h g (head-decodes t at byte h g.terms a.same);
          usual = says.usual t s;
        }

    reads-heads : (hs : List HeadTree) (at stage n : ℕ) → 1 ≤ stage → stage ≤ last → (1 ≤ n → 2 ≤ stage) → n + length hs ≤ 4 → every (HeadGood arities) hs
        → At t at (each_bytes (head_bytes byte) hs)
        → ((at' stage' n' : ℕ) → at' ≡ at + 22 * length hs → n' ≡ n + length hs → 1 ≤ stage' → stage' ≤ last → (1 ≤ n' → 2 ≤ stage')
        → in_rule at' stage' (kept n') n' 0 0)
        → in_rule at stage (kept n) n 0 0
    unfolding each_bytes
    reads-heads [] at stage n l m w few g a q = q at stage n (omega arith) (omega arith) l m w
    reads-heads (h ∷ hs) at stage n l m w few g a q =
        let here = at-left t at (head_bytes byte h) (each_bytes (head_bytes byte) hs) a in
        reads-part t r (length arities) k shapes at stage (at + 22) last (shape_of start (kept n) n 0 0) (shape_of start (kept (n + 1)) (n + 1) 0 0) kind
        (head-passed at stage n h l m (omega arith) g.0 here) (says.goes at stage (length arities) (k + 1) start n) (omega arith)
        (reads-heads hs (at + 22) last (n + 1) (omega arith) (omega arith) (λ x. two) (omega arith) g.1
        (at-right t at (at + 22) (head_bytes byte h) (each_bytes (head_bytes byte) hs) (omega (arith, head-long byte h)) a)
        (λ at' stage' n' e d. q at' stage' n' (omega arith) (omega arith)))

  -- guards and items, behind heads that have been read
  module _ (kept heads : ℕ) (hs : List HeadTree) (read : heads_from t (start + 1) heads ≡ map laid_head hs) (good : every (HeadGood arities) hs) where
    guard-usual : (at : ℕ) (g : GuardTree) → GuardGood (head_terms hs) g → guard_at t at ≡ laid_guard g → strange_guard t start heads at ≡ false
    unfolding laid_guard
    guard-usual at g w e =
        rw (guard-strange t start heads at, e)
        (or-both (expression_strange t start heads (expression_of g.left)) _
        (formula-known t start heads hs read (heads-few arities small hs good) g.left w.left_known)
        (formula-known t start heads hs read (heads-few arities small hs good) g.right w.right_known))

    fact-usual : (at s : ℕ) (es : List Formula) → every (FormulaKnown (head_terms hs)) es → FactReads t at s es → strange_fact t start heads at ≡ false
    fact-usual at s es w e =
        fact-strange t start heads at
        ∙ ap (any_of (expression_strange t start heads)) e.formulas
        ∙ laid-any expression_of no_expression (expression_strange t start heads) (FormulaKnown (head_terms hs))
        (formula-known t start heads hs read (heads-few arities small hs good)) (none-known t start heads hs read) 4 es w

    reads-guards : (gs : List GuardTree) (at stage n : ℕ) → 2 ≤ stage → stage ≤ 4 → n + length gs ≤ 4 → every (GuardGood (head_terms hs)) gs
        → At t at (each_bytes guard_bytes gs)
        → ((at' stage' n' : ℕ) → at' ≡ at + 24 * length gs → n' ≡ n + length gs → 2 ≤ stage' → stage' ≤ 4 → in_rule at' stage' kept heads n' 0)
        → in_rule at stage kept heads n 0
    unfolding each_bytes bad_field strange kind_of guard_bytes behind
    reads-guards [] at stage n l m few w a q = q at stage n (omega arith) (omega arith) l m
    reads-guards (g ∷ gs) at stage n l m few w a q =
        let here = at-left t at (guard_bytes g) (each_bytes guard_bytes gs) a in
        let read = guard-decodes t at g w.0.left w.0.right here.same in
        reads-part t r (length arities) k shapes at stage (at + 24) 4 (shape_of start kept heads n 0) (shape_of start kept heads (n + 1) 0) Comparison
        (record {
          kind = kind-of t at 5 _ Comparison refl here;
          some = omega arith;
          lies = omega (arith, here.lies, guard-long g);
          early = omega arith;
          late = m;
          headed = not-one stage l;
          few = lt-leb 4 n (omega arith);
          fields = guard-passes t at g read;
          usual = guard-usual at g w.0 read;
        })
        refl (omega arith)
        (reads-guards gs (at + 24) 4 (n + 1) (omega arith) (omega arith) (omega arith) w.1
        (at-right t at (at + 24) (guard_bytes g) (each_bytes guard_bytes gs) (omega (arith, guard-long g)) a)
        (λ at' stage' n' e d. q at' stage' n' (omega arith) (omega arith)))

    fact-passed : (at stage guards n s : ℕ) (es : List Formula) → 2 ≤ stage → stage ≤ 5 → n < 4 → ItemGood arities (head_terms hs) (fact s es)
        → At t at (item_bytes (fact s es))
        → Passes t (scan_of at stage (length arities) (k + 1) (shape_of start kept heads guards n)) BodyFact
    unfolding bad_field strange kind_of item_bytes
    fact-passed at stage guards n s es l m few w a =
        let read = fact-decodes t at s es w.formulas a.same in
        record {
          kind = kind-of t at 6 _ BodyFact refl a;
          some = omega arith;
          lies = omega (arith, a.lies, fact-long s es);
          early = omega arith;
          late = m;
          headed = not-one stage l;
          few = lt-leb 4 n few;
          fields = fact-passes t arities declared small at s es w.symbol w.formulas read;
          usual = fact-usual at s es w.known read;
        }

    fail-passed : (at stage guards n : ℕ) → 2 ≤ stage → stage ≤ 5 → n < 4 → At t at (item_bytes fail)
        → Passes t (scan_of at stage (length arities) (k + 1) (shape_of start kept heads guards n)) BodyFail
    unfolding bad_field strange kind_of item_bytes
    fail-passed at stage guards n l m few a = record {
      kind = kind-of t at 7 [] BodyFail refl a;
      some = omega arith;
      lies = a.lies;
      early = omega arith;
      late = m;
      headed = not-one stage l;
      few = lt-leb 4 n few;
      fields = refl;
      usual = refl;
    }

    reads-items : (is : List ItemTree) (at stage guards n : ℕ) → 2 ≤ stage → stage ≤ 5 → n + length is ≤ 4 → every (ItemGood arities (head_terms hs)) is
        → At t at (each_bytes item_bytes is)
        → ((at' stage' n' : ℕ) → at' ≡ at + length (each_bytes item_bytes is) → n' ≡ n + length is → 2 ≤ stage' → stage' ≤ 5
        → in_rule at' stage' kept heads guards n')
        → in_rule at stage kept heads guards n
    unfolding each_bytes behind
    reads-items [] at stage guards n l m few w a q = q at stage n (omega arith) (omega arith) l m
    reads-items (fact s es ∷ is) at stage guards n l m few w a q =
        reads-part t r (length arities) k shapes at stage (at + 46) 5 (shape_of start kept heads guards n) (shape_of start kept heads guards (n + 1)) BodyFact
        (fact-passed at stage guards n s es l m (omega arith) w.0 (at-left t at (item_bytes (fact s es)) (each_bytes item_bytes is) a))
        refl (omega arith)
        (reads-items is (at + 46) 5 guards (n + 1) (omega arith) (omega arith) (omega arith) w.1
        (at-right t at (at + 46) (item_bytes (fact s es)) (each_bytes item_bytes is) (omega (arith, fact-long s es)) a)
        (λ at' stage' n' e d. q at' stage' n'
        (omega (arith, fact-long s es, length-append (item_bytes (fact s es)) (each_bytes item_bytes is))) (omega arith)))
    reads-items (fail ∷ is) at stage guards n l m few w a q =
        let one : length (item_bytes fail) ≡ 1 = fail-long in
        reads-part t r (length arities) k shapes at stage (at + 1) 5 (shape_of start kept heads guards n) (shape_of start kept heads guards (n + 1)) BodyFail
        (fail-passed at stage guards n l m (omega arith) (at-left t at (item_bytes fail) (each_bytes item_bytes is) a))
        refl (omega arith)
        (reads-items is (at + 1) 5 guards (n + 1) (omega arith) (omega arith) (omega arith) w.1
        (at-right t at (at + 1) (item_bytes fail) (each_bytes item_bytes is) (omega arith) a)
        (λ at' stage' n' e d. q at' stage' n' (omega (arith, length-append (item_bytes fail) (each_bytes item_bytes is))) (omega arith)))

-- ---- rules

-- where the rule of a tree stands, if it begins at p
abbrev pub shape_at : ℕ → RuleTree → RuleShape
shape_at p w = shape_of p (length w.kept) (length w.kept + length w.removed) (length w.guards) (length w.items)

-- the shapes behind rules k, k + 1 and so on, the first of which begins at p
abbrev pub shapes_behind : List RuleShape → ℕ → ℕ → List RuleTree → List RuleShape
shapes_behind shapes k p [] = shapes
shapes_behind shapes k p (w ∷ ws) = shapes_behind (set shapes k (shape_at p w)) (k + 1) (p + length (rule_bytes w)) ws

-- where the parts of a rule stand
pub record RuleAt (t : List ℕ) (p : ℕ) (w : RuleTree) : Type 0 where
  pub kept : At t (p + 1) (each_bytes (head_bytes 3) w.kept)
  pub removed : At t (p + 1 + 22 * length w.kept) (each_bytes (head_bytes 4) w.removed)
  pub guards : At t (p + 1 + 22 * (length w.kept + length w.removed)) (each_bytes guard_bytes w.guards)
  pub items : At t (p + 1 + 22 * (length w.kept + length w.removed) + 24 * length w.guards) (each_bytes item_bytes w.items)
  pub long : length (rule_bytes w)
      ≡ 1 + 22 * (length w.kept + length w.removed) + 24 * length w.guards + length (each_bytes item_bytes w.items)

pub heads-long : (byte : ℕ) (hs : List HeadTree) → length (each_bytes (head_bytes byte) hs) ≡ 22 * length hs
heads-long byte hs = each-long (head_bytes byte) 22 (head-long byte) hs

pub guards-long : (gs : List GuardTree) → length (each_bytes guard_bytes gs) ≡ 24 * length gs
guards-long gs = each-long guard_bytes 24 guard-long gs

pub rule-at : (t : List ℕ) (p : ℕ) (w : RuleTree) → At t p (rule_bytes w) → RuleAt t p w
unfolding rule_bytes
rule-at t p w a =
    let x = each_bytes (head_bytes 3) w.kept in
    let y = each_bytes (head_bytes 4) w.removed in
    let z = each_bytes guard_bytes w.guards in
    let v = each_bytes item_bytes w.items in
    let lx : length x ≡ 22 * length w.kept = heads-long 3 w.kept in
    let ly : length y ≡ 22 * length w.removed = heads-long 4 w.removed in
    let lz : length z ≡ 24 * length w.guards = guards-long w.guards in
    let a1 = at-rest t p 2 (x ++ (y ++ (z ++ v))) a in
    let a2 = at-right t (p + 1) (p + 1 + 22 * length w.kept) x (y ++ (z ++ v)) (omega arith) a1 in
    let a3 = at-right t (p + 1 + 22 * length w.kept) (p + 1 + 22 * (length w.kept + length w.removed)) y (z ++ v) (omega arith) a2 in
    record {
      kept = at-left t (p + 1) x (y ++ (z ++ v)) a1;
      removed = at-left t (p + 1 + 22 * length w.kept) y (z ++ v) a2;
      guards = at-left t (p + 1 + 22 * (length w.kept + length w.removed)) z v a3;
      items = at-right t (p + 1 + 22 * (length w.kept + length w.removed))
          (p + 1 + 22 * (length w.kept + length w.removed) + 24 * length w.guards) z v (omega arith) a3;
      long = omega (arith, length-append x (y ++ (z ++ v)), length-append y (z ++ v), length-append z v);
    }

-- the heads of a rule, kept and removed
pub heads-decode : (t arities : List ℕ) (p byte : ℕ) (hs : List HeadTree) → every (HeadGood arities) hs → At t p (each_bytes (head_bytes byte) hs)
    → heads_from t p (length hs) ≡ map laid_head hs
heads-decode t arities p byte hs g a =
    heads-rows t p (length hs)
    ∙ each-decode (head_bytes byte) 22 (head-long byte) t (head_at t) laid_head (HeadGood arities) (λ q h w. head-decodes t q byte h w.terms) p hs g a.same

pub map-append : {A B : Type 0} (f : A → B) (xs ys : List A) → map f xs ++ map f ys ≡ map f (xs ++ ys)
map-append f [] ys = refl
map-append f (x ∷ xs) ys = ap (λ l. f x ∷ l) (map-append f xs ys)

pub rule-heads : (t arities : List ℕ) (p : ℕ) (w : RuleTree) → RuleGood arities w → RuleAt t p w
    → heads_from t (p + 1) (length w.kept + length w.removed) ≡ map laid_head (heads_of w)
rule-heads t arities p w g a =
    heads-append t (p + 1) (length w.kept) (length w.removed)
    ∙ ap (λ (l : List Head). l ++ heads_from t (p + 1 + 22 * length w.kept) (length w.removed))
    (heads-decode t arities (p + 1) 3 w.kept g.kept a.kept)
    ∙ ap (λ (l : List Head). map laid_head w.kept ++ l)
    (heads-decode t arities (p + 1 + 22 * length w.kept) 4 w.removed g.removed a.removed)
    ∙ map-append laid_head w.kept w.removed

module _ (t arities : List ℕ) (declared : (k : ℕ) → k < length arities → arity_at t k ≡ get_or arities k 0) (small : every (λ (a : ℕ). a ≤ 4) arities)
    (r : Reading) where
  reads-rule : (w : RuleTree) (at stage k : ℕ) (shape : RuleShape) (shapes : List RuleShape) → RuleGood arities w → At t at (rule_bytes w) → stage ≤ 5
      → eqb stage 1 ≡ false → k < 64
      → ((at' stage' : ℕ) → at' ≡ at + length (rule_bytes w) → 2 ≤ stage' → stage' ≤ 5
      → Reads t (scan_of at' stage' (length arities) (k + 1) (shape_at at w)) (set shapes k (shape_at at w)) r)
      → Reads t (scan_of at stage (length arities) k shape) shapes r
  unfolding bad_field strange kind_of rule_bytes behind
  reads-rule w at stage k shape shapes g a l one few q =
      let p = rule-at t at w a in
      let next = scan_of (at + 1) 1 (length arities) (k + 1) (shape_of at 0 0 0 0) in
      let read = rule-heads t arities at w g p in
      let good = every-append (HeadGood arities) w.kept w.removed g.kept g.removed in
      let some : 1 ≤ length w.kept + length w.removed = g.some_head in
      let few4 : length w.kept + length w.removed ≤ 4 = g.few_heads in
      reads-next t (scan_of at stage (length arities) k shape) next shapes (set shapes k (shape_of at 0 0 0 0)) r NextRule
      (record {
        kind = kind-of t at 2 _ NextRule refl a;
        some = omega arith;
        lies = omega (arith, a.lies);
        early = omega arith;
        late = l;
        headed = one;
        few = lt-leb 64 k few;
        fields = refl;
        usual = refl;
      })
      refl (omega arith) (noted-first shapes next k refl)
      (reads-heads t arities declared small r k shapes at 3 KeptHead 2 (λ n. n) (omega arith) kept-kind
      w.kept (at + 1) 1 0 (omega arith) (omega arith) (λ x. absurd (omega arith)) (omega arith) g.kept p.kept
      (λ at1 s1 n1 e1 d1 l1 m1 w1.
      reads-heads t arities declared small r k shapes at 4 RemovedHead 3 (λ n. n1) (omega arith) (removed-kind n1)
      w.removed at1 s1 n1 l1 (omega arith) w1 (omega arith) g.removed
      (at-at t (at + 1 + 22 * length w.kept) at1 _ e1 p.removed)
      (λ at2 s2 n2 e2 d2 l2 m2 w2.
      let same : n2 ≡ length w.kept + length w.removed = omega arith in
      let read2 : heads_from t (at + 1) n2 ≡ map laid_head (heads_of w) = ap (heads_from t (at + 1)) same ∙ read in
      reads-guards t arities declared small r k shapes at n1 n2 (heads_of w) read2 good w.guards at2 s2 0 (w2 (omega arith)) (omega arith)
      (omega (arith, g.few_guards))
      g.guards (at-at t (at + 1 + 22 * (length w.kept + length w.removed)) at2 _ (omega arith) p.guards)
      (λ at3 s3 n3 e3 d3 l3 m3.
      reads-items t arities declared small r k shapes at n1 n2 (heads_of w) read2 good w.items at3 s3 n3 0 l3 (omega arith) (omega (arith, g.few_items))
      g.items
      (at-at t (at + 1 + 22 * (length w.kept + length w.removed) + 24 * length w.guards) at3 _ (omega arith) p.items)
      (λ at4 s4 n4 e4 d4 l4 m4.
      let k1 : n1 ≡ length w.kept = omega arith in
      let k3 : n3 ≡ length w.guards = omega arith in
      let k4 : n4 ≡ length w.items = omega arith in
      let whole : shape_of at n1 n2 n3 n4 ≡ shape_at at w = λ i. shape_of at (k1 i) (same i) (k3 i) (k4 i) in
      subst (λ (x : RuleShape). Reads t (scan_of at4 s4 (length arities) (k + 1) x) (set shapes k x) r) (sym whole)
      (q at4 s4 (omega (arith, p.long)) l4 m4))))))

  pub reads-rules : (ws : List RuleTree) (at stage k : ℕ) (shape : RuleShape) (shapes : List RuleShape) → every (RuleGood arities) ws
      → At t at (each_bytes rule_bytes ws) → stage ≤ 5 → eqb stage 1 ≡ false → k + length ws ≤ 64
      → ((at' stage' k' : ℕ) (shape' : RuleShape) → at' ≡ at + length (each_bytes rule_bytes ws) → stage' ≤ 5 → eqb stage' 1 ≡ false → k' ≡ k + length ws
      → Reads t (scan_of at' stage' (length arities) k' shape') (shapes_behind shapes k at ws) r)
      → Reads t (scan_of at stage (length arities) k shape) shapes r
  unfolding each_bytes
  reads-rules [] at stage k shape shapes g a l one few q = q at stage k shape (omega arith) l one (omega arith)
  reads-rules (w ∷ ws) at stage k shape shapes g a l one few q =
      reads-rule w at stage k shape shapes g.0 (at-left t at (rule_bytes w) (each_bytes rule_bytes ws) a) l one (omega arith)
      (λ at1 s1 e1 l1 m1.
      let behind1 : at1 ≡ at + length (rule_bytes w) = e1 in
      subst (λ (p : ℕ). Reads t (scan_of p s1 (length arities) (k + 1) (shape_at at w)) (set shapes k (shape_at at w)) r) (sym behind1)
      (reads-rules ws (at + length (rule_bytes w)) s1 (k + 1) (shape_at at w) (set shapes k (shape_at at w)) g.1
      (at-right t at (at + length (rule_bytes w)) (rule_bytes w) (each_bytes rule_bytes ws) refl a) m1 (not-one s1 l1) (omega arith)
      (λ at' stage' k' shape' e m o d. q at' stage' k' shape' (omega (arith, length-append (rule_bytes w) (each_bytes rule_bytes ws))) m o (omega arith))))

-- ---- the end

ended-good : (t : List ℕ) (p : ℕ) → p ≡ length t → ended t p ≡ Ok tt
unfolding ended
ended-good t p e = rw (le-ltb p (length t) (omega arith))

pub reads-end : (t : List ℕ) (at stage m k : ℕ) (shape : RuleShape) (shapes : List RuleShape) → At t at (8 ∷ []) → at + 1 ≡ length t → stage ≤ 5
    → eqb stage 1 ≡ false → Reads t (scan_of at stage m k shape) shapes (reading (Ok tt) m k shapes)
unfolding read_from go_on bad_field strange kind_of behind
reads-end t at stage m k shape shapes a e l one = record { reads = go }
  where
    done : record_of t (scan_of at stage m k shape) ≡ Ok (Done (at + 1))
    done = record-passes t (scan_of at stage m k shape) EndOfTable (record {
      kind = kind-of t at 8 [] EndOfTable refl a;
      some = omega arith;
      lies = a.lies;
      early = omega arith;
      late = l;
      headed = one;
      few = refl;
      fields = refl;
      usual = refl;
    })

    go : (n : ℕ) → length t ≤ n + at → read_from n t (scan_of at stage m k shape) shapes ≡ reading (Ok tt) m k shapes
    go zero h = absurd (omega arith)
    go (suc n) h = rw (done, ended-good t (at + 1) e)
