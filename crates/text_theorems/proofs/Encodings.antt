-- No two trees that texts can have, good or bad, have one encoding: records are cut off the front one by one, each tells its own part, and the first
-- byte behind a list is no kind of the list's records.
use Prim.Native.Nat.{ℕ, ◌+◌, ◌%◌, ◌≤◌, ◌<◌}
use native.Mathlib.Omega.{arith}
use mathlib.Core.Path.{◌≡◌, refl, sym, ap, ◌∙◌, subst}
use mathlib.Core.List.{List, [], ◌∷◌, ◌++◌, append_assoc}
use lib.ListN.{length, get_or, take, drop}
use lib.Seq.{take_at, drop_at}
use Rattle.model.specs.Table.{head_at, guard_at}
use Rattle.model.proofs.Every.{every, every-both}
use Rattle.grammar.specs.Tree.{Formula, HeadTree, GuardTree, ItemTree, fact, fail, RuleTree, TableTree}
use Rattle.grammar.specs.Encode.{each_bytes, symbol_bytes, head_bytes, guard_bytes, item_bytes, rule_bytes, encode}
use Rattle.grammar.specs.Layout.{expression_of, no_expression, laid_head, laid_guard, used_of, formulas_in, head_tree, guard_tree}
use Rattle.grammar.proofs.Same.{Same, same-self}
use Rattle.grammar.proofs.Places.{used-back}
use Rattle.grammar.proofs.Tests.{formula-back, none-back}
use Rattle.grammar.proofs.Parts.{head-long, head-decodes, guard-long, guard-decodes, fact-long, fact-decodes}
use Rattle.grammar.proofs.Encoded.{head-back, guard-back}
use Rattle.text.specs.Text.{ItemShaped, RuleShaped, Shaped}
use Rattle.parsing.proofs.Ranges.{HeadRanged, GuardRanged, ItemRanged, RuleRanged, Ranged}

-- ---- the front of some bytes

abbrev Front : (ℕ → Type 0) → List ℕ → Type 0
Front P [] = ⊥
Front P (b ∷ bs) = P b

cut : (x y a b : List ℕ) → length x ≡ length y → x ++ a ≡ y ++ b → (x ≡ y) × (a ≡ b)
cut x y a b l e = (
  sym (take_at x a (length x) refl) ∙ ap (take (length x)) e ∙ take_at y b (length x) (sym l),
  sym (drop_at x a (length x) refl) ∙ ap (drop (length x)) e ∙ drop_at y b (length x) (sym l),
)

front-each : {A : Type 0} (bytes : A → List ℕ) (Q : ℕ → Type 0) → ((x : A) (a : List ℕ) → Front Q (bytes x ++ a)) → (xs : List A) (a : List ℕ) → Front Q a
    → Front Q (each_bytes bytes xs ++ a)
unfolding each_bytes
front-each bytes Q one [] a q = q
front-each bytes Q one (x ∷ xs) a q = rw append_assoc (one x (each_bytes bytes xs ++ a))

front-weaken : (P Q : ℕ → Type 0) → ((b : ℕ) → P b → Q b) → (a : List ℕ) → Front P a → Front Q a
front-weaken P Q f [] p = absurd p
front-weaken P Q f (b ∷ bs) p = f b p

front-apart : {X : Type 0} (P Q : ℕ → Type 0) → ((b : ℕ) → P b → Q b → ⊥) → (a : List ℕ) → Front P a → Front Q a → X
front-apart P Q f [] p q = absurd p
front-apart P Q f (b ∷ bs) p q = absurd (f b p q)

-- ---- lists of records

-- records that begin with P, before bytes that begin with Q; what is behind a record is Next
module _ {A : Type 0} (bytes : A → List ℕ) (Fit : A → Type 0) (P Q Next : ℕ → Type 0) (apart : (b : ℕ) → P b → Q b → ⊥)
    (first : (x : A) (a : List ℕ) → Front P (bytes x ++ a)) (goes : (b : ℕ) → P b → Next b) (ends : (b : ℕ) → Q b → Next b)
    (one : (x y : A) (a b : List ℕ) → Fit x → Fit y → Front Next a → Front Next b → bytes x ++ a ≡ bytes y ++ b → (x ≡ y) × (a ≡ b)) where
  follows : (xs : List A) (a : List ℕ) → Front Q a → Front Next (each_bytes bytes xs ++ a)
  follows xs a q = front-each bytes Next (λ x b. front-weaken P Next goes (bytes x ++ b) (first x b)) xs a (front-weaken Q Next ends a q)

  each-one : (xs ys : List A) (a b : List ℕ) → every Fit xs → every Fit ys → Front Q a → Front Q b → each_bytes bytes xs ++ a ≡ each_bytes bytes ys ++ b
      → (xs ≡ ys) × (a ≡ b)
  unfolding each_bytes
  each-one [] [] a b u v q r e = (refl, e)
  each-one [] (y ∷ ys) a b u v q r e =
      let d : a ≡ bytes y ++ (each_bytes bytes ys ++ b) = e ∙ append_assoc (bytes y) (each_bytes bytes ys) b in
      front-apart P Q apart a (subst (Front P) (sym d) (first y (each_bytes bytes ys ++ b))) q
  each-one (x ∷ xs) [] a b u v q r e =
      let d : bytes x ++ (each_bytes bytes xs ++ a) ≡ b = sym (append_assoc (bytes x) (each_bytes bytes xs) a) ∙ e in
      front-apart P Q apart b (subst (Front P) d (first x (each_bytes bytes xs ++ a))) r
  each-one (x ∷ xs) (y ∷ ys) a b u v q r e =
      let d : bytes x ++ (each_bytes bytes xs ++ a) ≡ bytes y ++ (each_bytes bytes ys ++ b)
      = sym (append_assoc (bytes x) (each_bytes bytes xs) a) ∙ e ∙ append_assoc (bytes y) (each_bytes bytes ys) b in
      let here = one x y (each_bytes bytes xs ++ a) (each_bytes bytes ys ++ b) u.0 v.0 (follows xs a q) (follows ys b r) d in
      let later = each-one xs ys a b u.1 v.1 q r here.1 in
      ((λ i. here.0 i ∷ later.0 i), later.1)

-- ---- one record

abbrev HeadFit : HeadTree → Type 0
HeadFit h = HeadRanged h × (length h.terms ≤ 4)

moved : {x y : List ℕ} → x ≡ y → Same x 0 y
moved {x} {y} e = subst (λ (bs : List ℕ). Same x 0 bs) e (same-self x)

head-one : (k : ℕ) (g h : HeadTree) → HeadFit g → HeadFit h → head_bytes k g ≡ head_bytes k h → g ≡ h
head-one k g h u v e =
    let t = head_bytes k g in
    let x : head_at t 0 ≡ laid_head g = head-decodes t 0 k g u.0.terms (same-self t) in
    let y : head_at t 0 ≡ laid_head h = head-decodes t 0 k h v.0.terms (moved e) in
    sym (head-back g u.1) ∙ ap head_tree (sym x ∙ y) ∙ head-back h v.1

guard-one : (g h : GuardTree) → GuardRanged g → GuardRanged h → guard_bytes g ≡ guard_bytes h → g ≡ h
guard-one g h u v e =
    let t = guard_bytes g in
    let x : guard_at t 0 ≡ laid_guard g = guard-decodes t 0 g u.left u.right (same-self t) in
    let y : guard_at t 0 ≡ laid_guard h = guard-decodes t 0 h v.left v.right (moved e) in
    sym (guard-back g) ∙ ap guard_tree (sym x ∙ y) ∙ guard-back h

abbrev ItemFit : ItemTree → Type 0
ItemFit i = ItemRanged i × ItemShaped i

fact-one : (s s' : ℕ) (es es' : List Formula) → ItemFit (fact s es) → ItemFit (fact s' es') → item_bytes (fact s es) ≡ item_bytes (fact s' es')
    → fact s es ≡ fact s' es'
fact-one s s' es es' u v e =
    let t = item_bytes (fact s es) in
    let x = fact-decodes t 0 s es u.0.formulas (same-self t) in
    let y = fact-decodes t 0 s' es' v.0.formulas (moved e) in
    let symbol : s ≡ s' = sym x.symbol ∙ y.symbol in
    let formulas : es ≡ es' =
    sym (used-back expression_of no_expression formulas_in formula-back none-back 4 es u.1)
    ∙ ap (used_of formulas_in) (sym x.formulas ∙ y.formulas)
    ∙ used-back expression_of no_expression formulas_in formula-back none-back 4 es' v.1 in
    λ i. fact (symbol i) (formulas i)

fact-no-fail : {X : Type 0} (s : ℕ) (es : List Formula) (a b : List ℕ) → item_bytes (fact s es) ++ a ≡ item_bytes fail ++ b → X
unfolding item_bytes
fact-no-fail s es a b e = let z : ◌≡◌ {A = ℕ} 6 7 = ap (λ (l : List ℕ). get_or l 0 0) e in absurd (omega arith)

item-one : (x y : ItemTree) (a b : List ℕ) → ItemFit x → ItemFit y → item_bytes x ++ a ≡ item_bytes y ++ b → (x ≡ y) × (a ≡ b)
item-one (fact s es) (fact s' es') a b u v e =
    let c = cut (item_bytes (fact s es)) (item_bytes (fact s' es')) a b (fact-long s es ∙ sym (fact-long s' es')) e in
    (fact-one s s' es es' u v c.0, c.1)
item-one (fact s es) fail a b u v e = fact-no-fail s es a b e
item-one fail (fact s es) a b u v e = fact-no-fail s es b a (sym e)
item-one fail fail a b u v e = (refl, (cut (item_bytes fail) (item_bytes fail) a b refl e).1)

-- ---- lists of one kind

-- the kinds in the order of a rule: 3, 4, 5, 6, 7; then 8, 1 and 2
abbrev rank : ℕ → ℕ
rank b = (b + 5) % 8

abbrev Below : ℕ → ℕ → Type 0
Below n b = rank b < n

abbrev From : ℕ → ℕ → Type 0
From n b = n ≤ rank b

abbrev Any : ℕ → Type 0
Any b = Unit {0}

module _ (n : ℕ) where
  order : (b : ℕ) → Below n b → From n b → ⊥
  order b p q = omega arith

  -- a list whose records are known by their bytes alone
  kind-one : {A : Type 0} (bytes : A → List ℕ) (Fit : A → Type 0) → ((x : A) (a : List ℕ) → Front (Below n) (bytes x ++ a))
      → ((x y : A) (a b : List ℕ) → Fit x → Fit y → bytes x ++ a ≡ bytes y ++ b → (x ≡ y) × (a ≡ b)) → (xs ys : List A) (a b : List ℕ) → every Fit xs
      → every Fit ys → Front (From n) a → Front (From n) b → each_bytes bytes xs ++ a ≡ each_bytes bytes ys ++ b → (xs ≡ ys) × (a ≡ b)
  kind-one bytes Fit first one =
      each-one bytes Fit (Below n) (From n) Any order first (λ b p. tt) (λ b p. tt) (λ x y a b u v p q e. one x y a b u v e)

head-cut : (k : ℕ) (g h : HeadTree) (a b : List ℕ) → HeadFit g → HeadFit h → head_bytes k g ++ a ≡ head_bytes k h ++ b → (g ≡ h) × (a ≡ b)
head-cut k g h a b u v e =
    let c = cut (head_bytes k g) (head_bytes k h) a b (head-long k g ∙ sym (head-long k h)) e in
    (head-one k g h u v c.0, c.1)

guard-cut : (g h : GuardTree) (a b : List ℕ) → GuardRanged g → GuardRanged h → guard_bytes g ++ a ≡ guard_bytes h ++ b → (g ≡ h) × (a ≡ b)
guard-cut g h a b u v e =
    let c = cut (guard_bytes g) (guard_bytes h) a b (guard-long g ∙ sym (guard-long h)) e in
    (guard-one g h u v c.0, c.1)

head-front : (P : ℕ → Type 0) (k : ℕ) → P k → (h : HeadTree) (a : List ℕ) → Front P (head_bytes k h ++ a)
unfolding head_bytes
head-front P k p h a = p

guard-front : (P : ℕ → Type 0) → P 5 → (g : GuardTree) (a : List ℕ) → Front P (guard_bytes g ++ a)
unfolding guard_bytes
guard-front P p g a = p

item-front : (P : ℕ → Type 0) → P 6 → P 7 → (i : ItemTree) (a : List ℕ) → Front P (item_bytes i ++ a)
unfolding item_bytes
item-front P p q (fact s es) a = p
item-front P p q fail a = q

-- ---- a rule

abbrev RuleFit : RuleTree → Type 0
RuleFit r = RuleRanged r × RuleShaped r

abbrev kept_bytes : RuleTree → List ℕ
kept_bytes r = each_bytes (head_bytes 3) r.kept

abbrev removed_bytes : RuleTree → List ℕ
removed_bytes r = each_bytes (head_bytes 4) r.removed

abbrev behind_kept : RuleTree → List ℕ → List ℕ
behind_kept r a = removed_bytes r ++ (each_bytes guard_bytes r.guards ++ (each_bytes item_bytes r.items ++ a))

abbrev behind_removed : RuleTree → List ℕ → List ℕ
behind_removed r a = each_bytes guard_bytes r.guards ++ (each_bytes item_bytes r.items ++ a)

abbrev behind_guards : RuleTree → List ℕ → List ℕ
behind_guards r a = each_bytes item_bytes r.items ++ a

rule-parts : (r : RuleTree) (a : List ℕ) → rule_bytes r ++ a ≡ 2 ∷ (kept_bytes r ++ behind_kept r a)
unfolding rule_bytes
rule-parts r a = simp append_assoc

module _ (r : RuleTree) (a : List ℕ) (q : Front (From 5) a) where
  front-items : Front (From 3) (behind_guards r a)
  front-items =
      front-each item_bytes (From 3) (item-front (From 3) (omega arith) (omega arith)) r.items a
      (front-weaken (From 5) (From 3) (λ (b : ℕ) (p : From 5 b). omega arith) a q)

  front-guards : Front (From 2) (behind_removed r a)
  front-guards =
      front-each guard_bytes (From 2) (guard-front (From 2) (omega arith)) r.guards (behind_guards r a)
      (front-weaken (From 3) (From 2) (λ (b : ℕ) (p : From 3 b). omega arith) (behind_guards r a) front-items)

  front-removed : Front (From 1) (behind_kept r a)
  front-removed =
      front-each (head_bytes 4) (From 1) (head-front (From 1) 4 (omega arith)) r.removed (behind_removed r a)
      (front-weaken (From 2) (From 1) (λ (b : ℕ) (p : From 2 b). omega arith) (behind_removed r a) front-guards)

heads-fit : (hs : List HeadTree) → every HeadRanged hs → every (λ (h : HeadTree). length h.terms ≤ 4) hs → every HeadFit hs
heads-fit hs u v = every-both HeadRanged (λ (h : HeadTree). length h.terms ≤ 4) hs u v

items-fit : (is : List ItemTree) → every ItemRanged is → every ItemShaped is → every ItemFit is
items-fit is u v = every-both ItemRanged ItemShaped is u v

-- a rule, before bytes that begin with 2 or 8
rule-one : (r s : RuleTree) (a b : List ℕ) → RuleFit r → RuleFit s → Front (From 5) a → Front (From 5) b → rule_bytes r ++ a ≡ rule_bytes s ++ b
    → (r ≡ s) × (a ≡ b)
rule-one r s a b u v p q e =
    let d : 2 ∷ (kept_bytes r ++ behind_kept r a) ≡ 2 ∷ (kept_bytes s ++ behind_kept s b) = sym (rule-parts r a) ∙ e ∙ rule-parts s b in
    let d' : kept_bytes r ++ behind_kept r a ≡ kept_bytes s ++ behind_kept s b = ap (drop 1) d in
    let kept = kind-one 1 (head_bytes 3) HeadFit (head-front (Below 1) 3 (omega arith)) (head-cut 3) r.kept s.kept (behind_kept r a) (behind_kept s b)
    (heads-fit r.kept u.0.kept u.1.kept) (heads-fit s.kept v.0.kept v.1.kept) (front-removed r a p) (front-removed s b q) d' in
    let removed = kind-one 2 (head_bytes 4) HeadFit (head-front (Below 2) 4 (omega arith)) (head-cut 4) r.removed s.removed (behind_removed r a)
    (behind_removed s b) (heads-fit r.removed u.0.removed u.1.removed) (heads-fit s.removed v.0.removed v.1.removed)
    (front-guards r a p) (front-guards s b q) kept.1 in
    let guards = kind-one 3 guard_bytes GuardRanged (guard-front (Below 3) (omega arith)) guard-cut r.guards s.guards (behind_guards r a)
    (behind_guards s b) u.0.guards v.0.guards (front-items r a p) (front-items s b q) removed.1 in
    let items = kind-one 5 item_bytes ItemFit (item-front (Below 5) (omega arith) (omega arith)) item-one r.items s.items a b
    (items-fit r.items u.0.items u.1.items) (items-fit s.items v.0.items v.1.items) p q guards.1 in
    ((λ i. record { kept = kept.0 i; removed = removed.0 i; guards = guards.0 i; items = items.0 i }), items.1)

-- ---- a table

rule-front : (P : ℕ → Type 0) → P 2 → (r : RuleTree) (a : List ℕ) → Front P (rule_bytes r ++ a)
unfolding rule_bytes
rule-front P p r a = p

symbol-front : (n : ℕ) (a : List ℕ) → Front (λ b. b ≡ 1) (symbol_bytes n ++ a)
unfolding symbol_bytes
symbol-front n a = refl

symbol-one : (m n : ℕ) (a b : List ℕ) → symbol_bytes m ++ a ≡ symbol_bytes n ++ b → (m ≡ n) × (a ≡ b)
unfolding symbol_bytes
symbol-one m n a b e = (ap (λ (l : List ℕ). get_or l 1 0) e, ap (drop 2) e)

-- Two trees in range with the counts of the grammar that have one encoding are equal.
pub one-encoding : (v w : TableTree) → Shaped v → Ranged v → Shaped w → Ranged w → encode v ≡ encode w → v ≡ w
unfolding encode
one-encoding v w s u s' u' e =
    let behind : (x : TableTree) → Front (λ b. 1 < b) (each_bytes rule_bytes x.rules ++ (8 ∷ [])) =
    λ x. front-each rule_bytes (λ b. 1 < b) (rule-front (λ b. 1 < b) (omega arith)) x.rules (8 ∷ []) (omega arith) in
    let symbols = each-one symbol_bytes (λ (a : ℕ). a ≤ 4) (λ b. b ≡ 1) (λ b. 1 < b) Any (λ (b : ℕ) (p : b ≡ 1) (q : 1 < b). omega arith) symbol-front
    (λ b p. tt) (λ b p. tt) (λ m n a b x y p q d. symbol-one m n a b d) v.arities w.arities (each_bytes rule_bytes v.rules ++ (8 ∷ []))
    (each_bytes rule_bytes w.rules ++ (8 ∷ [])) s.arities s'.arities (behind v) (behind w) e in
    let rules = each-one rule_bytes RuleFit (λ b. b ≡ 2) (λ b. b ≡ 8) (From 5) (λ (b : ℕ) (p : b ≡ 2) (q : b ≡ 8). omega arith)
    (rule-front (λ b. b ≡ 2) refl) (λ (b : ℕ) (p : b ≡ 2). omega arith) (λ (b : ℕ) (p : b ≡ 8). omega arith) rule-one v.rules w.rules
    (8 ∷ []) (8 ∷ []) (every-both RuleRanged RuleShaped v.rules u.rules s.rules)
    (every-both RuleRanged RuleShaped w.rules u'.rules s'.rules) refl refl symbols.1 in
    λ i. record { arities = symbols.0 i; rules = rules.0 i }
