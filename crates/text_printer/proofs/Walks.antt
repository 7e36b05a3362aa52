-- The declarations and the rules of a good table, one after the other: what is left of them is what is left of the text.
use Prim.Native.Nat.{ℕ, suc, ◌+◌, ◌-◌, ◌*◌, ◌≤◌, ◌<◌}
use mathlib.Core.Path.{◌≡◌, refl, sym, ap, ◌∙◌, subst}
use mathlib.Core.Logic.{⊎_elim, inl, inr}
use mathlib.Core.Bool.{true}
use mathlib.Core.List.{List, [], ◌∷◌, ◌++◌, map, append_assoc}
use native.Mathlib.Omega.{arith}
use native.Mathlib.Nat.{eq-zero-or-pos}
use native.Mathlib.Numerals.{add-one}
use lib.ListN.{length, get_or, take, drop}
use Rattle.std.proofs.lemmas.List.{length-take-le, get_or-take}
use Rattle.model.specs.declared.Slot.{Slot}
use Rattle.model.specs.declared.Slot.TheVariants.{Unused, Constant, Variable, Bad}
use Rattle.model.specs.declared.Expression.{Expression}
use Rattle.model.specs.declared.Reading.{Reading}
use Rattle.model.specs.declared.RuleShape.{RuleShape}
use Rattle.std.specs.Prelude.{Ok}
use Rattle.model.specs.Fields.{arity_at}
use Rattle.model.specs.Reading.{no_shape, read_of}
use Rattle.model.specs.Table.{Head, Guard, Rule, guards_from, guards_start, items_start, rule_of, rule_at, table_of}
use Rattle.model.proofs.Every.{every, every-weaken}
use Rattle.model.proofs.Decoded.{rule-at, rule-guards}
use Rattle.model.proofs.Parts.{UsedSlot, GoodExpression, GoodGuard, rule-parts}
use Rattle.grammar.specs.Layout.{arities_from, arities_of, rule_tree, tree_of}
use Rattle.records.proofs.PartsLie.{heads-in, guards-in, items-lie}
use Rattle.rule_weights.specs.Views.{Known}
use Rattle.rule_weights.proofs.Turns.{known-good, few-rules, rule-good, read, first, last, symbols-same}
use Rattle.text.specs.Printed.{decimal, symbol_text, declarations_text, printed}
use Rattle.text_writing.specs.declared.Page.{Page}
use Rattle.text_writing.specs.Written.{longest_text, Put}
use Rattle.text_writing.specs.Parts.{some, slot_texts, expression_texts, each_text, rule_text, BothUsed, Printable}
use Rattle.text_writing.proofs.Writes.{put-both, Rest, rest-all, rest-more, rest-none}
use Rattle.text_writing.proofs.Spelled.{used-some, expression-alone, expression-applied}
use Rattle.rule_writing.proofs.Bracketed.{unit-more}
use Rattle.rule_writing.proofs.Tokens.{printed-parts}

-- ---- what is written so far: of a text whose parts have at most `unit` bytes the first i, and this is left of it

pub record Left (unit : ℕ) (p : Page) (whole : List ℕ) (i : ℕ) (q : Page) (rest : List ℕ) : Type 0 where
  pub text : Rest p whole q rest
  pub few : q.at ≤ p.at + unit * i

pub left-all : (unit : ℕ) (p : Page) (whole : List ℕ) → Left unit p whole 0 p whole
left-all unit p whole = record { text = rest-all p whole; few = omega arith }

module _ {unit : ℕ} {p : Page} {whole : List ℕ} {i : ℕ} {q : Page} {rest : List ℕ} (l : Left unit p whole i q rest) where
  pub left-none : {n : ℕ} → i ≡ n → rest ≡ [] → Put p whole (unit * n) q
  left-none {n} e none = rw (← e) (rest-none l.text (unit * i) none (omega (arith, l.few, l.text.place, ap length none)))

  pub left-more : {x : List ℕ} {m : ℕ} {u : Page} → Put q x m u → m ≤ unit → (later : List ℕ) → rest ≡ x ++ later → Left unit p whole (i + 1) u later
  left-more a h later e = record { text = rest-more l.text a later e; few = omega (arith, l.few, a.place, a.few, unit-more unit i) }

-- ---- declarations

-- `s0/2.` and a line end
abbrev pub declaration : List ℕ → ℕ → List ℕ
declaration t k = symbol_text k ++ (47 ∷ (decimal (arity_at t k) ++ (46 ∷ 10 ∷ [])))

pub declaration-put : (t : List ℕ) (k : ℕ) {n : ℕ} → n ≡ arity_at t k → {p q u v w : Page} → Put p (symbol_text k) 11 q
    → Put q (47 ∷ []) 1 u → Put u (decimal n) 10 v → Put v (46 ∷ 10 ∷ []) 2 w → Put p (declaration t k) 24 w
declaration-put t k e a b c d =
    put-both a (put-both b (put-both c d _ 12 refl (omega arith)) _ 13 refl (omega arith)) (declaration t k) 24 (rw e) (omega arith)

module _ (t : List ℕ) (i n : ℕ) where
  pub one-declared : i < n
      → declarations_text i (arities_from t i (n - i)) ≡ declaration t i ++ declarations_text (i + 1) (arities_from t (i + 1) (n - (i + 1)))
  unfolding declarations_text arities_from
  one-declared h =
      let e : n - i ≡ suc (n - (i + 1)) = omega arith in
      let later = declarations_text (suc i) (arities_from t (suc i) (n - (i + 1))) in
      subst (λ (j : ℕ). declarations_text i (arities_from t i (n - i)) ≡ declaration t i ++ declarations_text j (arities_from t j (n - (i + 1))))
      (sym (add-one i))
      (rw e (sym (append_assoc (symbol_text i) (47 ∷ (decimal (arity_at t i) ++ (46 ∷ 10 ∷ []))) later
      ∙ ap (λ (l : List ℕ). symbol_text i ++ (47 ∷ l)) (append_assoc (decimal (arity_at t i)) (46 ∷ 10 ∷ []) later))))

  pub all-declared : n ≤ i → declarations_text i (arities_from t i (n - i)) ≡ []
  unfolding declarations_text arities_from
  all-declared h = let e : n - i ≡ 0 = omega arith in rw e

-- ---- a rule of a good table

used-slot : (a : Slot) → UsedSlot a → some (slot_texts a) ≡ true
used-slot Unused u = absurd u
used-slot (Constant z) u = sym (used-some (Constant z) (inl (z, refl)))
used-slot (Variable v) u = sym (used-some (Variable v) (inr (v, refl)))
used-slot Bad u = absurd u

used-expression : (e : Expression) → GoodExpression e → some (expression_texts e) ≡ true
used-expression e g =
    ⊎_elim (λ (z : e.operation ≡ 0). sym (expression-alone e (used-slot e.left g.first) z))
    (λ (h : 0 < e.operation). sym (expression-applied e (used-slot e.left g.first) (λ (z : e.operation ≡ 0). omega arith))
    ∙ used-slot e.right (g.second (omega arith)))
    (eq-zero-or-pos e.operation)

used-guard : (hs : List Head) (g : Guard) → GoodGuard hs g → BothUsed g
used-guard hs g w = record { left = used-expression g.left w.left; right = used-expression g.right w.right }

module _ {t : List ℕ} {r : Reading} (k : Known t r) where
  pub good-read : (read_of t).verdict ≡ Ok tt
  good-read = sym (ap (λ (r : Reading). r.verdict) k.same) ∙ k.good

  module _ {i : ℕ} (h : i < r.rules) where
    abbrev shape : RuleShape
    shape = get_or r.shapes i no_shape

    guards-used : every BothUsed (guards_from t (guards_start shape) shape.guards)
    guards-used =
        let parts = (rule-parts t good-read (record { 0 = i })).each_guard in
        let here : rule_at (table_of t) (record { 0 = i }) ≡ rule_of t shape =
        rw k.same (rule-at t (known-good k).shapes (known-good k).few_rules (record { 0 = i }) (read k h)) in
        let used : every BothUsed (rule_at (table_of t) (record { 0 = i })).guards =
        every-weaken (GoodGuard _) BothUsed (used-guard _) (rule_at (table_of t) (record { 0 = i })).guards parts in
        subst (every BothUsed) (ap (λ (x : Rule). x.guards) here ∙ rule-guards t shape) used

    pub printable : Printable t shape
    printable =
        let g = rule-good k h in
        record {
          some_head = g.some_head;
          few_heads = g.few_heads;
          kept_few = g.kept_few;
          few_guards = g.few_guards;
          few_items = g.few_items;
          heads_lie = heads-in shape g.parts_in;
          guards = record { lie = guards-in shape g.parts_in; used = guards-used };
          items = items-lie t (read_of t).symbols (items_start shape) shape.items g.body_in;
        }

-- ---- rules

-- from a rule on
abbrev pub rules_text : List ℕ → ℕ → List ℕ
rules_text t i = each_text (map rule_text (map rule_tree (drop i (table_of t).rules)))

pub rules-all : (t : List ℕ) → rules_text t 0 ≡ each_text (map rule_text (tree_of t).rules)
unfolding tree_of
rules-all t = refl

module _ {t : List ℕ} {r : Reading} (k : Known t r) where
  -- the shapes of the rules that there are
  abbrev shapes : List RuleShape
  shapes = take r.rules r.shapes

  shapes-few : r.rules ≤ length r.shapes
  shapes-few = rw k.same (omega (arith, (known-good k).shapes, (known-good k).few_rules))

  many : length shapes ≡ r.rules
  many = length-take-le r.rules r.shapes shapes-few

  module _ {i : ℕ} (h : i < length shapes) where
    inside : i < r.rules
    inside = omega (arith, many)

    same-shape : get_or shapes i no_shape ≡ get_or r.shapes i no_shape
    same-shape = get_or-take r.rules r.shapes i no_shape inside

    pub shape-printable : Printable t (get_or shapes i no_shape)
    shape-printable = rw same-shape (printable k inside)

    pub one-ruled : rules_text t i ≡ rule_text (rule_tree (rule_of t (get_or shapes i no_shape))) ++ rules_text t (i + 1)
    unfolding each_text
    one-ruled = rw (same-shape, first k inside)

  pub all-ruled : {i : ℕ} → length shapes ≤ i → rules_text t i ≡ []
  unfolding each_text
  all-ruled {i} h = rw (last k {i = i} (omega (arith, many)))

  pub rules-written : {i : ℕ} → i ≤ length shapes → length shapes ≤ i → i ≡ r.rules
  rules-written h l = omega (arith, many)

  -- ---- the whole text

  few-symbols : r.symbols ≤ 32
  few-symbols = rw k.same (known-good k).few_symbols

  pub declarations-room : 0 + 24 * r.symbols ≤ longest_text
  declarations-room = omega (arith, few-symbols)

  module _ {p q : Page} (e : p.at ≡ 0) (a : Put p (declarations_text 0 (arities_from t 0 r.symbols)) (24 * r.symbols) q) where
    pub rules-room : q.at + 989 * r.rules ≤ longest_text
    rules-room = omega (arith, few-symbols, few-rules k, a.place, a.few)

    pub table-put : {u : Page} → Put q (each_text (map rule_text (tree_of t).rules)) (989 * r.rules) u → Put p (printed (tree_of t)) longest_text u
    unfolding tree_of arities_of
    table-put b =
        put-both a b (printed (tree_of t)) longest_text (rw (symbols-same k) (sym (printed-parts (tree_of t)))) (omega (arith, few-symbols, few-rules k))
