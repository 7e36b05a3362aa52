-- A head, a comparison and a body item, as they are written.
use Prim.Native.Nat.{ℕ, ◌+◌}
use mathlib.Core.Path.{◌≡◌, refl, sym, ap, ◌∙◌}
use mathlib.Core.Bool.{Bool, true, false}
use mathlib.Core.List.{List, [], ◌∷◌, ◌++◌, map, map-append}
use native.Mathlib.Omega.{arith}
use lib.IntN.{pos}
use lib.ListN.{get_or}
use Rattle.model.specs.declared.Slot.{Slot}
use Rattle.model.specs.declared.Expression.{Expression}
use Rattle.model.specs.Slots.{slot_at, expression_at}
use Rattle.model.specs.Table.{BodyItem, head_at, guard_at, guards_from, body_fact_at, is_fact}
use Rattle.model.proofs.Lists.{never}
use Rattle.model.proofs.Decoded.{item-fact, item-fail}
use Rattle.grammar.specs.Tree.{Formula, alone, constant}
use Rattle.grammar.specs.Layout.{used_of, terms_in, formulas_in, formula_in, comparator_of, head_tree, guard_tree, item_tree}
use Rattle.text.specs.Printed.{term_text, symbol_text, comparator_text, mark_text}
use Rattle.text_writing.specs.declared.Page.{Page}
use Rattle.text_writing.specs.Written.{Put}
use Rattle.text_writing.specs.Parts.{some, first_text, formula_text, slot_texts, expression_texts, bracket_text, BothUsed, GuardsLie}
use Rattle.text_writing.specs.Parts.{head_text, guard_text, item_text}
use Rattle.text_writing.proofs.Writes.{put-as, put-both}
use Rattle.rule_writing.specs.Kinds.{head_text_at, guard_text_at, item_text_at}

-- ---- heads

-- the texts of the places that are used are those of what they hold
used-texts : {A B : Type 0} (used : B → List A) (text : A → List ℕ) (bs : List B) → used_of (λ (b : B). map text (used b)) bs ≡ map text (used_of used bs)
unfolding used_of
used-texts used text [] = refl
used-texts used text (b ∷ bs) = rw (used-texts used text bs) (sym (map-append text (used b) (used_of used bs)))

slots-texts : (ss : List Slot) → used_of slot_texts ss ≡ map term_text (used_of terms_in ss)
unfolding slot_texts
slots-texts ss = used-texts terms_in term_text ss

expressions-texts : (es : List Expression) → used_of expression_texts es ≡ map formula_text (used_of formulas_in es)
unfolding expression_texts
expressions-texts es = used-texts formulas_in formula_text es

module _ {p q r : Page} (t : List ℕ) (at : ℕ) {k : ℕ} (b : k ≡ get_or t (at + 1) 0) (a : Put p (symbol_text k) 11 q) where
  pub head-put : {c d e f : Slot} → c ≡ slot_at t (at + 2) → d ≡ slot_at t (at + 7) → e ≡ slot_at t (at + 12) → f ≡ slot_at t (at + 17)
      → Put q (bracket_text (used_of slot_texts (c ∷ d ∷ e ∷ f ∷ []))) 53 r → Put p (head_text_at t at) 64 r
  unfolding head_text head_tree head_at
  head-put c d e f x = put-both a x (head_text_at t at) 64 (rw (c, d, e, f, slots-texts, b)) (omega arith)

  pub fact-put : {c d e f : Expression} → c ≡ expression_at t (at + 2) → d ≡ expression_at t (at + 13) → e ≡ expression_at t (at + 24)
      → f ≡ expression_at t (at + 35) → Put q (bracket_text (used_of expression_texts (c ∷ d ∷ e ∷ f ∷ []))) 109 r
      → Put p (item_text (item_tree (body_fact_at t at))) 120 r
  unfolding item_text item_tree body_fact_at
  fact-put c d e f x = put-both a x (item_text (item_tree (body_fact_at t at))) 120 (rw (c, d, e, f, expressions-texts, b)) (omega arith)

-- ---- comparisons

-- an expression that is used has one formula
used-text : (e : Expression) → some (expression_texts e) ≡ true → first_text (expression_texts e) ≡ formula_text (formula_in e)
unfolding expression_texts formula_in some first_text
used-text e = go (formulas_in e)
  where
    go : (fs : List Formula) → some (map formula_text fs) ≡ true → first_text (map formula_text fs) ≡ formula_text (get_or fs 0 (alone (constant (pos 0))))
    go [] h = never (sym h)
    go (f ∷ fs) h = refl

module _ (t : List ℕ) (at : ℕ) (lie : GuardsLie t at 1) where
  used : BothUsed (guard_at t at)
  unfolding guards_from
  used = lie.used.0

  pub left-used : {e : Expression} → e ≡ expression_at t (at + 2) → some (expression_texts e) ≡ true
  unfolding guard_at
  left-used d = rw d used.left

  pub right-used : {e : Expression} → e ≡ expression_at t (at + 13) → some (expression_texts e) ≡ true
  unfolding guard_at
  right-used d = rw d used.right

  pub guard-put : {p q r s : Page} {l m : Expression} {k : ℕ} → l ≡ expression_at t (at + 2) → k ≡ get_or t (at + 1) 0 → m ≡ expression_at t (at + 13)
      → Put p (first_text (expression_texts l)) 25 q → Put q (comparator_text (comparator_of k)) 4 r → Put r (first_text (expression_texts m)) 25 s
      → Put p (guard_text_at t at) 54 s
  unfolding guard_text guard_tree guard_at
  guard-put {l = l} {m} {k} el ek em x y z =
      put-both x (put-both y z (comparator_text (comparator_of k) ++ first_text (expression_texts m)) 29 refl (omega arith)) (guard_text_at t at) 54
      (rw (el, ek, em, used-text (expression_at t (at + 2)) used.left, used-text (expression_at t (at + 13)) used.right)) (omega arith)

-- ---- body items

module _ (t : List ℕ) (at : ℕ) {f : Bool} (e : f ≡ is_fact t at) {p q : Page} where
  pub item-of-fact : f ≡ true → Put p (item_text (item_tree (body_fact_at t at))) 120 q → Put p (item_text_at t at) 120 q
  item-of-fact h a = put-as a (ap (λ (i : BodyItem). item_text (item_tree i)) (sym (item-fact t at (sym e ∙ h)))) (omega arith)

  pub item-of-fail : f ≡ false → Put p (102 ∷ 97 ∷ 105 ∷ 108 ∷ []) 4 q → Put p (item_text_at t at) 120 q
  unfolding item_text item_tree mark_text
  item-of-fail h a = put-as a (rw (item-fail t at (sym e ∙ h))) (omega arith)
