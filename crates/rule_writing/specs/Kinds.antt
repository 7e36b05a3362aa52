-- Slots and expressions as arguments; heads, comparisons and body items as parts of a list, where they lie in a table's bytes.
use Rattle.std.specs.Prelude.{ℕ, zero, suc, ◌+◌, ◌*◌, ◌≤◌, ◌≡◌, List, [], ◌∷◌, length, refl}
use Rattle.std.proofs.Common.{arith}
use Rattle.std.proofs.lemmas.List.{length-map}
use Rattle.model.specs.declared.Slot.{Slot}
use Rattle.model.specs.declared.Slot.TheVariants.{Unused, Constant, Variable, Bad}
use Rattle.model.specs.declared.Expression.{Expression}
use Rattle.model.specs.Table.{head_at, guard_at, item_at, heads_from, guards_from, items_from, behind_item}
use Rattle.records.specs.Geometry.{ItemsLie}
use Rattle.grammar.specs.Tree.{Term}
use Rattle.grammar.specs.Layout.{terms_in, formulas_by, formulas_in, head_tree, guard_tree, item_tree}
use Rattle.text_writing.specs.Parts.{formula_text, slot_texts, expression_texts, head_text, guard_text, item_text, head_texts, guard_texts, item_texts}
use Rattle.text_writing.specs.Parts.{GuardsLie}

-- ---- arguments: a place has one text at most

pub slot-few : (a : Slot) → length (slot_texts a) ≤ 1
unfolding slot_texts terms_in
slot-few Unused = omega arith
slot-few (Constant z) = omega arith
slot-few (Variable v) = omega arith
slot-few Bad = omega arith

formulas-few : (n : ℕ) (xs ys : List Term) → length (formulas_by n xs ys) ≤ 1
unfolding formulas_by
formulas-few zero [] ys = omega arith
formulas-few zero (x ∷ xs) ys = omega arith
formulas-few (suc n) [] ys = omega arith
formulas-few (suc n) (x ∷ xs) [] = omega arith
formulas-few (suc n) (x ∷ xs) (y ∷ ys) = omega arith

pub expression-few : (e : Expression) → length (expression_texts e) ≤ 1
unfolding expression_texts formulas_in
expression-few e =
    let fs = formulas_by e.operation (terms_in e.left) (terms_in e.right) in
    omega (arith, length-map fs formula_text, formulas-few e.operation (terms_in e.left) (terms_in e.right))

-- ---- heads

abbrev pub head_text_at : List ℕ → ℕ → List ℕ
head_text_at t p = head_text (head_tree (head_at t p))

abbrev pub behind_head : List ℕ → ℕ → ℕ
behind_head t p = p + 22

abbrev pub HeadsLie : List ℕ → ℕ → ℕ → Type 0
HeadsLie t p n = p + 22 * n ≤ length t

pub heads-lie : (t : List ℕ) (p n : ℕ) → HeadsLie t p (suc n) → HeadsLie t p 1 × HeadsLie t (behind_head t p) n
heads-lie t p n h = (omega arith, omega arith)

pub heads-none : (t : List ℕ) (p : ℕ) → head_texts t p 0 ≡ []
unfolding head_texts heads_from
heads-none t p = refl

pub heads-first : (t : List ℕ) (p n : ℕ) → head_texts t p (suc n) ≡ head_text_at t p ∷ head_texts t (behind_head t p) n
unfolding head_texts heads_from
heads-first t p n = refl

-- ---- comparisons

abbrev pub guard_text_at : List ℕ → ℕ → List ℕ
guard_text_at t p = guard_text (guard_tree (guard_at t p))

abbrev pub behind_guard : List ℕ → ℕ → ℕ
behind_guard t p = p + 24

pub guards-lie : (t : List ℕ) (p n : ℕ) → GuardsLie t p (suc n) → GuardsLie t p 1 × GuardsLie t (behind_guard t p) n
unfolding guards_from
guards-lie t p n l = (record { lie = omega (arith, l.lie); used = (l.used.0, tt) }, record { lie = omega (arith, l.lie); used = l.used.1 })

pub guards-none : (t : List ℕ) (p : ℕ) → guard_texts t p 0 ≡ []
unfolding guard_texts guards_from
guards-none t p = refl

pub guards-first : (t : List ℕ) (p n : ℕ) → guard_texts t p (suc n) ≡ guard_text_at t p ∷ guard_texts t (behind_guard t p) n
unfolding guard_texts guards_from
guards-first t p n = refl

-- ---- body items

abbrev pub item_text_at : List ℕ → ℕ → List ℕ
item_text_at t p = item_text (item_tree (item_at t p))

pub items-lie : (t : List ℕ) (p n : ℕ) → ItemsLie t p (suc n) → ItemsLie t p 1 × ItemsLie t (behind_item t p) n
items-lie t p n l = ((l.0, (l.1.0, tt)), l.1.1)

pub items-none : (t : List ℕ) (p : ℕ) → item_texts t p 0 ≡ []
unfolding item_texts items_from
items-none t p = refl

pub items-first : (t : List ℕ) (p n : ℕ) → item_texts t p (suc n) ≡ item_text_at t p ∷ item_texts t (behind_item t p) n
unfolding item_texts items_from
items-first t p n = refl
