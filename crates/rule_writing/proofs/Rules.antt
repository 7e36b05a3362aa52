-- A rule, as it is written: which sides it has, whether it has comparisons, and whether its body is empty.
use Prim.Native.Nat.{ℕ, ◌+◌, ◌-◌, ◌*◌, ◌≤◌, ◌<◌}
use mathlib.Core.Path.{◌≡◌, refl, ap, ◌∙◌}
use mathlib.Core.List.{List, [], ◌∷◌, ◌++◌, map}
use native.Mathlib.Omega.{arith}
use lib.ListN.{length, length-map}
use Rattle.model.specs.declared.RuleShape.{RuleShape}
use Rattle.model.specs.Table.{heads_start, guards_start, items_start, rule_of}
use Rattle.model.proofs.Decoded.{heads-length, guards-length, items-length}
use Rattle.grammar.specs.Tree.{HeadTree, GuardTree, ItemTree, RuleTree}
use Rattle.grammar.specs.Layout.{head_tree, guard_tree, item_tree, rule_tree}
use Rattle.text.specs.Token.{backslash, simplifies, propagates, bar, true_word}
use Rattle.text.specs.Printed.{mark_text}
use Rattle.text_writing.specs.declared.Page.{Page}
use Rattle.text_writing.specs.Written.{Put}
use Rattle.text_writing.specs.Parts.{list_text, head_text, guard_text, item_text, heads_text, guards_text, body_text, rule_text}
use Rattle.text_writing.specs.Parts.{head_texts, guard_texts, item_texts}
use Rattle.text_writing.specs.Parts.{Printable}
use Rattle.text_writing.proofs.Writes.{put-as, put-both, put-none}

-- ---- the texts, by how many parts there are

only-removed : (ks rs : List HeadTree) → length ks ≡ 0 → list_text (map head_text rs) ++ mark_text simplifies ≡ heads_text ks rs
unfolding heads_text
only-removed [] rs e = refl
only-removed (k ∷ ks) rs e = absurd (omega arith)

no-texts : (hs : List HeadTree) → length hs ≡ 0 → map head_text hs ≡ []
no-texts [] e = refl
no-texts (h ∷ hs) e = absurd (omega arith)

only-kept : (ks rs : List HeadTree) → 1 ≤ length ks → length rs ≡ 0 → list_text (map head_text ks) ++ mark_text propagates ≡ heads_text ks rs
unfolding heads_text
only-kept [] rs h e = absurd (omega arith)
only-kept (k ∷ ks) [] h e = refl
only-kept (k ∷ ks) (r ∷ rs) h e = absurd (omega arith)

both-sides : (ks rs : List HeadTree) → 1 ≤ length ks → 1 ≤ length rs
    → list_text (map head_text ks) ++ (mark_text backslash ++ (list_text (map head_text rs) ++ mark_text simplifies)) ≡ heads_text ks rs
unfolding heads_text
both-sides [] rs h l = absurd (omega arith)
both-sides (k ∷ ks) [] h l = absurd (omega arith)
both-sides (k ∷ ks) (r ∷ rs) h l = refl

no-guard : (gs : List GuardTree) → length gs ≡ 0 → [] ≡ guards_text gs
unfolding guards_text
no-guard [] e = refl
no-guard (g ∷ gs) e = absurd (omega arith)

some-guards : (gs : List GuardTree) → 1 ≤ length gs → list_text (map guard_text gs) ++ mark_text bar ≡ guards_text gs
unfolding guards_text
some-guards [] h = absurd (omega arith)
some-guards (g ∷ gs) h = refl

no-item : (is : List ItemTree) → length is ≡ 0 → mark_text true_word ≡ body_text is
unfolding body_text
no-item [] e = refl
no-item (i ∷ is) e = absurd (omega arith)

some-items : (is : List ItemTree) → 1 ≤ length is → list_text (map item_text is) ≡ body_text is
unfolding body_text
some-items [] h = absurd (omega arith)
some-items (i ∷ is) h = refl

-- ---- the parts of a rule, where they lie

module _ (t : List ℕ) (r : RuleShape) where
  abbrev tree : RuleTree
  tree = rule_tree (rule_of t r)

  kept-long : length tree.kept ≡ r.kept
  unfolding rule_tree rule_of
  kept-long = length-map (rule_of t r).kept head_tree ∙ heads-length t (heads_start r) r.kept

  removed-long : length tree.removed ≡ r.heads - r.kept
  unfolding rule_tree rule_of
  removed-long = length-map (rule_of t r).removed head_tree ∙ heads-length t (heads_start r + 22 * r.kept) (r.heads - r.kept)

  guards-long : length tree.guards ≡ r.guards
  unfolding rule_tree rule_of
  guards-long = length-map (rule_of t r).guards guard_tree ∙ guards-length t (guards_start r) r.guards

  items-long : length tree.items ≡ r.items
  unfolding rule_tree rule_of
  items-long = length-map (rule_of t r).body item_tree ∙ items-length t (items_start r) r.items

  kept-texts : {p : ℕ} → p ≡ heads_start r + 22 * 0 → head_texts t p r.kept ≡ map head_text tree.kept
  unfolding head_texts rule_tree rule_of
  kept-texts e = let z : heads_start r + 22 * 0 ≡ heads_start r = omega arith in rw (e, z)

  removed-texts : {p : ℕ} → p ≡ heads_start r + 22 * r.kept → head_texts t p (r.heads - r.kept) ≡ map head_text tree.removed
  unfolding head_texts rule_tree rule_of
  removed-texts e = rw e

  guards-texts : {p : ℕ} → p ≡ guards_start r → guard_texts t p r.guards ≡ map guard_text tree.guards
  unfolding guard_texts rule_tree rule_of
  guards-texts e = rw e

  items-texts : {p : ℕ} → p ≡ items_start r → item_texts t p r.items ≡ map item_text tree.items
  unfolding item_texts rule_tree rule_of
  items-texts e = rw e

  -- ---- the sides

  module _ (g : Printable t r) {at : ℕ} (ek : at ≡ heads_start r + 22 * 0) {p q : Page} (k : Put p (list_text (head_texts t at r.kept)) (66 * r.kept) q) where
    pub propagated : r.heads - r.kept ≡ 0 → {u : Page} → Put q (32 ∷ 61 ∷ 61 ∷ 62 ∷ 32 ∷ []) 5 u → Put p (heads_text tree.kept tree.removed) 272 u
    unfolding mark_text
    propagated z x =
        put-both k x (heads_text tree.kept tree.removed) 272
        (rw (kept-texts ek) (only-kept tree.kept tree.removed (omega (arith, kept-long, g.some_head, g.kept_few)) (removed-long ∙ z)))
        (omega (arith, g.few_heads, g.kept_few))

    module _ {rest : ℕ} (er : rest ≡ heads_start r + 22 * r.kept) {v w : Page} (m : Put v (32 ∷ 60 ∷ 61 ∷ 62 ∷ 32 ∷ []) 5 w) where
      pub simplified : r.kept ≤ 0 → Put q (list_text (head_texts t rest (r.heads - r.kept))) (66 * (r.heads - r.kept)) v
          → Put p (heads_text tree.kept tree.removed) 272 w
      unfolding mark_text list_text
      simplified z x =
          let none : map head_text tree.kept ≡ [] = no-texts tree.kept (omega (arith, kept-long)) in
          put-both k (put-both x m _ (66 * (r.heads - r.kept) + 5) refl (omega arith)) (heads_text tree.kept tree.removed) 272
          (rw (kept-texts ek, removed-texts er, none) (only-removed tree.kept tree.removed (omega (arith, kept-long)))) (omega (arith, g.few_heads))

      pub simpagated : {u : Page} → 0 < r.kept → (r.heads - r.kept ≡ 0 → ⊥) → Put q (32 ∷ 92 ∷ 32 ∷ []) 3 u
          → Put u (list_text (head_texts t rest (r.heads - r.kept))) (66 * (r.heads - r.kept)) v → Put p (heads_text tree.kept tree.removed) 272 w
      unfolding mark_text
      simpagated d e y x =
          let removed = 66 * (r.heads - r.kept) in
          put-both k (put-both y (put-both x m _ (removed + 5) refl (omega arith)) _ (removed + 8) refl (omega arith))
          (heads_text tree.kept tree.removed) 272
          (rw (kept-texts ek, removed-texts er)
          (both-sides tree.kept tree.removed (omega (arith, kept-long, d)) (omega (arith, removed-long, e)))) (omega (arith, g.few_heads, g.kept_few))

  -- ---- comparisons and the body

  module _ (g : Printable t r) {p q : Page} where
    pub guards-none : r.guards ≤ 0 → q ≡ p → Put p (guards_text tree.guards) 227 q
    guards-none z e = rw e (put-none p 227 (no-guard tree.guards (omega (arith, guards-long))))

    pub guards-some : {at : ℕ} → at ≡ guards_start r → 0 < r.guards → Put p (list_text (guard_texts t at r.guards)) (56 * r.guards) q
        → {u : Page} → Put q (32 ∷ 124 ∷ 32 ∷ []) 3 u → Put p (guards_text tree.guards) 227 u
    unfolding mark_text
    guards-some e d x y =
        put-both x y (guards_text tree.guards) 227
        (rw (guards-texts e) (some-guards tree.guards (omega (arith, guards-long, d)))) (omega (arith, g.few_guards))

    pub body-true : r.items ≡ 0 → Put p (116 ∷ 114 ∷ 117 ∷ 101 ∷ []) 4 q → Put p (body_text tree.items) 488 q
    unfolding mark_text
    body-true e x = put-as x (no-item tree.items (items-long ∙ e)) (omega arith)

    pub body-some : {at : ℕ} → at ≡ items_start r → (r.items ≡ 0 → ⊥) → Put p (list_text (item_texts t at r.items)) (122 * r.items) q
        → Put p (body_text tree.items) 488 q
    body-some e d x =
        put-as x (ap list_text (items-texts e) ∙ some-items tree.items (omega (arith, items-long, d))) (omega (arith, g.few_items))

  -- ---- the rule

  pub rule-put : {p q u v w : Page} → Put p (heads_text tree.kept tree.removed) 272 q → Put q (guards_text tree.guards) 227 u
      → Put u (body_text tree.items) 488 v → Put v (46 ∷ 10 ∷ []) 2 w → Put p (rule_text tree) 989 w
  unfolding rule_text mark_text
  rule-put x y o l = put-both x (put-both y (put-both o l _ 490 refl (omega arith)) _ 717 refl (omega arith)) (rule_text tree) 989 refl (omega arith)
