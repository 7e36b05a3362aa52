-- The table of a text is made of bytes, also where it is bad: its symbols, arities and kinds are small, and the parts are as those of a good table's tree.
use Prim.Native.Nat.{ℕ, ◌<◌}
use native.Mathlib.Omega.{arith}
use mathlib.Core.List.{List, [], ◌∷◌}
use Rattle.model.proofs.Every.{every-weaken}
use Rattle.model.proofs.Ranges.{AreBytes}
use Rattle.grammar.specs.Tree.{HeadTree, ItemTree, fact, fail, RuleTree, TableTree}
use Rattle.grammar.specs.Encode.{each_bytes, term_bytes, formula_bytes, symbol_bytes, head_bytes, guard_bytes, item_bytes, rule_bytes, encode}
use Rattle.grammar.proofs.Bytes.{Byte, both, each, places, term, formula, guard, symbol}
use Rattle.text.specs.Text.{Shaped}
use Rattle.text.specs.Tokens.{lexed}
use Rattle.text.proofs.Lexing.{lexed-good}
use Rattle.parsing.proofs.Ranges.{HeadRanged, GuardRanged, ItemRanged, RuleRanged, Ranged, text-ranged}
use Rattle.text_theorems.proofs.Accepted.{TextOf, text-parsed}

head : (kind : ℕ) → kind < 256 → (h : HeadTree) → HeadRanged h → AreBytes (head_bytes kind h)
unfolding head_bytes
head kind k h g = (k, (omega (arith, g.symbol), places term_bytes 5 term 4 h.terms))

item : (i : ItemTree) → ItemRanged i → AreBytes (item_bytes i)
unfolding item_bytes
item (fact s es) g = (omega arith, (omega (arith, g.symbol), places formula_bytes 11 formula 4 es))
item fail g = (omega arith, tt)

rule : (w : RuleTree) → RuleRanged w → AreBytes (rule_bytes w)
unfolding rule_bytes
rule w g =
    let kept = each (head_bytes 3) HeadRanged (head 3 (omega arith)) w.kept g.kept in
    let removed = each (head_bytes 4) HeadRanged (head 4 (omega arith)) w.removed g.removed in
    let guards = each guard_bytes GuardRanged (λ x k. guard x) w.guards g.guards in
    let items = each item_bytes ItemRanged item w.items g.items in
    (omega arith, search both)

ranged-bytes : (w : TableTree) → Shaped w → Ranged w → AreBytes (encode w)
unfolding encode
ranged-bytes w s g =
    both (each_bytes symbol_bytes w.arities) _ (each symbol_bytes Byte symbol w.arities (every-weaken _ Byte (λ a h. omega arith) w.arities s.arities))
    (both (each_bytes rule_bytes w.rules) (8 ∷ []) (each rule_bytes RuleRanged rule w.rules g.rules) (omega arith, tt))

-- The tree of a text is in range: at most 32 declarations, symbols, constants and variables as they are spelled.
pub tree-ranged : (text : List ℕ) (w : TableTree) → TextOf text w → Ranged w
tree-ranged text w x = text-ranged (lexed text) w (lexed-good text) (text-parsed text w x)

-- The table that a text stands for is made of bytes.
pub text-bytes : (text : List ℕ) (w : TableTree) → TextOf text w → AreBytes (encode w)
text-bytes text w x = ranged-bytes w x.spells.shaped (tree-ranged text w x)
