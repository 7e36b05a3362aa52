-- A tree turned round twice is the tree itself, and a tree turned round has the counts of the grammar where the tree has them.
use Prim.Native.Nat.{ℕ, ◌≤◌}
use mathlib.Core.Path.{◌≡◌, refl, ap, ap₂, ◌∙◌}
use mathlib.Core.List.{List, [], ◌∷◌, map, reverse, reverse_aux, reverse-reverse}
use lib.ListN.{length, length-reverse, length-map}
use Rattle.model.proofs.Every.{every, every-map, every-weaken}
use Rattle.grammar.specs.Tree.{Term, HeadTree, ItemTree, fact, fail, RuleTree, TableTree}
use Rattle.text.specs.Text.{ItemShaped, RuleShaped, Shaped}
use Rattle.parsing.specs.Progress.{head_with, table_with}
use Rattle.parsing.specs.Parsed.{head_forward, item_forward, rule_forward, forward}
use Rattle.parsing.proofs.Consumed.{HeadsFit}

-- ---- turned twice

module _ {A : Type 0} (f : A → A) where
  map-turned : (xs ys : List A) → map f (reverse_aux xs ys) ≡ reverse_aux (map f xs) (map f ys)
  map-turned [] ys = refl
  map-turned (x ∷ xs) ys = map-turned xs (x ∷ ys)

  map-twice : ((x : A) → f (f x) ≡ x) → (xs : List A) → map f (map f xs) ≡ xs
  map-twice back [] = refl
  map-twice back (x ∷ xs) = ap₂ (λ (y : A) (l : List A). y ∷ l) (back x) (map-twice back xs)

  pub twice : ((x : A) → f (f x) ≡ x) → (xs : List A) → reverse (map f (reverse (map f xs))) ≡ xs
  twice back xs = ap (λ (l : List A). reverse l) (map-turned (map f xs) []) ∙ reverse-reverse (map f (map f xs)) ∙ map-twice back xs

head-twice : (h : HeadTree) → head_forward (head_forward h) ≡ h
head-twice h = ap (λ (l : List Term). head_with h.symbol l) (reverse-reverse h.terms)

item-twice : (i : ItemTree) → item_forward (item_forward i) ≡ i
item-twice (fact s es) = ap (fact s) (reverse-reverse es)
item-twice fail = refl

rule-twice : (r : RuleTree) → rule_forward (rule_forward r) ≡ r
rule-twice r = λ i. record {
  kept = twice head_forward head-twice r.kept i;
  removed = twice head_forward head-twice r.removed i;
  guards = reverse-reverse r.guards i;
  items = twice item_forward item-twice r.items i;
}

pub forward-twice : (w : TableTree) → forward (forward w) ≡ w
unfolding forward
forward-twice w = λ i. table_with (reverse-reverse w.arities i) (twice rule_forward rule-twice w.rules i)

-- ---- the counts

every-turned : {A : Type 0} (P : A → Type 0) (xs ys : List A) → every P xs → every P ys → every P (reverse_aux xs ys)
every-turned P [] ys u v = v
every-turned P (x ∷ xs) ys u v = every-turned P xs (x ∷ ys) u.1 (u.0, v)

every-forward : {A : Type 0} (P : A → Type 0) (f : A → A) → ((x : A) → P x → P (f x)) → (xs : List A) → every P xs → every P (reverse (map f xs))
every-forward P f keeps xs u = every-turned P (map f xs) [] (every-map P f xs (every-weaken P (λ x. P (f x)) keeps xs u)) tt

heads-forward : (hs : List HeadTree) → HeadsFit hs → HeadsFit (reverse (map head_forward hs))
heads-forward hs u = every-forward (λ (h : HeadTree). length h.terms ≤ 4) head_forward (λ h v. rw (length-reverse h.terms) v) hs u

item-forward : (i : ItemTree) → ItemShaped i → ItemShaped (item_forward i)
item-forward (fact s es) u = rw (length-reverse es) u
item-forward fail u = tt

rule-forward : (r : RuleTree) → RuleShaped r → RuleShaped (rule_forward r)
rule-forward r u = record {
  some_head = simp (length-reverse, length-map) u.some_head;
  kept = heads-forward r.kept u.kept;
  removed = heads-forward r.removed u.removed;
  items = every-forward ItemShaped item_forward item-forward r.items u.items;
}

pub shaped-forward : (w : TableTree) → Shaped w → Shaped (forward w)
unfolding forward
shaped-forward w u = record {
  arities = every-turned (λ (a : ℕ). a ≤ 4) w.arities [] u.arities tt;
  rules = every-forward RuleShaped rule_forward rule-forward w.rules u.rules;
}
