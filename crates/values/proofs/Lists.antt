-- A list of guards or of items is its first one and what lies behind.
use Rattle.std.proofs.Common.{◌≡◌, refl, subst, append_assoc, append-nil, length-set, add-one, sym, ap, ◌∙◌, ℕ, suc, ◌+◌, ◌*◌, ◌-◌}
use Rattle.std.proofs.Common.{◌<◌, ◌≤◌, Bool, true, false, List, [], ◌∷◌, ◌++◌, take, length, Option, Some, None, arith}
use Rattle.std.proofs.Math.ListN.{set}
use Rattle.std.proofs.Math.Seq.{take-suc-set}
use Rattle.model.specs.declared.Binding.{Binding}
use Rattle.model.specs.declared.Entry.{Entry}
use Rattle.model.specs.Limits.{most_items}
use Rattle.model.specs.Steps.{item_entry, body_entries, cons_defined}
use Rattle.model.proofs.Decoded.{items-first}
use Rattle.records.specs.Geometry.{ItemsLie}
use Rattle.records.proofs.PartsLie.{first-lies, rest-lies}
use Rattle.model.specs.Guards.{comparison_value, guard_value}
use Rattle.model.specs.Table.{guard_at, guards_from, item_at, behind_item, items_from}

-- what a list of guards comes to, by its first one
abbrev pub first_guard : Option Bool → Option Bool → Option Bool
first_guard (Some true) rest = rest
first_guard (Some false) rest = Some false
first_guard None rest = None

module _ (b : Binding) (t : List ℕ) (p n i : ℕ) {whole : Option Bool} (w : guard_value b (guards_from t (p + 24 * i) (n - i)) ≡ whole) where
  -- its first one, when that came to o
  pub guard-step : i < n → {o : Option Bool} → o ≡ comparison_value b (guard_at t (p + 24 * i))
      → first_guard o (guard_value b (guards_from t (p + 24 * (i + 1)) (n - (i + 1)))) ≡ whole
  unfolding guard_value guards_from
  guard-step h oe =
      let e : n - i ≡ suc (n - (i + 1)) = omega arith in
      let q : p + 24 * i + 24 ≡ p + 24 * (i + 1) = omega arith in
      rw (oe, ← q) (sym (go (comparison_value b (guard_at t (p + 24 * i))) (guard_value b (guards_from t (p + 24 * i + 24) (n - (i + 1))))) ∙ rw e at w)
    where
      go : (o rest : Option Bool) → ◌≡◌ {A = Option Bool} (elim o [ Some true ↦ rest | Some false ↦ Some false | None ↦ None ]) (first_guard o rest)
      go (Some true) rest = refl
      go (Some false) rest = refl
      go None rest = refl

  pub guard-end : n ≤ i → Some true ≡ whole
  unfolding guard_value guards_from
  guard-end h = let e : n - i ≡ 0 = omega arith in rw e at w

-- ---- a body: the entries of the first i items are made, and the items from `at` on are left

-- entries in front of others, if those are there
abbrev pub behind : List Entry → Option (List Entry) → Option (List Entry)
behind es None = None
behind es (Some fs) = Some (es ++ fs)

pub record Working (b : Binding) (t : List ℕ) (p n : ℕ) (body : List Entry) (at i : ℕ) : Type 0 where
  pub order : i ≤ n
  pub lies : ItemsLie t at (n - i)
  pub few : n ≤ most_items
  pub long : length body ≡ most_items
  pub same : behind (take i body) (body_entries b (items_from t at (n - i))) ≡ body_entries b (items_from t p n)

module _ (b : Binding) (t : List ℕ) (p n : ℕ) where
  pub work-first : (body : List Entry) → length body ≡ most_items → ItemsLie t p n × (n ≤ most_items) → Working b t p n body p 0
  work-first body l h =
      let z : n - 0 ≡ n = omega arith in
      record { order = omega arith; lies = rw z h.0; few = h.1; long = l; same = rw z (go (body_entries b (items_from t p n))) }
    where
      go : (o : Option (List Entry)) → behind [] o ≡ o
      go None = refl
      go (Some es) = refl

module _ {b : Binding} {t : List ℕ} {p n : ℕ} {body : List Entry} {at i : ℕ} (r : Working b t p n body at i) where
  module _ (h : i < n) where
    left : 0 < n - i
    left = omega arith

    pub work-here : (at < length t) × (behind_item t at ≤ length t)
    work-here = first-lies t at (n - i) r.lies left

    -- what is left is the first item and what lies behind it
    first-and-rest : body_entries b (items_from t at (n - i))
        ≡ cons_defined (item_entry b (item_at t at)) (body_entries b (items_from t (behind_item t at) (n - i - 1)))
    unfolding body_entries
    first-and-rest = rw (items-first t at (n - i) left)

    module _ {o : Option Entry} (e : o ≡ item_entry b (item_at t at)) where
      pub work-lacks : o ≡ None → None ≡ body_entries b (items_from t p n)
      work-lacks z = rw (first-and-rest, ← e, z) at r.same

      pub work-more : {x : Entry} → o ≡ Some x → {next : ℕ} → next ≡ behind_item t at → Working b t p n (set body i x) next (i + 1)
      work-more {x} z {next} q =
          let less : n - i - 1 ≡ n - (i + 1) = omega arith in
          let inside : i < length body = omega (arith, r.few, r.long) in
          let front : take (i + 1) (set body i x) ≡ take i body ++ (x ∷ []) = rw (add-one i) (take-suc-set body i x inside) in
          let w = rw (first-and-rest, ← e, z, ← q, less) at r.same in
          record {
            lies = subst (ItemsLie t next) less (rest-lies t at (n - i) r.lies left q);
            order = omega arith;
            few = r.few;
            long = simp length-set r.long;
            same = rw front (move x (body_entries b (items_from t next (n - (i + 1))))) ∙ w;
          }
        where
          move : (y : Entry) (o : Option (List Entry)) → behind (take i body ++ (y ∷ [])) o ≡ behind (take i body) (cons_defined (Some y) o)
          move y None = refl
          move y (Some es) = ap Some (append_assoc (take i body) (y ∷ []) es)

  pub work-done : n ≤ i → Some (take n body) ≡ body_entries b (items_from t p n)
  unfolding body_entries items_from
  work-done h =
      let e : n - i ≡ 0 = omega arith in
      let q : i ≡ n = omega (arith, r.order) in
      ap (λ (k : ℕ). Some (take k body)) (sym q) ∙ ap Some (sym (append-nil (take i body))) ∙ rw e at r.same
