-- A table as the steps see it: its rules, decoded where they lie, and the head places of each symbol.
use Rattle.std.specs.Prelude.{ℕ, zero, suc, ◌+◌, ◌-◌, ◌*◌, Bool, true, false, cond, List, [], ◌∷◌, ◌++◌, map, eqb, get_or, take}
use Rattle.model.specs.declared.Symbol.{Symbol}
use Rattle.model.specs.declared.RuleNumber.{RuleNumber}
use Rattle.model.specs.declared.Slot.{Slot}
use Rattle.model.specs.declared.Expression.{Expression}
use Rattle.model.specs.declared.RuleShape.{RuleShape}
use Rattle.model.specs.declared.HeadPlace.{HeadPlace}
use Rattle.model.specs.declared.Reading.{Reading}
use Rattle.model.specs.Slots.{slot_at, expression_at}
use Rattle.model.specs.Reading.{read_of}

-- ---- the parts of a rule

-- "kept / removed head: symbol, four slots"
pub record Head : Type 0 where
  pub symbol : Symbol
  pub slots : List Slot

-- "guard comparison: comparator, two expressions"
pub record Guard : Type 0 where
  pub comparator : ℕ
  pub left : Expression
  pub right : Expression

-- "body fact: symbol, four expressions", and "body fail"
pub data BodyItem : Type 0 where
  body_fact : Symbol → List Expression → BodyItem
  body_fail : BodyItem

pub record Rule : Type 0 where
  pub kept : List Head
  pub removed : List Head
  pub guards : List Guard
  pub body : List BodyItem

-- written head order: "kept heads, removed heads"
abbrev pub heads : Rule → List Head
heads r = r.kept ++ r.removed

-- how many symbols are declared, and the rules
pub record Table : Type 0 where
  pub symbols : ℕ
  pub rules : List Rule

-- ---- decoded where they lie: each is read at the offset of its kind byte

abbrev pub symbol_at : List ℕ → ℕ → Symbol
symbol_at t p = record { 0 = get_or t p 0 }

unfoldable pub head_at : List ℕ → ℕ → Head
head_at t p = record { symbol = symbol_at t (p + 1); slots = slot_at t (p + 2) ∷ slot_at t (p + 7) ∷ slot_at t (p + 12) ∷ slot_at t (p + 17) ∷ [] }

unfoldable pub guard_at : List ℕ → ℕ → Guard
guard_at t p = record { comparator = get_or t (p + 1) 0; left = expression_at t (p + 2); right = expression_at t (p + 13) }

unfoldable pub body_fact_at : List ℕ → ℕ → BodyItem
body_fact_at t p =
    body_fact (symbol_at t (p + 1))
    (expression_at t (p + 2) ∷ expression_at t (p + 13) ∷ expression_at t (p + 24) ∷ expression_at t (p + 35) ∷ [])

-- a body item is a fact (kind 6) or fail (kind 7)
unfoldable pub is_fact : List ℕ → ℕ → Bool
is_fact t p = eqb (get_or t p 0) 6

unfoldable pub item_at : List ℕ → ℕ → BodyItem
item_at t p = cond (is_fact t p) (body_fact_at t p) body_fail

-- where the record behind a body item starts
unfoldable pub behind_item : List ℕ → ℕ → ℕ
behind_item t p = cond (is_fact t p) (p + 46) (p + 1)

-- n of them, one behind the other, from p on
unfoldable pub heads_from : List ℕ → ℕ → ℕ → List Head
heads_from t p zero = []
heads_from t p (suc n) = head_at t p ∷ heads_from t (p + 22) n

unfoldable pub guards_from : List ℕ → ℕ → ℕ → List Guard
guards_from t p zero = []
guards_from t p (suc n) = guard_at t p ∷ guards_from t (p + 24) n

unfoldable pub items_from : List ℕ → ℕ → ℕ → List BodyItem
items_from t p zero = []
items_from t p (suc n) = item_at t p ∷ items_from t (behind_item t p) n

-- where a rule's heads, guards and body items start
abbrev pub heads_start : RuleShape → ℕ
heads_start r = r.start + 1

abbrev pub guards_start : RuleShape → ℕ
guards_start r = r.start + 1 + 22 * r.heads

abbrev pub items_start : RuleShape → ℕ
items_start r = r.start + 1 + 22 * r.heads + 24 * r.guards

unfoldable pub rule_of : List ℕ → RuleShape → Rule
rule_of t r = record {
  kept = heads_from t (heads_start r) r.kept;
  removed = heads_from t (heads_start r + 22 * r.kept) (r.heads - r.kept);
  guards = guards_from t (guards_start r) r.guards;
  body = items_from t (items_start r) r.items;
}

unfoldable pub table_by : List ℕ → Reading → Table
table_by t r = record { symbols = r.symbols; rules = map (rule_of t) (take r.rules r.shapes) }

unfoldable pub table_of : List ℕ → Table
table_of t = table_by t (read_of t)

-- "Symbols and rules are numbered from 0."
abbrev pub no_rule : Rule
no_rule = record { kept = []; removed = []; guards = []; body = [] }

unfoldable pub rule_at : Table → RuleNumber → Rule
rule_at t n = get_or t.rules n.0 no_rule

-- ---- "Occurrences of a symbol are counted from 1 over rules from first to last, and inside a rule from the last head to the first,
-- so removed heads come before kept ones. A run begins by listing each symbol's head places in this order."

abbrev pub same_symbol : Symbol → Symbol → Bool
same_symbol s t = eqb s.0 t.0

abbrev pub place_if : Bool → HeadPlace → List HeadPlace
place_if true p = p ∷ []
place_if false p = []

-- the places of s among the heads of rule n, the first of which has place k: the last head comes first
unfoldable pub places_in : Symbol → ℕ → ℕ → List Head → List HeadPlace
places_in s n k [] = []
places_in s n k (h ∷ hs) = places_in s n (suc k) hs ++ place_if (same_symbol h.symbol s) (record { rule = record { 0 = n }; head = k })

-- over the rules from first to last, the first of which has number n
unfoldable pub places_from : Symbol → ℕ → List Rule → List HeadPlace
places_from s n [] = []
places_from s n (r ∷ rs) = places_in s n 0 (heads r) ++ places_from s (suc n) rs

unfoldable pub places : Table → Symbol → List HeadPlace
places t s = places_from s 0 t.rules
