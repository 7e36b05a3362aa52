-- How far a text is read: the trees that its tokens so far are. Here every list has the one that was read last at its front, also the lists inside a
-- tree; `forward` (Parsed) turns them round.
use Rattle.std.specs.Prelude.{ℕ, List, ◌∷◌}
use Rattle.grammar.specs.Tree.{Term, Operation, Formula, Comparator, HeadTree, GuardTree, ItemTree, RuleTree, TableTree}

-- which heads of a rule are read, behind the table w: the first ones, or those behind "\" and the kept heads k ∷ ks
pub data Group : Type 0 where
  first : TableTree → Group
  second : TableTree → HeadTree → List HeadTree → Group

-- a rule whose heads and guards are read, behind the table
pub record Guarded : Type 0 where
  pub table : TableTree
  pub kept : List HeadTree
  pub removed : List HeadTree
  pub guards : List GuardTree

-- where an expression stands: left in a comparison, right of one, or among the arguments of body item k, behind the items and the arguments
pub data Side : Type 0 where
  left_of : Guarded → Side
  right_of : Guarded → Formula → Comparator → Side
  argument_of : Guarded → List ItemTree → ℕ → List Formula → Side

pub data Progress : Type 0 where
  -- behind the declarations of these arities; then `sK`, `sK/`, and `sK/A` with the arity A at the front
  declared : List ℕ → Progress
  named : List ℕ → ℕ → Progress
  slashed : List ℕ → Progress
  sized : List ℕ → Progress
  -- behind a rule
  ruled : TableTree → Progress
  -- a head, behind the heads: its symbol, "(" or "," of its arguments, an argument; behind it; behind "," or "\"
  head_named : Group → List HeadTree → ℕ → Progress
  head_wants : Group → List HeadTree → ℕ → List Term → Progress
  head_slot : Group → List HeadTree → ℕ → Term → List Term → Progress
  head_done : Group → List HeadTree → HeadTree → Progress
  head_next : Group → List HeadTree → Progress
  -- behind "<=>" or "==>": the kept and the removed heads
  headed : TableTree → List HeadTree → List HeadTree → Progress
  -- an expression: before it, its first slot, its operation, behind it
  wants : Side → Progress
  term : Side → Term → Progress
  operated : Side → Operation → Term → Progress
  formed : Side → Formula → Progress
  -- behind "|", behind "true"
  body : Guarded → Progress
  emptied : Guarded → Progress
  -- a body item, behind the items: its symbol, behind it, behind ","
  item_named : Guarded → List ItemTree → ℕ → Progress
  item_done : Guarded → List ItemTree → ItemTree → Progress
  item_next : Guarded → List ItemTree → Progress

-- ---- what is put together

abbrev pub table_with : List ℕ → List RuleTree → TableTree
table_with arities rules = record { arities = arities; rules = rules }

abbrev pub head_with : ℕ → List Term → HeadTree
head_with k ts = record { symbol = k; terms = ts }

abbrev pub guarded : TableTree → List HeadTree → List HeadTree → List GuardTree → Guarded
guarded w kept removed guards = record { table = w; kept = kept; removed = removed; guards = guards }

-- with a comparison more
abbrev pub with_guard : Guarded → Formula → Comparator → Formula → Guarded
with_guard g l c r = guarded g.table g.kept g.removed (record { comparator = c; left = l; right = r } ∷ g.guards)

abbrev pub rule_with : Guarded → List ItemTree → RuleTree
rule_with g is = record { kept = g.kept; removed = g.removed; guards = g.guards; items = is }

-- the table with the rule more
abbrev pub table_of : Guarded → List ItemTree → TableTree
table_of g is = table_with g.table.arities (rule_with g is ∷ g.table.rules)
