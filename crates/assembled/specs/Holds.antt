-- What an assembly holds of a text that is read so far: it is in the phase of the reading, and the buffer has the bytes of the trees.
use Rattle.std.specs.Prelude.{ℕ, ◌+◌, ◌≤◌, ◌<◌, ◌≡◌, List, [], ◌∷◌, ◌++◌, length, get_or}
use Rattle.grammar.specs.Tree.{Term, operation_number, Formula, alone, comparator_number, HeadTree, ItemTree, RuleTree, TableTree}
use Rattle.grammar.specs.Encode.{term_bytes, formula_bytes, symbol_bytes, head_bytes, guard_bytes, item_bytes, rule_bytes}
use Rattle.parsing.specs.Progress as reading
use Rattle.parsing.specs.Progress.{first, second, Guarded, left_of, right_of, argument_of, Progress, declared, named, slashed, sized, ruled}
use Rattle.parsing.specs.Progress.{head_named, head_wants, head_slot, head_done, head_next, headed, wants, term, operated, formed, body, emptied}
use Rattle.parsing.specs.Progress.{item_named, item_done, item_next, table_with}
use Rattle.parsing.specs.Parsed.{head_forward, item_forward, rule_forward}
use Rattle.assembly.specs.declared.Group.{Group}
use Rattle.assembly.specs.declared.Group.TheVariants.{First, Second}
use Rattle.assembly.specs.declared.Side.{Side}
use Rattle.assembly.specs.declared.Side.TheVariants.{Left, Right, Argument}
use Rattle.assembly.specs.declared.Phase.{Phase}
use Rattle.assembly.specs.declared.Phase.TheVariants.{Declared, Named, Slashed, Sized, Ruled, HeadNamed, HeadWants, HeadSlot, HeadDone, HeadNext}
use Rattle.assembly.specs.declared.Phase.TheVariants.{Headed, Wants, Term as TermRead, Operated, Formed, Body, Emptied, ItemNamed, ItemDone, ItemNext}
use Rattle.assembly.specs.declared.Assembly.{Assembly}
use Rattle.assembly.specs.Moves.{here}

-- ---- finished records, one behind the other

-- behind b the bytes of each; of the list the last one is at its front
module _ {A : Type 0} (bytes : A → List ℕ) where
  unfoldable pub behind : List ℕ → List A → List ℕ
  behind b [] = b
  behind b (x ∷ xs) = behind b xs ++ bytes x

abbrev pub head_of : ℕ → HeadTree → List ℕ
head_of kind h = head_bytes kind (head_forward h)

abbrev pub item_of : ItemTree → List ℕ
item_of i = item_bytes (item_forward i)

abbrev pub rule_of : RuleTree → List ℕ
rule_of r = rule_bytes (rule_forward r)

-- a table, without the byte that ends it
unfoldable pub table_bytes : TableTree → List ℕ
table_bytes w = behind rule_of (behind symbol_bytes [] w.arities) w.rules

-- and a rule that begins behind it
abbrev pub rule_front : TableTree → List ℕ
rule_front w = table_bytes w ++ (2 ∷ [])

abbrev pub headed_front : TableTree → List HeadTree → List HeadTree → List ℕ
headed_front w kept removed = behind (head_of 4) (behind (head_of 3) (rule_front w) kept) removed

-- the first heads are laid as kept ones: only "<=>" says that they are removed
abbrev pub heads_front : reading.Group → List HeadTree → List ℕ
heads_front (first w) hs = headed_front w hs []
heads_front (second w k ks) hs = headed_front w (k ∷ ks) hs

abbrev pub guards_front : Guarded → List ℕ
guards_front g = behind guard_bytes (headed_front g.table g.kept g.removed) g.guards

abbrev pub items_front : Guarded → List ItemTree → List ℕ
items_front g is = behind item_of (guards_front g) is

-- ---- the record that is read

abbrev pub kind_byte : reading.Group → ℕ
kind_byte (first w) = 3
kind_byte (second w k ks) = 4

-- a head as far as the terms ts
abbrev pub head_so_far : reading.Group → List HeadTree → ℕ → List Term → List ℕ
head_so_far g hs k ts = behind term_bytes (heads_front g hs ++ (kind_byte g ∷ k ∷ [])) ts

abbrev pub item_so_far : Guarded → List ItemTree → ℕ → List Formula → List ℕ
item_so_far g is k es = behind formula_bytes (items_front g is ++ (6 ∷ k ∷ [])) es

-- what stands before an expression of a side
abbrev pub side_front : reading.Side → List ℕ
side_front (left_of g) = guards_front g ++ (5 ∷ 0 ∷ [])
side_front (right_of g l c) = guards_front g ++ (5 ∷ comparator_number c ∷ formula_bytes l)
side_front (argument_of g is k es) = item_so_far g is k es

-- before its first slot is read; a comparison begins with its first slot
abbrev pub wants_bytes : reading.Side → List ℕ
wants_bytes (left_of g) = guards_front g
wants_bytes (right_of g l c) = side_front (right_of g l c)
wants_bytes (argument_of g is k es) = side_front (argument_of g is k es)

-- the finished records before the one that an expression stands in
abbrev pub record_front : reading.Side → List ℕ
record_front (left_of g) = guards_front g
record_front (right_of g l c) = guards_front g
record_front (argument_of g is k es) = items_front g is

-- ---- all of it

-- the finished records
unfoldable pub front_of : Progress → List ℕ
front_of (declared ns) = table_bytes (table_with ns [])
front_of (named ns k) = table_bytes (table_with ns [])
front_of (slashed ns) = table_bytes (table_with ns [])
front_of (sized ns) = table_bytes (table_with ns [])
front_of (ruled w) = table_bytes w
front_of (head_named g hs k) = heads_front g hs
front_of (head_wants g hs k ts) = heads_front g hs
front_of (head_slot g hs k t ts) = heads_front g hs
front_of (head_done g hs h) = heads_front g (h ∷ hs)
front_of (head_next g hs) = heads_front g hs
front_of (headed w kept removed) = headed_front w kept removed
front_of (wants s) = record_front s
front_of (term s a) = record_front s
front_of (operated s o a) = record_front s
front_of (formed s f) = record_front s
front_of (body g) = guards_front g
front_of (emptied g) = guards_front g
front_of (item_named g is k) = items_front g is
front_of (item_done g is i) = items_front g (i ∷ is)
front_of (item_next g is) = items_front g is

-- and the record that is read, as far as it is known
unfoldable pub bytes_of : Progress → List ℕ
bytes_of (declared ns) = table_bytes (table_with ns [])
bytes_of (named ns k) = table_bytes (table_with ns [])
bytes_of (slashed ns) = table_bytes (table_with ns [])
bytes_of (sized ns) = table_bytes (table_with ns [])
bytes_of (ruled w) = table_bytes w
bytes_of (head_named g hs k) = head_so_far g hs k []
bytes_of (head_wants g hs k ts) = head_so_far g hs k ts
bytes_of (head_slot g hs k t ts) = head_so_far g hs k (t ∷ ts)
bytes_of (head_done g hs h) = heads_front g (h ∷ hs)
bytes_of (head_next g hs) = heads_front g hs
bytes_of (headed w kept removed) = headed_front w kept removed
bytes_of (wants s) = wants_bytes s
bytes_of (term s a) = side_front s ++ formula_bytes (alone a)
bytes_of (operated s o a) = side_front s ++ (operation_number o ∷ term_bytes a)
bytes_of (formed s f) = side_front s ++ formula_bytes f
bytes_of (body g) = guards_front g
bytes_of (emptied g) = guards_front g
bytes_of (item_named g is k) = item_so_far g is k []
bytes_of (item_done g is i) = items_front g (i ∷ is)
bytes_of (item_next g is) = items_front g is

abbrev pub group_of : reading.Group → Group
group_of (first w) = First (length (table_bytes w) + 1)
group_of (second w k ks) = Second

abbrev pub side_of : reading.Side → Side
side_of (left_of g) = Left
side_of (right_of g l c) = Right
side_of (argument_of g is k es) = Argument (length es)

unfoldable pub phase_of : Progress → Phase
phase_of (declared ns) = Declared
phase_of (named ns k) = Named k
phase_of (slashed ns) = Slashed
phase_of (sized ns) = Sized
phase_of (ruled w) = Ruled
phase_of (head_named g hs k) = HeadNamed (group_of g)
phase_of (head_wants g hs k ts) = HeadWants (group_of g) (length ts)
phase_of (head_slot g hs k t ts) = HeadSlot (group_of g) (length ts)
phase_of (head_done g hs h) = HeadDone (group_of g)
phase_of (head_next g hs) = HeadNext (group_of g)
phase_of (headed w kept removed) = Headed
phase_of (wants s) = Wants (side_of s)
phase_of (term s a) = TermRead (side_of s)
phase_of (operated s o a) = Operated (side_of s)
phase_of (formed s f) = Formed (side_of s)
phase_of (body g) = Body
phase_of (emptied g) = Emptied
phase_of (item_named g is k) = ItemNamed
phase_of (item_done g is i) = ItemDone
phase_of (item_next g is) = ItemNext

abbrev pub flat_of : Progress → Assembly
flat_of s = here (length (front_of s)) (phase_of s)

-- ---- what holds

-- "A symbol of arity a uses the first a places.": a place is left for what is read
abbrev pub FewOf : reading.Side → Type 0
FewOf (left_of g) = Unit {0}
FewOf (right_of g l c) = Unit {0}
FewOf (argument_of g is k es) = length es ≤ 3

unfoldable pub Few : Progress → Type 0
Few (declared ns) = Unit {0}
Few (named ns k) = Unit {0}
Few (slashed ns) = Unit {0}
Few (sized ns) = Unit {0}
Few (ruled w) = Unit {0}
Few (head_named g hs k) = Unit {0}
Few (head_wants g hs k ts) = length ts ≤ 3
Few (head_slot g hs k t ts) = length ts ≤ 3
Few (head_done g hs h) = Unit {0}
Few (head_next g hs) = Unit {0}
Few (headed w kept removed) = Unit {0}
Few (wants s) = FewOf s
Few (term s a) = FewOf s
Few (operated s o a) = FewOf s
Few (formed s f) = FewOf s
Few (body g) = Unit {0}
Few (emptied g) = Unit {0}
Few (item_named g is k) = Unit {0}
Few (item_done g is i) = Unit {0}
Few (item_next g is) = Unit {0}

-- every byte of the buffer is that of bs, and zeros stand behind them
pub record Held (buf bs : List ℕ) : Type 0 where
  pub each : (i : ℕ) → i < length buf → get_or buf i 0 ≡ get_or bs i 0

pub record Holds (s : Progress) (a : Assembly) (buf : List ℕ) : Type 0 where
  pub same : a ≡ flat_of s
  pub held : Held buf (bytes_of s)
  pub few : Few s
