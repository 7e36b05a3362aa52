-- The tokens that were read to come to a state, the last one first; and the counts of the grammar, of the parts read so far. Both go along with every
-- edge: the tokens by one more, most often by computation alone.
use Prim.Native.Nat.{ℕ, ◌+◌, ◌≤◌, ◌<◌}
use native.Mathlib.Omega.{arith}
use mathlib.Core.Path.{◌≡◌, refl, sym, ap}
use mathlib.Core.Bool.{Bool, true, false}
use Rattle.std.specs.Prelude.{Option, None, Some}
use mathlib.Core.List.{List, [], ◌∷◌, ◌++◌, reverse_aux}
use lib.Dec.{ltb, ltb→lt}
use lib.IntN.{pos}
use lib.ListN.{length}
use Rattle.model.proofs.Every.{every, every-append}
use Rattle.model.proofs.Lists.{OptionIs}
use Rattle.grammar.specs.Tree.{Term, constant, quotient, Formula, alone, applied, HeadTree, GuardTree, ItemTree, fact, fail, RuleTree, TableTree}
use Rattle.text.specs.Token.{Token, symbol, slot, compares, operates, mark, backslash, simplifies, propagates, bar, opens, closes, comma, stop}
use Rattle.text.specs.Token.{true_word, fail_word}
use Rattle.text.specs.Text.{ItemShaped, Shaped}
use Rattle.parsing.specs.Progress.{Group, first, second, Guarded, Side, left_of, right_of, argument_of, Progress, declared, named, slashed, sized, ruled}
use Rattle.parsing.specs.Progress.{head_named, head_wants, head_slot, head_done, head_next, headed, wants, term, operated, formed, body, emptied}
use Rattle.parsing.specs.Progress.{item_named, item_done, item_next, table_with, head_with, guarded, with_guard, table_of}
use Rattle.parsing.specs.Edges.{Edge, only, room, in_turn, edges_of, step, behind_group, behind_head, behind_symbol, behind_formula, item_edges}
use Rattle.parsing.specs.Edges.{body_edges, behind_item}
use Rattle.parsing.proofs.Steps.{Keeps, along-keeps, so, test-equal, and_then, run}

-- ---- lists, before `rest`

module _ {A : Type 0} (read : A → List Token → List Token) where
  -- each with a comma behind it
  abbrev pub more_read : List A → List Token → List Token
  more_read [] rest = rest
  more_read (x ∷ xs) rest = mark comma ∷ read x (more_read xs rest)

  abbrev pub list_read : List A → List Token → List Token
  list_read [] rest = rest
  list_read (x ∷ xs) rest = read x (more_read xs rest)

  abbrev pub bracket_read : List A → List Token → List Token
  bracket_read [] rest = rest
  bracket_read (x ∷ xs) rest = mark closes ∷ list_read (x ∷ xs) (mark opens ∷ rest)

  abbrev pub each_read : List A → List Token → List Token
  each_read [] rest = rest
  each_read (x ∷ xs) rest = read x (each_read xs rest)

-- ---- trees

abbrev pub term_read : Term → List Token → List Token
term_read a rest = slot a ∷ rest

abbrev pub formula_read : Formula → List Token → List Token
formula_read (alone a) rest = slot a ∷ rest
formula_read (applied o a b) rest = slot b ∷ operates o ∷ slot a ∷ rest

abbrev pub head_read : HeadTree → List Token → List Token
head_read h rest = bracket_read term_read h.terms (symbol h.symbol ∷ rest)

abbrev pub guard_read : GuardTree → List Token → List Token
guard_read g rest = formula_read g.right (compares g.comparator ∷ formula_read g.left rest)

abbrev pub item_read : ItemTree → List Token → List Token
item_read (fact s es) rest = bracket_read formula_read es (symbol s ∷ rest)
item_read fail rest = mark fail_word ∷ rest

abbrev pub heads_read : List HeadTree → List HeadTree → List Token → List Token
heads_read [] removed rest = mark simplifies ∷ list_read head_read removed rest
heads_read (k ∷ kept) [] rest = mark propagates ∷ list_read head_read (k ∷ kept) rest
heads_read (k ∷ kept) (r ∷ removed) rest =
    mark simplifies ∷ list_read head_read (r ∷ removed) (mark backslash ∷ list_read head_read (k ∷ kept) rest)

abbrev pub guards_read : List GuardTree → List Token → List Token
guards_read [] rest = rest
guards_read (g ∷ gs) rest = mark bar ∷ list_read guard_read (g ∷ gs) rest

abbrev pub body_read : List ItemTree → List Token → List Token
body_read [] rest = mark true_word ∷ rest
body_read (i ∷ is) rest = list_read item_read (i ∷ is) rest

abbrev pub rule_read : RuleTree → List Token → List Token
rule_read r rest = mark stop ∷ body_read r.items (guards_read r.guards (heads_read r.kept r.removed rest))

abbrev pub declarations_read : List ℕ → List Token
declarations_read [] = []
declarations_read (a ∷ ns) = mark stop ∷ slot (constant (pos a)) ∷ operates quotient ∷ symbol (length ns) ∷ declarations_read ns

abbrev pub table_read : TableTree → List Token
table_read w = each_read rule_read w.rules (declarations_read w.arities)

-- ---- states

abbrev pub group_read : Group → List Token
group_read (first w) = table_read w
group_read (second w k ks) = mark backslash ∷ list_read head_read (k ∷ ks) (table_read w)

abbrev pub arrow_read : Guarded → List Token
arrow_read g = heads_read g.kept g.removed (table_read g.table)

abbrev pub items_read : Guarded → List ItemTree → List Token
items_read g is = more_read item_read is (guards_read g.guards (arrow_read g))

abbrev pub side_read : Side → List Token
side_read (left_of g) = more_read guard_read g.guards (arrow_read g)
side_read (right_of g f c) = compares c ∷ formula_read f (more_read guard_read g.guards (arrow_read g))
side_read (argument_of g is k es) = more_read formula_read es (mark opens ∷ symbol k ∷ items_read g is)

abbrev pub consumed : Progress → List Token
consumed (declared ns) = declarations_read ns
consumed (named ns k) = symbol k ∷ declarations_read ns
consumed (slashed ns) = operates quotient ∷ symbol (length ns) ∷ declarations_read ns
consumed (sized []) = []
consumed (sized (a ∷ ns)) = slot (constant (pos a)) ∷ operates quotient ∷ symbol (length ns) ∷ declarations_read ns
consumed (ruled w) = table_read w
consumed (head_named g hs k) = symbol k ∷ more_read head_read hs (group_read g)
consumed (head_wants g hs k ts) = more_read term_read ts (mark opens ∷ symbol k ∷ more_read head_read hs (group_read g))
consumed (head_slot g hs k t ts) = slot t ∷ more_read term_read ts (mark opens ∷ symbol k ∷ more_read head_read hs (group_read g))
consumed (head_done g hs h) = head_read h (more_read head_read hs (group_read g))
consumed (head_next g hs) = more_read head_read hs (group_read g)
consumed (headed w kept removed) = heads_read kept removed (table_read w)
consumed (wants s) = side_read s
consumed (term s a) = slot a ∷ side_read s
consumed (operated s o a) = operates o ∷ slot a ∷ side_read s
consumed (formed s f) = formula_read f (side_read s)
consumed (body g) = guards_read g.guards (arrow_read g)
consumed (emptied g) = mark true_word ∷ guards_read g.guards (arrow_read g)
consumed (item_named g is k) = symbol k ∷ items_read g is
consumed (item_done g is i) = item_read i (items_read g is)
consumed (item_next g is) = items_read g is

-- ---- the counts

abbrev pub Few : ℕ → Type 0
Few a = a ≤ 4

abbrev pub HeadsFit : List HeadTree → Type 0
HeadsFit hs = every (λ (h : HeadTree). length h.terms ≤ 4) hs

pub record GuardedFit (g : Guarded) : Type 0 where
  pub table : Shaped g.table
  pub kept : HeadsFit g.kept
  pub removed : HeadsFit g.removed
  pub some_head : 1 ≤ length g.kept + length g.removed

abbrev pub GroupFit : Group → Type 0
GroupFit (first w) = Shaped w
GroupFit (second w k ks) = Shaped w × HeadsFit (k ∷ ks)

abbrev pub ItemsFit : Guarded → List ItemTree → Type 0
ItemsFit g is = GuardedFit g × every ItemShaped is

abbrev pub SideFit : Side → Type 0
SideFit (left_of g) = GuardedFit g
SideFit (right_of g f c) = GuardedFit g
SideFit (argument_of g is k es) = ItemsFit g is × (length es ≤ 3)

abbrev pub Fit : Progress → Type 0
Fit (declared ns) = every Few ns
Fit (named ns k) = every Few ns
Fit (slashed ns) = every Few ns
Fit (sized ns) = every Few ns × (1 ≤ length ns)
Fit (ruled w) = Shaped w
Fit (head_named g hs k) = GroupFit g × HeadsFit hs
Fit (head_wants g hs k ts) = (GroupFit g × HeadsFit hs) × (length ts ≤ 3)
Fit (head_slot g hs k t ts) = (GroupFit g × HeadsFit hs) × (length ts ≤ 3)
Fit (head_done g hs h) = GroupFit g × HeadsFit (h ∷ hs)
Fit (head_next g hs) = GroupFit g × HeadsFit hs
Fit (headed w kept removed) = GuardedFit (guarded w kept removed [])
Fit (wants s) = SideFit s
Fit (term s a) = SideFit s
Fit (operated s o a) = SideFit s
Fit (formed s f) = SideFit s
Fit (body g) = GuardedFit g
Fit (emptied g) = GuardedFit g
Fit (item_named g is k) = ItemsFit g is
Fit (item_done g is i) = ItemsFit g (i ∷ is)
Fit (item_next g is) = ItemsFit g is

-- ---- the edges

-- one token more, and the counts
abbrev pub Leads : List Token → Token → Progress → Type 0
Leads before t s = (consumed s ≡ t ∷ before) × Fit s

abbrev AllLead : List Token → List Edge → Type 0
AllLead before es = every (Keeps (Leads before)) es

-- edges, some only where a test holds
lead-test : (before : List Token) (b : Bool) (es fs : List Edge) → (b ≡ true → AllLead before es) → AllLead before fs → AllLead before (only b es ++ fs)
lead-test before true es fs u v = every-append (Keeps (Leads before)) es fs (u refl) v
lead-test before false es fs u v = v

test-less : (m n : ℕ) → ltb m n ≡ true → m < n
test-less m n e = ltb→lt m n (so (ltb m n) e)

group-leads : (g : Group) (hs : List HeadTree) (h : HeadTree) → GroupFit g → HeadsFit (h ∷ hs)
    → AllLead (head_read h (more_read head_read hs (group_read g))) (behind_group g hs h)
group-leads (first w) hs h u v = (
  (λ x y. (refl, ((u, v), tt))),
  (
    (λ x y. (refl, record { table = u; kept = tt; removed = v; some_head = omega arith })),
    ((λ x y. (refl, record { table = u; kept = v; removed = tt; some_head = omega arith })), tt),
  ),
)
group-leads (second w k ks) hs h u v = ((λ x y. (refl, record { table = u.0; kept = u.1; removed = v; some_head = omega arith })), tt)

head-leads : (g : Group) (hs : List HeadTree) (h : HeadTree) → GroupFit g → HeadsFit (h ∷ hs)
    → AllLead (head_read h (more_read head_read hs (group_read g))) (behind_head g hs h)
head-leads g hs h u v = ((λ x y. (refl, (u, v))), group-leads g hs h u v)

symbol-leads : (g : Group) (hs : List HeadTree) (k : ℕ) → GroupFit g → HeadsFit hs
    → AllLead (symbol k ∷ more_read head_read hs (group_read g)) (behind_symbol g hs k)
symbol-leads g hs k u v = ((λ x y. (refl, ((u, v), omega arith))), head-leads g hs (head_with k []) u (omega arith, v))

formula-leads : (s : Side) (f : Formula) → SideFit s → AllLead (formula_read f (side_read s)) (behind_formula s f)
formula-leads (left_of g) f u = ((λ x y. (refl, u)), tt)
formula-leads (right_of g l c) f u = ((λ x y. (refl, fit)), ((λ x y. (refl, fit)), tt))
  where
    fit : GuardedFit (with_guard g l c f)
    fit = record { table = u.table; kept = u.kept; removed = u.removed; some_head = u.some_head }
formula-leads (argument_of g is k es) f u =
    lead-test (formula_read f (side_read (argument_of g is k es))) (room es) _ _
    (λ e. ((λ x y. (refl, (u.0, omega (arith, test-less (length es) _ e)))), tt))
    ((λ x y. (refl, (u.0.0, (omega arith, u.0.1)))), tt)

item-leads : (g : Guarded) (is : List ItemTree) → ItemsFit g is → AllLead (items_read g is) (item_edges g is)
item-leads g is u = ((λ x y. (refl, u)), ((λ x y. (refl, (u.0, (tt, u.1)))), tt))

body-leads : (g : Guarded) → GuardedFit g → AllLead (guards_read g.guards (arrow_read g)) (body_edges g)
body-leads g u = ((λ x y. (refl, u)), item-leads g [] (u, tt))

table-fit : (g : Guarded) (is : List ItemTree) → ItemsFit g is → Shaped (table_of g is)
table-fit g is u = record {
  arities = u.0.table.arities;
  rules =
      (record { some_head = u.0.some_head; kept = u.0.kept; removed = u.0.removed; items = u.1 }, u.0.table.rules);
}

behind-leads : (g : Guarded) (is : List ItemTree) (i : ItemTree) → ItemsFit g (i ∷ is) → AllLead (item_read i (items_read g is)) (behind_item g is i)
behind-leads g is i u = ((λ x y. (refl, u)), ((λ x y. (refl, table-fit g (i ∷ is) u)), tt))

pub edges-lead : (s : Progress) → Fit s → AllLead (consumed s) (edges_of s)
unfolding edges_of
edges-lead (declared ns) u = ((λ x y. (refl, u)), tt)
edges-lead (named ns k) u =
    lead-test (symbol k ∷ declarations_read ns) (in_turn ns k) _ _
    (λ e. ((λ x y. (ap (λ (n : ℕ). operates quotient ∷ symbol n ∷ declarations_read ns) (sym (test-equal k (length ns) e)), u)), tt))
    (symbol-leads (first (table_with ns [])) [] k (record { arities = u; rules = tt }) tt)
edges-lead (slashed ns) u = ((λ x y. (refl, ((y, u), omega arith))), tt)
edges-lead (sized []) u = absurd (omega arith)
edges-lead (sized (a ∷ ns)) u = ((λ x y. (refl, u.0)), tt)
edges-lead (ruled w) u = ((λ x y. (refl, (u, tt))), tt)
edges-lead (head_named g hs k) u = symbol-leads g hs k u.0 u.1
edges-lead (head_wants g hs k ts) u = ((λ x y. (refl, u)), tt)
edges-lead (head_slot g hs k t ts) u =
    lead-test (consumed (head_slot g hs k t ts)) (room ts) _ _ (λ e. ((λ x y. (refl, (u.0, omega (arith, test-less (length ts) _ e)))), tt))
    ((λ x y. (refl, (u.0.0, (omega arith, u.0.1)))), tt)
edges-lead (head_done g hs h) u = head-leads g hs h u.0 u.1
edges-lead (head_next g hs) u = ((λ x y. (refl, u)), tt)
edges-lead (headed w kept removed) u = ((λ x y. (refl, u)), body-leads (guarded w kept removed []) u)
edges-lead (wants s) u = ((λ x y. (refl, u)), tt)
edges-lead (term s a) u = ((λ x y. (refl, u)), formula-leads s (alone a) u)
edges-lead (operated s o a) u = ((λ x y. (refl, u)), tt)
edges-lead (formed s f) u = formula-leads s f u
edges-lead (body g) u = body-leads g u
edges-lead (emptied g) u = ((λ x y. (refl, table-fit g [] (u, tt))), tt)
edges-lead (item_named g is k) u = ((λ x y. (refl, (u, omega arith))), behind-leads g is (fact k []) (u.0, (omega arith, u.1)))
edges-lead (item_done g is i) u = behind-leads g is i u
edges-lead (item_next g is) u = item-leads g is u

-- ---- steps and runs

pub step-leads : (s : Progress) (t : Token) → Fit s → OptionIs (Leads (consumed s) t) (step s t)
unfolding step
step-leads s t u = along-keeps (Leads (consumed s)) (edges_of s) t (edges-lead s u)

-- where a run comes to, those tokens were read, behind those before
abbrev pub Came : List Token → List Token → Progress → Type 0
Came before ts s = (consumed s ≡ reverse_aux ts before) × Fit s

pub run-came : (ts : List Token) (s : Progress) → Fit s → OptionIs (Came (consumed s) ts) (run s ts)
unfolding run
run-came [] s u = (refl, u)
run-came (t ∷ ts) s u = go (step s t) (step-leads s t u) (λ s' v. run-came ts s' v)
  where
    go : (o : Option Progress) → OptionIs (Leads (consumed s) t) o → ((s' : Progress) → Fit s' → OptionIs (Came (consumed s') ts) (run s' ts))
        → OptionIs (Came (consumed s) (t ∷ ts)) (and_then o (λ s'. run s' ts))
    go None v later = tt
    go (Some s') v later = rw v.0 at (later s' v.1)
