-- What a search stands for in the definition.
use Rattle.std.specs.Prelude.{ℕ, ◌+◌, ◌-◌, ◌*◌, ◌≤◌, ◌<◌, ◌≡◌, true, false, cond, List, eqb, get_or, take, length, Option, None}
use Rattle.model.specs.declared.FactId.{FactId}
use Rattle.model.specs.declared.Stored.{Stored}
use Rattle.model.specs.declared.Binding.{Binding}
use Rattle.model.specs.declared.Kind.TheVariants.{KeptHead}
use Rattle.model.specs.Guards.{unbound}
use Rattle.model.specs.Limits.{most_heads}
use Rattle.model.specs.Records.{size_of}
use Rattle.model.specs.Table.{Head, heads_from, heads_start, items_start, rule_of}
use Rattle.model.specs.Search.{Found, nothing, undefined_guard, applies, nobody, may_stand, search}
use Rattle.model.specs.Matching.{match_head}
use Rattle.search.specs.declared.Quest.{Quest}
use Rattle.search.specs.declared.Trial.{Trial}
use Rattle.search.specs.declared.Trial.TheVariants.{Applies, Nothing, UndefinedGuard}

-- a stored fact as the partner for a head: the definition's candidate, which looks at nothing but these
unfoldable pub candidate_of : FactId → Head → List FactId → Binding → Stored → Option Binding
candidate_of active h chosen b s = elim (may_stand active chosen s.id) [ true ↦ match_head h s.fact b | false ↦ None ]

unfoldable pub found_as : Trial → List FactId → Binding → Found
found_as Applies chosen b = applies chosen b
found_as Nothing chosen b = nothing
found_as UndefinedGuard chosen b = undefined_guard

-- where head k of the rule stands
abbrev pub head_of : Quest → ℕ → ℕ
head_of q k = heads_start q.shape + size_of KeptHead * k

-- the search from head k on, facts being chosen for those before it
unfoldable pub sought_of : Quest → ℕ → List FactId → Binding → Found
sought_of q k chosen b =
    search q.store.now q.past.now q.place (rule_of q.table.now q.shape) q.active
    (heads_from q.table.now (head_of q k) (q.shape.heads - k)) chosen b

-- the head that gets the next partner, from head k on: the active fact has its own
unfoldable pub partner_from : ℕ → ℕ → ℕ
partner_from k head = cond (eqb k head) (k + 1) k

-- what a complete match asks: the guards lie in the table
pub record Matched (q : Quest) : Type 0 where
  pub guards_in : items_start q.shape ≤ length q.table.now

-- what a search from head k on asks: so many partners are left, the active fact's own place not counted, and behind that place the active
-- fact is among the chosen; the rule lies in the table
pub record Ready (q : Quest) (chosen : List FactId) (left k : ℕ) : Type 0 where
  pub parts_in : items_start q.shape ≤ length q.table.now
  pub few_heads : q.shape.heads ≤ most_heads
  pub head_in : q.place.head < q.shape.heads
  pub ahead : k ≤ q.place.head → k + left + 1 ≡ q.shape.heads
  pub behind : q.place.head < k → k + left ≡ q.shape.heads
  pub seated : q.place.head < k → get_or chosen q.place.head nobody ≡ q.active

-- what it leaves: the definition's answer, and the facts chosen before it as they were
pub record Sought (found : Found) (r : Trial) (total k : ℕ) (chosen₀ chosen : List FactId) (b : Binding) : Type 0 where
  pub answer : found_as r (take total chosen) b ≡ found
  pub before : take k chosen ≡ take k chosen₀

-- what a quest asks
pub record Posed (q : Quest) (b : Binding) : Type 0 where
  pub parts_in : items_start q.shape ≤ length q.table.now
  pub few_heads : q.shape.heads ≤ most_heads
  pub kept_few : q.shape.kept ≤ q.shape.heads
  pub head_in : q.place.head < q.shape.heads
  -- no variable is bound yet
  pub free : b ≡ unbound

-- what it is answered
pub record Answered (found : Found) (r : Trial) (heads : ℕ) (chosen : List FactId) (b : Binding) : Type 0 where
  pub answer : found_as r (take heads chosen) b ≡ found
