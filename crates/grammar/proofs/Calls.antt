-- The calls on encodings: checking one gives six zeros, and running one is the definition's run of the tree and goal as they are laid out.
use Prim.Native.Nat.{ℕ, ◌≤◌}
use mathlib.Core.Path.{◌≡◌}
use mathlib.Core.List.{List, map}
use lib.ListN.{length}
use borrow.Author.Tests.{le-leb}
use Rattle.std.specs.Prelude.{Ok}
use Rattle.model.specs.Limits.{greatest_limit, least_answer}
use Rattle.model.specs.Reading.{read_of}
use Rattle.model.specs.Results.{refusal}
use Rattle.model.specs.Steps.{start}
use Rattle.model.specs.Run.{run}
use Rattle.model.specs.Goal.{goal_verdict}
use Rattle.model.specs.Calls.{verdict_result, check_of, output_of, run_of}
use Rattle.model.proofs.Good.{good-table}
use Rattle.grammar.specs.Tree.{TableTree, GoalFact}
use Rattle.grammar.specs.Encode.{encode, encode_goal}
use Rattle.grammar.specs.WellFormed.{WellFormed, GoalGood}
use Rattle.grammar.specs.Layout.{laid, laid_fact}
use Rattle.grammar.proofs.Encoded.{encoding-good, encoded-symbols, encoded-arity, encoded-table}
use Rattle.grammar.proofs.Goals.{goal-good, goal-facts}

-- "Checking a good table gives six zeros.": so for every well-formed tree
pub check-encoding : (w : TableTree) → WellFormed w → check_of (encode w) ≡ refusal 0 0
unfolding check_of verdict_result
check-encoding w g = rw (encoding-good w g)

-- "The longest good table has 23,681 bytes."
pub encoding-short : (w : TableTree) → WellFormed w → length (encode w) ≤ 23681
encoding-short w g = (good-table (encode w) (encoding-good w g)).short

module _ (w : TableTree) (g : WellFormed w) (fs : List GoalFact) (f : GoalGood w.arities fs) where
  -- the encoding of a goal that is well formed over a tree's arities is good for the tree's encoding
  pub goal-encoding-good : goal_verdict (encode w) (read_of (encode w)).symbols (encode_goal fs) ≡ Ok tt
  goal-encoding-good = rw (encoded-symbols w g) (goal-good (encode w) w.arities (encoded-arity w g) g.arities fs f)

  -- and to run it is to run the tree: no test refuses where limit and buffer are in range
  pub run-encoding : (limit : ℕ) (buffer : List ℕ) → limit ≤ greatest_limit → least_answer ≤ length buffer
      → run_of (encode w) (encode_goal fs) limit buffer ≡ output_of (run (laid w) limit (start (map laid_fact fs))) buffer
  unfolding run_of
  run-encoding limit buffer l r =
      rw (
        encoding-good w g,
        goal-encoding-good,
        le-leb limit greatest_limit l,
        le-leb least_answer (length buffer) r,
        encoded-table w g,
        goal-facts (encode w) w.arities (encoded-arity w g) g.arities fs f,
      )
