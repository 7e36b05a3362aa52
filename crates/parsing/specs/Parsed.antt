-- What the tokens of a text come to: the tree of the text, or why there is none.
use Rattle.std.specs.Prelude.{ℕ, [], map, reverse}
use Rattle.std.specs.Prelude.{Option, None, Some}
use Rattle.grammar.specs.Tree.{HeadTree, ItemTree, fact, fail, RuleTree, TableTree}
use Rattle.text.specs.Tokens.{Lexed, end, no_token, next}
use Rattle.parsing.specs.Progress.{Progress, declared, named, slashed, sized, ruled, head_named, head_wants, head_slot, head_done, head_next}
use Rattle.parsing.specs.Progress.{headed, wants, term, operated, formed, body, emptied, item_named, item_done, item_next, table_with, head_with}
use Rattle.parsing.specs.Edges.{step}

-- ---- the lists turned round

abbrev pub head_forward : HeadTree → HeadTree
head_forward h = head_with h.symbol (reverse h.terms)

abbrev pub item_forward : ItemTree → ItemTree
item_forward (fact s es) = fact s (reverse es)
item_forward fail = fail

abbrev pub rule_forward : RuleTree → RuleTree
rule_forward r = record {
  kept = reverse (map head_forward r.kept);
  removed = reverse (map head_forward r.removed);
  guards = reverse r.guards;
  items = reverse (map item_forward r.items);
}

unfoldable pub forward : TableTree → TableTree
forward w = table_with (reverse w.arities) (reverse (map rule_forward w.rules))

-- ---- the end of a text

-- the tree of a text that ends here: behind a declaration or behind a rule
unfoldable pub whole : Progress → Option TableTree
whole (declared ns) = Some (forward (table_with ns []))
whole (named ns k) = None
whole (slashed ns) = None
whole (sized ns) = None
whole (ruled w) = Some (forward w)
whole (head_named g hs k) = None
whole (head_wants g hs k ts) = None
whole (head_slot g hs k t ts) = None
whole (head_done g hs h) = None
whole (head_next g hs) = None
whole (headed w kept removed) = None
whole (wants s) = None
whole (term s a) = None
whole (operated s o a) = None
whole (formed s f) = None
whole (body g) = None
whole (emptied g) = None
whole (item_named g is k) = None
whole (item_done g is i) = None
whole (item_next g is) = None

-- ---- the whole text

pub data Parsed : Type 0 where
  tree : TableTree → Parsed
  -- 49: at this byte there is no token
  strange : ℕ → Parsed
  -- 50: with the token at this byte no text goes on; all tokens begin a text and are none
  wrong : ℕ → Parsed
  unfinished : Parsed

unfoldable pub ended : Option TableTree → Parsed
ended None = unfinished
ended (Some w) = tree w

-- behind the first token with which no text goes on, at p, there may still be a byte that is no token
unfoldable pub wrong_from : ℕ → Lexed → Parsed
wrong_from p end = wrong p
wrong_from p (no_token q) = strange q
wrong_from p (next q t more) = wrong_from p more

unfoldable pub go_on : ℕ → Lexed → (Progress → Parsed) → Option Progress → Parsed
go_on p more on None = wrong_from p more
go_on p more on (Some s) = on s

unfoldable pub parsed_from : Progress → Lexed → Parsed
parsed_from s end = ended (whole s)
parsed_from s (no_token p) = strange p
parsed_from s (next p t more) = go_on p more (λ s'. parsed_from s' more) (step s t)

unfoldable pub parsed : Lexed → Parsed
parsed l = parsed_from (declared []) l
