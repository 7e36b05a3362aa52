-- The places of 49 and 50 lie inside the text: each is the place of a token, or of a byte at which there is none.
use Prim.Native.Nat.{ℕ, zero, suc, ◌+◌, ◌-◌, ◌<◌, ◌≤◌}
use mathlib.Core.Bool.{Bool, true, false, cond}
use Rattle.std.specs.Prelude.{Option, None, Some}
use mathlib.Core.List.{List, [], ◌∷◌}
use native.Mathlib.Omega.{arith}
use lib.ListN.{length}
use Rattle.grammar.specs.Tree.{TableTree}
use Rattle.text.specs.Token.{is_slot}
use Rattle.text.specs.Spelling.{Found, found, nothing, is_blank, token_at}
use Rattle.text.specs.Tokens.{Lexed, end, no_token, next, lexed_by, lexed_from, lexed}
use Rattle.parsing.specs.Progress.{Progress, declared}
use Rattle.parsing.specs.Edges.{step}
use Rattle.parsing.specs.Parsed.{Parsed, tree, strange, wrong, unfinished, whole, ended, go_on, wrong_from, parsed_from, parsed}

-- every place is below m
abbrev LexedNear : ℕ → Lexed → Type 0
LexedNear m end = Unit {0}
LexedNear m (no_token p) = p < m
LexedNear m (next p t more) = (p < m) × LexedNear m more

abbrev pub ParsedNear : ℕ → Parsed → Type 0
ParsedNear m (tree w) = Unit {0}
ParsedNear m (strange p) = p < m
ParsedNear m (wrong p) = p < m
ParsedNear m unfinished = Unit {0}

by-cond : (m : ℕ) (b : Bool) (x y : Lexed) → LexedNear m x → LexedNear m y → LexedNear m (cond b x y)
by-cond m true x y u v = u
by-cond m false x y u v = v

by-found : (m p : ℕ) (more : ℕ → Bool → Lexed) (f : Found) → p < m → ((n : ℕ) (slot : Bool) → LexedNear m (more n slot)) → LexedNear m (lexed_by p more f)
unfolding lexed_by
by-found m p more (found t n) h k = (h, k (n - 1) (is_slot t))
by-found m p more nothing h k = h

lexed-near : (m skip : ℕ) (after : Bool) (p : ℕ) (bs : List ℕ) → p + length bs ≤ m → LexedNear m (lexed_from skip after p bs)
unfolding lexed_from
lexed-near m skip after p [] h = tt
lexed-near m (suc skip) after p (b ∷ bs) h = lexed-near m skip after (suc p) bs (omega arith)
lexed-near m zero after p (b ∷ bs) h =
    by-cond m (is_blank b) (lexed_from zero after (suc p) bs) (lexed_by p (λ n slot. lexed_from n slot (suc p) bs) (token_at after (b ∷ bs)))
    (lexed-near m zero after (suc p) bs (omega arith))
    (by-found m p (λ n slot. lexed_from n slot (suc p) bs) (token_at after (b ∷ bs)) (omega arith)
    (λ n slot. lexed-near m n slot (suc p) bs (omega arith)))

wrong-near : (m p : ℕ) (l : Lexed) → p < m → LexedNear m l → ParsedNear m (wrong_from p l)
unfolding wrong_from
wrong-near m p end h n = h
wrong-near m p (no_token q) h n = n
wrong-near m p (next q t more) h n = wrong-near m p more h n.1

ended-near : (m : ℕ) (o : Option TableTree) → ParsedNear m (ended o)
unfolding ended
ended-near m None = tt
ended-near m (Some w) = tt

go-near : (m p : ℕ) (more : Lexed) (on : Progress → Parsed) (o : Option Progress) → p < m → LexedNear m more → ((s : Progress) → ParsedNear m (on s))
    → ParsedNear m (go_on p more on o)
unfolding go_on
go-near m p more on None h n k = wrong-near m p more h n
go-near m p more on (Some s) h n k = k s

parsed-from-near : (m : ℕ) (s : Progress) (l : Lexed) → LexedNear m l → ParsedNear m (parsed_from s l)
unfolding parsed_from
parsed-from-near m s end n = ended-near m (whole s)
parsed-from-near m s (no_token p) n = n
parsed-from-near m s (next p t more) n =
    go-near m p more (λ s'. parsed_from s' more) (step s t) n.0 n.1 (λ s'. parsed-from-near m s' more n.1)

pub parsed-near : (text : List ℕ) → ParsedNear (length text) (parsed (lexed text))
unfolding parsed lexed
parsed-near text = parsed-from-near (length text) (declared []) (lexed_from 0 false 0 text) (lexed-near (length text) 0 false 0 text (omega arith))
