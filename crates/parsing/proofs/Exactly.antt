-- The machine is the grammar: what `parsed` answers of the tokens of a text, said by the grammar alone (Text, Begins of crate text), for each of its four
-- answers and both ways. Soundness (Sound), completeness (Complete) and the end that every state can be brought to (Finish) are put together here.
use Prim.Native.Nat.{ℕ}
use native.Mathlib.Omega.{arith}
use mathlib.Core.Path.{◌≡◌, refl, sym, ap, ◌∙◌, subst}
use mathlib.Core.Logic.{◌↔◌}
use Rattle.std.specs.Prelude.{Option, None, Some}
use mathlib.Core.List.{List, [], ◌∷◌, ◌++◌, append_assoc, append-nil}
use Rattle.grammar.specs.Tree.{TableTree}
use Rattle.text.specs.Token.{Token}
use Rattle.text.specs.Tokens.{Lexed, end, no_token, next, tokens_in, AllTokens}
use Rattle.text.specs.Text.{Text, Begins}
use Rattle.parsing.specs.Progress.{Progress, declared}
use Rattle.parsing.specs.Edges.{step}
use Rattle.parsing.specs.Parsed.{whole, Parsed, tree, strange, wrong, unfinished, ended, wrong_from, go_on, parsed_from, parsed}
use Rattle.parsing.proofs.Steps.{and_then, run, run-by, run-on}
use Rattle.parsing.proofs.Complete.{Reaches, complete}
use Rattle.parsing.proofs.Sound.{sound}
use Rattle.parsing.proofs.Finish.{Finish, finish}

-- ---- places

-- the token t stands at place p, behind these tokens
abbrev pub StandsAt : Lexed → List Token → ℕ → Token → Type 0
StandsAt end before p t = ⊥
StandsAt (no_token q) before p t = ⊥
StandsAt (next q u more) [] p t = (q ≡ p) × (u ≡ t)
StandsAt (next q u more) (b ∷ before) p t = (u ≡ b) × StandsAt more before p t

-- behind the tokens, at place p, there is no token
abbrev pub EndsAt : Lexed → ℕ → Type 0
EndsAt end p = ⊥
EndsAt (no_token q) p = q ≡ p
EndsAt (next q u more) p = EndsAt more p

-- no tokens make these a text, whatever the tree: also none of those that have no spelling
abbrev pub Never : List Token → Type 0
Never ts = (rest : List Token) (w : TableTree) → Text (ts ++ rest) w → ⊥

-- the first token with which the tokens begin no text stands at place p
pub record WrongAt (l : Lexed) (p : ℕ) : Type 0 where
  pub tokens : AllTokens l
  pub before : List Token
  pub token : Token
  pub stands : StandsAt l before p token
  pub begins : Begins before
  pub never : Never (before ++ (token ∷ []))

-- the tokens begin a text, and are none
pub record Unfinished (l : Lexed) : Type 0 where
  pub tokens : AllTokens l
  pub begins : Begins (tokens_in l)
  pub no_text : (w : TableTree) → Text (tokens_in l) w → ⊥

-- ---- runs

apart : {A B : Type 0} (o : Option A) (x : A) → o ≡ None → o ≡ Some x → B
apart o x e f = absurd (let z : ◌≡◌ {A = ℕ} 0 1 = cc in omega arith)

reached : (ts : List Token) (w : TableTree) → Text ts w → Reaches (declared []) ts w
reached ts w x = rw x.spells at (complete w x.shaped)

-- No text has two trees: one run reads it.
pub one-tree : (ts : List Token) (w w' : TableTree) → Text ts w → Text ts w' → w ≡ w'
one-tree ts w w' x y =
    let r : Reaches (declared []) ts w = reached ts w x in
    let r' : Reaches (declared []) ts w' = reached ts w' y in
    let same : r.state ≡ r'.state = cc (r.runs, r'.runs) in
    cc (same, r.whole, r'.whole)

begins-run : (ts : List Token) (s : Progress) → run (declared []) ts ≡ Some s → Begins ts
begins-run ts s e =
    let f : Finish s = finish s in
    record {
      rest = f.rest;
      good = f.good;
      tree = f.tree;
      text = sound (ts ++ f.rest) f.tree
          (record {
            state = f.reaches.state;
            runs = run-on (declared []) ts f.rest (Some s) e ∙ f.reaches.runs;
            whole = f.reaches.whole;
          });
    }

never-run : (ts : List Token) → run (declared []) ts ≡ None → Never ts
never-run ts e rest w x =
    let r : Reaches (declared []) (ts ++ rest) w = reached (ts ++ rest) w x in
    let stuck : run (declared []) (ts ++ rest) ≡ None = run-on (declared []) ts rest None e in
    apart (run (declared []) (ts ++ rest)) r.state stuck r.runs

-- some tokens begin a text exactly if the machine reads them
record Read (ts : List Token) : Type 0 where
  state : Progress
  runs : run (declared []) ts ≡ Some state

run-begins : (ts : List Token) → Begins ts → Read ts
run-begins ts b = go (run (declared []) ts) refl
  where
    go : (o : Option Progress) → run (declared []) ts ≡ o → Read ts
    go None e = absurd (never-run ts e b.rest b.tree b.text)
    go (Some s) e = record { state = s; runs = e }

run-never : (ts : List Token) → Never ts → run (declared []) ts ≡ None
run-never ts never = go (run (declared []) ts) refl
  where
    go : (o : Option Progress) → run (declared []) ts ≡ o → run (declared []) ts ≡ None
    go None e = e
    go (Some s) e = let b : Begins ts = begins-run ts s e in absurd (never b.rest b.tree b.text)

-- a step more
run-last : (s s' : Progress) (ts : List Token) (t : Token) → run s ts ≡ Some s' → run s (ts ++ (t ∷ [])) ≡ step s' t
unfolding run
run-last s s' ts t e = run-on s ts (t ∷ []) (Some s') e ∙ last (step s' t)
  where
    last : (o : Option Progress) → and_then o (λ s''. run s'' []) ≡ o
    last None = refl
    last (Some s'') = refl

-- ---- what `parsed` answers, by runs

record Refused (s : Progress) (l : Lexed) (p : ℕ) : Type 0 where
  before : List Token
  token : Token
  stands : StandsAt l before p token
  state : Progress
  runs : run s before ≡ Some state
  refuses : step state token ≡ None

record Stopped (s : Progress) (ts : List Token) : Type 0 where
  state : Progress
  runs : run s ts ≡ Some state
  whole : whole state ≡ None

abbrev Answered : Progress → Lexed → Parsed → Type 0
Answered s l (tree w) = AllTokens l × Reaches s (tokens_in l) w
Answered s l (strange p) = EndsAt l p
Answered s l (wrong p) = AllTokens l × Refused s l p
Answered s l unfinished = AllTokens l × Stopped s (tokens_in l)

answered-end : (s : Progress) (o : Option TableTree) → whole s ≡ o → Answered s end (ended o)
unfolding ended run tokens_in
answered-end s None e = (tt, record { state = s; runs = refl; whole = e })
answered-end s (Some w) e = (tt, record { state = s; runs = refl; whole = e })

-- behind a token that is refused there are only tokens, or there is none somewhere
answered-wrong : (s : Progress) (p : ℕ) (l more : Lexed) → (AllTokens more → AllTokens l) → ((q : ℕ) → EndsAt more q → EndsAt l q) → Refused s l p
    → Answered s l (wrong_from p more)
unfolding wrong_from
answered-wrong s p l end all ends r = (all tt, r)
answered-wrong s p l (no_token q) all ends r = ends q refl
answered-wrong s p l (next q t more) all ends r = answered-wrong s p l more all ends r

-- one token more in front
answered-more : (s s' : Progress) (p : ℕ) (t : Token) (more : Lexed) (o : Parsed) → step s t ≡ Some s' → Answered s' more o → Answered s (next p t more) o
unfolding run tokens_in
answered-more s s' p t more (tree w) e a = (
  a.0,
  record {
    state = a.1.state;
    runs = run-by s t (tokens_in more) (Some s') e ∙ a.1.runs;
    whole = a.1.whole;
  },
)
answered-more s s' p t more (strange q) e a = a
answered-more s s' p t more (wrong q) e a = (
  a.0,
  record {
    before = t ∷ a.1.before;
    token = a.1.token;
    stands = (refl, a.1.stands);
    state = a.1.state;
    runs = run-by s t a.1.before (Some s') e ∙ a.1.runs;
    refuses = a.1.refuses;
  },
)
answered-more s s' p t more unfinished e a = (
  a.0,
  record {
    state = a.1.state;
    runs = run-by s t (tokens_in more) (Some s') e ∙ a.1.runs;
    whole = a.1.whole;
  },
)

answered : (l : Lexed) (s : Progress) → Answered s l (parsed_from s l)
unfolding parsed_from
answered end s = answered-end s (whole s) refl
answered (no_token p) s = refl
answered (next p t more) s = go (step s t) refl (λ s'. answered more s')
  where
    go : (o : Option Progress) → step s t ≡ o → ((s' : Progress) → Answered s' more (parsed_from s' more))
        → Answered s (next p t more) (go_on p more (λ s'. parsed_from s' more) o)
    go None e later = unfold go_on in
        answered-wrong s p (next p t more) more (λ x. x) (λ q x. x)
        (record { before = []; token = t; stands = (refl, refl); state = s; runs = unfold run in refl; refuses = e })
    go (Some s') e later = unfold go_on in answered-more s s' p t more (parsed_from s' more) e (later s')

-- ---- and back

ends-none : {A : Type 0} (l : Lexed) (p : ℕ) → EndsAt l p → AllTokens l → A
ends-none end p e all = absurd e
ends-none (no_token q) p e all = absurd all
ends-none (next q t more) p e all = ends-none more p e all

-- the tokens behind one
behind : (l : Lexed) (before : List Token) (p : ℕ) (t : Token) → StandsAt l before p t
    → (rest : List Token) × (tokens_in l ≡ (before ++ (t ∷ [])) ++ rest)
unfolding tokens_in
behind end before p t e = absurd e
behind (no_token q) before p t e = absurd e
behind (next q u more) [] p t e = (tokens_in more, ap (λ (v : Token). v ∷ tokens_in more) e.1)
behind (next q u more) (b ∷ before) p t e =
    let later : (rest : List Token) × (tokens_in more ≡ (before ++ (t ∷ [])) ++ rest) = behind more before p t e.1 in
    (later.0, cc (e.0, later.1))

refused-never : (l : Lexed) (p : ℕ) (r : Refused (declared []) l p) → Never (r.before ++ (r.token ∷ []))
refused-never l p r = never-run (r.before ++ (r.token ∷ [])) (run-last (declared []) r.state r.before r.token r.runs ∙ r.refuses)

-- with a token refused, the tokens are no text, and begin none
refused-text : {A : Type 0} (l : Lexed) (p : ℕ) → Refused (declared []) l p → (rest : List Token) (w : TableTree) → Text (tokens_in l ++ rest) w → A
refused-text l p r rest w x =
    let b : (more : List Token) × (tokens_in l ≡ (r.before ++ (r.token ∷ [])) ++ more) = behind l r.before p r.token r.stands in
    let e : tokens_in l ++ rest ≡ (r.before ++ (r.token ∷ [])) ++ (b.0 ++ rest)
    = ap (λ (ts : List Token). ts ++ rest) b.1 ∙ append_assoc (r.before ++ (r.token ∷ [])) b.0 rest in
    absurd (refused-never l p r (b.0 ++ rest) w (subst (λ (ts : List Token). Text ts w) e x))

stopped-text : {A : Type 0} (ts : List Token) (w : TableTree) → Stopped (declared []) ts → Text ts w → A
stopped-text ts w p x =
    let r : Reaches (declared []) ts w = reached ts w x in
    let same : p.state ≡ r.state = cc (p.runs, r.runs) in
    apart (whole r.state) w (cc (same, p.whole)) r.whole

wrong-all : (p : ℕ) (l : Lexed) → AllTokens l → wrong_from p l ≡ wrong p
unfolding wrong_from
wrong-all p end all = refl
wrong-all p (no_token q) all = absurd all
wrong-all p (next q t more) all = wrong-all p more all

refused-wrong : (l : Lexed) (before : List Token) (s s' : Progress) (p : ℕ) (t : Token) → StandsAt l before p t → AllTokens l → run s before ≡ Some s'
    → step s' t ≡ None → parsed_from s l ≡ wrong p
unfolding run parsed_from go_on
refused-wrong end before s s' p t e all r f = absurd e
refused-wrong (no_token q) before s s' p t e all r f = absurd e
refused-wrong (next q u more) [] s s' p t e all r f =
    let here : step s u ≡ None = cc in
    rw here (wrong-all q more all ∙ ap wrong e.0)
refused-wrong (next q u more) (b ∷ before) s s' p t e all r f =
    go (step s u) (ap (λ (v : Token). step s v) e.0) (λ s'' r'. refused-wrong more before s'' s' p t e.1 all r' f)
  where
    go : (o : Option Progress) → o ≡ step s b → ((s'' : Progress) → run s'' before ≡ Some s' → parsed_from s'' more ≡ wrong p)
        → go_on q more (λ s''. parsed_from s'' more) o ≡ wrong p
    go None d later = apart (and_then (step s b) (λ s''. run s'' before)) s' (rw (← d) refl) r
    go (Some s'') d later = later s'' (rw (← d) at r)

strange-from : (p q : ℕ) (l : Lexed) → EndsAt l q → wrong_from p l ≡ strange q
unfolding wrong_from
strange-from p q end e = absurd e
strange-from p q (no_token r) e = ap strange e
strange-from p q (next r t more) e = strange-from p q more e

ends-strange : (l : Lexed) (s : Progress) (p : ℕ) → EndsAt l p → parsed_from s l ≡ strange p
unfolding parsed_from go_on
ends-strange end s p e = absurd e
ends-strange (no_token q) s p e = ap strange e
ends-strange (next q t more) s p e = go (step s t) (λ s'. ends-strange more s' p e)
  where
    go : (o : Option Progress) → ((s' : Progress) → parsed_from s' more ≡ strange p) → go_on q more (λ s'. parsed_from s' more) o ≡ strange p
    go None later = strange-from q p more e
    go (Some s') later = later s'

-- ---- the four answers

module _ (l : Lexed) where
  abbrev Answers : Parsed → Type 0
  Answers o = Answered (declared []) l o

  answers : Answers (parsed l)
  unfolding parsed
  answers = answered l (declared [])

  answers-as : (o : Parsed) → parsed l ≡ o → Answers o
  answers-as o e = subst Answers e answers

  -- A text is read exactly if all of it is tokens and these are a text of the grammar; and the tree is the text's.
  pub text-exactly : (w : TableTree) → (parsed l ≡ tree w) ↔ (AllTokens l × Text (tokens_in l) w)
  text-exactly w = (there, (λ x. back (parsed l) refl answers x))
    where
      there : parsed l ≡ tree w → AllTokens l × Text (tokens_in l) w
      there e = let a : Answers (tree w) = answers-as (tree w) e in (a.0, sound (tokens_in l) w a.1)

      back : (o : Parsed) → parsed l ≡ o → Answers o → AllTokens l × Text (tokens_in l) w → parsed l ≡ tree w
      back (tree w') e a x = e ∙ ap tree (one-tree (tokens_in l) w' w (sound (tokens_in l) w' a.1) x.1)
      back (strange p) e a x = ends-none l p a x.0
      back (wrong p) e a x = refused-text l p a.1 [] w (rw append-nil x.1)
      back unfinished e a x = stopped-text (tokens_in l) w a.1 x.1

  -- 50 at a place: exactly where all of the text is tokens and with the one at this place, as the first, no text goes on.
  pub wrong-exactly : (p : ℕ) → (parsed l ≡ wrong p) ↔ WrongAt l p
  unfolding parsed
  wrong-exactly p = (there, back)
    where
      there : parsed l ≡ wrong p → WrongAt l p
      there e = let a : Answers (wrong p) = answers-as (wrong p) e in record {
        tokens = a.0;
        before = a.1.before;
        token = a.1.token;
        stands = a.1.stands;
        begins = begins-run a.1.before a.1.state a.1.runs;
        never = refused-never l p a.1;
      }

      back : WrongAt l p → parsed l ≡ wrong p
      back x =
          let r : Read x.before = run-begins x.before x.begins in
          let f : step r.state x.token ≡ None
          = sym (run-last (declared []) r.state x.before x.token r.runs) ∙ run-never (x.before ++ (x.token ∷ [])) x.never in
          refused-wrong l x.before (declared []) r.state p x.token x.stands x.tokens r.runs f

  -- 50 at the end: exactly where all of the text is tokens that begin a text and are none.
  pub unfinished-exactly : (parsed l ≡ unfinished) ↔ Unfinished l
  unfinished-exactly = (there, (λ x. back (parsed l) refl answers x))
    where
      there : parsed l ≡ unfinished → Unfinished l
      there e = let a : Answers unfinished = answers-as unfinished e in record {
        tokens = a.0;
        begins = begins-run (tokens_in l) a.1.state a.1.runs;
        no_text = λ w x. stopped-text (tokens_in l) w a.1 x;
      }

      back : (o : Parsed) → parsed l ≡ o → Answers o → Unfinished l → parsed l ≡ unfinished
      back (tree w) e a x = absurd (x.no_text w (sound (tokens_in l) w a.1))
      back (strange p) e a x = ends-none l p a x.tokens
      back (wrong p) e a x = refused-text l p a.1 x.begins.rest x.begins.tree x.begins.text
      back unfinished e a x = e

  -- 49: exactly where there is no token at this place, whatever the tokens before it are.
  pub strange-exactly : (p : ℕ) → (parsed l ≡ strange p) ↔ EndsAt l p
  unfolding parsed
  strange-exactly p = ((λ e. answers-as (strange p) e), ends-strange l (declared []) p)
