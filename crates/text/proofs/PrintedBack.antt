-- A printed tree is lexed back to its tokens. Each token is found again in its text, since its neighbours are as in a text: no word follows a word,
-- and an operation follows a constant or a variable.
use Prim.Native.Nat.{ℕ, suc, ◌≤◌}
use native.Mathlib.Omega.{arith}
use mathlib.Core.Path.{◌≡◌, refl, sym, ap, ◌∙◌}
use mathlib.Core.Bool.{Bool, true, false}
use mathlib.Core.List.{List, [], ◌∷◌, ◌++◌, append_assoc}
use lib.IntN.{pos}
use Rattle.numbers.proofs.Laws.{InRange}
use Rattle.model.proofs.Every.{every, every-left, every-right}
use Rattle.grammar.specs.Tree.{constant, Operation, sum, difference, product, quotient, remainder, Comparator, equal, unequal, less, at_most, greater}
use Rattle.grammar.specs.Tree.{at_least, TableTree}
use Rattle.text.specs.Token.{Token, symbol, slot, compares, operates, mark, Mark, backslash, simplifies, propagates, bar, opens, closes, comma, stop}
use Rattle.text.specs.Token.{true_word, fail_word, TokenGood}
use Rattle.text.specs.Spelling.{is_blank, is_word_byte, begins, signs, sign_of, token_at}
use Rattle.text.specs.Tokens.{AllTokens, lexed, tokens_in}
use Rattle.text.specs.Text.{each_tokens, rule_tokens, declaration_tokens, declarations_tokens, text_tokens}
use Rattle.text.specs.Printed.{decimal, term_text, symbol_text, comparator_text, operation_text, mark_text, token_text, tokens_text, declarations_text, printed}
use Rattle.text.proofs.Bytes.{no-test}
use Rattle.text.proofs.Back.{Ends, is_word, Lexes, lexes-end, lexes-blank, lexes-token, comparator-lexes, operation-lexes, mark-lexes}
use Rattle.text.proofs.Back.{symbol-lexes, slot-lexes}
use Rattle.text.proofs.Neighbours.{Kind, sign, value, word, mark_kind, Follows, MayOperate, Flow, rules-flow}

-- whether a token of this kind is a constant or a variable
abbrev after_of : Kind → Bool
after_of sign = false
after_of value = true
after_of word = false

-- ---- what follows a word is no letter and no digit

is_word_kind : Kind → Bool
is_word_kind sign = false
is_word_kind value = true
is_word_kind word = true

not-sign : {X : Type 0} (c : Kind) → is_word_kind c ≡ true → c ≡ sign → X
unfolding is_word_kind
not-sign c e f = no-test (sym e ∙ ap is_word_kind f)

mark-front : (c : Kind) → is_word_kind c ≡ true → (m : Mark) (rest : List ℕ) → Follows c (mark_kind m) → Ends (mark_text m ++ rest)
unfolding mark_text is_word_byte
mark-front c e backslash rest f = refl
mark-front c e simplifies rest f = refl
mark-front c e propagates rest f = refl
mark-front c e bar rest f = refl
mark-front c e opens rest f = refl
mark-front c e closes rest f = refl
mark-front c e comma rest f = refl
mark-front c e stop rest f = refl
mark-front c e true_word rest f = not-sign c e f
mark-front c e fail_word rest f = not-sign c e f

comparator-front : (rest : List ℕ) (d : Comparator) → Ends (comparator_text d ++ rest)
unfolding comparator_text is_word_byte
comparator-front rest equal = refl
comparator-front rest unequal = refl
comparator-front rest less = refl
comparator-front rest at_most = refl
comparator-front rest greater = refl
comparator-front rest at_least = refl

operation-front : (rest : List ℕ) (o : Operation) → Ends (operation_text o ++ rest)
unfolding operation_text is_word_byte
operation-front rest sum = refl
operation-front rest difference = refl
operation-front rest product = refl
operation-front rest quotient = refl
operation-front rest remainder = refl

tokens-front : (c d : Kind) → is_word_kind c ≡ true → (ts : List Token) → Flow c ts d → Ends (tokens_text ts)
unfolding tokens_text token_text is_word_byte
tokens-front c d e [] f = refl
tokens-front c d e (symbol k ∷ ts) f = not-sign c e f.0
tokens-front c d e (slot a ∷ ts) f = not-sign c e f.0
tokens-front c d e (compares p ∷ ts) f = comparator-front (tokens_text ts) p
tokens-front c d e (operates o ∷ ts) f = operation-front (tokens_text ts) o
tokens-front c d e (mark m ∷ ts) f = mark-front c e m (tokens_text ts) f.0

-- ---- tokens

operation-after : (c : Kind) (o : Operation) → MayOperate c o → o ≡ difference → after_of c ≡ true
operation-after c sum m e = absurd (let z : ◌≡◌ {A = ℕ} 0 1 = cc in omega arith)
operation-after c difference m e = ap after_of m
operation-after c product m e = absurd (let z : ◌≡◌ {A = ℕ} 0 1 = cc in omega arith)
operation-after c quotient m e = absurd (let z : ◌≡◌ {A = ℕ} 0 1 = cc in omega arith)
operation-after c remainder m e = absurd (let z : ◌≡◌ {A = ℕ} 0 1 = cc in omega arith)

mark-word : (m : Mark) → is_word (mark m) ≡ is_word_kind (mark_kind m)
unfolding is_word_kind
mark-word backslash = refl
mark-word simplifies = refl
mark-word propagates = refl
mark-word bar = refl
mark-word opens = refl
mark-word closes = refl
mark-word comma = refl
mark-word stop = refl
mark-word true_word = refl
mark-word fail_word = refl

mark-after : (m : Mark) → after_of (mark_kind m) ≡ false
mark-after backslash = refl
mark-after simplifies = refl
mark-after propagates = refl
mark-after bar = refl
mark-after opens = refl
mark-after closes = refl
mark-after comma = refl
mark-after stop = refl
mark-after true_word = refl
mark-after fail_word = refl

pub tokens-lexes : (c d : Kind) (ts : List Token) → Flow c ts d → every TokenGood ts → Lexes (after_of c) (tokens_text ts) ts
unfolding tokens_text token_text is_word_kind
tokens-lexes c d [] f g = lexes-end (after_of c)
tokens-lexes c d (symbol k ∷ ts) f g =
    symbol-lexes (after_of c) (tokens_text ts) ts (tokens-lexes word d ts f.1 g.1) k g.0 (tokens-front word d refl ts f.1)
tokens-lexes c d (slot a ∷ ts) f g =
    rw f.0 (slot-lexes (tokens_text ts) ts (tokens-lexes value d ts f.1 g.1) (tokens-front value d refl ts f.1) a g.0)
tokens-lexes c d (compares p ∷ ts) f g = comparator-lexes (after_of c) (tokens_text ts) ts (tokens-lexes sign d ts f.1 g.1) p
tokens-lexes c d (operates o ∷ ts) f g =
    operation-lexes (after_of c) (tokens_text ts) ts (tokens-lexes sign d ts f.1 g.1) o (operation-after c o f.0)
tokens-lexes c d (mark m ∷ ts) f g =
    mark-lexes (after_of c) (tokens_text ts) ts (rw (mark-after m) at (tokens-lexes (mark_kind m) d ts f.1 g.1)) m
    (λ e. tokens-front (mark_kind m) d (sym (mark-word m) ∙ e) ts f.1)

-- ---- declarations

declaration-lexes : (k a : ℕ) (rest : List ℕ) (ts : List Token) → k ≤ 31 → InRange (pos a) → Lexes false rest ts
    → Lexes false (symbol_text k ++ (47 ∷ (decimal a ++ (46 ∷ 10 ∷ rest)))) (declaration_tokens k a ++ ts)
unfolding declaration_tokens term_text is_blank token_at sign_of signs begins is_word_byte
declaration-lexes k a rest ts h g l =
    let l₁ : Lexes true (46 ∷ 10 ∷ rest) (mark stop ∷ ts) = lexes-token {n = 1} 46 refl refl (lexes-blank 10 refl l) in
    let l₂ : Lexes false (decimal a ++ (46 ∷ 10 ∷ rest)) (slot (constant (pos a)) ∷ mark stop ∷ ts) =
    slot-lexes (46 ∷ 10 ∷ rest) (mark stop ∷ ts) l₁ refl (constant (pos a)) g in
    let l₃ : Lexes false (47 ∷ (decimal a ++ (46 ∷ 10 ∷ rest))) (operates quotient ∷ slot (constant (pos a)) ∷ mark stop ∷ ts) =
    lexes-token {n = 1} 47 refl refl l₂ in
    symbol-lexes false (47 ∷ (decimal a ++ (46 ∷ 10 ∷ rest))) (operates quotient ∷ slot (constant (pos a)) ∷ mark stop ∷ ts) l₃ k h refl

declarations-lexes : (k : ℕ) (arities : List ℕ) (rest : List ℕ) (ts : List Token) → every TokenGood (declarations_tokens k arities) → Lexes false rest ts
    → Lexes false (declarations_text k arities ++ rest) (declarations_tokens k arities ++ ts)
unfolding declarations_text declarations_tokens declaration_tokens
declarations-lexes k [] rest ts g l = l
declarations-lexes k (a ∷ arities) rest ts g l =
    let more = declarations-lexes (suc k) arities rest ts g.1.1.1.1 l in
    let one = declaration-lexes k a (declarations_text (suc k) arities ++ rest) (declarations_tokens (suc k) arities ++ ts) g.0 g.1.1.0 more in
    simp append_assoc one

-- ---- a tree

pub printed-back : (w : TableTree) → every TokenGood (text_tokens w) → AllTokens (lexed (printed w)) × (tokens_in (lexed (printed w)) ≡ text_tokens w)
unfolding lexed printed text_tokens
printed-back w g =
    let ds = declarations_tokens 0 w.arities in
    let rs = each_tokens rule_tokens w.rules in
    let good-ds : every TokenGood ds = every-left TokenGood ds rs g in
    let good-rs : every TokenGood rs = every-right TokenGood ds rs g in
    let l = declarations-lexes 0 w.arities (tokens_text rs) rs good-ds (tokens-lexes sign sign rs (rules-flow w.rules) good-rs) in
    (l.all 0, l.same 0)
