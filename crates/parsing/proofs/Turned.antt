-- What was read, turned round, is the text of the tree turned round: part by part, before whatever tokens are turned already.
use Prim.Native.Nat.{ℕ}
use mathlib.Core.Path.{◌≡◌, refl, sym, ap, ◌∙◌}
use mathlib.Core.List.{List, [], ◌∷◌, ◌++◌, map, reverse, reverse_aux, append_assoc, append-nil}
use lib.ListN.{length}
use Rattle.grammar.specs.Tree.{Term, Formula, alone, applied, HeadTree, GuardTree, ItemTree, fact, fail, TableTree}
use Rattle.text.specs.Token.{Token, symbol, compares, mark, backslash, simplifies, propagates, bar, opens, closes, comma, stop}
use Rattle.text.specs.Text.{more_tokens, list_tokens, bracket_tokens, each_tokens, term_tokens, formula_tokens, head_tokens, guard_tokens}
use Rattle.text.specs.Text.{item_tokens, heads_tokens}
use Rattle.text.specs.Text.{guards_tokens, body_tokens, rule_tokens, declaration_tokens, declarations_tokens, text_tokens}
use Rattle.parsing.specs.Parsed.{head_forward, item_forward, rule_forward, forward}
use Rattle.parsing.proofs.Consumed.{more_read, list_read, bracket_read, each_read, term_read, formula_read, head_read, guard_read, item_read, heads_read}
use Rattle.parsing.proofs.Consumed.{guards_read, body_read, rule_read, declarations_read, table_read}

-- ---- lists

-- what holds of every list that has an element holds of such a list turned round
pub turned-some : {A : Type 0} (P : List A → Type 0) → ((x : A) (xs : List A) → P (x ∷ xs)) → (ys : List A) (x : A) (xs : List A)
    → P (reverse_aux ys (x ∷ xs))
turned-some P h [] x xs = h x xs
turned-some P h (y ∷ ys) x xs = turned-some P h ys y (x ∷ xs)

pub map-same : {A : Type 0} (xs : List A) → map (λ (x : A). x) xs ≡ xs
map-same [] = refl
map-same (x ∷ xs) = ap (λ l. x ∷ l) (map-same xs)

-- a part that was read is, turned round, its tokens, where `fw` turns its own lists round
abbrev pub Turns : {A : Type 0} → (A → List Token → List Token) → (A → List Token) → (A → A) → Type 0
Turns {A} read tokens fw = (x : A) (rest after : List Token) → reverse_aux (read x rest) after ≡ reverse_aux rest (tokens (fw x) ++ after)

module _ {A : Type 0} (read : A → List Token → List Token) (tokens : A → List Token) (fw : A → A) (turns : Turns read tokens fw) where
  turns-more : (xs : List A) (y : A) (ys : List A) (rest after : List Token)
      → reverse_aux (more_read read xs rest) (list_tokens tokens (y ∷ ys) ++ after)
      ≡ reverse_aux rest (list_tokens tokens (reverse_aux (map fw xs) (y ∷ ys)) ++ after)
  unfolding list_tokens more_tokens
  turns-more [] y ys rest after = refl
  turns-more (x ∷ xs) y ys rest after =
      turns x (more_read read xs rest) (mark comma ∷ (list_tokens tokens (y ∷ ys) ++ after))
      ∙ ap (λ (l : List Token). reverse_aux (more_read read xs rest) l)
      (sym (append_assoc (tokens (fw x)) (mark comma ∷ list_tokens tokens (y ∷ ys)) after))
      ∙ turns-more xs (fw x) (y ∷ ys) rest after

  pub turns-list : (xs : List A) (rest after : List Token)
      → reverse_aux (list_read read xs rest) after ≡ reverse_aux rest (list_tokens tokens (reverse (map fw xs)) ++ after)
  unfolding list_tokens more_tokens
  turns-list [] rest after = refl
  turns-list (x ∷ xs) rest after =
      turns x (more_read read xs rest) after
      ∙ ap (λ (l : List Token). reverse_aux (more_read read xs rest) (l ++ after)) (sym (append-nil (tokens (fw x))))
      ∙ turns-more xs (fw x) [] rest after

  bracket-some : (x : A) (xs : List A) → mark opens ∷ (list_tokens tokens (x ∷ xs) ++ (mark closes ∷ [])) ≡ bracket_tokens tokens (x ∷ xs)
  unfolding bracket_tokens
  bracket-some x xs = refl

  pub turns-bracket : (xs : List A) (rest after : List Token)
      → reverse_aux (bracket_read read xs rest) after ≡ reverse_aux rest (bracket_tokens tokens (reverse (map fw xs)) ++ after)
  unfolding bracket_tokens
  turns-bracket [] rest after = refl
  turns-bracket (x ∷ xs) rest after =
      turns-list (x ∷ xs) (mark opens ∷ rest) (mark closes ∷ after)
      ∙ ap (λ (l : List Token). reverse_aux rest (mark opens ∷ l))
      (sym (append_assoc (list_tokens tokens (reverse (map fw (x ∷ xs)))) (mark closes ∷ []) after))
      ∙ ap (λ (l : List Token). reverse_aux rest (l ++ after))
      (turned-some (λ l. mark opens ∷ (list_tokens tokens l ++ (mark closes ∷ [])) ≡ bracket_tokens tokens l) bracket-some (map fw xs) (fw x) [])

  turns-each : (xs ys : List A) (rest : List Token)
      → reverse_aux (each_read read xs rest) (each_tokens tokens ys) ≡ reverse_aux rest (each_tokens tokens (reverse_aux (map fw xs) ys))
  unfolding each_tokens
  turns-each [] ys rest = refl
  turns-each (x ∷ xs) ys rest = turns x (each_read read xs rest) (each_tokens tokens ys) ∙ turns-each xs (fw x ∷ ys) rest

-- where a part has no lists of its own
module _ {A : Type 0} (read : A → List Token → List Token) (tokens : A → List Token) (turns : Turns read tokens (λ (x : A). x)) where
  plain-list : (xs : List A) (rest after : List Token)
      → reverse_aux (list_read read xs rest) after ≡ reverse_aux rest (list_tokens tokens (reverse xs) ++ after)
  plain-list xs rest after =
      turns-list read tokens (λ (x : A). x) turns xs rest after
      ∙ ap (λ (l : List A). reverse_aux rest (list_tokens tokens (reverse l) ++ after)) (map-same xs)

  plain-bracket : (xs : List A) (rest after : List Token)
      → reverse_aux (bracket_read read xs rest) after ≡ reverse_aux rest (bracket_tokens tokens (reverse xs) ++ after)
  plain-bracket xs rest after =
      turns-bracket read tokens (λ (x : A). x) turns xs rest after
      ∙ ap (λ (l : List A). reverse_aux rest (bracket_tokens tokens (reverse l) ++ after)) (map-same xs)

-- ---- parts

turns-term : Turns term_read term_tokens (λ (a : Term). a)
unfolding term_tokens
turns-term a rest after = refl

turns-formula : Turns formula_read formula_tokens (λ (f : Formula). f)
unfolding formula_tokens
turns-formula (alone a) rest after = refl
turns-formula (applied o a b) rest after = refl

turns-head : Turns head_read head_tokens head_forward
unfolding head_tokens
turns-head h rest after = plain-bracket term_read term_tokens turns-term h.terms (symbol h.symbol ∷ rest) after

turns-guard : Turns guard_read guard_tokens (λ (g : GuardTree). g)
unfolding guard_tokens
turns-guard g rest after =
    turns-formula g.right (compares g.comparator ∷ formula_read g.left rest) after
    ∙ turns-formula g.left rest (compares g.comparator ∷ (formula_tokens g.right ++ after))
    ∙ ap (λ (l : List Token). reverse_aux rest l)
    (sym (append_assoc (formula_tokens g.left) (compares g.comparator ∷ formula_tokens g.right) after))

turns-item : Turns item_read item_tokens item_forward
unfolding item_tokens
turns-item (fact s es) rest after = plain-bracket formula_read formula_tokens turns-formula es (symbol s ∷ rest) after
turns-item fail rest after = refl

-- ---- a rule

abbrev heads_forward : List HeadTree → List HeadTree
heads_forward hs = reverse (map head_forward hs)

turns-list-heads : (hs : List HeadTree) (rest after : List Token)
    → reverse_aux (list_read head_read hs rest) after ≡ reverse_aux rest (list_tokens head_tokens (heads_forward hs) ++ after)
turns-list-heads = turns-list head_read head_tokens head_forward turns-head

propagates-some : (k : HeadTree) (ks : List HeadTree) → list_tokens head_tokens (k ∷ ks) ++ (mark propagates ∷ []) ≡ heads_tokens (k ∷ ks) []
unfolding heads_tokens
propagates-some k ks = refl

both-some : (k r : HeadTree) (ks rs : List HeadTree)
    → list_tokens head_tokens (k ∷ ks) ++ (mark backslash ∷ (list_tokens head_tokens (r ∷ rs) ++ (mark simplifies ∷ []))) ≡ heads_tokens (k ∷ ks) (r ∷ rs)
unfolding heads_tokens
both-some k r ks rs = refl

turns-heads : (kept removed : List HeadTree) (rest after : List Token)
    → reverse_aux (heads_read kept removed rest) after ≡ reverse_aux rest (heads_tokens (heads_forward kept) (heads_forward removed) ++ after)
unfolding heads_tokens
turns-heads [] removed rest after =
    turns-list-heads removed rest (mark simplifies ∷ after)
    ∙ ap (λ (l : List Token). reverse_aux rest l) (sym (append_assoc (list_tokens head_tokens (heads_forward removed)) (mark simplifies ∷ []) after))
turns-heads (k ∷ kept) [] rest after =
    turns-list-heads (k ∷ kept) rest (mark propagates ∷ after)
    ∙ ap (λ (l : List Token). reverse_aux rest l) (sym (append_assoc (list_tokens head_tokens (heads_forward (k ∷ kept))) (mark propagates ∷ []) after))
    ∙ ap (λ (l : List Token). reverse_aux rest (l ++ after))
    (turned-some (λ l. list_tokens head_tokens l ++ (mark propagates ∷ []) ≡ heads_tokens l []) propagates-some (map head_forward kept) (head_forward k) [])
turns-heads (k ∷ kept) (r ∷ removed) rest after =
    turns-list-heads (r ∷ removed) (mark backslash ∷ list_read head_read (k ∷ kept) rest) (mark simplifies ∷ after)
    ∙ turns-list-heads (k ∷ kept) rest (mark backslash ∷ (rs ++ (mark simplifies ∷ after)))
    ∙ ap (λ (l : List Token). reverse_aux rest (ks ++ (mark backslash ∷ l))) (sym (append_assoc rs (mark simplifies ∷ []) after))
    ∙ ap (λ (l : List Token). reverse_aux rest l) (sym (append_assoc ks (mark backslash ∷ (rs ++ (mark simplifies ∷ []))) after))
    ∙ ap (λ (l : List Token). reverse_aux rest (l ++ after))
    (turned-some (λ l. list_tokens head_tokens l ++ (mark backslash ∷ (rs ++ (mark simplifies ∷ []))) ≡ heads_tokens l (heads_forward (r ∷ removed)))
    (λ y ys. turned-some
    (λ l. list_tokens head_tokens (y ∷ ys) ++ (mark backslash ∷ (list_tokens head_tokens l ++ (mark simplifies ∷ []))) ≡ heads_tokens (y ∷ ys) l)
    (λ z zs. both-some y z ys zs) (map head_forward removed) (head_forward r) [])
    (map head_forward kept) (head_forward k) [])
  where
    ks : List Token
    ks = list_tokens head_tokens (heads_forward (k ∷ kept))

    rs : List Token
    rs = list_tokens head_tokens (heads_forward (r ∷ removed))

guards-some : (g : GuardTree) (gs : List GuardTree) → list_tokens guard_tokens (g ∷ gs) ++ (mark bar ∷ []) ≡ guards_tokens (g ∷ gs)
unfolding guards_tokens
guards-some g gs = refl

turns-guards : (gs : List GuardTree) (rest after : List Token)
    → reverse_aux (guards_read gs rest) after ≡ reverse_aux rest (guards_tokens (reverse gs) ++ after)
unfolding guards_tokens
turns-guards [] rest after = refl
turns-guards (g ∷ gs) rest after =
    plain-list guard_read guard_tokens turns-guard (g ∷ gs) rest (mark bar ∷ after)
    ∙ ap (λ (l : List Token). reverse_aux rest l) (sym (append_assoc (list_tokens guard_tokens (reverse (g ∷ gs))) (mark bar ∷ []) after))
    ∙ ap (λ (l : List Token). reverse_aux rest (l ++ after))
    (turned-some (λ l. list_tokens guard_tokens l ++ (mark bar ∷ []) ≡ guards_tokens l) guards-some gs g [])

body-some : (i : ItemTree) (is : List ItemTree) → list_tokens item_tokens (i ∷ is) ≡ body_tokens (i ∷ is)
unfolding body_tokens
body-some i is = refl

turns-body : (is : List ItemTree) (rest after : List Token)
    → reverse_aux (body_read is rest) after ≡ reverse_aux rest (body_tokens (reverse (map item_forward is)) ++ after)
unfolding body_tokens
turns-body [] rest after = refl
turns-body (i ∷ is) rest after =
    turns-list item_read item_tokens item_forward turns-item (i ∷ is) rest after
    ∙ ap (λ (l : List Token). reverse_aux rest (l ++ after))
    (turned-some (λ l. list_tokens item_tokens l ≡ body_tokens l) body-some (map item_forward is) (item_forward i) [])

turns-rule : Turns rule_read rule_tokens rule_forward
unfolding rule_tokens
turns-rule r rest after =
    turns-body r.items (guards_read r.guards (heads_read r.kept r.removed rest)) (mark stop ∷ after)
    ∙ turns-guards r.guards (heads_read r.kept r.removed rest) (b ++ (mark stop ∷ after))
    ∙ turns-heads r.kept r.removed rest (g ++ (b ++ (mark stop ∷ after)))
    ∙ ap (λ (l : List Token). reverse_aux rest l) (simp append_assoc)
  where
    g : List Token
    g = guards_tokens (reverse r.guards)

    b : List Token
    b = body_tokens (reverse (map item_forward r.items))

-- ---- a table

turns-declarations : (ns later : List ℕ) (after : List Token)
    → reverse_aux (declarations_read ns) (declarations_tokens (length ns) later ++ after) ≡ declarations_tokens 0 (reverse_aux ns later) ++ after
unfolding declarations_tokens declaration_tokens
turns-declarations [] later after = refl
turns-declarations (a ∷ ns) later after = turns-declarations ns (a ∷ later) after

-- the tokens of a table that was read are the text of the table turned round
pub turns-table : (w : TableTree) → reverse (table_read w) ≡ text_tokens (forward w)
unfolding text_tokens forward declarations_tokens each_tokens
turns-table w =
    turns-each rule_read rule_tokens rule_forward turns-rule w.rules [] (declarations_read w.arities)
    ∙ turns-declarations w.arities [] (each_tokens rule_tokens (reverse (map rule_forward w.rules)))
