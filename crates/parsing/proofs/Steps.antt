-- What a token of a class says is what the class's token for it says, and the other way round. So what every edge of a list keeps, a step along the list
-- keeps; and a run is one step after the other.
use Prim.Native.Nat.{ℕ, ◌≤◌}
use native.Mathlib.Omega.{arith}
use mathlib.Core.Path.{◌≡◌, refl, sym, ap, ◌∙◌}
use mathlib.Core.Bool.{Bool, true, false}
use Rattle.std.specs.Prelude.{Option, None, Some}
use mathlib.Core.List.{List, [], ◌∷◌, ◌++◌}
use lib.Dec.{leb, eqb, T, leb→le, eqb→eq}
use lib.IntN.{pos, negsuc}
use lib.ListN.{get_or}
use Rattle.model.proofs.Every.{every}
use Rattle.model.proofs.Lists.{OptionIs, either, never}
use Rattle.grammar.specs.Tree.{constant, variable, sum, difference, product, quotient, remainder}
use Rattle.text.specs.Token.{Token, symbol, slot, compares, operates, mark, Mark, backslash, simplifies, propagates, bar, opens, closes, comma, stop}
use Rattle.text.specs.Token.{true_word, fail_word}
use Rattle.parsing.specs.Classes.{Class, a_symbol, a_slot, a_comparator, an_operation, slash, an_arity, the, Said, saying, said, mark_said}
use Rattle.text.specs.Token.{mark_number}
use Rattle.parsing.specs.Classes.{slash_said, arity_said}
use Rattle.parsing.specs.Progress.{Progress}
use Rattle.parsing.specs.Edges.{Edge, edge, only, by, along, step}

-- ---- a test that holds

pub so : (b : Bool) → b ≡ true → T b
so true e = tt
so false e = absurd (let z : ◌≡◌ {A = ℕ} 0 1 = cc in omega arith)

pub test-equal : (m n : ℕ) → eqb m n ≡ true → m ≡ n
test-equal m n e = eqb→eq m n (so (eqb m n) e)

pub test-le : (m n : ℕ) → leb m n ≡ true → m ≤ n
test-le m n e = leb→le m n (so (leb m n) e)

-- ---- classes

-- what a token of a class can say: only arities are few
abbrev pub Sayable : (c : Class) → Said c → Type 0
Sayable a_symbol k = Unit {0}
Sayable a_slot a = Unit {0}
Sayable a_comparator c = Unit {0}
Sayable an_operation o = Unit {0}
Sayable slash x = Unit {0}
Sayable an_arity a = a ≤ 4
Sayable (the m) x = Unit {0}

marks : List Mark
marks = backslash ∷ simplifies ∷ propagates ∷ bar ∷ opens ∷ closes ∷ comma ∷ stop ∷ true_word ∷ fail_word ∷ []

mark-numbered : (m : Mark) → get_or marks (mark_number m) stop ≡ m
unfolding marks
mark-numbered backslash = refl
mark-numbered simplifies = refl
mark-numbered propagates = refl
mark-numbered bar = refl
mark-numbered opens = refl
mark-numbered closes = refl
mark-numbered comma = refl
mark-numbered stop = refl
mark-numbered true_word = refl
mark-numbered fail_word = refl

mark-same : (m m' : Mark) → mark_number m ≡ mark_number m' → m' ≡ m
mark-same m m' e = sym (mark-numbered m') ∙ ap (λ (n : ℕ). get_or marks n stop) (sym e) ∙ mark-numbered m

abbrev Told : (c : Class) → Token → Said c → Type 0
Told c t x = (t ≡ saying c x) × Sayable c x

told-mark : (m : Mark) (t : Token) → OptionIs (Told (the m) t) (mark_said m t)
told-mark m (symbol k) = tt
told-mark m (slot a) = tt
told-mark m (compares c) = tt
told-mark m (operates o) = tt
told-mark m (mark m') = either (OptionIs (Told (the m) (mark m'))) (eqb (mark_number m) (mark_number m')) (Some tt) None
    (λ e. (ap mark (mark-same m m' (test-equal (mark_number m) (mark_number m') e)), tt)) (λ e. tt)

told-slash : (t : Token) → OptionIs (Told slash t) (slash_said t)
told-slash (symbol k) = tt
told-slash (slot a) = tt
told-slash (compares c) = tt
told-slash (operates sum) = tt
told-slash (operates difference) = tt
told-slash (operates product) = tt
told-slash (operates quotient) = (refl, tt)
told-slash (operates remainder) = tt
told-slash (mark m) = tt

told-arity : (t : Token) → OptionIs (Told an_arity t) (arity_said t)
told-arity (symbol k) = tt
told-arity (slot (constant (pos n))) =
    either (OptionIs (Told an_arity (slot (constant (pos n))))) (leb n 4) (Some n) None (λ e. (refl, test-le n 4 e)) (λ e. tt)
told-arity (slot (constant (negsuc n))) = tt
told-arity (slot (variable v)) = tt
told-arity (compares c) = tt
told-arity (operates o) = tt
told-arity (mark m) = tt

-- a token that says x as one of a class is the class's token for x
pub told : (c : Class) (t : Token) → OptionIs (Told c t) (said c t)
told a_symbol (symbol k) = (refl, tt)
told a_symbol (slot a) = tt
told a_symbol (compares c) = tt
told a_symbol (operates o) = tt
told a_symbol (mark m) = tt
told a_slot (symbol k) = tt
told a_slot (slot a) = (refl, tt)
told a_slot (compares c) = tt
told a_slot (operates o) = tt
told a_slot (mark m) = tt
told a_comparator (symbol k) = tt
told a_comparator (slot a) = tt
told a_comparator (compares c) = (refl, tt)
told a_comparator (operates o) = tt
told a_comparator (mark m) = tt
told an_operation (symbol k) = tt
told an_operation (slot a) = tt
told an_operation (compares c) = tt
told an_operation (operates o) = (refl, tt)
told an_operation (mark m) = tt
told slash t = told-slash t
told an_arity t = told-arity t
told (the m) t = told-mark m t

-- ---- edges

-- what an edge keeps, whatever the token says
abbrev pub Keeps : (Token → Progress → Type 0) → Edge → Type 0
Keeps P (edge c to) = (x : Said c) → Sayable c x → P (saying c x) (to x)

module _ (P : Token → Progress → Type 0) where
  pub along-keeps : (es : List Edge) (t : Token) → every (Keeps P) es → OptionIs (P t) (along es t)
  unfolding along by
  along-keeps [] t u = tt
  along-keeps (edge c to ∷ es) t u = go (said c t) (told c t) (along-keeps es t u.1)
    where
      go : (o : Option (Said c)) → OptionIs (Told c t) o → OptionIs (P t) (along es t) → OptionIs (P t) (by c to (along es t) o)
      go None v later = later
      go (Some x) v later = rw v.0 (u.0 x v.1)

-- an edge of another class is passed over
pub skips : (c : Class) (to : Said c → Progress) (es : List Edge) (t : Token) → said c t ≡ None → along (edge c to ∷ es) t ≡ along es t
unfolding along by
skips c to es t e = rw e

-- also where it stands only under a test
pub only-skips : (b : Bool) (c : Class) (to : Said c → Progress) (es : List Edge) (t : Token) → said c t ≡ None
    → along (only b (edge c to ∷ []) ++ es) t ≡ along es t
only-skips true c to es t e = skips c to es t e
only-skips false c to es t e = refl

-- and is taken where the test holds
pub only-takes : (b : Bool) (c : Class) (to : Said c → Progress) (es : List Edge) (t : Token) (x : Said c) → b ≡ true → said c t ≡ Some x
    → along (only b (edge c to ∷ []) ++ es) t ≡ Some (to x)
unfolding along by
only-takes true c to es t x e f = rw f
only-takes false c to es t x e f = never (sym e)

-- ---- runs

abbrev pub and_then : {A B : Type 0} → Option A → (A → Option B) → Option B
and_then None f = None
and_then (Some x) f = f x

-- where some tokens lead from a state, one step after the other
unfoldable pub run : Progress → List Token → Option Progress
run s [] = Some s
run s (t ∷ ts) = and_then (step s t) (λ s'. run s' ts)

-- a step, and the run behind it
pub run-by : (s : Progress) (t : Token) (ts : List Token) (o : Option Progress) → step s t ≡ o → run s (t ∷ ts) ≡ and_then o (λ s'. run s' ts)
unfolding run
run-by s t ts o e = ap (λ (x : Option Progress). and_then x (λ s'. run s' ts)) e

pub run-append : (s : Progress) (ts us : List Token) → run s (ts ++ us) ≡ and_then (run s ts) (λ s'. run s' us)
unfolding run
run-append s [] us = refl
run-append s (t ∷ ts) us = go (step s t) (λ s'. run-append s' ts us)
  where
    go : (o : Option Progress) → ((s' : Progress) → run s' (ts ++ us) ≡ and_then (run s' ts) (λ s''. run s'' us))
        → and_then o (λ s'. run s' (ts ++ us)) ≡ and_then (and_then o (λ s'. run s' ts)) (λ s''. run s'' us)
    go None later = refl
    go (Some s') later = later s'

-- a run, and the run behind it
pub run-on : (s : Progress) (ts us : List Token) (o : Option Progress) → run s ts ≡ o → run s (ts ++ us) ≡ and_then o (λ s'. run s' us)
run-on s ts us o e = run-append s ts us ∙ ap (λ (x : Option Progress). and_then x (λ s'. run s' us)) e
