-- Short names for writing tables, goals and answers down as bytes.
use Prim.Native.Nat.{ℕ, zero, suc}
use mathlib.Core.List.{List, [], ◌∷◌, ◌++◌}
use lib.IntN.{ℤ, pos}
use lib.ListN.{replicate}
use Rattle.wire.specs.Wire.{bytes4, bits_of}

abbrev pub Bytes : Type 0
Bytes = List ℕ

infixr 60 ◌then◌
abbrev pub ◌then◌ : Bytes → Bytes → Bytes
a then b = a ++ b

abbrev pub word : ℤ → Bytes
word z = bytes4 (bits_of z)

-- ---- slots

pub data Term : Type 0 where
  var : ℕ → Term
  num : ℤ → Term

abbrev pub slot : Term → Bytes
slot (var v) = 2 ∷ word (pos v)
slot (num z) = 1 ∷ word z

abbrev pub zeros : ℕ → Bytes
zeros n = replicate n 0

-- up to n slots; what is not used is zero
abbrev pub slots : ℕ → List Term → Bytes
slots zero ts = []
slots (suc n) [] = zeros 5 then slots n []
slots (suc n) (t ∷ ts) = slot t then slots n ts

-- ---- expressions: a term alone, or an operation on two

pub data Form : Type 0 where
  only : Term → Form
  op : ℕ → Term → Term → Form

abbrev pub form : Form → Bytes
form (only t) = 0 ∷ slot t then zeros 5
form (op o a b) = o ∷ slot a then slot b

abbrev pub forms : ℕ → List Form → Bytes
forms zero es = []
forms (suc n) [] = zeros 11 then forms n []
forms (suc n) (e ∷ es) = form e then forms n es

-- ---- records

abbrev pub symbol : ℕ → Bytes
symbol arity = 1 ∷ arity ∷ []

abbrev pub rule : Bytes
rule = 2 ∷ []

abbrev pub kept : ℕ → List Term → Bytes
kept s ts = 3 ∷ s ∷ slots 4 ts

abbrev pub removed : ℕ → List Term → Bytes
removed s ts = 4 ∷ s ∷ slots 4 ts

abbrev pub test : ℕ → Form → Form → Bytes
test c a b = 5 ∷ c ∷ form a then form b

abbrev pub adds : ℕ → List Form → Bytes
adds s es = 6 ∷ s ∷ forms 4 es

abbrev pub failing : Bytes
failing = 7 ∷ []

abbrev pub finish : Bytes
finish = 8 ∷ []

-- ---- facts

abbrev pub words : ℕ → List ℤ → Bytes
words zero zs = []
words (suc n) [] = zeros 4 then words n []
words (suc n) (z ∷ zs) = word z then words n zs

abbrev pub fact : ℕ → List ℤ → Bytes
fact s zs = 16 ∷ s ∷ words 4 zs

abbrev pub stored : ℕ → ℕ → List ℤ → Bytes
stored i s zs = 17 ∷ word (pos i) then s ∷ words 4 zs

abbrev pub times : ℕ → Bytes → Bytes
times zero b = []
times (suc n) b = b then times n b
