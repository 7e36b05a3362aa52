-- What a call gives back is what the proved library answered, so it is the definition's. Assumes nothing.
use Prim.Native.Nat.{ℕ}
use mathlib.Core.Path.{◌≡◌, refl, ap}
use mathlib.Core.List.{List, [], ◌∷◌}
use lib.ListN.{length}
use Rattle.model.specs.declared.CallResult.{CallResult}
use Rattle.model.specs.declared.Weighing.{Weighing}
use Rattle.model.specs.Results.{result_words}
use Rattle.model.specs.Calls.{RunOutput}
use Rattle.engine.specs.Called.{Ran}
use Rattle.finding_weights.specs.Find.{Finding, Gives}
use Rattle.text_reader.specs.declared.TextRead.{TextRead}
use Rattle.text_reader.specs.ReadText.{ReadCall}
use Rattle.text_reader.specs.Passing.{TextGiven}
use Rattle.text_printer.specs.declared.Printing.{Printing}
use Rattle.text_printer.specs.PrintText.{PrintCall, Prints}
use Rattle.nadhirukh.specs.Words.{words_of, Given, RunGiven, WeighGiven, FindGiven, ReadGiven, PrintGiven}

-- as many words as a result is said to have
pub words-counted : (r : CallResult) → length (words_of r) ≡ result_words
words-counted r = refl

pub given : {r d : CallResult} {words : List ℕ} {n : ℕ} → r ≡ d → Given r words n → Given d words n
given e g = rw e at g

pub run-given : {o : RunOutput} {r : CallResult} {answer words : List ℕ} {n : ℕ} → Ran o r answer → Given r words n → RunGiven o answer words n
run-given e g = record { bytes = e.answered; given = given e.result g }

pub weigh-given : {w v : Weighing} {words : List ℕ} {n : ℕ} → w ≡ v → Given w.result words n → WeighGiven v words (w.weight ∷ w.bound ∷ []) n
weigh-given e g = record { given = given (ap (λ (x : Weighing). x.result) e) g; bound = ap (λ (x : Weighing). x.weight ∷ x.bound ∷ []) e }

pub find-given : {o : Finding} {r : CallResult} {weights words : List ℕ} {n : ℕ} → Gives o r weights → Given r words n → FindGiven o weights words n
find-given e g = record { bytes = e.bytes; given = given e.result g }

pub read-given : {o : ReadCall} {r : TextRead} {table words : List ℕ} {n : ℕ} → TextGiven o r table → Given r.result words n
    → ReadGiven o table words (r.length ∷ []) n
read-given e g = record { bytes = e.bytes; given = given e.result g; written = ap (λ (k : ℕ). k ∷ []) e.length }

pub print-given : {o : PrintCall} {r : Printing} {text words : List ℕ} {n : ℕ} → Prints o r text → Given r.result words n
    → PrintGiven o text words (r.length ∷ []) n
print-given e g = record { bytes = e.bytes; given = given e.result g; written = ap (λ (k : ℕ). k ∷ []) e.length }
