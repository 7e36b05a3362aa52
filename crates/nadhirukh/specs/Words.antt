-- A result as the words that C reads: "number, place, steps, firings, identifiers given, facts stored".
use Rattle.std.specs.Prelude.{ℕ, ◌≡◌, List, [], ◌∷◌}
use Rattle.model.specs.declared.CallResult.{CallResult}
use Rattle.model.specs.declared.Weighing.{Weighing}
use Rattle.model.specs.Calls.{RunOutput}
use Rattle.finding_weights.specs.Find.{Finding}
use Rattle.text_reader.specs.ReadText.{ReadCall}
use Rattle.text_printer.specs.PrintText.{PrintCall}

abbrev pub words_of : CallResult → List ℕ
words_of r = r.number ∷ r.place ∷ r.steps ∷ r.firings ∷ r.identifiers ∷ r.stored ∷ []

-- what a call gives back: the words that C reads behind `result`, and the number that is returned
pub record Given (r : CallResult) (told : List ℕ) (number : ℕ) : Type 0 where
  pub words : told ≡ words_of r
  pub returned : number ≡ r.number

-- a run gives back the answer's bytes too
pub record RunGiven (o : RunOutput) (answer told : List ℕ) (number : ℕ) : Type 0 where
  pub bytes : answer ≡ o.answer
  pub given : Given o.result told number

-- a weighing gives back W and the step bound too
pub record WeighGiven (w : Weighing) (told two : List ℕ) (number : ℕ) : Type 0 where
  pub given : Given w.result told number
  pub bound : two ≡ w.weight ∷ w.bound ∷ []

-- looking for weights gives back the buffer's bytes too
pub record FindGiven (o : Finding) (weights told : List ℕ) (number : ℕ) : Type 0 where
  pub bytes : weights ≡ o.weights
  pub given : Given o.result told number

-- reading a text gives back the table's bytes too, and how many were written
pub record ReadGiven (o : ReadCall) (table told one : List ℕ) (number : ℕ) : Type 0 where
  pub bytes : table ≡ o.table
  pub given : Given o.result told number
  pub written : one ≡ o.length ∷ []

-- printing a table gives back the text's bytes too, and how many were written
pub record PrintGiven (o : PrintCall) (text told one : List ℕ) (number : ℕ) : Type 0 where
  pub bytes : text ≡ o.text
  pub given : Given o.result told number
  pub written : one ≡ o.length ∷ []
