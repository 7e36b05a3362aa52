-- What C may rely on of the calls together. Each contract allows one outcome alone, since it is made of equations. The mission's third demand of two
-- calls: whatever words a weighing with number 0 gives and whatever words a run of the same table and goal gives, the run keeps to the bound. And with
-- weights that were found, a weighing refuses the goal, if anything.
use Prim.Native.Nat.{ℕ, ◌≤◌}
use mathlib.Core.Path.{◌≡◌, sym, ◌∙◌}
use mathlib.Core.List.{List}
use lib.ListN.{get_or}
use Rattle.model.specs.declared.CallResult.{CallResult}
use Rattle.model.specs.declared.Weighing.{Weighing}
use Rattle.model.specs.Limits.{store_room}
use Rattle.model.specs.Calls.{RunOutput, run_of, weigh_of}
use Rattle.model.proofs.Demand3.{weighed-run}
use Rattle.finding_weights.specs.Find.{Finding, find_of}
use Rattle.finding_weights.proofs.Promise.{GoalAlone, found-weighs}
use Rattle.text_reader.specs.ReadText.{ReadCall}
use Rattle.text_printer.specs.PrintText.{PrintCall}
use Rattle.nadhirukh.specs.Words.{Given, RunGiven, WeighGiven, FindGiven, ReadGiven, PrintGiven}

-- ---- each call has one outcome

-- the words and the number returned
pub record Same (told told' : List ℕ) (n n' : ℕ) : Type 0 where
  pub words : told ≡ told'
  pub returned : n ≡ n'

-- the answer's bytes too
pub record SameRun (answer answer' told told' : List ℕ) (n n' : ℕ) : Type 0 where
  pub bytes : answer ≡ answer'
  pub given : Same told told' n n'

-- W and the bound too
pub record SameWeighing (told told' two two' : List ℕ) (n n' : ℕ) : Type 0 where
  pub given : Same told told' n n'
  pub bound : two ≡ two'

pub one-given : {r : CallResult} {told told' : List ℕ} {n n' : ℕ} → Given r told n → Given r told' n' → Same told told' n n'
one-given a b = record { words = a.words ∙ sym b.words; returned = a.returned ∙ sym b.returned }

pub one-run-given : {o : RunOutput} {answer answer' told told' : List ℕ} {n n' : ℕ} → RunGiven o answer told n → RunGiven o answer' told' n'
    → SameRun answer answer' told told' n n'
one-run-given a b = record { bytes = a.bytes ∙ sym b.bytes; given = one-given a.given b.given }

pub one-weigh-given : {w : Weighing} {told told' two two' : List ℕ} {n n' : ℕ} → WeighGiven w told two n → WeighGiven w told' two' n'
    → SameWeighing told told' two two' n n'
one-weigh-given a b = record { given = one-given a.given b.given; bound = a.bound ∙ sym b.bound }

-- the buffer's bytes too
pub record SameFind (weights weights' told told' : List ℕ) (n n' : ℕ) : Type 0 where
  pub bytes : weights ≡ weights'
  pub given : Same told told' n n'

pub one-find-given : {o : Finding} {weights weights' told told' : List ℕ} {n n' : ℕ} → FindGiven o weights told n → FindGiven o weights' told' n'
    → SameFind weights weights' told told' n n'
one-find-given a b = record { bytes = a.bytes ∙ sym b.bytes; given = one-given a.given b.given }

-- a buffer's bytes and how many were written, too
pub record SameWriting (buffer buffer' told told' one one' : List ℕ) (n n' : ℕ) : Type 0 where
  pub bytes : buffer ≡ buffer'
  pub given : Same told told' n n'
  pub written : one ≡ one'

pub one-read-given : {o : ReadCall} {table table' told told' one one' : List ℕ} {n n' : ℕ} → ReadGiven o table told one n
    → ReadGiven o table' told' one' n' → SameWriting table table' told told' one one' n n'
one-read-given a b =
    record { bytes = a.bytes ∙ sym b.bytes; given = one-given a.given b.given; written = a.written ∙ sym b.written }

pub one-print-given : {o : PrintCall} {text text' told told' one one' : List ℕ} {n n' : ℕ} → PrintGiven o text told one n
    → PrintGiven o text' told' one' n' → SameWriting text text' told told' one one' n n'
one-print-given a b =
    record { bytes = a.bytes ∙ sym b.bytes; given = one-given a.given b.given; written = a.written ∙ sym b.written }

-- ---- a weighing, then a run

abbrev pub steps : List ℕ → ℕ
steps told = get_or told 2 0

abbrev pub firings : List ℕ → ℕ
firings told = get_or told 3 0

abbrev pub weight : List ℕ → ℕ
weight two = get_or two 0 0

abbrev pub bound : List ℕ → ℕ
bound two = get_or two 1 0

-- what the weighing's two words say of the run's words and of the number that it returns
pub record Bounded (two : List ℕ) (limit : ℕ) (told : List ℕ) (number : ℕ) : Type 0 where
  pub few_steps : steps told ≤ bound two
  pub few_firings : firings told ≤ weight two
  pub never_limit : bound two ≤ limit → number ≡ 2 → ⊥
  pub never_full : weight two ≤ store_room → number ≡ 5 → ⊥
  pub never_history : number ≡ 7 → ⊥

pub weighed-then-run : (table weights goal : List ℕ) (limit : ℕ) (answer : List ℕ) {weighing two run answered : List ℕ} {n : ℕ}
    → WeighGiven (weigh_of table weights goal) weighing two 0
    → RunGiven (run_of table goal limit answer) answered run n
    → Bounded two limit run n
weighed-then-run table weights goal limit answer w r =
    let p = weighed-run table weights goal (sym w.given.returned) limit answer in
    rw (w.bound, r.given.words, r.given.returned)
    (record { few_steps = p.steps; few_firings = p.firings; never_limit = p.never_limit; never_full = p.never_full; never_history = p.never_history })

-- ---- weights are looked for, then weighed

pub found-then-weighed : (table buffer goal : List ℕ) {weights finding weighing two : List ℕ} {n : ℕ}
    → FindGiven (find_of table buffer) weights finding 0
    → WeighGiven (weigh_of table weights goal) weighing two n
    → GoalAlone n
found-then-weighed table buffer goal f w =
    rw (w.given.returned, f.bytes) (found-weighs table buffer goal (sym f.given.returned))
