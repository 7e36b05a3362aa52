-- A history that keeps all and has no bound: what "Pruning changes no step" is held against. No call has it.
use Rattle.std.specs.Prelude.{ℕ, true, List, [], ◌∷◌, ◌++◌}
use Rattle.model.specs.declared.FactId.{FactId}
use Rattle.model.specs.Table.{Head, Table}
use Rattle.model.specs.declared.Fired.{Fired}
use Rattle.model.specs.Steps.{State, Memory}
use Rattle.model.specs.Results.{no_counts}
use Rattle.model.specs.Run.{Ended, run_with}

abbrev pub kept_all : List Head → Fired → List FactId → List Fired → List Fired
kept_all [] f is fs = fs ++ (f ∷ [])
kept_all (h ∷ hs) f is fs = fs

abbrev pub keeps_all : Memory
keeps_all = record { after = kept_all; fits = λ fs. true }

unfoldable pub keep_run : Table → ℕ → State → Ended
keep_run t limit st = run_with keeps_all t limit no_counts st
