-- What the tests of a weighing come to.
use Rattle.std.specs.Prelude.{Result, Ok, Err}
use Rattle.model.specs.declared.Refusal.{Refusal}
use Rattle.model.specs.declared.Weighing.{Weighing}
use Rattle.model.specs.Calls.{refused_weighing}

abbrev pub weighing_of : Result Weighing Refusal → Weighing
weighing_of (Ok w) = w
weighing_of (Err r) = refused_weighing r
