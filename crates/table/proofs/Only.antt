-- The contracts of `table::read` and `table::check` leave no choice: any two results that one allows are equal.
use Prim.Native.Nat.{ℕ}
use mathlib.Core.Path.{◌≡◌, sym, ◌∙◌}
use mathlib.Core.List.{List}
use Rattle.model.specs.Reading.{read_of}
use Rattle.model.specs.Calls.{check_of}
use Rattle.model.specs.declared.CallResult.{CallResult}
use Rattle.model.specs.declared.Reading.{Reading}

pub one-check : (t : List ℕ) (r q : CallResult) → r ≡ check_of t → q ≡ check_of t → r ≡ q
one-check t r q e d = e ∙ sym d

pub one-reading : (t : List ℕ) (r q : Reading) → r ≡ read_of t → q ≡ read_of t → r ≡ q
one-reading t r q e d = e ∙ sym d
