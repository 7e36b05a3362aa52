-- The contract of `place_of` leaves no choice: any two results that it allows are equal.
use mathlib.Core.Path.{◌≡◌, sym, ◌∙◌}
use Rattle.std.specs.Prelude.{Option}
use Rattle.model.specs.declared.HeadPlace.{HeadPlace}

pub one-place : (l : Option HeadPlace) (r q : Option HeadPlace) → r ≡ l → q ≡ l → r ≡ q
one-place l r q e d = e ∙ sym d
