-- What a reading's verdict says of the table: it is the definition's.
use mathlib.Core.Path.{◌≡◌, sym, ap, ◌∙◌}
use mathlib.Core.List.{List}
use Prim.Native.Nat.{ℕ}
use Rattle.std.specs.Prelude.{Ok, Err}
use Rattle.model.specs.Reading.{read_of}
use Rattle.model.specs.Results.{refusal, refused_result}
use Rattle.model.specs.Calls.{verdict_result, check_of}
use Rattle.model.specs.Refusals.{Verdict}
use Rattle.model.specs.declared.CallResult.{CallResult}
use Rattle.model.specs.declared.Reading.{Reading}
use Rattle.model.specs.declared.Refusal.{Refusal}

module _ (t : List ℕ) {r : Reading} (e : r ≡ read_of t) where
  pub verdict-read : {v : Verdict} → r.verdict ≡ v → (read_of t).verdict ≡ v
  verdict-read d = sym (ap (λ (r : Reading). r.verdict) e) ∙ d

  module _ {x : CallResult} where
    pub checked-good : r.verdict ≡ Ok tt → x ≡ refusal 0 0 → x ≡ check_of t
    unfolding check_of verdict_result
    checked-good d q = q ∙ ap verdict_result (sym (verdict-read d))

    pub checked-refused : {a : Refusal} → r.verdict ≡ Err a → x ≡ refused_result a → x ≡ check_of t
    unfolding check_of verdict_result
    checked-refused d q = q ∙ ap verdict_result (sym (verdict-read d))
