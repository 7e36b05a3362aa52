use mathlib.Core.Path.{refl}
use Rattle.step.proofs.Decides.{posed, applying, defaults, no-value, fires-ok, fires-err, handed}
use Rattle.step.proofs.Firing.attempt.Goals as goal

pub first_instance-requires : goal.first_instance-requires
first_instance-requires c = posed c.requires c.unbound-self.ensures

pub apply-requires : goal.apply-requires
apply-requires c = applying c.requires

pub returns-in-Nothing : goal.returns-in-Nothing
returns-in-Nothing c = defaults c.requires c.first_instance.ensures c.in-Nothing.is

pub returns-in-UndefinedGuard : goal.returns-in-UndefinedGuard
returns-in-UndefinedGuard c = no-value c.requires c.first_instance.ensures c.in-UndefinedGuard.is

pub returns-in_ok-apply-in-Applies : goal.returns-in_ok-apply-in-Applies
returns-in_ok-apply-in-Applies c =
    fires-ok c.requires c.first_instance.ensures c.in-Applies.is c.apply.ensures refl refl c.in_ok-apply-in-Applies.was

pub returns-in_err-apply-in-Applies : goal.returns-in_err-apply-in-Applies
returns-in_err-apply-in-Applies c =
    let stops = fires-err c.requires c.first_instance.ensures c.in-Applies.is c.apply.ensures refl refl c.args.next c.in_err-apply-in-Applies.was in
    handed stops _ c.from_residual.ensures.1
