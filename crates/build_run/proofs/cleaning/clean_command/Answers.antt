use Rattle.build_laws.specs.States.{item}
use Rattle.build_run.proofs.Sweeping.{one_swept}
use Rattle.build_run.proofs.cleaning.clean_command.Goals as goal

pub returns-clause-swept : goal.returns-clause-swept
returns-clause-swept g c = one_swept _ _ (item c.args.project.now c.args.index c.args.command.now) _ c.in_ok-_refused.ensures.cleaned
