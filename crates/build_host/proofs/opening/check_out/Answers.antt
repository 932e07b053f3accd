use Rattle.std.proofs.Common.{ap, sym, ◌∙◌}
use Rattle.build_core.specs.Histories.{started_of}
use Rattle.build_host.proofs.Tried.{checkout_answered}
use Rattle.build_host.proofs.opening.check_out.Goals as goal

pub unreachable-requires : goal.unreachable-requires
unreachable-requires g c = checkout_answered c.args.core.now.state 1 c.args.kind c.in_ok-project.project (ap started_of (sym c.in_ok-answer.ensures.steps.1) ∙ sym c.started_of.ensures ∙ c.in-None.is)
