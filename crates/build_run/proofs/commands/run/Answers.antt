use Rattle.std.proofs.Common.{inr, subst}
use Rattle.std.specs.Option.{option_copied}
use Rattle.builder_api.specs.declared.outcome.BuildOutcome.{BuildOutcome}
use Rattle.build_run.specs.Commands.{CameTo}
use Rattle.build_run.specs.Starts.{Closes}
use Rattle.build_run.proofs.Closing.{came_to}
use Rattle.build_run.proofs.Sweeping.{on_err}
use Rattle.build_run.proofs.commands.run.Goals as goal

pub returns-in_err-finish-clause-unanswered : goal.returns-in_err-finish-clause-unanswered
returns-in_err-finish-clause-unanswered g c = on_err c.from_residual-in_err-finish.result (inr (
  c.twice-outcome.result.0,
  g.H.Host.book c.went-outcome.new.host,
  came_to g.H.Told.Meanings.meaning g.H.Told.Meanings.sound c.args.kind (option_copied c.args.project) _ _ _ c.in-Plan.plan c.twice-outcome.result.0 c.went-outcome.result (rw c.in-Plan.is at c.in_ok-plan.ensures.opened) c.went-outcome.ensures.came
      c.twice-outcome.ensures.outcome,
  c.in_err-finish.ensures.cut,
))

pub returns-clause-answered : goal.returns-clause-answered
returns-clause-answered g c = (
  g.H.Host.book c.went-outcome.new.host,
  subst (λ (o : BuildOutcome). CameTo g.H.Told.Meanings.meaning c.args.kind (option_copied c.args.project) (g.H.Host.book c.args.host.now) o (g.H.Host.book c.went-outcome.new.host)) c.twice-outcome.ensures.same
      (came_to g.H.Told.Meanings.meaning g.H.Told.Meanings.sound c.args.kind (option_copied c.args.project) _ _ _ c.in-Plan.plan c.twice-outcome.result.0 c.went-outcome.result (rw c.in-Plan.is at c.in_ok-plan.ensures.opened) c.went-outcome.ensures.came
      c.twice-outcome.ensures.outcome),
  subst (λ (o : BuildOutcome). Closes (g.H.Host.book c.went-outcome.new.host) o (g.H.Host.book c.finish.new.self)) c.twice-outcome.ensures.same c.in_ok-finish.ensures.closed,
)

-- the host stays over all calls
pub returns-in_err-finish-clause-stays : goal.returns-in_err-finish-clause-stays
returns-in_err-finish-clause-stays g c = g.H.Host.stays_on _ _ _ (g.H.Host.stays_on _ _ _ c.start.ensures.stays c.went-outcome.ensures.stays) c.finish.ensures.stays

pub returns-clause-stays : goal.returns-clause-stays
returns-clause-stays g c = g.H.Host.stays_on _ _ _ (g.H.Host.stays_on _ _ _ c.start.ensures.stays c.went-outcome.ensures.stays) c.finish.ensures.stays
