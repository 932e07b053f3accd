use Rattle.build_host.specs.Laws.{builders_stay, serves_itself, serves_on}
use Rattle.phase_run.proofs.Served.{enter_serves, leave_serves, same_serves}
use Rattle.build_host.proofs.Keeping.{still_served}
use Rattle.std.proofs.Common.{map, sym, ap, ◌∙◌, subst}
use Rattle.ws_core.specs.Sessions.{Session}
use Rattle.run_order.specs.Orders.{CutShuffle}
use Rattle.phase_run.specs.Calm.{IsCalm}
use Rattle.script_plan.specs.Plans.{phases_plan}
use Rattle.phase_run.specs.Plans.{Made}
use Rattle.phase_run.specs.Runs.{HeardFront}
use Rattle.phase_run.proofs.Results.{ok_on, err_on, err_both, err_holds}
use Rattle.phase_run.proofs.Heard.{heard_all, heard_front, heard_stop, tells_none, tells_on, tells_then}
use Rattle.phase_run.proofs.Runs.{some_phases, cut_at_first, run_all, run_cut, run_left}
use Rattle.phase_run.proofs.run.run_all.Goals as goal

pub returns-then-is_empty-clause-told : goal.returns-then-is_empty-clause-told
returns-then-is_empty-clause-told g c = heard_all c.args.space.now.core.history c.args.space.now.core.history (map (λ l. g.L.Listener.heard l) c.args.listeners.now) (map (λ l. g.L.Listener.heard l) c.args.listeners.now) c.requires.history (tells_none c.args.space.now.core.history (map (λ l. g.L.Listener.heard l) c.args.listeners.now))

pub returns-in_err-enter-clause-cut : goal.returns-in_err-enter-clause-cut
returns-in_err-enter-clause-cut g c = err_holds c.from_residual.result (cut_at_first (Made g.M.Meanings.meaning) c.args.space.now.core.opened (phases_plan c.args.phases.now) c.enter.new.space.core.history (some_phases (Made g.M.Meanings.meaning) c.args.phases.now c.if-is_empty.ensures) (ap (λ (x : Session). x.history) c.in_err-enter.ensures.same ∙ c.requires.history))

pub returns-in_err-enter-clause-told_some : goal.returns-in_err-enter-clause-told_some
returns-in_err-enter-clause-told_some g c = err_holds c.from_residual.result
    (subst (λ l. HeardFront c.enter.new.space.core.history (map (λ l. g.L.Listener.heard l) c.args.listeners.now) (map (λ l. g.L.Listener.heard l) l)) (sym c.in_err-enter.ensures.quiet)
    (heard_stop c.enter.new.space.core.history c.enter.new.space.core.history (map (λ l. g.L.Listener.heard l) c.args.listeners.now) (map (λ l. g.L.Listener.heard l) c.args.listeners.now) (ap (λ (x : Session). x.history) c.in_err-enter.ensures.same ∙ c.requires.history) (tells_none c.enter.new.space.core.history (map (λ l. g.L.Listener.heard l) c.args.listeners.now))))

pub returns-in_err-run_each-clause-cut : goal.returns-in_err-run_each-clause-cut
returns-in_err-run_each-clause-cut g c = err_holds c.from_residual-in_err-run_each.result
    (run_cut (Made g.M.Meanings.meaning) (phases_plan c.args.phases.now) (some_phases (Made g.M.Meanings.meaning) c.args.phases.now c.if-is_empty.ensures) c.args.space.now.core c.enter.new.space.core c.run_each.new.space.core c.requires.history c.in_ok-enter.ensures.made (map (λ l. g.L.Listener.heard l) c.enter.new.listeners) (map (λ l. g.L.Listener.heard l) c.run_each.new.listeners) c.in_err-run_each.ensures.done)

pub returns-in_err-run_each-clause-told_some : goal.returns-in_err-run_each-clause-told_some
returns-in_err-run_each-clause-told_some g c = err_holds c.from_residual-in_err-run_each.result
    (heard_front c.args.space.now.core.history c.run_each.new.space.core.history (map (λ l. g.L.Listener.heard l) c.args.listeners.now) (map (λ l. g.L.Listener.heard l) c.run_each.new.listeners) c.requires.history
    (tells_then c.args.space.now.core.history c.enter.new.space.core.history c.run_each.new.space.core.history (map (λ l. g.L.Listener.heard l) c.args.listeners.now) (map (λ l. g.L.Listener.heard l) c.enter.new.listeners) (map (λ l. g.L.Listener.heard l) c.run_each.new.listeners) c.in_ok-enter.ensures.told c.in_err-run_each.ensures.done.told))

pub returns-clause-whole : goal.returns-clause-whole
returns-clause-whole g c = ok_on c.leave.result
    (run_all (Made g.M.Meanings.meaning) (phases_plan c.args.phases.now) (some_phases (Made g.M.Meanings.meaning) c.args.phases.now c.if-is_empty.ensures) c.args.space.now.core c.enter.new.space.core c.run_each.new.space.core c.requires.history c.in_ok-enter.ensures.made c.leave.new.space.core (map (λ l. g.L.Listener.heard l) c.enter.new.listeners) (map (λ l. g.L.Listener.heard l) c.run_each.new.listeners) c.in_ok-run_each.ensures.done) c.leave.ensures.made

pub returns-clause-cut : goal.returns-clause-cut
returns-clause-cut g c = err_on c.leave.result
    (λ same. subst (λ (x : Session). CutShuffle (Made g.M.Meanings.meaning) c.args.space.now.core.opened (phases_plan c.args.phases.now) 1 x.history) (sym same)
    (run_left (Made g.M.Meanings.meaning) (phases_plan c.args.phases.now) (some_phases (Made g.M.Meanings.meaning) c.args.phases.now c.if-is_empty.ensures) c.args.space.now.core c.enter.new.space.core c.run_each.new.space.core c.requires.history c.in_ok-enter.ensures.made (map (λ l. g.L.Listener.heard l) c.enter.new.listeners) (map (λ l. g.L.Listener.heard l) c.run_each.new.listeners) c.in_ok-run_each.ensures.done)) c.leave.ensures.same

pub returns-then-is_empty-clause-calm : goal.returns-then-is_empty-clause-calm
returns-then-is_empty-clause-calm g c = subst IsCalm (sym c.requires.history) tt

pub returns-clause-calm : goal.returns-clause-calm
returns-clause-calm g c = ok_on c.leave.result (λ (left : IsCalm c.run_each.new.space.core.history → IsCalm c.leave.new.space.core.history). left (c.in_ok-run_each.ensures.done.calm (c.in_ok-enter.ensures.made.calm (subst IsCalm (sym c.requires.history) tt)))) c.leave.ensures.calm

pub returns-clause-told : goal.returns-clause-told
returns-clause-told g c = ok_on c.leave.result
    (λ last. heard_all c.args.space.now.core.history c.leave.new.space.core.history (map (λ l. g.L.Listener.heard l) c.args.listeners.now) (map (λ l. g.L.Listener.heard l) c.leave.new.listeners) c.requires.history
    (tells_on c.args.space.now.core.history c.run_each.new.space.core.history c.leave.new.space.core.history (map (λ l. g.L.Listener.heard l) c.args.listeners.now) (map (λ l. g.L.Listener.heard l) c.run_each.new.listeners) (map (λ l. g.L.Listener.heard l) c.leave.new.listeners)
    (tells_on c.args.space.now.core.history c.enter.new.space.core.history c.run_each.new.space.core.history (map (λ l. g.L.Listener.heard l) c.args.listeners.now) (map (λ l. g.L.Listener.heard l) c.enter.new.listeners) (map (λ l. g.L.Listener.heard l) c.run_each.new.listeners) c.in_ok-enter.ensures.told c.in_ok-run_each.ensures.done.told) last)) c.leave.ensures.told

pub returns-clause-told_some : goal.returns-clause-told_some
returns-clause-told_some g c = err_both c.leave.result
    (λ same quiet. subst (λ l. HeardFront c.leave.new.space.core.history (map (λ l. g.L.Listener.heard l) c.args.listeners.now) (map (λ l. g.L.Listener.heard l) l)) (sym quiet) (subst (λ (x : Session). HeardFront x.history (map (λ l. g.L.Listener.heard l) c.args.listeners.now) (map (λ l. g.L.Listener.heard l) c.run_each.new.listeners)) (sym same)
    (heard_stop c.args.space.now.core.history c.run_each.new.space.core.history (map (λ l. g.L.Listener.heard l) c.args.listeners.now) (map (λ l. g.L.Listener.heard l) c.run_each.new.listeners) c.requires.history
    (tells_on c.args.space.now.core.history c.enter.new.space.core.history c.run_each.new.space.core.history (map (λ l. g.L.Listener.heard l) c.args.listeners.now) (map (λ l. g.L.Listener.heard l) c.enter.new.listeners) (map (λ l. g.L.Listener.heard l) c.run_each.new.listeners) c.in_ok-enter.ensures.told c.in_ok-run_each.ensures.done.told)))) c.leave.ensures.same c.leave.ensures.quiet

pub run_each-requires-clause-served : goal.run_each-requires-clause-served
run_each-requires-clause-served g c = still_served g.M.Meanings.meaning c.args.space.now.core.opened c.enter.new.space.core.opened (map (λ b. g.B.Builder.tells b) c.args.builders.now) (map (λ b. g.B.Builder.tells b) c.args.builders.now) c.in_ok-enter.ensures.made.opened (builders_stay g.M.Meanings.meaning (map (λ b. g.B.Builder.tells b) c.args.builders.now)) c.requires.served

pub returns-then-is_empty-clause-serves : goal.returns-then-is_empty-clause-serves
returns-then-is_empty-clause-serves g c = serves_itself g.M.Meanings.meaning c.args.space.now.core (map (λ b. g.B.Builder.tells b) c.args.builders.now)

pub returns-in_err-enter-clause-serves : goal.returns-in_err-enter-clause-serves
returns-in_err-enter-clause-serves g c = same_serves g.M.Meanings.meaning c.args.space.now.core c.enter.new.space.core (map (λ b. g.B.Builder.tells b) c.args.builders.now) c.in_err-enter.ensures.same

pub returns-in_err-run_each-clause-serves : goal.returns-in_err-run_each-clause-serves
returns-in_err-run_each-clause-serves g c = serves_on g.M.Meanings.meaning c.args.space.now.core c.enter.new.space.core c.run_each.new.space.core (map (λ b. g.B.Builder.tells b) c.args.builders.now) (map (λ b. g.B.Builder.tells b) c.args.builders.now) (map (λ b. g.B.Builder.tells b) c.run_each.new.builders) (enter_serves g.M.Meanings.meaning c.args.space.now.core c.enter.new.space.core (map (λ b. g.B.Builder.tells b) c.args.builders.now) c.in_ok-enter.ensures.made) c.in_err-run_each.ensures.serves

pub returns-clause-serves : goal.returns-clause-serves
returns-clause-serves g c = serves_on g.M.Meanings.meaning c.args.space.now.core c.run_each.new.space.core c.leave.new.space.core (map (λ b. g.B.Builder.tells b) c.args.builders.now) (map (λ b. g.B.Builder.tells b) c.run_each.new.builders) (map (λ b. g.B.Builder.tells b) c.run_each.new.builders)
    (serves_on g.M.Meanings.meaning c.args.space.now.core c.enter.new.space.core c.run_each.new.space.core (map (λ b. g.B.Builder.tells b) c.args.builders.now) (map (λ b. g.B.Builder.tells b) c.args.builders.now) (map (λ b. g.B.Builder.tells b) c.run_each.new.builders) (enter_serves g.M.Meanings.meaning c.args.space.now.core c.enter.new.space.core (map (λ b. g.B.Builder.tells b) c.args.builders.now) c.in_ok-enter.ensures.made) c.in_ok-run_each.ensures.serves)
    (leave_serves c.leave.result g.M.Meanings.meaning c.run_each.new.space.core c.leave.new.space.core (map (λ b. g.B.Builder.tells b) c.run_each.new.builders) c.leave.ensures.opened c.leave.ensures.made c.leave.ensures.same)
