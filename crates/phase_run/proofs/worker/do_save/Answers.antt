use Rattle.std.proofs.Common.{refl}
use Rattle.run_order.specs.Lists.{Cut}
use Rattle.save_history.specs.Saves.{IsSave}
use Rattle.phase_run.proofs.Results.{on_err}
use Rattle.phase_run.proofs.Commanded.{not_begun, work_there}
use Rattle.script_plan.proofs.Saves.{some_save}
use Rattle.phase_run.proofs.Saves.{ended_save, none_quietly, saved_quietly}
use Rattle.phase_run.proofs.worker.do_save.Goals as goal

pub save-requires : goal.save-requires
save-requires g c = record { worker = work_there c.args.space.now.core.state c.requires.work }

pub returns-in_err-saved-clause-done : goal.returns-in_err-saved-clause-done
returns-in_err-saved-clause-done g c = on_err _ _ c.from_residual.result c.from_residual.ensures.0
    (not_begun (IsSave 1 c.args.kind) c.args.space.now.core c.save.new.self.core (some_save 1 c.args.kind) c.in_err-saved.ensures.same c.requires.work)

pub returns-in_err-saved-clause-quiet : goal.returns-in_err-saved-clause-quiet
returns-in_err-saved-clause-quiet g c = none_quietly c.args.space.now.core c.save.new.self.core c.in_err-saved.ensures.same

pub returns-clause-done : goal.returns-clause-done
returns-clause-done g c = ended_save c.saved_well.result c.args.kind c.in_ok-saved.saved c.args.space.now.core c.save.new.self.core c.in_ok-saved.ensures.saved c.saved_well.ensures.other c.requires.work

pub returns-clause-quiet : goal.returns-clause-quiet
returns-clause-quiet g c = saved_quietly c.args.kind c.in_ok-saved.saved c.args.space.now.core c.save.new.self.core c.in_ok-saved.ensures.saved
