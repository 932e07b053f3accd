use Rattle.run_order.specs.Parts.{CommandEntries}
use Rattle.run_order.proofs.Parts.{event_some}
use Rattle.phase_run.proofs.Plain.{command_plain}
use Rattle.phase_run.proofs.Results.{both_of}
use Rattle.phase_run.proofs.Commanded.{work_there, did_event, not_begun}
use Rattle.phase_run.proofs.worker.do_event.Goals as goal

pub returns-clause-done : goal.returns-clause-done
returns-clause-done g c = both_of c.perform.result
    (λ s h. did_event c.args.event c.args.space.now.core c.perform.new.self.core c.requires.asked c.perform.ensures.opened s h c.requires.work)
    (λ q. not_begun (CommandEntries 1 c.args.event) c.args.space.now.core c.perform.new.self.core (event_some (λ e. e) 1 c.args.event) q c.requires.work)
    c.perform.ensures.state c.perform.ensures.history c.perform.ensures.err

pub perform-requires : goal.perform-requires
perform-requires g c = record { entered = work_there c.args.space.now.core.state c.requires.work; plain = command_plain c.args.event c.requires.asked.command }
