use Rattle.phase_run.specs.Plans.{Made}
use Rattle.phase_run.proofs.Results.{both_of}
use Rattle.phase_run.proofs.Commands.{some_made}
use Rattle.phase_run.proofs.Commanded.{work_there, did_finish, finish_stop}
use Rattle.std.proofs.Common.{map, refl}
use Rattle.build_host.specs.Laws.{serves_on}
use Rattle.phase_run.proofs.Served.{finish_serves}
use Rattle.phase_run.proofs.worker.do_job.Goals as goal

pub returns-clause-done : goal.returns-clause-done
returns-clause-done g c = both_of c.perform.result
    (λ s h. did_finish (Made g.M.Meanings.meaning) (some_made g.M.Meanings.meaning) c.args.commands.now c.args.space.now.core c.do_commands.new.space.core c.perform.new.self.core c.in_ok-do_commands.ensures.done c.perform.ensures.opened s h)
    (λ q. finish_stop (Made g.M.Meanings.meaning) (some_made g.M.Meanings.meaning) c.args.commands.now c.args.space.now.core c.do_commands.new.space.core c.perform.new.self.core c.in_ok-do_commands.ensures.done q)
    c.perform.ensures.state c.perform.ensures.history c.perform.ensures.err

pub perform-requires : goal.perform-requires
perform-requires g c = record { entered = work_there c.do_commands.new.space.core.state c.in_ok-do_commands.ensures.done.at_work; plain = refl }

pub returns-clause-serves : goal.returns-clause-serves
returns-clause-serves g c = serves_on g.M.Meanings.meaning c.args.space.now.core c.do_commands.new.space.core c.perform.new.self.core (map (λ b. g.B.Builder.tells b) c.args.builders.now) (map (λ b. g.B.Builder.tells b) c.do_commands.new.builders) (map (λ b. g.B.Builder.tells b) c.do_commands.new.builders) c.in_ok-do_commands.ensures.serves
    (finish_serves c.perform.result g.M.Meanings.meaning c.do_commands.new.space.core c.perform.new.self.core (map (λ b. g.B.Builder.tells b) c.do_commands.new.builders) c.perform.ensures.opened c.perform.ensures.history c.perform.ensures.err)
