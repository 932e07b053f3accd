use Rattle.build_run.proofs.Calls.{ran_calls, all_calls}
use Rattle.build_run.proofs.commands.built.Goals as goal

pub returns-in-Ok-clause-calls : goal.returns-in-Ok-clause-calls
returns-in-Ok-clause-calls g c = let e = c.in-Ok.ensures.came in let called = ran_calls g.H.Told.Meanings.meaning _ _ e.turns e.ran c.requires.calls in (called.0, called.1, called.2, tt)

pub returns-in-Err-clause-calls : goal.returns-in-Err-clause-calls
returns-in-Err-clause-calls g c = all_calls g.H.Told.Meanings.meaning _ c.args.kind _ _ c.in-Err.outcome _ c.in-Err.ensures.halted c.requires.calls
