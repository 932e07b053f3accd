use Rattle.build_run.proofs.Calls.{swept_calls}
use Rattle.build_run.proofs.commands.cleaned.Goals as goal

pub returns-in-Ok-clause-calls : goal.returns-in-Ok-clause-calls
returns-in-Ok-clause-calls g c = let called = swept_calls _ _ _ c.in-Ok.ensures.swept c.requires.calls in (called.0, called.1, called.2, tt)

pub returns-in-Err-clause-calls : goal.returns-in-Err-clause-calls
returns-in-Err-clause-calls g c = let e = c.in-Err.ensures.halted in let called = swept_calls _ _ _ e.swept c.requires.calls in (called.0, called.1, called.2, tt)
