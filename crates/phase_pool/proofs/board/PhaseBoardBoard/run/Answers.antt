use Rattle.std.proofs.Common.{true, sym, subst}
use Rattle.phase_pool.specs.Passes.{Makes}
use Rattle.phase_pool.specs.Inside.Going.{Went}
use Rattle.phase_pool.proofs.Boards.{did, did_some}
use Rattle.phase_pool.proofs.board.PhaseBoardBoard.run.Goals as goal

pub returns-in-Ok-clause-goes : goal.returns-in-Ok-clause-goes
returns-in-Ok-clause-goes g c = λ u t.
    let b = c.args.self.now in
    did (g.H.Host.makes b.host.now) (g.H.Host.plan b.phase.now) (g.H.Host.name c.args.job) (g.H.Host.knows u.pass) (g.H.Host.knows c.args.worker.now.pass) (g.H.Host.knows c.perform.new.pass) t.2
    u.stopped c.args.worker.now.stopped t.0 t.1 c.in-Ok.ensures.done

pub returns-in-Err-clause-goes : goal.returns-in-Err-clause-goes
returns-in-Err-clause-goes g c = λ u t.
    let b = c.args.self.now in
    let knows = g.H.Host.knows in
    let made = g.H.Host.makes b.host.now in
    let jobs = g.H.Host.plan b.phase.now in
    let some = did_some made jobs (g.H.Host.name c.args.job) (knows u.pass) (knows c.args.worker.now.pass) (knows c.perform.new.pass) t.2 u.stopped t.0 c.in-Err.ensures.cut in
    subst (λ z. Makes (Went made jobs (knows u.pass).number u.stopped z) (knows u.pass) (knows c.stop.new.worker.pass)) (sym c.stop.ensures.stopped)
    (subst (λ p. Makes (Went made jobs (knows u.pass).number u.stopped true) (knows u.pass) (knows p)) (sym c.stop.ensures.pass) some)
