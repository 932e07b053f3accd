use Rattle.std.proofs.lemmas.List.Elements.{All-from_recursion}
use Rattle.phase_pool.specs.Workers.{hand}
use Rattle.phase_pool.specs.Inside.Going.{Works}
use Rattle.phase_pool.proofs.Pairs.{pairs_all, pairs_map}
use Rattle.phase_pool.proofs.phase.work.Goals as goal

pub run_phase-requires-after_bounds : goal.run_phase-requires-after_bounds
run_phase-requires-after_bounds g c κs within = All-from_recursion (λ w. g.H.Host.here c.args.host.now w.pass) c.args.workers.items c.requires

pub returns-clause-here : goal.returns-clause-here
returns-clause-here g c = pairs_all _ (λ w. g.H.Host.here c.args.host.now w.pass) (λ v w r. r.stands) c.args.workers.items c.run_phase.result.items c.run_phase.ensures

pub returns-clause-worked : goal.returns-clause-worked
returns-clause-worked g c =
    pairs_map _ (Works (g.H.Host.makes c.args.host.now) (g.H.Host.plan c.args.phase.now) (g.H.Host.opened c.args.host.now)) (hand g.H.Host.knows) (λ v w r. record { went = r.went; over = r.ends })
    c.args.workers.items c.run_phase.result.items c.run_phase.ensures
