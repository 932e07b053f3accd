use Rattle.std.proofs.Common.{sym, subst, map}
use Rattle.std.specs.List.{AllByRecursion}
use Rattle.job_pool.specs.Workers.{Pairs}
use Rattle.run_order.specs.Lists.{Begins}
use Rattle.phase_pool.specs.Workers.{Hand, hand}
use Rattle.phase_pool.specs.Inside.Meeting.{Gathers, HasSeen}
use Rattle.phase_pool.proofs.Pairs.{pairs_all, pairs_map, pairs_same}
use Rattle.phase_pool.proofs.Meetings.{gathers}
use Rattle.phase_pool.proofs.meeting.gather.Goals as goal

pub tell_all-requires-clause-workers : goal.tell_all-requires-clause-workers
tell_all-requires-clause-workers g c = pairs_all _ (λ w. g.H.Host.here c.args.host.now w.pass) (λ v w r. r.0) c.args.workers.now.items c.collect_all.new.workers.items c.collect_all.ensures.workers

pub tell_all-requires-clause-begin : goal.tell_all-requires-clause-begin
tell_all-requires-clause-begin g c =
    let knows = g.H.Host.knows in
    subst (AllByRecursion (λ (v : Hand). Begins v.known.seen (knows c.collect_all.new.first).seen)) (sym (pairs_same _ (hand knows) (λ v w r. r.1) c.args.workers.now.items c.collect_all.new.workers.items c.collect_all.ensures.workers)) c.collect_all.ensures.first.begin

pub returns-clause-workers : goal.returns-clause-workers
returns-clause-workers g c = pairs_all _ (λ w. g.H.Host.here c.args.host.now w.pass) (λ v w r. r.0) c.collect_all.new.workers.items c.tell_all.new.workers.items c.tell_all.ensures.workers

pub returns-clause-gathers : goal.returns-clause-gathers
returns-clause-gathers g c =
    let knows = g.H.Host.knows in
    let us = c.args.workers.now.items in
    let vs = c.collect_all.new.workers.items in
    let ws = c.tell_all.new.workers.items in
    let k = knows c.collect_all.new.first in
    let seen = pairs_map _ (HasSeen k.seen) (hand knows) (λ v w r. r.1) vs ws c.tell_all.ensures.workers in
    let same = pairs_same _ (hand knows) (λ v w r. r.1) us vs c.collect_all.ensures.workers in
    subst (λ z. Gathers (knows c.args.first.now) z (map (hand knows) us) (map (hand knows) ws)) (sym c.tell_all.ensures.first)
    (gathers (knows c.args.first.now) k (map (hand knows) us) (map (hand knows) ws) c.collect_all.ensures.first (subst (λ l. Pairs (HasSeen k.seen) l (map (hand knows) ws)) same seen))
