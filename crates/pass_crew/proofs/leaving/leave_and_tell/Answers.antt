use Rattle.std.proofs.Common.{◌∙◌, length, map, sym, ap, subst, arith, length-append}
use Rattle.std.proofs.lemmas.List.{length-map}
use Rattle.run_order.specs.Lists.{Grew}
use Rattle.run_order.specs.Orders.{Leaves}
use Rattle.phase_pool.specs.Workers.{hand}
use Rattle.phase_pool.proofs.Runs.{all_wider}
use Rattle.pass_crew.specs.Inside.Assembled.{Assembled, IsKept}
use Rattle.pass_crew.proofs.Heard.{tells_since}
use Rattle.pass_crew.proofs.Kept.{kept_hands, kept_here}
use Rattle.pass_crew.proofs.Meetings.{assembled_of, ended_of}
use Rattle.pass_crew.proofs.leaving.leave_and_tell.Goals as goal

pub leave_all-requires-clause-assembled : goal.leave_all-requires-clause-assembled
leave_all-requires-clause-assembled g c =
    let h = c.args.crew.now in
    let s = g.C.Host.opened h in
    let knows = g.C.Host.knows in
    let kept = IsKept (g.C.Host.good h) knows (g.C.Host.tells h) in
    let xs = c.args.workers.items in
    subst (λ n. Assembled kept s n 0 (knows c.args.first.now) (map (hand knows) xs)) (length-map xs (hand knows)) (assembled_of kept s (knows c.args.first.now) (map (hand knows) xs) c.requires.together)

pub tell-requires-clause-assembled : goal.tell-requires-clause-assembled
tell-requires-clause-assembled g c = let n = length c.args.workers.items in (n, n, c.in-Ok.ensures.all)

pub tell-requires-clause-from : goal.tell-requires-clause-from
tell-requires-clause-from g c =
    let grew = c.in-Ok.ensures.leave in
    let from = c.requires.from in
    let more = ap length grew.1 in
    let long = length-append (g.C.Host.knows c.args.first.now).seen grew.0 in
    omega (arith, from, more, long)

pub returns-in-Ok-clause-ended : goal.returns-in-Ok-clause-ended
returns-in-Ok-clause-ended g c =
    let h = c.args.crew.now in
    let knows = g.C.Host.knows in
    let n = length c.args.workers.items in
    let zs = c.tell.new.workers.items in
    ended_of (c.tell.ensures.assembled n n c.in-Ok.ensures.all) n (omega arith)
    (kept_hands (g.C.Host.good h) knows (g.C.Host.tells h) zs
    (all_wider _ _ (λ w here. kept_here (g.C.Host.good h) knows (g.C.Host.tells h) w.pass (g.C.Host.here_good h w.pass here) (g.C.Host.here_tells h w.pass here)) zs c.tell.ensures.here.1))

pub returns-in-Ok-clause-leave : goal.returns-in-Ok-clause-leave
returns-in-Ok-clause-leave g c = subst (Grew (Leaves (length c.args.workers.items)) (g.C.Host.knows c.args.first.now).seen) (sym c.tell.ensures.same) c.in-Ok.ensures.leave

pub returns-in-Ok-clause-all_in : goal.returns-in-Ok-clause-all_in
returns-in-Ok-clause-all_in g c = let n = length c.args.workers.items in (c.tell.ensures.assembled n n c.in-Ok.ensures.all).front.zeroth

pub returns-in-Ok-clause-told : goal.returns-in-Ok-clause-told
returns-in-Ok-clause-told g c =
    let knows = g.C.Host.knows in
    let grew = c.in-Ok.ensures.leave in
    tells_since (knows c.args.first.now).seen (knows c.tell.new.first).seen grew.0 c.args.from (map (λ l. g.L.Listener.heard l) c.args.listeners.now) (map (λ l. g.L.Listener.heard l) c.tell.new.listeners)
    c.requires.from (c.tell.ensures.same ∙ grew.1) c.tell.ensures.told

pub returns-in-Ok-clause-gone : goal.returns-in-Ok-clause-gone
returns-in-Ok-clause-gone g c = let n = length c.args.workers.items in (c.tell.ensures.assembled n n c.in-Ok.ensures.all).absent
