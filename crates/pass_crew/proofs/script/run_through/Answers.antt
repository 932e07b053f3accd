use Rattle.std.proofs.Common.{◌∙◌, ◌<◌, inl, inr, length, map, sym, ap, subst, arith}
use Rattle.std.proofs.lemmas.List.{length-map}
use Rattle.run_order.specs.Lists.{Cut, Grew}
use Rattle.run_order.specs.Orders.{Leaves}
use Rattle.phase_pool.specs.Workers.{hand}
use Rattle.phase_pool.proofs.Results.{err_at, err_on, ok_at, ok_on}
use Rattle.phase_pool.proofs.Runs.{all_wider}
use Rattle.pass_crew.specs.Ends.{NoneIsThere}
use Rattle.pass_crew.specs.Inside.Assembled.{Ended, IsKept}
use Rattle.pass_crew.proofs.Heard.{tells_on, tells_stop}
use Rattle.pass_crew.proofs.Kept.{kept_hands, kept_here}
use Rattle.pass_crew.proofs.Meetings.{assembled_of, ended_of}
use Rattle.pass_crew.proofs.Results.{err_both, of_ok}
use Rattle.pass_crew.proofs.script.run_through.Goals as goal

pub leave_and_tell-requires-clause-from : goal.leave_and_tell-requires-clause-from
leave_and_tell-requires-clause-from g c = of_ok _ c.run_each-workers.result.1 _ c.in-Ok.is c.run_each-workers.ensures.counted

pub returns-in-Ok-clause-ended : goal.returns-in-Ok-clause-ended
returns-in-Ok-clause-ended g c =
    let h = c.args.crew.now in
    let knows = g.C.Host.knows in
    subst (λ n. Ended (IsKept (g.C.Host.good h) knows (g.C.Host.tells h)) n (knows c.leave_and_tell.new.first) (map (hand knows) c.leave_and_tell.result.0.items)) c.run_each-workers.ensures.len c.leave_and_tell.ensures.ended

pub returns-in-Ok-clause-whole : goal.returns-in-Ok-clause-whole
returns-in-Ok-clause-whole g c =
    let knows = g.C.Host.knows in
    let front = (knows c.run_each-workers.new.first).seen in
    ok_on c.leave_and_tell.result.1
    (λ left. (front, ok_at c.run_each-workers.result.1 _ c.in-Ok.is c.run_each-workers.ensures.whole, subst (λ n. Grew (Leaves n) front (knows c.leave_and_tell.new.first).seen) c.run_each-workers.ensures.len left))
    c.leave_and_tell.ensures.leave

pub returns-in-Ok-clause-all_in : goal.returns-in-Ok-clause-all_in
returns-in-Ok-clause-all_in g c = ok_on c.leave_and_tell.result.1 (λ all. all ∙ c.run_each-workers.ensures.len) c.leave_and_tell.ensures.all_in

pub returns-in-Ok-clause-told : goal.returns-in-Ok-clause-told
returns-in-Ok-clause-told g c =
    let knows = g.C.Host.knows in
    let heard = map (λ l. g.L.Listener.heard l) in
    ok_on c.leave_and_tell.result.1
    (λ told. tells_on (knows c.args.first.now).seen (knows c.run_each-workers.new.first).seen (knows c.leave_and_tell.new.first).seen (heard c.args.listeners.now) (heard c.run_each-workers.new.listeners) (heard c.leave_and_tell.new.listeners)
    (ok_at c.run_each-workers.result.1 _ c.in-Ok.is c.run_each-workers.ensures.told) told) c.leave_and_tell.ensures.told

pub returns-in-Ok-clause-cut : goal.returns-in-Ok-clause-cut
returns-in-Ok-clause-cut g c =
    let knows = g.C.Host.knows in
    let front = (knows c.run_each-workers.new.first).seen in
    err_on c.leave_and_tell.result.1
    (λ left. inr (front, ok_at c.run_each-workers.result.1 _ c.in-Ok.is c.run_each-workers.ensures.whole, subst (λ n. Grew (Cut (Leaves n)) front (knows c.leave_and_tell.new.first).seen) c.run_each-workers.ensures.len left))
    c.leave_and_tell.ensures.cut

pub returns-in-Ok-clause-told_some : goal.returns-in-Ok-clause-told_some
returns-in-Ok-clause-told_some g c =
    let knows = g.C.Host.knows in
    let heard = map (λ l. g.L.Listener.heard l) in
    err_both c.leave_and_tell.result.1
    (λ left quiet. tells_stop (knows c.args.first.now).seen (knows c.run_each-workers.new.first).seen (knows c.leave_and_tell.new.first).seen left.0 (heard c.args.listeners.now) (heard c.run_each-workers.new.listeners) (heard c.leave_and_tell.new.listeners)
    (ok_at c.run_each-workers.result.1 _ c.in-Ok.is c.run_each-workers.ensures.told) left.1 (ap heard quiet)) c.leave_and_tell.ensures.cut c.leave_and_tell.ensures.quiet

pub returns-in-Err-clause-ended : goal.returns-in-Err-clause-ended
returns-in-Err-clause-ended g c =
    let h = c.args.crew.now in
    let knows = g.C.Host.knows in
    let f = hand knows in
    let kept = IsKept (g.C.Host.good h) knows (g.C.Host.tells h) in
    let zs = c.run_each-workers.result.0.items in
    let e = length-map zs f in
    let d = c.run_each-workers.ensures.len in
    ended_of (assembled_of kept (g.C.Host.opened h) (knows c.run_each-workers.new.first) (map f zs) c.run_each-workers.ensures.together) (length c.args.workers.items) (omega (arith, e, d))
    (kept_hands (g.C.Host.good h) knows (g.C.Host.tells h) zs
    (all_wider _ _ (λ w here. kept_here (g.C.Host.good h) knows (g.C.Host.tells h) w.pass (g.C.Host.here_good h w.pass here) (g.C.Host.here_tells h w.pass here)) zs c.run_each-workers.ensures.here.1))

pub returns-in-Err-clause-cut : goal.returns-in-Err-clause-cut
returns-in-Err-clause-cut g c = inl (err_at c.run_each-workers.result.1 _ c.in-Err.is c.run_each-workers.ensures.cut)

pub returns-in-Err-clause-some_left : goal.returns-in-Err-clause-some_left
returns-in-Err-clause-some_left g c = subst (λ n. 0 < n) (sym c.run_each-workers.ensures.len) c.requires.some

pub returns-in-Err-clause-told_some : goal.returns-in-Err-clause-told_some
returns-in-Err-clause-told_some g c = err_at c.run_each-workers.result.1 _ c.in-Err.is c.run_each-workers.ensures.told_some

pub returns-in-Ok-clause-gone : goal.returns-in-Ok-clause-gone
returns-in-Ok-clause-gone g c = ok_on c.leave_and_tell.result.1
    (λ none. subst (λ n. NoneIsThere n (g.C.Host.opened c.args.crew.now) (g.C.Host.knows c.leave_and_tell.new.first).seen) c.run_each-workers.ensures.len none) c.leave_and_tell.ensures.gone
