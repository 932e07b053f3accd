use Rattle.std.proofs.Common.{◌≡◌, ◌+◌, ◌<◌, [], length, map, sym, subst, arith, append-nil}
use Rattle.std.proofs.lemmas.List.{length-map}
use Rattle.run_order.specs.Lists.{Cut, Grew}
use Rattle.run_order.specs.Orders.{Leaves}
use Rattle.run_order.proofs.Lists.{grew_on}
use Rattle.phase_pool.specs.Workers.{hand}
use Rattle.pass_crew.specs.Passes.{Leaving}
use Rattle.pass_crew.specs.Inside.Assembled.{Assembled, IsKept}
use Rattle.pass_crew.proofs.Results.{err_holds}
use Rattle.pass_crew.proofs.Whole.{leaves_cut, leaves_more, leaves_none}
use Rattle.pass_crew.proofs.leaving.leave_all.Goals as goal

pub loop-init : goal.loop-init
loop-init g c = (c.requires.here.0, c.requires.here.1, c.requires.assembled, ([], sym (append-nil (g.C.Host.knows c.args.first.now).seen), leaves_none))

pub leave_one-requires-clause-here : goal.leave_one-requires-clause-here
leave_one-requires-clause-here g c = (c.loop.invariant.0, c.loop.invariant.1)

pub leave_one-requires-clause-some : goal.leave_one-requires-clause-some
leave_one-requires-clause-some g c =
    let e = c.loop.invariant.2.len in
    let f = length-map c.loop.workers.items (hand g.C.Host.knows) in
    let lt = c.loop-test.true in
    let end = c.len-end.ensures in
    let is = c.args.workers.now.ok.0 in
    omega (arith, e, f, lt, end, is)

pub loop-preserved : goal.loop-preserved
loop-preserved g c =
    let knows = g.C.Host.knows in
    let n = length c.args.workers.now.items in
    let m = c.loop.counter in
    let left = c.in_ok-leave_one.ensures.left n m c.loop.invariant.2 in (
      c.leave_one.ensures.here.0,
      c.leave_one.ensures.here.1,
      left.assembled,
      grew_on (Leaves m) (Leaving (m + 1)) (Leaves (m + 1)) (knows c.args.first.now).seen (knows c.loop.first).seen (knows c.leave_one.new.first).seen (leaves_more m) c.loop.invariant.3 left.grew,
    )

pub returns-in_err-leave_one-clause-ended : goal.returns-in_err-leave_one-clause-ended
returns-in_err-leave_one-clause-ended g c = err_holds c.from_residual.result (c.in_err-leave_one.ensures.left (length c.args.workers.now.items) c.loop.counter c.loop.invariant.2).ended

pub returns-in_err-leave_one-clause-some_left : goal.returns-in_err-leave_one-clause-some_left
returns-in_err-leave_one-clause-some_left g c =
    let some = (c.in_err-leave_one.ensures.left (length c.args.workers.now.items) c.loop.counter c.loop.invariant.2).some in
    err_holds c.from_residual.result (subst (λ n. 0 < n) (length-map c.leave_one.new.workers.items (hand g.C.Host.knows)) some)

pub returns-in_err-leave_one-clause-cut : goal.returns-in_err-leave_one-clause-cut
returns-in_err-leave_one-clause-cut g c =
    let knows = g.C.Host.knows in
    let n = length c.args.workers.now.items in
    let m = c.loop.counter in
    let left = c.in_err-leave_one.ensures.left n m c.loop.invariant.2 in
    let lt = c.loop-test.true in
    let end = c.len-end.ensures in
    let is = c.args.workers.now.ok.0 in
    err_holds c.from_residual.result
    (grew_on (Leaves m) (Cut (Leaving (m + 1))) (Cut (Leaves n)) (knows c.args.first.now).seen (knows c.loop.first).seen (knows c.leave_one.new.first).seen
    (λ a b p q. leaves_cut m n a b (omega (arith, lt, end, is)) p q) c.loop.invariant.3 left.grew)

pub returns-clause-all : goal.returns-clause-all
returns-clause-all g c =
    let knows = g.C.Host.knows in
    let h = c.args.crew.now in
    let n = length c.args.workers.now.items in
    let a = c.loop.invariant.2 in
    let e = a.len in
    let over = c.loop-test.false in
    let end = c.len-end.ensures in
    let is = c.args.workers.now.ok.0 in
    let same : c.loop.counter ≡ n = omega (arith, e, over, end, is) in
    subst (λ m. Assembled (IsKept (g.C.Host.good h) knows (g.C.Host.tells h)) (g.C.Host.opened h) n m (knows c.loop.first) (map (hand knows) c.loop.workers.items)) same a

pub returns-clause-leave : goal.returns-clause-leave
returns-clause-leave g c =
    let knows = g.C.Host.knows in
    let n = length c.args.workers.now.items in
    let e = c.loop.invariant.2.len in
    let over = c.loop-test.false in
    let end = c.len-end.ensures in
    let is = c.args.workers.now.ok.0 in
    let same : c.loop.counter ≡ n = omega (arith, e, over, end, is) in
    subst (λ m. Grew (Leaves m) (knows c.args.first.now).seen (knows c.loop.first).seen) same c.loop.invariant.3
