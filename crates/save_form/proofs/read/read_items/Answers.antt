use Rattle.std.proofs.Common.{◌≡◌, None}
use Rattle.std.specs.Option.{option_copied}
use Rattle.std.proofs.lemmas.Result.{err_from_is_err_and}
use Rattle.save_form.specs.Lists.{read_each}
use Rattle.save_form.proofs.Loop.{last, goes_on, gets_stuck, is_done}
use Rattle.save_form.proofs.read.read_items.Goals as goal

pub returns-in_err-next : goal.returns-in_err-next
returns-in_err-next g c =
    let item = g.R.Item.form c.args.item.now in
    let p = err_from_is_err_and c.from_residual.result c.from_residual.ensures.1 in
    let same : option_copied c.last.result ≡ last c.loop.items.items = rw (← c.deref.ensures.value) c.last.ensures.value in
    rw (p.1, p.2) (gets_stuck item c.in_err-next.field-0.0 c.loop.items.items c.args.count c.loop.counter c.loop.input (option_copied c.last.result) (read_each item c.args.count None c.args.input.now) c.loop-test.true same c.in_err-next.ensures c.loop.invariant)

pub loop-preserved : goal.loop-preserved
loop-preserved g c =
    let item = g.R.Item.form c.args.item.now in
    let same : option_copied c.last.result ≡ last c.loop.items.items = rw (← c.deref.ensures.value) c.last.ensures.value in
    rw c.in_ok-push.ensures.items (goes_on item c.loop.items.items c.args.count c.loop.counter c.loop.input c.read.new.input c.in_ok-next.next (option_copied c.last.result) (read_each item c.args.count None c.args.input.now) c.loop-test.true same c.in_ok-next.ensures c.loop.invariant)

pub returns : goal.returns
returns g c = let done = is_done (g.R.Item.form c.args.item.now) c.loop.items.items c.args.count c.loop.counter c.loop.input (read_each (g.R.Item.form c.args.item.now) c.args.count None c.args.input.now) c.loop-test.false c.loop.invariant in
    rw c.of.ensures done
