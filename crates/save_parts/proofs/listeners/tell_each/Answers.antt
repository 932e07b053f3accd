use Rattle.std.proofs.Common.{◌∷◌, [], arith}
use Rattle.save_parts.specs.Heard.{heard_more}
use Rattle.save_parts.proofs.Told.{told_none, told_next, told_all, same_length}
use Rattle.save_parts.proofs.listeners.tell_each.Goals as goal

pub loop-at-init : goal.loop-at-init
loop-at-init g c = told_none g.L.Listener.heard (heard_more (c.args.delta.now ∷ [])) c.args.all.now.items

pub loop-at-preserved : goal.loop-at-preserved
loop-at-preserved g c =
    let same = same_length g.L.Listener.heard (heard_more (c.args.delta.now ∷ [])) c.loop-at.at c.args.all.now.items c.loop-at.all.items c.loop-at.invariant in
    told_next g.L.Listener.heard (heard_more (c.args.delta.now ∷ [])) c.loop-at.at c.args.all.now.items c.loop-at.all.items c.tell_one.new.one c.index_mut.result.now
    (omega (arith, c.loop-at-test.true, same, c.len-at-end.ensures, c.args.all.now.ok.0))
    (rw (← c.index_mut.ensures.value) c.tell_one.ensures) c.loop-at.invariant

pub returns : goal.returns
returns g c =
    told_all g.L.Listener.heard (heard_more (c.args.delta.now ∷ [])) c.loop-at.at c.args.all.now.items c.loop-at.all.items (omega (arith, c.loop-at-test.false, c.len-at-end.ensures, c.args.all.now.ok.0)) c.loop-at.invariant
