use Rattle.std.proofs.Common.{sym, ap, ◌∙◌, [], arith}
use Rattle.ws_locked.proofs.Gathered.{drop_past, gathered, gathered_is}
use Rattle.ws_locked.proofs.telling.told_from.Goals as goal

pub returns : goal.returns
returns c =
    sym (ap (gathered (c.loop-entry.told.items, c.loop-entry.skip)) (drop_past c.loop-entry.entry-index c.args.entries.now (omega (arith, c.loop-entry-test.false))))
    ∙ (c.loop-entry.invariant ∙ gathered_is [] c.args.from c.args.entries.now)
