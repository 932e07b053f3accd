use Rattle.std.proofs.Common.{sym, subst}
use Rattle.tree_memory.specs.Spared.{left}
use Rattle.ws_content.specs.Saves.{kept_before, save_ended}
use Rattle.ws_content.specs.Inside.Held.{Holds}
use Rattle.ws_content.proofs.Keeps.{begin_back}
use Rattle.ws_content.proofs.keeping.end_save.Goals as goal

pub returns-then-saved-clause-holds : goal.returns-then-saved-clause-holds
returns-then-saved-clause-holds g c start v h =
    subst (λ b. Holds g.T.Remembers.number start (left g.T.TreeRep.remembered c.close.new.tree) c.close.new.marks (save_ended b v)) (sym c.if-saved.true) (c.close.ensures.holds start v h)

pub close-requires-2 : goal.close-requires-2
close-requires-2 g c =
    let k = c.requires in
    let x = c.undo_beyond.ensures.holds k.0 k.1 k.2 in
    (k.0, record (k.1) { kept = x.0 }, x.1)

pub returns-clause-holds : goal.returns-clause-holds
returns-clause-holds g c start v h =
    let x = c.undo_beyond.ensures.holds start v h in
    let back = begin_back g.T.Remembers.number (left g.T.TreeRep.remembered c.args.tree.now) (left g.T.TreeRep.remembered c.undo_beyond.new.tree) c.args.marks.now c.undo_beyond.new.marks start v
    c.undo_beyond.ensures.none (c.undo_beyond.ensures.behind start v h) h (x.0) x.1 in
    subst (λ b. Holds g.T.Remembers.number start (left g.T.TreeRep.remembered c.close-2.new.tree) c.close-2.new.marks (save_ended b v)) (sym c.if-saved.false)
    (c.close-2.ensures.holds start (record v { kept = kept_before v }) back)
