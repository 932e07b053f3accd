use Rattle.std.proofs.Common.{arith}
use Rattle.tree_memory.specs.Spared.{left}
use Rattle.ws_content.proofs.Keeps.{all_back, behind_on}
use Rattle.ws_content.proofs.keeping.keep_in_save.Goals as goal

pub undo_beyond-requires : goal.undo_beyond-requires
undo_beyond-requires g c =
    let k = c.requires.known in
    let x = c.in-Err.ensures.known k.0 k.1 k.2 in
    (k.0, record (k.1) { kept = x.0 }, x.1)

pub returns-in-Err-clause-same : goal.returns-in-Err-clause-same
returns-in-Err-clause-same g c start v h =
    let x = c.in-Err.ensures.known start v h in
    all_back g.T.Remembers.number (left g.T.TreeRep.remembered c.args.tree.now) (left g.T.TreeRep.remembered c.undo_beyond.new.tree) c.args.marks.now c.undo_beyond.new.marks start v
    c.count_replaced-count.result (omega arith) c.undo_beyond.ensures.none
    (behind_on g.T.Remembers.number start c.count_replaced-count.result (left g.T.TreeRep.remembered c.args.tree.now) (left g.T.TreeRep.remembered c.keep_each.new.tree) (left g.T.TreeRep.remembered c.undo_beyond.new.tree)
    c.args.marks.now c.keep_each.new.marks c.undo_beyond.new.marks (c.in-Err.ensures.behind start c.count_replaced-count.result v h (omega arith)) (c.undo_beyond.ensures.behind start (record v { kept = x.0 }) x.1))
    h
