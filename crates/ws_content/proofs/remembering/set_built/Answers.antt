use Rattle.std.proofs.Common.{sym, subst}
use Rattle.tree_memory.specs.Spared.{left}
use Rattle.ws_marks.specs.Marked.{Marked}
use Rattle.ws_marks.specs.Places.{place_of}
use Rattle.ws_content.specs.Inside.Held.{Holds, IsReady}
use Rattle.ws_content.proofs.Steps.{grown, grown_waits, on_failed, put, put_ready, recorded, taken_there}
use Rattle.ws_content.proofs.remembering.set_built.Goals as goal

pub returns-in_err-before-clause-same : goal.returns-in_err-before-clause-same
returns-in_err-before-clause-same g c = on_failed c.from_residual-in_err-before.result c.from_residual-in_err-before.ensures.0 (λ start v h.
    subst (λ (m : Marked g.row.T-Memory.Denot). Holds g.T.Remembers.number start (left g.T.TreeRep.remembered c.record_now.new.tree) m v) (sym c.in_err-before.ensures.err)
    (grown g.T.Remembers.number (left g.T.TreeRep.remembered c.args.tree.now) (left g.T.TreeRep.remembered c.record_now.new.tree) c.args.marks.now
    (g.T.Remembers.number c.in_ok-record.record.tree) c.in_ok-record.ensures.fresh c.in_ok-record.ensures.others start v h))

pub returns-in_err-before-clause-ready : goal.returns-in_err-before-clause-ready
returns-in_err-before-clause-ready g c start v t tells told h ready =
    subst (λ (m : Marked g.row.T-Memory.Denot). IsReady g.T.Remembers.number start (left g.T.TreeRep.remembered c.record_now.new.tree) m t tells told) (sym c.in_err-before.ensures.err)
    (grown_waits g.T.Remembers.number (left g.T.TreeRep.remembered c.args.tree.now) (left g.T.TreeRep.remembered c.record_now.new.tree) c.args.marks.now
    (g.T.Remembers.number c.in_ok-record.record.tree) c.in_ok-record.ensures.fresh c.in_ok-record.ensures.others start t tells told ready)

pub give_up_built-requires : goal.give_up_built-requires
give_up_built-requires g c =
    let r = c.in_ok-record.ensures in
    let f = left g.T.TreeRep.remembered c.args.tree.now in
    let on = left g.T.TreeRep.remembered c.record_now.new.tree in
    taken_there g.T.Remembers.number on c.args.marks.now (place_of c.in_ok-record.record) c.in_ok-before.before c.in_ok-before.ensures.before
    (c.requires.0, c.requires.1, grown g.T.Remembers.number f on c.args.marks.now (g.T.Remembers.number c.in_ok-record.record.tree) r.fresh r.others c.requires.0 c.requires.1 c.requires.2)

pub returns-clause-holds : goal.returns-clause-holds
returns-clause-holds g c start v h =
    let r = c.in_ok-record.ensures in
    let t = g.T.TreeRep.tree c.args.tree.now.tree in
    subst (Holds g.T.Remembers.number start (left g.T.TreeRep.remembered c.give_up_built.new.tree) c.set_built.new.self)
    (recorded c.in_ok-record.record c.args.site.now t v r.project r.index r.command r.references)
    (put g.T.Remembers.number (left g.T.TreeRep.remembered c.args.tree.now) (left g.T.TreeRep.remembered c.record_now.new.tree) (left g.T.TreeRep.remembered c.give_up_built.new.tree)
    c.args.marks.now c.set_built.new.self c.in_ok-record.record c.in_ok-before.before t r.fresh r.own r.others c.in_ok-before.ensures.before c.in_ok-before.ensures.ok c.give_up_built.ensures.others start v h)

pub returns-clause-ready : goal.returns-clause-ready
returns-clause-ready g c start v u tells told h ready =
    let r = c.in_ok-record.ensures in
    put_ready g.T.Remembers.number (left g.T.TreeRep.remembered c.args.tree.now) (left g.T.TreeRep.remembered c.record_now.new.tree) (left g.T.TreeRep.remembered c.give_up_built.new.tree)
    c.args.marks.now c.set_built.new.self c.in_ok-record.record c.in_ok-before.before (g.T.TreeRep.tree c.args.tree.now.tree) r.fresh r.own r.others
    c.in_ok-before.ensures.before c.in_ok-before.ensures.ok c.give_up_built.ensures.others start v u tells told h ready
