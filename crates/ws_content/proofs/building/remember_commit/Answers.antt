use Rattle.std.proofs.Common.{subst}
use Rattle.tree_memory.specs.Spared.{left}
use Rattle.std.specs.FinMap.{insert}
use Rattle.ws_content.specs.States.{with_built}
use Rattle.ws_content.specs.Deeds.{kept_if, record_of}
use Rattle.ws_content.specs.Inside.Held.{Holds}
use Rattle.ws_content.proofs.Steps.{abandoned, ready_there}
use Rattle.ws_content.proofs.building.remember_commit.Goals as goal

pub set_built-requires : goal.set_built-requires
set_built-requires g c = (c.requires.0, c.requires.1, c.in_ok-replied.ensures.holds c.requires.0 c.requires.1 c.requires.2)

pub settle-requires : goal.settle-requires
settle-requires g c =
    let s = c.args.site.now in (
      c.requires.0,
      with_built (c.requires.1) (insert c.requires.1.built (s.project, s.index) (record_of s (g.T.TreeRep.tree c.prepare.new.tree.tree))),
      c.in-Ok.ensures.holds c.requires.0 c.requires.1 (c.in_ok-replied.ensures.holds c.requires.0 c.requires.1 c.requires.2),
    )

pub give_up_if-requires : goal.give_up_if-requires
give_up_if-requires g c =
    let k = c.requires in
    let t = g.T.TreeRep.tree c.args.tree.now.tree in
    ready_there g.T.Remembers.number (left g.T.TreeRep.remembered c.set_built.new.tree) c.set_built.new.marks c.in_ok-replied.field-0.told k.0 t c.args.tells
    (c.in-Err.ensures.ready k.0 k.1 t c.args.tells c.in_ok-replied.field-0.told (c.in_ok-replied.ensures.holds k.0 k.1 k.2) (c.in_ok-replied.ensures.ready k.0 k.1 k.2))

pub returns-in-Ok-clause-holds : goal.returns-in-Ok-clause-holds
returns-in-Ok-clause-holds g c start v h =
    let s = c.args.site.now in
    let t = g.T.TreeRep.tree c.args.tree.now.tree in
    let on = c.in_ok-replied.ensures.holds start v h in
    subst (λ u. Holds g.T.Remembers.number start (left g.T.TreeRep.remembered c.settle.new.tree) c.settle.new.marks
    (kept_if c.args.tells t (with_built v (insert v.built (s.project, s.index) (record_of s u))))) c.in_ok-replied.ensures.tree
    (c.settle.ensures.holds start (with_built v (insert v.built (s.project, s.index) (record_of s (g.T.TreeRep.tree c.prepare.new.tree.tree)))) t c.args.tells
    (c.in-Ok.ensures.holds start v on) (c.in-Ok.ensures.ready start v t c.args.tells c.in_ok-replied.field-0.told on (c.in_ok-replied.ensures.ready start v h)))

pub returns-in-Err-clause-kept : goal.returns-in-Err-clause-kept
returns-in-Err-clause-kept g c start v h =
    let t = g.T.TreeRep.tree c.args.tree.now.tree in
    let on = c.in_ok-replied.ensures.holds start v h in
    abandoned g.T.Remembers.number (left g.T.TreeRep.remembered c.set_built.new.tree) (left g.T.TreeRep.remembered c.give_up_if.new.tree) c.set_built.new.marks c.in_ok-replied.field-0.told
    c.give_up_if.ensures.others start v t c.args.tells (c.in-Err.ensures.same start v on)
    (c.in-Err.ensures.ready start v t c.args.tells c.in_ok-replied.field-0.told on (c.in_ok-replied.ensures.ready start v h))
