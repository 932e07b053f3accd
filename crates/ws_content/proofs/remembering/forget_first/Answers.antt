use Rattle.std.proofs.Common.{sym, ap, subst, ◌∙◌, ◌<◌}
use Rattle.std.specs.FinMap.{len}
use Rattle.tree_memory.specs.Spared.{left}
use Rattle.ws_marks.specs.Marked.{Marked, first_from}
use Rattle.ws_marks.specs.Places.{place_of}
use Rattle.ws_content.proofs.Forgotten.{fewer_left}
use Rattle.ws_content.proofs.Holding.{built_used}
use Rattle.ws_content.proofs.Steps.{first_taken, none_left, none_taken}
use Rattle.ws_content.proofs.remembering.forget_first.Goals as goal

pub give_up-requires : goal.give_up-requires
give_up-requires g c =
    c.requires.2.held.there (g.T.Remembers.number c.in-Some.record.tree) (built_used g.T.Remembers.number c.requires.0 c.args.marks.now (place_of c.in-Some.record) c.in-Some.record c.in-Some.ensures.own)

pub returns-in-None-clause-holds : goal.returns-in-None-clause-holds
returns-in-None-clause-holds g c =
    none_taken g.T.Remembers.number (left g.T.TreeRep.remembered c.args.tree.now) c.args.marks.now c.take_built.new.self c.args.project.now c.args.from c.in-None.ensures.rest

pub returns-in-None-clause-none : goal.returns-in-None-clause-none
returns-in-None-clause-none g c e =
    none_left g.T.Remembers.number (left g.T.TreeRep.remembered c.args.tree.now) c.take_built.new.self c.args.project.now c.args.from
    (ap (λ (m : Marked g.row.T-Memory.Denot). first_from m.built c.args.project.now c.args.from) c.in-None.ensures.rest ∙ sym c.in-None.ensures.first)

pub returns-in-Some-clause-holds : goal.returns-in-Some-clause-holds
returns-in-Some-clause-holds g c =
    first_taken g.T.Remembers.number (left g.T.TreeRep.remembered c.args.tree.now) (left g.T.TreeRep.remembered c.give_up.new.self) c.args.marks.now c.take_built.new.self
    c.in-Some.record c.args.project.now c.args.from c.in-Some.ensures.own c.in-Some.ensures.rest c.in-Some.ensures.one c.give_up.ensures.others

pub returns-in-Some-clause-fewer : goal.returns-in-Some-clause-fewer
returns-in-Some-clause-fewer g c e =
    subst (λ (m : Marked g.row.T-Memory.Denot). len m.built < len c.args.marks.now.built) (sym c.in-Some.ensures.rest)
    (fewer_left c.args.marks.now.built (place_of c.in-Some.record) c.in-Some.record c.in-Some.ensures.own)
