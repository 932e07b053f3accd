use Rattle.std.proofs.Common.{ℕ, ◌∙◌, refl, sym, subst}
use Rattle.std.specs.Prelude.{Option}
use Rattle.ws_elem.specs.Trees.{Tree}
use Rattle.tree_memory.specs.Spared.{left}
use Rattle.ws_marks.specs.declared.record.Record.{Record}
use Rattle.ws_marks.specs.Places.{place_of}
use Rattle.ws_content.specs.Inside.Held.{Holds}
use Rattle.ws_content.proofs.Begun.{recorded_so}
use Rattle.ws_content.proofs.Steps.{grown, put, taken_there}
use Rattle.ws_content.proofs.opening.add.Goals as goal

pub give_up_built-requires : goal.give_up_built-requires
give_up_built-requires g c =
    let r : Record g.row.T-Memory.Denot = record { project = c.in_ok-project.project; index = c.args.built.now.index; command = c.in_ok-command.command; references = c.in_ok-references.references; tree = c.in_ok-memory.memory } in
    let number = g.T.Remembers.number in
    let f = left g.T.TreeRep.remembered c.lead.new.tree in
    let on = left g.T.TreeRep.remembered c.remember.new.self in
    let now : Holds number c.requires.known.0 f c.args.marks.now c.requires.known.1 =
    subst (λ (x : ℕ → Option Tree). Holds number c.requires.known.0 x c.args.marks.now c.requires.known.1) (sym c.in_ok-lead.ensures.remembered) c.requires.known.2 in
    taken_there number on c.args.marks.now (place_of r) c.in_ok-before.before c.in_ok-before.ensures.before
    (c.requires.known.0, c.requires.known.1, grown number f on c.args.marks.now (number c.in_ok-memory.memory) c.in_ok-memory.ensures.fresh c.in_ok-memory.ensures.others c.requires.known.0 c.requires.known.1 now)

pub returns-clause-holds : goal.returns-clause-holds
returns-clause-holds g c start v h =
    let r : Record g.row.T-Memory.Denot = record { project = c.in_ok-project.project; index = c.args.built.now.index; command = c.in_ok-command.command; references = c.in_ok-references.references; tree = c.in_ok-memory.memory } in
    let number = g.T.Remembers.number in
    let f = left g.T.TreeRep.remembered c.lead.new.tree in
    let t = g.T.TreeRep.tree c.lead.new.tree.tree in
    let m = c.in_ok-memory.ensures in
    let now : Holds number start f c.args.marks.now v = subst (λ (x : ℕ → Option Tree). Holds number start x c.args.marks.now v) (sym c.in_ok-lead.ensures.remembered) h in
    subst (Holds number start (left g.T.TreeRep.remembered c.give_up_built.new.tree) c.set_built.new.self)
    (recorded_so r c.args.built.now t v c.in_ok-project.ensures refl c.in_ok-command.ensures c.in_ok-references.ensures c.in_ok-lead.ensures.tree)
    (put number f (left g.T.TreeRep.remembered c.remember.new.self) (left g.T.TreeRep.remembered c.give_up_built.new.tree)
    c.args.marks.now c.set_built.new.self r c.in_ok-before.before t m.fresh m.own m.others c.in_ok-before.ensures.before c.in_ok-before.ensures.ok c.give_up_built.ensures.others start v now)

pub returns-clause-tree : goal.returns-clause-tree
returns-clause-tree g c = c.give_up_built.ensures.tree ∙ c.in_ok-memory.ensures.tree ∙ c.in_ok-lead.ensures.tree
