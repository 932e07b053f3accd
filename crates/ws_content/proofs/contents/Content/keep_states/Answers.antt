use Rattle.std.proofs.Common.{◌∙◌, refl}
use Rattle.op_kind.specs.Resources.{resources}
use Rattle.tree_memory.specs.Spared.{left}
use Rattle.ws_content.specs.States.{Remembered}
use Rattle.ws_content.specs.Saves.{states_kept}
use Rattle.ws_content.specs.Inside.Held.{seen}
use Rattle.ws_content.specs.Inside.Parts.{contents}
use Rattle.ws_content.proofs.Calls.{held_after, on_not}
use Rattle.ws_content.proofs.contents.Content.keep_states.Goals as goal

pub keep_states-requires : goal.keep_states-requires
keep_states-requires g c =
    let i = c.self.inside in
    let start = g.T.Remembers.number i.start in
    (start, seen g.T.Remembers.number start (left g.T.TreeRep.remembered i.tree) i.marks, record { held = c.self.invariant; seen = refl })

pub invariant_of-self : goal.invariant_of-self
invariant_of-self g c =
    let i = c.self.inside in
    let done = c.keep_states in
    held_after g.T.Remembers.number (g.T.Remembers.number i.start) done.result (left g.T.TreeRep.remembered i.tree) (left g.T.TreeRep.remembered done.new.tree) i.marks done.new.marks
    (λ v. states_kept (g.T.TreeRep.tree i.tree.tree) v c.as_slice-states.result.now) done.ensures.holds done.ensures.same c.self.invariant

pub returns-clause-err : goal.returns-clause-err
returns-clause-err g c =
    let i = c.self.inside in
    let start = g.T.Remembers.number i.start in
    let v : Remembered = seen g.T.Remembers.number start (left g.T.TreeRep.remembered i.tree) i.marks in
    on_not c.keep_states.result (λ same. (λ j. contents (resources (c.keep_states.ensures.tree j) i.side) ((same start v (record { held = c.self.invariant; seen = refl })).seen j)) ∙ c.self.view_is) c.keep_states.ensures.same
