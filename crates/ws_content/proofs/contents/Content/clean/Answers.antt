use Rattle.std.proofs.Common.{◌∙◌, refl}
use Rattle.std.specs.FinMap.{remove}
use Rattle.tree_memory.specs.Spared.{left}
use Rattle.ws_content.specs.States.{Remembered, with_built}
use Rattle.ws_content.specs.Inside.Held.{seen}
use Rattle.ws_content.specs.Inside.Parts.{contents}
use Rattle.ws_content.specs.Deeds.{kept_if}
use Rattle.ws_content.proofs.Calls.{held_after, not_both}
use Rattle.ws_content.proofs.contents.Content.clean.Goals as goal

pub clean-requires : goal.clean-requires
clean-requires g c =
    let i = c.self.inside in
    let start = g.T.Remembers.number i.start in
    (start, seen g.T.Remembers.number start (left g.T.TreeRep.remembered i.tree) i.marks, record { held = c.self.invariant; seen = refl })

pub invariant_of-self : goal.invariant_of-self
invariant_of-self g c =
    let i = c.self.inside in
    held_after g.T.Remembers.number (g.T.Remembers.number i.start) c.clean.result (left g.T.TreeRep.remembered i.tree) (left g.T.TreeRep.remembered c.clean.new.tree) i.marks c.clean.new.marks
    (λ v. kept_if c.args.tells (g.T.TreeRep.tree c.clean.new.tree.tree) (with_built v (remove v.built (c.args.site.now.project, c.args.site.now.index)))) c.clean.ensures.holds c.clean.ensures.kept c.self.invariant

pub returns-clause-err : goal.returns-clause-err
returns-clause-err g c =
    let i = c.self.inside in
    let start = g.T.Remembers.number i.start in
    let v : Remembered = seen g.T.Remembers.number start (left g.T.TreeRep.remembered i.tree) i.marks in
    not_both c.clean.result (λ same kept. (λ j. contents (same j) ((kept start v (record { held = c.self.invariant; seen = refl })).seen j)) ∙ c.self.view_is) c.clean.ensures.same c.clean.ensures.kept
