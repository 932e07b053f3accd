use Rattle.std.proofs.Common.{refl}
use Rattle.tree_memory.specs.Spared.{left}
use Rattle.ws_content.specs.Inside.Held.{seen}
use Rattle.ws_content.proofs.contents.Content.end_save.Goals as goal

pub end_save-requires : goal.end_save-requires
end_save-requires g c =
    let i = c.self.inside in
    let start = g.T.Remembers.number i.start in
    (start, seen g.T.Remembers.number start (left g.T.TreeRep.remembered i.tree) i.marks, record { held = c.self.invariant; seen = refl })

pub invariant_of-self : goal.invariant_of-self
invariant_of-self g c =
    let i = c.self.inside in
    let start = g.T.Remembers.number i.start in
    (c.end_save.ensures.holds start (seen g.T.Remembers.number start (left g.T.TreeRep.remembered i.tree) i.marks) (record { held = c.self.invariant; seen = refl })).held
