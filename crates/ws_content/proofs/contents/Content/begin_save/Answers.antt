use Rattle.std.proofs.Common.{sym, subst}
use Rattle.tree_memory.specs.Spared.{left}
use Rattle.ws_marks.specs.Marked.{Marked}
use Rattle.ws_content.specs.Inside.Held.{AreHeld}
use Rattle.ws_content.proofs.contents.Content.begin_save.Goals as goal

pub invariant_of-self : goal.invariant_of-self
invariant_of-self g c =
    let i = c.self.inside in
    subst (λ (m : Marked g.row.T-Memory.Denot). AreHeld g.T.Remembers.number (g.T.Remembers.number i.start) (left g.T.TreeRep.remembered i.tree) m) (sym c.begin_save.ensures) c.self.invariant
