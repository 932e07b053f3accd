use Rattle.std.proofs.Common.{◌≡◌, true, ◌∙◌, refl, subst}
use Rattle.std.specs.Prelude.{IfOk}
use Rattle.op_kind.specs.Resources.{Resources, resources}
use Rattle.tree_memory.specs.Spared.{left}
use Rattle.core_event.specs.Twice.{doubled}
use Rattle.ws_content.specs.States.{Remembered}
use Rattle.ws_content.specs.Inside.Held.{seen}
use Rattle.ws_content.specs.Inside.Parts.{contents}
use Rattle.ws_content.specs.Deeds.{kept_if, replied}
use Rattle.ws_content.proofs.Calls.{held_after, if_both, on_not, seen_after}
use Rattle.ws_content.proofs.contents.Content.tell.Goals as goal

pub tell-requires : goal.tell-requires
tell-requires g c =
    let i = c.self.inside in
    let start = g.T.Remembers.number i.start in
    (start, seen g.T.Remembers.number start (left g.T.TreeRep.remembered i.tree) i.marks, record { held = c.self.invariant; seen = refl })

pub invariant_of-self : goal.invariant_of-self
invariant_of-self g c =
    let i = c.self.inside in
    held_after g.T.Remembers.number (g.T.Remembers.number i.start) c.tell.result (left g.T.TreeRep.remembered i.tree) (left g.T.TreeRep.remembered c.tell.new.tree) i.marks c.tell.new.marks
    (λ v. kept_if true (g.T.TreeRep.tree i.tree.tree) v) c.tell.ensures.holds c.tell.ensures.kept c.self.invariant

pub returns-clause-ok : goal.returns-clause-ok
returns-clause-ok g c =
    let i = c.self.inside in
    let done = c.tell in
    let start = g.T.Remembers.number i.start in
    let t = g.T.TreeRep.tree i.tree.tree in
    let v : Remembered = seen g.T.Remembers.number start (left g.T.TreeRep.remembered i.tree) i.marks in
    let u : Remembered = seen g.T.Remembers.number start (left g.T.TreeRep.remembered done.new.tree) done.new.marks in
    let q : Resources = resources (g.T.TreeRep.tree done.new.tree.tree) i.side in
    subst (λ z. IfOk done.result (λ x. (contents q u, x) ≡ doubled c.args.wants_copy (replied true (z, c.args.answer)))) c.self.view_is
    (if_both done.result (λ holds x reply.
    let after = seen_after g.T.Remembers.number start (left g.T.TreeRep.remembered i.tree) (left g.T.TreeRep.remembered done.new.tree) i.marks done.new.marks (λ v. kept_if true t v) holds c.self.invariant in
    let told = reply start v (record { held = c.self.invariant; seen = refl }) in
    λ j. (contents (resources (done.ensures.tree j) i.side) (after j), told j)) done.ensures.holds done.ensures.reply)

pub returns-clause-err : goal.returns-clause-err
returns-clause-err g c =
    let i = c.self.inside in
    let start = g.T.Remembers.number i.start in
    let v : Remembered = seen g.T.Remembers.number start (left g.T.TreeRep.remembered i.tree) i.marks in
    on_not c.tell.result (λ kept. (λ j. contents (resources (c.tell.ensures.tree j) i.side) ((kept start v (record { held = c.self.invariant; seen = refl })).seen j)) ∙ c.self.view_is) c.tell.ensures.kept
