use Rattle.std.proofs.Common.{◌≡◌, true, ◌∙◌, ap, refl, subst, sym}
use Rattle.std.specs.Prelude.{IfOk}
use Rattle.std.specs.Option.{option_map}
use Rattle.op_kind.specs.Resources.{Resources, resources}
use Rattle.tree_memory.specs.Spared.{left}
use Rattle.core_event.specs.Twice.{doubled, twice}
use Rattle.ws_content.specs.States.{Contents, Remembered, with_built}
use Rattle.ws_content.specs.Inside.Held.{seen}
use Rattle.ws_content.specs.Inside.Parts.{contents}
use Rattle.op_kind.specs.Effects.{effect}
use Rattle.op_kind.specs.Refusals.{refusal}
use Rattle.core_event.specs.declared.reply.Refusal.TheVariants.{Operation}
use Rattle.core_event.specs.Replies.{answered}
use Rattle.ws_content.specs.Deeds.{forgets, forgotten, kept_if, operated, operation, replied, reply_of}
use Rattle.ws_content.proofs.Calls.{comes_to, held_after, if_both, not_both, on_both, on_done, on_not, seen_after, stays_so, operation_refused}
use Rattle.ws_content.proofs.contents.Content.operate.Goals as goal

pub operate-done-requires : goal.operate-done-requires
operate-done-requires g c =
    let i = c.self.inside in
    let start = g.T.Remembers.number i.start in
    (start, seen g.T.Remembers.number start (left g.T.TreeRep.remembered i.tree) i.marks, record { held = c.self.invariant; seen = refl })

pub invariant_of-self : goal.invariant_of-self
invariant_of-self g c =
    let i = c.self.inside in
    let done = c.operate-done in
    held_after g.T.Remembers.number (g.T.Remembers.number i.start) done.result (left g.T.TreeRep.remembered i.tree) (left g.T.TreeRep.remembered done.new.tree) i.marks done.new.marks
    (λ v. kept_if c.args.tells (g.T.TreeRep.tree done.new.tree.tree) (with_built v (forgotten (forgets c.args.op.now) v.built))) done.ensures.holds done.ensures.kept c.self.invariant

pub returns-clause-ok : goal.returns-clause-ok
returns-clause-ok g c =
    let i = c.self.inside in
    let done = c.operate-done in
    let start = g.T.Remembers.number i.start in
    let r : Resources = resources (g.T.TreeRep.tree i.tree.tree) i.side in
    let q : Resources = resources (g.T.TreeRep.tree done.new.tree.tree) done.new.side in
    let v : Remembered = seen g.T.Remembers.number start (left g.T.TreeRep.remembered i.tree) i.marks in
    let u : Remembered = seen g.T.Remembers.number start (left g.T.TreeRep.remembered done.new.tree) done.new.marks in
    let before : Contents = contents r v in
    let quiet : c.args.tells ≡ true → v.told ≡ r.tree = subst (λ (z : Contents). c.args.tells ≡ true → z.remembered.told ≡ z.resources.tree) (sym c.self.view_is) c.requires in
    subst (λ z. IfOk c.reply_to.result (λ x. (contents q u, x) ≡ doubled c.args.wants_copy (replied c.args.tells (operated z c.args.op.now)))) c.self.view_is
    (comes_to done.result c.reply_to.result c.args.wants_copy c.args.tells (option_map Operation (refusal r c.args.op.now)) before (contents q u) (operation before c.args.op.now) quiet
    (on_done done.result (λ h. ap (option_map Operation) h) done.ensures.allowed)
    (on_both done.result (λ res holds.
    ap (contents q) (seen_after g.T.Remembers.number start (left g.T.TreeRep.remembered i.tree) (left g.T.TreeRep.remembered done.new.tree) i.marks done.new.marks
    (λ v. kept_if c.args.tells q.tree (with_built v (forgotten (forgets c.args.op.now) v.built))) holds c.self.invariant)
    ∙ (λ j. contents (res j) (kept_if c.args.tells (res j).tree (with_built v (forgotten (forgets c.args.op.now) v.built))))) done.ensures.resources done.ensures.holds)
    (if_both done.result (λ res x reply. reply start v (record { held = c.self.invariant; seen = refl })
    ∙ (λ j. twice c.args.wants_copy (reply_of c.args.tells v.told (res j).tree (answered (effect r c.args.op.now).1)))) done.ensures.resources done.ensures.reply)
    (not_both done.result (λ same kept. λ j. contents (same j) ((kept start v (record { held = c.self.invariant; seen = refl })).seen j)) done.ensures.same done.ensures.kept)
    c.reply_to.ensures.done (operation_refused done.result c.reply_to.result c.args.wants_copy _ done.ensures.refused c.reply_to.ensures.refused))

pub returns-clause-err : goal.returns-clause-err
returns-clause-err g c =
    let i = c.self.inside in
    let done = c.operate-done in
    let start = g.T.Remembers.number i.start in
    let r : Resources = resources (g.T.TreeRep.tree i.tree.tree) i.side in
    let q : Resources = resources (g.T.TreeRep.tree done.new.tree.tree) done.new.side in
    let v : Remembered = seen g.T.Remembers.number start (left g.T.TreeRep.remembered i.tree) i.marks in
    let u : Remembered = seen g.T.Remembers.number start (left g.T.TreeRep.remembered done.new.tree) done.new.marks in
    on_not c.reply_to.result (λ h. h ∙ c.self.view_is)
    (stays_so (contents q u ≡ contents r v) done.result c.reply_to.result c.reply_to.ensures.done
    (not_both done.result (λ same kept. λ j. contents (same j) ((kept start v (record { held = c.self.invariant; seen = refl })).seen j)) done.ensures.same done.ensures.kept))
