use Rattle.std.proofs.Common.{◌≡◌, length, refl, sym, ap, subst, ◌∙◌, arith}
use Rattle.std.specs.Vec.{with_items}
use Rattle.std.proofs.lemmas.List.{with_items_is}
use Rattle.build_order.specs.declared.search.Mark.TheVariants.{Closed}
use Rattle.build_order.specs.declared.search.Search.{Search}
use Rattle.build_order.specs.Inside.Searches.{AreMarked}
use Rattle.build_order.proofs.Steps.{part_within, closed_part}
use Rattle.build_order.proofs.search.Search.close.Goals as goal

pub mark_all-requires : goal.mark_all-requires
mark_all-requires c =
    part_within c.args.graph.now c.args.self.now c.deref.result.now c.deref_mut.result.now c.args.frame.members c.deref.ensures.value c.deref_mut.ensures.value c.requires.stands

pub returns : goal.returns
returns c =
    let old = c.args.self.now in
    let new : Search = record { marks = with_items old.marks c.mark_all.new.marks; members = c.truncate.new.self; todo = old.todo; frames = c.pop.new.self } in
    let as_long : length c.mark_all.new.marks ≡ old.marks.len = omega (arith, c.mark_all.auto.marks, ap length c.deref_mut.ensures.value, old.marks.ok.0) in
    let marks : new.marks.items ≡ c.mark_all.new.marks = with_items_is old.marks c.mark_all.new.marks as_long in
    let h = closed_part c.args.graph.now old new c.args.frame c.deref.result.now c.deref_mut.result.now c.least-lead.result old.frames.len c.requires.top c.requires.met
    c.deref.ensures.value c.deref_mut.ensures.value c.least-lead.ensures (ap length marks ∙ as_long ∙ old.marks.ok.0)
    (subst (AreMarked _ (Closed c.least-lead.result) c.deref_mut.result.now) (sym marks) c.mark_all.ensures)
    c.truncate.ensures.items refl c.pop.ensures.rest old.frames.ok.0 c.requires.stands in
    record { on = h.0; less = h.1 }
