use Rattle.std.proofs.Common.{ap, subst, ◌∙◌}
use Rattle.std.specs.FinMap as map
use Rattle.elem_tree.specs.Inside.Slots.{readied_at}
use Rattle.elem_tree.proofs.Gathers.{no_items}
use Rattle.elem_tree.proofs.Rooms.{Readying, readying_begins, readying_steps, readying_ends}
use Rattle.elem_tree.proofs.noting.ready_notes.Goals as goal

pub loop-path-init : goal.loop-path-init
loop-path-init c = readying_begins c.args.newest.now.map c.args.newest.now.room c.roomy-rest.result.now c.empty-notes.result c.roomy-rest.ensures c.empty-notes.ensures

pub loop-path-preserved : goal.loop-path-preserved
loop-path-preserved c =
    readying_steps c.args.newest.now.map c.args.newest.now.room c.in-Some.path.now c.in-Some.others.now c.loop-path.notes c.ready.new.self
    (subst (λ ps. Readying c.args.newest.now.map c.args.newest.now.room ps c.loop-path.notes) c.in-Some.ensures.cases.0 c.loop-path.invariant)
    (c.in_ok-ready.ensures.ok ∙ ap (readied_at c.loop-path.notes c.in-Some.path.now) (c.get.ensures ∙ ap (λ t. map.get t.map c.in-Some.path.now) c.elements.ensures))

pub returns-clause-ready : goal.returns-clause-ready
returns-clause-ready c =
    readying_ends c.args.newest.now.map c.args.newest.now.room c.loop-path.notes
    (subst (λ ps. Readying c.args.newest.now.map c.args.newest.now.room ps c.loop-path.notes) (no_items c.loop-path.rest.now c.in_default.ensures.cases) c.loop-path.invariant)

pub returns-clause-none : goal.returns-clause-none
returns-clause-none c = c.loop-path.invariant.none
