use Rattle.std.proofs.Common.{sym, subst, ◌∙◌}
use Rattle.elem_tree.proofs.Gathers.{Gathering, gathering_begins, gathering_steps, gathering_ends, gathering_most}
use Rattle.elem_tree.proofs.gathering.gather_notes.Goals as goal

pub loop-path-init : goal.loop-path-init
loop-path-init c =
    subst (Gathering c.args.changes.now c.args.notes.now c.args.newest.now.map c.args.changes.now) (sym c.iter-path-items.ensures ∙ sym c.into_iter-path-iterator.ensures.into_iter_gives)
    (gathering_begins c.args.changes.now c.args.notes.now c.args.newest.now.map)

pub loop-path-preserved : goal.loop-path-preserved
loop-path-preserved c =
    gathering_steps c.args.changes.now c.args.notes.now c.args.newest.now.map c.loop-path.changes c.gather_slot.new.changes (c.in-Some.path.now, c.in-Some.slot.now) c.next.new.self
    (subst (Gathering c.args.changes.now c.args.notes.now c.args.newest.now.map c.loop-path.changes) c.in-Some.ensures.steps c.loop-path.invariant) c.in_ok-gather_slot.ensures

pub returns-clause-gathers : goal.returns-clause-gathers
returns-clause-gathers c =
    gathering_ends c.args.changes.now c.args.notes.now c.args.newest.now.map c.loop-path.changes
    (subst (Gathering c.args.changes.now c.args.notes.now c.args.newest.now.map c.loop-path.changes) c.in-None.ensures.steps.0 c.loop-path.invariant)

pub returns-clause-most : goal.returns-clause-most
returns-clause-most c =
    gathering_most c.args.changes.now c.args.notes.now c.args.newest.now.map c.loop-path.changes
    (subst (Gathering c.args.changes.now c.args.notes.now c.args.newest.now.map c.loop-path.changes) c.in-None.ensures.steps.0 c.loop-path.invariant)
