use Rattle.std.proofs.Common.{sym, ◌∙◌, subst}
use Rattle.std.specs.Option.{option_copied}
use Rattle.delta_kind.specs.Deltas.{InPathOrder, paths_of}
use Rattle.delta_kind.specs.Rows.{shown}
use Rattle.delta_kind.specs.Inside.Walks.{rows_left}
use Rattle.delta_kind.proofs.Merged.{rows_between}
use Rattle.delta_kind.proofs.Unmoved.{telling_row, telling_moved, telling_ends}
use Rattle.delta_kind.proofs.plain.unmoved_nodes.Goals as goal

pub loop-row-preserved-else-may_move : goal.loop-row-preserved-else-may_move
loop-row-preserved-else-may_move c =
    telling_row (rows_between c.args.before.now.map c.args.after.now.map) c.loop-row.told.nodes.items c.tell.new.self.nodes.items (option_copied c.loop-row.told.last) (option_copied c.tell.new.self.last)
    c.loop-row.told.lost c.loop-row.told.gained c.tell.new.self.lost c.tell.new.self.gained (shown c.in-Some.row) (rows_left c.next.new.self) (rows_left c.loop-row.row-iterator)
    c.in-Some.ensures.steps (sym c.differs.ensures ∙ c.if-differs.true) c.loop-row.invariant
    c.in_ok-tell.ensures.nodes c.in_ok-tell.ensures.last c.in_ok-tell.ensures.lost c.in_ok-tell.ensures.gained (sym c.may_move.ensures ∙ c.if-may_move.false)

pub returns-clause-nodes : goal.returns-clause-nodes
returns-clause-nodes c =
    c.into_nodes.ensures
    ∙ (telling_ends c.args.before.now.map c.args.after.now.map c.loop-row.told.nodes.items (option_copied c.loop-row.told.last) c.loop-row.told.lost c.loop-row.told.gained
    (rows_left c.loop-row.row-iterator) c.in-None.ensures.steps.0 c.loop-row.invariant).0

pub returns-clause-order : goal.returns-clause-order
returns-clause-order c =
    subst (λ nodes. InPathOrder (paths_of nodes)) (sym c.into_nodes.ensures)
    (telling_ends c.args.before.now.map c.args.after.now.map c.loop-row.told.nodes.items (option_copied c.loop-row.told.last) c.loop-row.told.lost c.loop-row.told.gained
    (rows_left c.loop-row.row-iterator) c.in-None.ensures.steps.0 c.loop-row.invariant).1

pub returns-then-may_move-clause-moved : goal.returns-then-may_move-clause-moved
returns-then-may_move-clause-moved c =
    telling_moved (rows_between c.args.before.now.map c.args.after.now.map) c.loop-row.told.nodes.items (option_copied c.loop-row.told.last)
    c.loop-row.told.lost c.loop-row.told.gained c.tell.new.self.lost c.tell.new.self.gained (shown c.in-Some.row) (rows_left c.next.new.self) (rows_left c.loop-row.row-iterator)
    c.in-Some.ensures.steps (sym c.differs.ensures ∙ c.if-differs.true) c.loop-row.invariant
    c.in_ok-tell.ensures.lost c.in_ok-tell.ensures.gained (sym c.may_move.ensures ∙ c.if-may_move.true)
