use Rattle.std.proofs.Common.{refl, Ok}
use Rattle.build_laws.specs.States.{item}
use Rattle.build_run.proofs.Steps.{has_builder, one_skipped, one_made, one_failed, one_refused, none_handed, none_made}
use Rattle.build_run.proofs.building.build_command.Goals as goal

pub run-requires-clause-present : goal.run-requires-clause-present
run-requires-clause-present g c = has_builder _ _ (item c.args.project.now c.args.index c.args.command.now) c.args.kind c.in-Ok-Due.handed (rw c.in-Ok-Due.field-0-is at c.in-Ok-Due.ensures.given)

pub returns-in-Ok-Refused-clause-built : goal.returns-in-Ok-Refused-clause-built
returns-in-Ok-Refused-clause-built g c = one_skipped g.H.Told.Meanings.meaning _ _ (item c.args.project.now c.args.index c.args.command.now) c.args.kind _ (rw c.in-Ok-Refused.field-0-is at c.in-Ok-Refused.ensures.given)

pub returns-in-Err-clause-halted : goal.returns-in-Err-clause-halted
returns-in-Err-clause-halted g c = none_handed _ _ (item c.args.project.now c.args.index c.args.command.now) c.args.kind c.in-Err.ensures.same

pub returns-in-Err-Failed-clause-halted : goal.returns-in-Err-Failed-clause-halted
returns-in-Err-Failed-clause-halted g c =
    one_failed _ _ _ (item c.args.project.now c.args.index c.args.command.now) c.args.kind c.in-Ok-Due.handed _ (rw c.in-Ok-Due.field-0-is at c.in-Ok-Due.ensures.given)
    (record { done = rw c.in-Err-Failed.field-0-is at c.in-Err-Failed.ensures.done; book = c.in-Err-Failed.ensures.book }) c.failed.ensures

pub returns-in-Err-Memory-clause-halted : goal.returns-in-Err-Memory-clause-halted
returns-in-Err-Memory-clause-halted g c =
    none_made _ _ _ _ (item c.args.project.now c.args.index c.args.command.now) c.args.kind c.in-Ok-Due.handed _ (rw c.in-Ok-Due.field-0-is at c.in-Ok-Due.ensures.given)
    (record { done = c.in-Err-Memory.ensures.done; book = c.in-Err-Memory.ensures.book }) refl

pub returns-in-Ok-Committed-clause-built : goal.returns-in-Ok-Committed-clause-built
returns-in-Ok-Committed-clause-built g c =
    one_made g.H.Told.Meanings.meaning _ _ _ _ (item c.args.project.now c.args.index c.args.command.now) c.args.kind c.in-Ok-Due.handed c.in-Ok.edits c.in-Ok-Committed.touched _ c.requires.described
    (rw c.in-Ok-Due.field-0-is at c.in-Ok-Due.ensures.given) (record { done = c.in-Ok.ensures.done; book = c.in-Ok.ensures.book }) c.in-Ok.ensures.lawful (rw c.in-Ok-Committed.field-0-is at c.in-Ok-Committed.ensures.taken)

pub returns-in-Ok-Refused-commit-clause-halted : goal.returns-in-Ok-Refused-commit-clause-halted
returns-in-Ok-Refused-commit-clause-halted g c =
    one_refused _ _ _ _ (item c.args.project.now c.args.index c.args.command.now) c.args.kind c.in-Ok-Due.handed c.in-Ok.edits _ (rw c.in-Ok-Due.field-0-is at c.in-Ok-Due.ensures.given)
    (record { done = c.in-Ok.ensures.done; book = c.in-Ok.ensures.book }) (rw c.in-Ok-Refused-commit.field-0-is at c.in-Ok-Refused-commit.ensures.taken)

pub returns-clause-halted : goal.returns-clause-halted
returns-clause-halted g c =
    none_made _ _ _ _ (item c.args.project.now c.args.index c.args.command.now) c.args.kind c.in-Ok-Due.handed (Ok c.in-Ok.edits) (rw c.in-Ok-Due.field-0-is at c.in-Ok-Due.ensures.given)
    (record { done = c.in-Ok.ensures.done; book = c.in-Ok.ensures.book }) c.in-Err-commit.ensures.same

-- the host stays over all calls
pub returns-in-Ok-Committed-clause-stays : goal.returns-in-Ok-Committed-clause-stays
returns-in-Ok-Committed-clause-stays g c = g.H.Host.stays_on _ _ _ (g.H.Host.stays_on _ _ _ c.handed.ensures.stays c.run.ensures.stays) c.commit.ensures.stays

pub returns-in-Ok-Refused-commit-clause-stays : goal.returns-in-Ok-Refused-commit-clause-stays
returns-in-Ok-Refused-commit-clause-stays g c = g.H.Host.stays_on _ _ _ (g.H.Host.stays_on _ _ _ c.handed.ensures.stays c.run.ensures.stays) c.commit.ensures.stays

pub returns-clause-stays : goal.returns-clause-stays
returns-clause-stays g c = g.H.Host.stays_on _ _ _ (g.H.Host.stays_on _ _ _ c.handed.ensures.stays c.run.ensures.stays) c.commit.ensures.stays
