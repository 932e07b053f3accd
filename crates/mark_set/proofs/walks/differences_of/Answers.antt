use Rattle.std.specs.FinMap.{from_entries}
use Rattle.mark_set.proofs.Builds.{deltas_are}
use Rattle.mark_set.proofs.walks.differences_of.Goals as goal

pub returns : goal.returns
returns c = rw (← deltas_are c.args.old.now.entries c.args.new.now.entries (from_entries c.note_new.new.found.entries) c.in_ok-note_new.ensures) c.collect_deltas.ensures
