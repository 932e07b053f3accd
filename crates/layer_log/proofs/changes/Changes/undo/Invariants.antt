use Rattle.std.proofs.Common.{◌≡◌}
use Rattle.ws_elem.specs.Trees.{Tree}
use Rattle.layer_log.specs.Records.{Leads}
use Rattle.layer_log.proofs.Undoing.{Undoing}
use Rattle.layer_log.proofs.changes.Changes.undo.Given as goal

abbrev pub invariant-loop-path : goal.invariant-loop-path
invariant-loop-path l = record {
  undoing : (a : Tree) → Leads a l.self l.tree.map → Undoing a l.path-iterator l.undone.map;
  room : l.undone.room ≡ l.tree.room;
}
