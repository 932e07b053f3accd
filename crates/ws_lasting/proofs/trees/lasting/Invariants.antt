use Rattle.std.proofs.Common.{◌≡◌, drop}
use Rattle.ws_lasting.proofs.Settled.{IsSettled}
use Rattle.ws_lasting.proofs.trees.lasting.Given as goal

-- transient markers are left at the paths that are left, and the room stays
abbrev pub invariant-loop-path : goal.invariant-loop-path
invariant-loop-path l = record {
  settled : IsSettled l.fn.tree.map l.tree.map (drop l.path-index l.path-items);
  room : l.tree.room ≡ l.fn.tree.room;
}
