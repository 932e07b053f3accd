use Rattle.std.proofs.Common.{◌≡◌, length}
use Rattle.ws_elem.specs.Rooms.{no_room}
use Rattle.ws_lasting.proofs.Walked.{IsFound, entries_after}
use Rattle.ws_lasting.proofs.trees.lasting_now.Given as goal

abbrev pub invariant-loop-path : goal.invariant-loop-path
invariant-loop-path g l = record {
  found : IsFound (g.T.TreeRep.tree l.tree) l.found.map l.at;
  room : l.found.room ≡ no_room;
}

abbrev pub decreases-loop-path : goal.decreases-loop-path
decreases-loop-path g l = length (entries_after (g.T.TreeRep.tree l.tree) l.at)
