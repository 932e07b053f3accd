use Rattle.std.proofs.Common.{drop}
use Rattle.tree_memory.specs.Spared.{left}
use Rattle.ws_durable.specs.Saved.{saved_built}
use Rattle.ws_content.proofs.Lasts.{IsBuiltThere, built_lasting}
use Rattle.ws_content.proofs.Listed.{IsTelling}
use Rattle.ws_content.proofs.lasting.durable_records.Given as goal

abbrev pub invariant-loop-record : goal.invariant-loop-record
invariant-loop-record g l =
    let trees = left g.T.TreeRep.remembered l.tree in
    IsTelling (IsBuiltThere g.T.Remembers.number trees) (built_lasting g.T.Remembers.number trees) saved_built l.record-items l.built.items (drop l.record-index l.record-items)
