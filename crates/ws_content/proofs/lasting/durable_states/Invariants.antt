use Rattle.std.specs.FinMap.{values}
use Rattle.tree_memory.specs.Spared.{left}
use Rattle.ws_durable.specs.Saved.{saved_kept}
use Rattle.ws_content.proofs.Lasts.{IsKeptThere, kept_lasting}
use Rattle.ws_content.proofs.Listed.{IsTelling}
use Rattle.ws_content.proofs.lasting.durable_states.Given as goal

abbrev pub invariant-loop-state : goal.invariant-loop-state
invariant-loop-state g l =
    let trees = left g.T.TreeRep.remembered l.tree in
    IsTelling (IsKeptThere g.T.Remembers.number trees) (kept_lasting g.T.Remembers.number trees) saved_kept (values l.marks.kept) l.kept.items l.state-iterator
