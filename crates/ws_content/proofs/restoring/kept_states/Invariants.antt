use Rattle.std.specs.FinMap.{values}
use Rattle.tree_memory.specs.Spared.{left}
use Rattle.ws_content.proofs.Lasts.{IsKeptThere, kept_now}
use Rattle.ws_content.proofs.Listed.{IsTelling}
use Rattle.ws_content.proofs.restoring.kept_states.Given as goal

abbrev pub invariant-loop-state : goal.invariant-loop-state
invariant-loop-state g l =
    let trees = left g.T.TreeRep.remembered l.tree in
    IsTelling (IsKeptThere g.T.Remembers.number trees) (kept_now g.T.Remembers.number trees (g.T.TreeRep.tree l.tree.tree)) (λ k. k) (values l.marks.kept) l.kept.items l.state-iterator
