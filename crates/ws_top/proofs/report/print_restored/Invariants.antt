use Rattle.std.proofs.Common.{◌++◌, drop, map}
use Rattle.run_text.specs.Printing.{PrintsAll}
use Rattle.save_round.specs.Restoring.{kept_for_each}
use Rattle.ws_top.specs.Texts.{restored_blocks}
use Rattle.ws_top.proofs.report.print_restored.Given as goal

-- what the other participants got is left to print
abbrev pub invariant-loop-at : goal.invariant-loop-at
invariant-loop-at g l = let each = kept_for_each l.states (map (λ p. g.P.Participant.tells p) l.parts) in
    PrintsAll (g.K.Sink.written l.fn.sink) (g.K.Sink.written l.sink) (g.K.Sink.faults l.fn.sink) (g.K.Sink.faults l.sink) l.fn.out.items (restored_blocks each) (l.out.items ++ restored_blocks (drop l.at each))
