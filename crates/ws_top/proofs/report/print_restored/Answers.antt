use Rattle.std.proofs.Common.{length, map, ap, arith}
use Rattle.std.specs.Option.{option_copied}
use Rattle.run_text.proofs.Pieces.{left_at_start}
use Rattle.save_round.specs.Restoring.{kept_for_each}
use Rattle.ws_top.specs.Texts.{restored_blocks}
use Rattle.ws_top.proofs.Blocks.{blocks_all, blocks_end_at, blocks_next, each_count}
use Rattle.ws_top.proofs.report.print_restored.Goals as goal

pub loop-at-init : goal.loop-at-init
loop-at-init g c = left_at_start (g.K.Sink.written c.args.sink.now) (g.K.Sink.faults c.args.sink.now) c.args.out.now.items (restored_blocks (kept_for_each c.args.states.now (map (λ p. g.P.Participant.tells p) c.args.parts.now)))

pub loop-at-preserved : goal.loop-at-preserved
loop-at-preserved g c = blocks_next (g.K.Sink.written c.args.sink.now) (g.K.Sink.written c.loop-at.sink) (g.K.Sink.written c.print_block.new.sink)
    (g.K.Sink.faults c.args.sink.now) (g.K.Sink.faults c.loop-at.sink) (g.K.Sink.faults c.print_block.new.sink)
    c.args.out.now.items c.loop-at.out.items c.print_block.new.out.items (kept_for_each c.args.states.now (map (λ p. g.P.Participant.tells p) c.args.parts.now)) c.loop-at.at (option_copied c.kept_for.result)
    c.kept_for.ensures c.loop-at.invariant c.in-Ok.ensures.printed

pub returns-in-Err : goal.returns-in-Err
returns-in-Err g c = record {
  printed = blocks_end_at (g.K.Sink.written c.args.sink.now) (g.K.Sink.written c.loop-at.sink) (g.K.Sink.written c.print_block.new.sink)
      (g.K.Sink.faults c.args.sink.now) (g.K.Sink.faults c.loop-at.sink) (g.K.Sink.faults c.print_block.new.sink)
      c.args.out.now.items c.loop-at.out.items (kept_for_each c.args.states.now (map (λ p. g.P.Participant.tells p) c.args.parts.now)) c.loop-at.at (option_copied c.kept_for.result) c.in-Err.error
      c.kept_for.ensures c.loop-at.invariant c.in-Err.ensures.printed;
}

pub returns : goal.returns
returns g c = record {
  printed = blocks_all (g.K.Sink.written c.args.sink.now) (g.K.Sink.written c.loop-at.sink) (g.K.Sink.faults c.args.sink.now) (g.K.Sink.faults c.loop-at.sink)
      c.args.out.now.items c.loop-at.out.items (kept_for_each c.args.states.now (map (λ p. g.P.Participant.tells p) c.args.parts.now)) c.loop-at.at
      (omega (arith, c.loop-at-test.false, ap length c.as_slice-at-end.ensures, each_count (λ p. g.P.Participant.tells p) c.args.states.now c.args.parts.now)) c.loop-at.invariant;
}
