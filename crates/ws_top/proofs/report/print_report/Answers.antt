use Rattle.std.proofs.Common.{map, subst}
use Rattle.run_text.specs.Printing.{PrintsAll, PrintsFront}
use Rattle.run_text.proofs.Pieces.{and_then, but_first}
use Rattle.save_round.specs.Restoring.{kept_for_each}
use Rattle.ws_top.specs.Texts.{done_from, restored_blocks, restored_text}
use Rattle.ws_top.proofs.report.print_report.Goals as goal

pub returns-in-Ok : goal.returns-in-Ok
returns-in-Ok g c =
    let parts = map (λ p. g.P.Participant.tells p) c.args.parts.now in
    let opened = c.args.core.now.opened in record {
      printed = and_then (g.K.Sink.written c.args.sink.now) (g.K.Sink.written c.print_restored.new.sink) (g.K.Sink.written c.print_done.new.sink)
          (g.K.Sink.faults c.args.sink.now) (g.K.Sink.faults c.print_restored.new.sink) (g.K.Sink.faults c.print_done.new.sink)
          c.args.out.now.items (restored_text opened parts) c.print_restored.new.out.items (done_from opened c.args.core.now.history) c.print_done.new.out.items c.print_done.result
          (subst (λ states. PrintsAll (g.K.Sink.written c.args.sink.now) (g.K.Sink.written c.print_restored.new.sink) (g.K.Sink.faults c.args.sink.now) (g.K.Sink.faults c.print_restored.new.sink) c.args.out.now.items (restored_blocks (kept_for_each states parts)) c.print_restored.new.out.items) c.requires.states c.in-Ok.ensures.printed)
          c.print_done.ensures.printed;
    }

pub returns-in-Err : goal.returns-in-Err
returns-in-Err g c =
    let parts = map (λ p. g.P.Participant.tells p) c.args.parts.now in
    let opened = c.args.core.now.opened in record {
      printed = but_first (g.K.Sink.written c.args.sink.now) (g.K.Sink.written c.print_restored.new.sink) (g.K.Sink.faults c.args.sink.now) (g.K.Sink.faults c.print_restored.new.sink) c.args.out.now.items (restored_text opened parts) (done_from opened c.args.core.now.history) c.in-Err.error
          (subst (λ states. PrintsFront (g.K.Sink.written c.args.sink.now) (g.K.Sink.written c.print_restored.new.sink) (g.K.Sink.faults c.args.sink.now) (g.K.Sink.faults c.print_restored.new.sink) c.args.out.now.items (restored_blocks (kept_for_each states parts)) c.in-Err.error) c.requires.states c.in-Err.ensures.printed);
    }
