use Rattle.std.proofs.Common.{◌++◌, refl, ap, ap₂, ◌∙◌}
use Rattle.run_text.proofs.Pieces.{front_none}
use Rattle.run_text.proofs.Printed.{prints_none}
use Rattle.load_text.specs.Summaries.{summary, summary_from}
use Rattle.load_text.proofs.printing.print_summary.Goals as goal

pub returns-in-Ok : goal.returns-in-Ok
returns-in-Ok g c = let p = c.args.out.now.items in record {
  printed = record {
    printed = prints_none (g.K.Sink.written c.args.sink.now) p (summary_from c.args.core.now.opened c.args.core.now.history) c.put_summary.new.out.items
        (c.in-Ok.ensures ∙ ap₂ (λ h t. p ++ summary h t) c.history.ensures.history (c.tree.ensures ∙ ap (λ s. s.resources.tree) c.state.ensures.replayed));
    calm = refl;
  };
}

pub returns-in-Err : goal.returns-in-Err
returns-in-Err g c = record { printed = front_none (g.K.Sink.written c.args.sink.now) (g.K.Sink.faults c.args.sink.now) c.args.out.now.items (summary_from c.args.core.now.opened c.args.core.now.history) }
