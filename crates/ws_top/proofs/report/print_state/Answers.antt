use Rattle.std.proofs.Common.{◌++◌, codes, append_assoc, ap, ◌∙◌, subst}
use Rattle.script_words.specs.Words.{word_text}
use Rattle.run_text.specs.Lines.{some_lines}
use Rattle.run_text.specs.Printing.{Printed}
use Rattle.run_text.proofs.Pieces.{and_then, front_none}
use Rattle.ws_top.proofs.Blocks.{all_waits}
use Rattle.ws_top.proofs.report.print_state.Goals as goal

pub returns-in-Ok : goal.returns-in-Ok
returns-in-Ok g c =
    let a = g.K.Sink.written c.args.sink.now in
    let f = g.K.Sink.faults c.args.sink.now in
    let b = g.K.Sink.written c.print_changed.new.sink in
    let h = g.K.Sink.faults c.print_changed.new.sink in
    let p = c.args.out.now.items in
    let q = c.put_named.new.out.items in
    let name = c.args.state.now.name in record {
      printed = and_then a a b f f h p (codes "restored " ++ word_text name) q (codes "\n" ++ some_lines c.args.state.now.delta) c.print_changed.new.out.items c.print_changed.result
          (all_waits a f p (codes "restored " ++ word_text name) q
          (c.in-Ok.ensures ∙ append_assoc p (codes "restored ") (word_text c.as_bytes.result.now) ∙ ap (λ word. p ++ (codes "restored " ++ word_text word)) (c.as_bytes.ensures.value ∙ c.text.ensures.text)))
          (subst (λ delta. Printed a b f h q (codes "\n" ++ some_lines delta) c.print_changed.new.out.items c.print_changed.result) c.as_ref.ensures.value c.print_changed.ensures.printed);
    }

pub returns-in-Err : goal.returns-in-Err
returns-in-Err g c = record { printed = front_none _ _ _ _ }
