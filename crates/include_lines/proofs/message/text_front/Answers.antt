use Rattle.std.proofs.Common.{sym, ◌∙◌}
use Rattle.include_lines.proofs.Shown.{all_text}
use Rattle.include_lines.proofs.message.text_front.Goals as goal

pub returns-in-Ok : goal.returns-in-Ok
returns-in-Ok c = c.in-Ok.ensures.cases.0 ∙ sym (all_text c.args.bytes.now c.in-Ok.ensures.cases.1)
