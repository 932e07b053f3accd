use Rattle.std.proofs.Common.{sym, ap, ◌∙◌}
use Rattle.std_kit.specs.Inside.Walks.{are_apart}
use Rattle.std_kit.proofs.Apart.{clear}
use Rattle.std_kit.proofs.clear.is_clear.Goals as goal

pub returns-in-None : goal.returns-in-None
returns-in-None c = λ yes. clear c.args.root.now c.args.view.now (sym c.in-None.ensures) (sym (c.are_apart.ensures ∙ ap are_apart c.files_of_root.ensures) ∙ yes)
