use Rattle.std.proofs.Common.{sym, ◌∙◌}
use Rattle.build_plan.proofs.Commanded.{on_both, commands_more}
use Rattle.build_plan.proofs.walk.add_open.Goals as goal

pub returns-in-Some-2-clause-commands : goal.returns-in-Some-2-clause-commands
returns-in-Some-2-clause-commands c = on_both c.add.result _ _ _
    (λ grown taken t got has. commands_more t c.args.path.now c.args.element.now c.in-Some.name c.in-Some-2.desc c.args.found.now.projects c.add.new.self.projects c.args.found.now.commands c.add.new.self.commands
    (sym c.in_ok-name.ensures ∙ c.in-Some.is) (sym c.in_ok-described_by.ensures ∙ c.in-Some-2.is) got grown taken has)
    c.add.ensures.projects c.add.ensures.commands
