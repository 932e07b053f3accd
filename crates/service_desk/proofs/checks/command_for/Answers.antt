use Rattle.std.proofs.Common.{ap, sym, subst, ◌∙◌}
use Rattle.std.specs.Prelude.{Some, length}
use Rattle.core_event.specs.declared.reply.Refusal.TheVariants.{NoCommand}
use Rattle.service_desk.specs.Judging.{Judges}
use Rattle.service_desk.proofs.Listed.{is_beyond, is_within}
use Rattle.service_desk.proofs.checks.command_for.Goals as goal

pub returns-in-None-clause-judged : goal.returns-in-None-clause-judged
returns-in-None-clause-judged g c =
    is_beyond (g.T.TreeRep.tree c.args.tree.now) c.args.builders.now c.args.project.now c.args.index c.in-Some.desc (sym c.in_ok-desc.ensures ∙ c.in-Some.is) (sym c.in_ok-of.ensures ∙ c.in-None.is)
    ∙ ap (λ cs. Some (NoCommand (length cs))) (sym c.as_slice.ensures)

pub returns-clause-judged : goal.returns-clause-judged
returns-clause-judged g c =
    subst (λ r. Judges r c.with_builder.result)
    (is_within (g.T.TreeRep.tree c.args.tree.now) c.args.builders.now c.args.project.now c.args.index c.in-Some.desc c.in-Some-2.site (sym c.in_ok-desc.ensures ∙ c.in-Some.is) (sym c.in_ok-of.ensures ∙ c.in-Some-2.is))
    c.with_builder.ensures.judged
