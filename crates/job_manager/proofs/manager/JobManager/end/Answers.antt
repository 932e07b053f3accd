use Rattle.std.proofs.Common.{ap, sym, ◌∙◌, subst}
use Rattle.rule_table.specs.Tables.{last_rule, rules_held}
use Rattle.rule_table.specs.Refusals.{RefusesEnd}
use Rattle.rule_table.specs.declared.error.EndError.TheVariants.{NotLast}
use Rattle.core_event.specs.declared.event.Event.TheVariants.{End}
use Rattle.job_manager.specs.Effects.{decided}
use Rattle.core_event.specs.Twice.{doubled}
use Rattle.job_manager.proofs.Ended.{if_ok, is_last, is_other}
use Rattle.job_manager.proofs.manager.JobManager.end.Goals as goal

pub returns-in-Ok-clause-ok : goal.returns-in-Ok-clause-ok
returns-in-Ok-clause-ok c =
    let m = c.args.self.now in
    let rule = c.args.rule.now in
    (λ i. (record { jobs = m.jobs; passes = c.in-Ok.ensures.ok i }, c.done_twice.ensures i))
    ∙ ap (λ r. doubled c.args.wants_copy (decided r m c.args.pass (End rule)))
    (sym (is_last (last_rule c.args.pass m.passes.rules) (rules_held c.args.pass m.passes.rules) rule c.in-Ok.ensures.last))

pub returns-in-Err-NotLast-clause-ok : goal.returns-in-Err-NotLast-clause-ok
returns-in-Err-NotLast-clause-ok c =
    let m = c.args.self.now in
    let rule = c.args.rule.now in
    let says : RefusesEnd m.passes.rules c.args.pass rule (NotLast c.in-Err-NotLast.held) =
    subst (RefusesEnd m.passes.rules c.args.pass rule) c.in-Err-NotLast.field-0-is c.in-Err-NotLast.ensures.refused in
    if_ok c.refused_twice.result (λ answer h. (λ i. (record { jobs = m.jobs; passes = c.in-Err-NotLast.ensures.same i }, h i))
    ∙ ap (λ r. doubled c.args.wants_copy (decided r m c.args.pass (End rule)))
    (sym (is_other (last_rule c.args.pass m.passes.rules) c.in-Err-NotLast.held (rules_held c.args.pass m.passes.rules) rule says.0 says.1 says.2))) c.refused_twice.ensures
