use Rattle.std.proofs.Common.{List, sym, subst}
use Rattle.script_lang.specs.declared.script.Job.{Job}
use Rattle.script_lang.specs.Names.{HaveOwnNames}
use Rattle.script_lang.specs.Inside.Ordered.{AreTheirNames}
use Rattle.script_lang.proofs.Named.{was_new, names_more, names_with}
use Rattle.script_lang.proofs.open_phase.OpenPhase.with.Goals as goal

pub invariant_of-result : goal.invariant_of-result
invariant_of-result c =
    let jobs = c.self.inside.jobs.items in
    let job = c.args.job in
    let names = c.self.inside.names.keys in
    let new = c.insert.new.self.keys in
    let free = was_new names jobs c.in_ok-copy.field-0 job c.in_ok-insert.field-0 c.self.invariant.1 c.in_ok-copy.ensures c.in_ok-insert.ensures.added c.if-not-branch.false in
    subst (λ (all : List Job). HaveOwnNames all × AreTheirNames new all) (sym c.in_ok-push.ensures.items)
    (names_more jobs job c.self.invariant.0 free, names_with names new jobs c.in_ok-copy.field-0 job c.self.invariant.1 c.in_ok-copy.ensures c.in_ok-insert.ensures.updates.0)
