use Rattle.std.proofs.Common.{List, sym, subst}
use Rattle.script_lang.specs.declared.script.Job.{Job}
use Rattle.script_lang.specs.Names.{HaveOwnNames}
use Rattle.script_lang.specs.Inside.Ordered.{AreTheirNames}
use Rattle.script_lang.proofs.Named.{no_names}
use Rattle.script_lang.proofs.open_phase.OpenPhase.new.Goals as goal

pub invariant_of-result : goal.invariant_of-result
invariant_of-result c =
    subst (λ (jobs : List Job). HaveOwnNames jobs × AreTheirNames c.new-2.result.keys jobs) (sym c.new.ensures.items) (tt, no_names c.new-2.result.keys c.new-2.ensures.empty)
