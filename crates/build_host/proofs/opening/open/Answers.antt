use Rattle.std.proofs.Common.{inl, inr, length, refl, sym, ◌∙◌, subst}
use Rattle.std.specs.Option.{option_copied}
use Rattle.build_run.specs.declared.answers.Started.TheVariants as started
use Rattle.build_host.specs.Hosts.{Asked}
use Rattle.build_host.specs.Laws.{goes_on}
use Rattle.build_host.proofs.Begun.{Batched, Begun, fails_batched, fails_begun, fails_ended, fails_none, fails_refused, opens, stops_at_once, stops_later}
use Rattle.build_host.proofs.Results.{err_holds}
use Rattle.build_host.proofs.opening.open.Goals as goal

pub returns-in_err-number-clause-failed : goal.returns-in_err-number-clause-failed
returns-in_err-number-clause-failed g c = err_holds c.from_residual.result (λ first began told.
    fails_none c.args.kind (option_copied c.args.project) first (length c.args.core.now.history) began told told c.args.core.now c.begin.new.core c.in_err-number.ensures.same)

pub returns-in-Some-clause-opened : goal.returns-in-Some-clause-opened
returns-in-Some-clause-opened g c = λ first began told.
    stops_at_once c.args.kind (option_copied c.args.project) first (length c.args.core.now.history) began told told c.args.core.now c.begin.new.core c.in-Some.number c.in_ok-number.ensures.steps.0 (sym c.in_ok-number.ensures.steps.1 ∙ c.in-Some.is)

pub returns-in_err-did-clause-failed : goal.returns-in_err-did-clause-failed
returns-in_err-did-clause-failed g c =
    let begun : Begun c.args.core.now c.begin.new.core = record { steps = c.in_ok-number.ensures.steps.0; done = sym c.in_ok-number.ensures.steps.1 ∙ c.in_default.is } in
    err_holds c.from_residual-in_err-did.result (λ first began told.
    fails_begun c.args.kind (option_copied c.args.project) first (length c.args.core.now.history) began told told c.args.core.now c.begin.new.core c.did.new.core begun c.in_err-did.ensures.same)

pub returns-in_err-plan-clause-failed : goal.returns-in_err-plan-clause-failed
returns-in_err-plan-clause-failed g c =
    let batched : Batched c.args.core.now c.begin.new.core c.did.new.core = record { begun = record { steps = c.in_ok-number.ensures.steps.0; done = sym c.in_ok-number.ensures.steps.1 ∙ c.in_default.is }; steps = c.in_ok-did.ensures.steps } in
    err_holds c.from_residual-in_err-plan.result (λ first began told.
    fails_batched c.args.kind (option_copied c.args.project) first (length c.args.core.now.history) began told told c.args.core.now c.begin.new.core c.did.new.core c.check_out.new.core batched c.in_err-plan.ensures.same)

pub returns-in_err-plan-clause-goes : goal.returns-in_err-plan-clause-goes
returns-in_err-plan-clause-goes g c = goes_on c.args.core.now c.did.new.core c.check_out.new.core (goes_on c.args.core.now c.begin.new.core c.did.new.core c.begin.ensures.goes c.did.ensures.goes) c.check_out.ensures.goes

pub returns-in_err-close-in-Refused-clause-failed : goal.returns-in_err-close-in-Refused-clause-failed
returns-in_err-close-in-Refused-clause-failed g c =
    let batched : Batched c.args.core.now c.begin.new.core c.did.new.core = record { begun = record { steps = c.in_ok-number.ensures.steps.0; done = sym c.in_ok-number.ensures.steps.1 ∙ c.in_default.is }; steps = c.in_ok-did.ensures.steps } in
    let asked : Asked c.args.kind (option_copied c.args.project) c.did.new.core c.check_out.new.core (started.Refused c.in-Refused.number) = subst (Asked c.args.kind (option_copied c.args.project) c.did.new.core c.check_out.new.core) c.in-Refused.is c.in_ok-plan.ensures.asked in
    err_holds c.from_residual-in_err-close-in-Refused.result (λ first began told. elim c.in_err-close-in-Refused.ensures.cut [
      | inl same ↦ fails_refused c.args.kind (option_copied c.args.project) first (length c.args.core.now.history) began told told c.args.core.now c.begin.new.core c.did.new.core c.check_out.new.core c.close.new.core c.in-Refused.number batched asked same
      | inr steps ↦ fails_ended c.args.kind (option_copied c.args.project) first (length c.args.core.now.history) began told told c.args.core.now c.begin.new.core c.did.new.core c.check_out.new.core c.close.new.core c.close.new.core c.in-Refused.number batched asked steps refl
    ])

pub returns-in_err-close-in-Refused-clause-goes : goal.returns-in_err-close-in-Refused-clause-goes
returns-in_err-close-in-Refused-clause-goes g c = goes_on c.args.core.now c.check_out.new.core c.close.new.core
    (goes_on c.args.core.now c.did.new.core c.check_out.new.core (goes_on c.args.core.now c.begin.new.core c.did.new.core c.begin.ensures.goes c.did.ensures.goes) c.check_out.ensures.goes) c.close.ensures.goes

pub returns-in-Plan-clause-opened : goal.returns-in-Plan-clause-opened
returns-in-Plan-clause-opened g c =
    let batched : Batched c.args.core.now c.begin.new.core c.did.new.core = record { begun = record { steps = c.in_ok-number.ensures.steps.0; done = sym c.in_ok-number.ensures.steps.1 ∙ c.in_default.is }; steps = c.in_ok-did.ensures.steps } in
    let asked : Asked c.args.kind (option_copied c.args.project) c.did.new.core c.check_out.new.core (started.Plan c.in-Plan.plan) = subst (Asked c.args.kind (option_copied c.args.project) c.did.new.core c.check_out.new.core) c.in-Plan.is c.in_ok-plan.ensures.asked in
    λ first began told. opens c.args.kind (option_copied c.args.project) first began told c.args.core.now c.begin.new.core c.did.new.core c.check_out.new.core c.in-Plan.plan c.requires.alone.worker batched asked

pub returns-in-Plan-clause-goes : goal.returns-in-Plan-clause-goes
returns-in-Plan-clause-goes g c = goes_on c.args.core.now c.did.new.core c.check_out.new.core (goes_on c.args.core.now c.begin.new.core c.did.new.core c.begin.ensures.goes c.did.ensures.goes) c.check_out.ensures.goes

pub returns-in_ok-close-in-Refused-clause-opened : goal.returns-in_ok-close-in-Refused-clause-opened
returns-in_ok-close-in-Refused-clause-opened g c =
    let batched : Batched c.args.core.now c.begin.new.core c.did.new.core = record { begun = record { steps = c.in_ok-number.ensures.steps.0; done = sym c.in_ok-number.ensures.steps.1 ∙ c.in_default.is }; steps = c.in_ok-did.ensures.steps } in
    let asked : Asked c.args.kind (option_copied c.args.project) c.did.new.core c.check_out.new.core (started.Refused c.in-Refused.number) = subst (Asked c.args.kind (option_copied c.args.project) c.did.new.core c.check_out.new.core) c.in-Refused.is c.in_ok-plan.ensures.asked in
    let closed = c.in_ok-close-in-Refused.ensures.closed in
    λ first began told. stops_later c.args.kind (option_copied c.args.project) first (length c.args.core.now.history) began told told c.args.core.now c.begin.new.core c.did.new.core c.check_out.new.core closed.0 c.close.new.core c.in-Refused.number batched asked closed.1 closed.2

pub returns-in_ok-close-in-Refused-clause-goes : goal.returns-in_ok-close-in-Refused-clause-goes
returns-in_ok-close-in-Refused-clause-goes g c = goes_on c.args.core.now c.check_out.new.core c.close.new.core
    (goes_on c.args.core.now c.did.new.core c.check_out.new.core (goes_on c.args.core.now c.begin.new.core c.did.new.core c.begin.ensures.goes c.did.ensures.goes) c.check_out.ensures.goes) c.close.ensures.goes
