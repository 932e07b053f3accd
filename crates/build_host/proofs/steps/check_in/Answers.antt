use Rattle.std.proofs.Common.{refl}
use Rattle.core_event.specs.declared.service.Outcomes.TheVariants.{Build}
use Rattle.service_desk.specs.Desks.{is_building}
use Rattle.ws_core.proofs.ServingPass.{serving_fits, serving_named}
use Rattle.build_host.proofs.Handing.{it_serves}
use Rattle.build_host.proofs.steps.check_in.Goals as goal

pub unreachable-requires : goal.unreachable-requires
unreachable-requires g c =
    let s = c.args.core.now.state in
    let no = c.in-Err.ensures.checks_in (record {
      outcome = Build c.args.outcome;
      gives = refl;
      serving = serving_named s.manager.passes (is_building s.desk.serving) 1 (it_serves s 1 c.requires.may);
      fits = serving_fits s.manager.passes (is_building s.desk.serving) 1 (it_serves s 1 c.requires.may);
    }) in
    cc
