-- How states are stored.
use Rattle.std.specs.Prelude.{refl}
use Rattle.std.specs.Coded.{Coded, code_by, coded×}
use Rattle.proj_desc.specs.declared.command.Command.{Command}
use Rattle.ws_elem.specs.declared.element.Element.{Element}
use Rattle.job_manager.specs.declared.manager.JobManager.{JobManager}
use Rattle.service_desk.specs.declared.desk.Desk.{Desk}
use Rattle.ws_content.specs.States.{Contents}
use Rattle.ws_content.specs.Inside.Codes.{contents_code}
use Rattle.ws_core.specs.States.{Moment}

abbrev pub moment_code : Coded Element → Coded Command → Coded JobManager → Coded Desk → Coded Moment
moment_code e c m d = code_by (Contents × (JobManager × Desk)) (coded× (contents_code e c) (coded× m d))
    (λ s. (record { resources = s.resources; remembered = s.remembered }, (s.manager, s.desk)))
    (λ p. record { resources = p.0.resources; remembered = p.0.remembered; manager = p.1.0; desk = p.1.1 }) (λ _. refl)
