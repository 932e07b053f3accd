-- The end of a build or a save.
use Rattle.std.specs.Prelude.{◌≡◌, ℕ, true, Some}
use Rattle.core_event.specs.declared.event.Event.{Event}
use Rattle.core_event.specs.declared.event.Event.TheVariants.{Service}
use Rattle.core_event.specs.declared.service.Outcomes.{Outcomes}
use Rattle.core_event.specs.declared.service.ServiceEvent.TheVariants.{CheckIn}
use Rattle.service_desk.specs.Desks.{may_end}
use Rattle.ws_core.specs.States.{Moment}

-- the pass that has the services gives them back, as it may
pub record ChecksIn (s : Moment) (pass : ℕ) (event : Event) : Type 0 where
  pub outcome : Outcomes
  pub gives : event ≡ Service (CheckIn outcome)
  pub serving : s.manager.passes.services ≡ Some pass
  pub fits : may_end s.desk.serving outcome ≡ true
