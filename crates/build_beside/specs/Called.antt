-- For what builders are called by what the services are asked.
use Rattle.std.specs.Prelude.{List, [], ◌∷◌, Option, Some}
use Rattle.std.specs.List.{flat_map}
use Rattle.builder_api.specs.Meanings.{Meanings}
use Rattle.builder_api.specs.Told.{Built, Cleaned, Told}
use Rattle.build_due.specs.declared.site.Site.{Site}
use Rattle.core_event.specs.declared.event.Event.{Event}
use Rattle.core_event.specs.declared.event.Event.TheVariants as events
use Rattle.core_event.specs.declared.reply.Answer.{Answer}
use Rattle.core_event.specs.declared.reply.Answer.TheVariants as answers
use Rattle.core_event.specs.declared.service.ServiceEvent.{ServiceEvent}
use Rattle.core_event.specs.declared.service.ServiceEvent.TheVariants as services
use Rattle.pass_history.specs.Served.{Served}
use Rattle.build_history.specs.Calls.{NamedCall, WereCalled}
use Rattle.build_host.specs.Hosts.{StayBuilders}

-- for what was handed for a command its builder is called, and where one is cleaned
abbrev pub service_calls : ServiceEvent → Answer → Option Site → List NamedCall
service_calls (services.Handed project index kind) (answers.Handed handed) (Some site) = (site.command.builder, Built site.command handed) ∷ []
service_calls (services.Clean project index) answer (Some site) = (site.command.builder, Cleaned) ∷ []
service_calls event answer command = []

abbrev pub event_calls : Event → Answer → Option Site → List NamedCall
event_calls (events.Service x) answer command = service_calls x answer command
event_calls event answer command = []

-- the calls of builders that what the services were asked comes to, in order
abbrev pub calls_in : List Served → List NamedCall
calls_in asked = flat_map (λ (x : Served). event_calls x.entry.event x.entry.reply.answer x.command) asked

-- Builders were called for exactly what the services were asked. They have their names, and mean what they meant.
pub record WereServed (ms : Meanings) (asked : List Served) (old new : List Told) : Type 0 where
  pub stays : StayBuilders ms old new
  pub called : WereCalled (calls_in asked) old new
