-- Who has the services, and what a history asks of them.
use Rattle.std.specs.Prelude.{ℕ, Bool, true, false, if◌then◌else◌, List, [], ◌∷◌, ◌++◌, Option, Some, None}
use Rattle.std.specs.Option.{option_to_list}
use Rattle.build_due.specs.declared.site.Site.{Site}
use Rattle.core_event.specs.declared.entry.Entry.{Entry}
use Rattle.core_event.specs.declared.event.Event.{Event}
use Rattle.core_event.specs.declared.event.Event.TheVariants.{Service}
use Rattle.core_event.specs.declared.reply.Answer.{Answer}
use Rattle.core_event.specs.declared.reply.Answer.TheVariants.{Refused}
use Rattle.core_event.specs.declared.service.ServiceEvent.{ServiceEvent}
use Rattle.core_event.specs.declared.service.ServiceEvent.TheVariants.{Checkout, CheckIn, Handed, Commit, Clean, Saving}
use Rattle.core_event.specs.Events.{service_of}
use Rattle.service_desk.specs.Sites.{site_in}
use Rattle.ws_core.specs.States.{Moment}
use Rattle.ws_core.specs.Histories.{after, replay}

-- the pass that has the services after the history, if one has them
abbrev pub who_serves : Moment → List Entry → Option ℕ
who_serves s h = (replay s h).manager.passes.services

-- the services neither go out by the event nor come home
abbrev pub moves_nothing : ServiceEvent → Bool
moves_nothing (Checkout purpose) = false
moves_nothing (CheckIn outcome) = false
moves_nothing (Handed project index kind) = true
moves_nothing (Commit edits) = true
moves_nothing (Clean project index) = true
moves_nothing (Saving states) = true

abbrev pub keeps_services : Event → Bool
keeps_services (Service x) = moves_nothing x
keeps_services event = true

-- the event isn't refused
abbrev pub was_done : Answer → Bool
was_done (Refused refusal) = false
was_done answer = true

-- an unrefused entry that concerns the services, with the command that it names in the tree before it, if it hands for one or cleans one
pub record Served : Type 0 where
  pub entry : Entry
  pub command : Option Site

abbrev pub site_named : Moment → ServiceEvent → Option Site
site_named s (Handed project index kind) = site_in s.resources.tree project index
site_named s (Clean project index) = site_in s.resources.tree project index
site_named s event = None

abbrev pub served_by : Moment → Entry → Option ServiceEvent → Option Served
served_by s x None = None
served_by s x (Some event) = Some (record { entry = x; command = site_named s event })

-- what the entry at this place is of these, if it is one
abbrev pub served : Moment → Entry → Option Served
served s x = if was_done x.reply.answer then served_by s x (service_of x.event) else None

-- the entries of a history that concern the services, those that were refused aside
abbrev pub services_of : Moment → List Entry → List Served
services_of s [] = []
services_of s (x ∷ h) = option_to_list (served s x) ++ services_of (after s x) h
