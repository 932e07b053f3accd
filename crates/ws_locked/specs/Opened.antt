-- With what a workspace was opened, as a vow speaks of it.
use Rattle.std.specs.Prelude.{◌≡◌, Bool, true, false, List, [], ◌∷◌, ◌++◌}
use Rattle.builder_api.specs.Told.{Told as BuilderTold}
use Rattle.save_round.specs.Told.{Told as PartTold}
use Rattle.core_event.specs.declared.event.Event.{Event}
use Rattle.core_event.specs.declared.event.Event.TheVariants.{Service}
use Rattle.core_event.specs.declared.service.Outcomes.TheVariants as outcomes
use Rattle.core_event.specs.declared.service.ServiceEvent.{ServiceEvent}
use Rattle.core_event.specs.declared.service.ServiceEvent.TheVariants.{Checkout, CheckIn, Handed, Commit, Clean, Saving}
use Rattle.ws_core.specs.States.{Moment}
use Rattle.pass_history.specs.Served.{Served}

-- the opened state, and what its builders and participants told then
pub record Opened : Type 0 where
  pub state : Moment
  pub builders : List BuilderTold
  pub participants : List PartTold

abbrev pub asks_of_save : ServiceEvent → Bool
asks_of_save (Checkout purpose) = true
asks_of_save (CheckIn (outcomes.Build outcome)) = false
asks_of_save (CheckIn (outcomes.Save answer)) = true
asks_of_save (Handed project index kind) = false
asks_of_save (Commit edits) = false
asks_of_save (Clean project index) = false
asks_of_save (Saving states) = true

-- the event takes the services, keeps the states of a save, or ends a save
abbrev pub is_of_save : Event → Bool
is_of_save (Service x) = asks_of_save x
is_of_save event = false

-- the law of a vow: a save keeps it
abbrev pub Vows : (Opened → List BuilderTold → List Served → Type 0) → Type 0
Vows fits = (o : Opened) (builders : List BuilderTold) (asked : List Served) (x : Served) → is_of_save x.entry.event ≡ true → fits o builders asked → fits o builders (asked ++ x ∷ [])
