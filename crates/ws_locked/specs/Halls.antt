-- What the lock keeps.
use Rattle.std.specs.Prelude.{◌≡◌, List, map, Option, None, is_none, is_some}
use Rattle.std.specs.Option.{ForSome}
use Rattle.builder_api.specs.Told.{Told as BuilderTold}
use Rattle.save_round.specs.Told.{Told as PartTold}
use Rattle.job_manager.specs.Managers.{first_manager}
use Rattle.core_event.specs.declared.entry.Entry.{Entry}
use Rattle.ws_core.specs.States.{Moment}
use Rattle.ws_core.specs.Sessions.{Session}
use Rattle.save_history.specs.Kept.{Keeper}
use Rattle.save_history.specs.Rounds.{rounds_of}
use Rattle.ws_locked.specs.Opened.{Opened}
use Rattle.ws_locked.specs.Fits.{Told}
use Rattle.ws_locked.specs.declared.services.Opening.{Opening}
use Rattle.ws_locked.specs.declared.services.Services.{Services}

-- the services
pub record Trio (D B P : Type 0) : Type 0 where
  pub keeper : Keeper D
  pub builders : List B
  pub participants : List P

abbrev pub trio_of : {D B P : Type 0} → Services D B P → Trio D B P
trio_of s = record { keeper = s.keeper; builders = s.builders; participants = s.participants }

-- the core, the services while they are home, and with what the workspace was opened
pub record Hall (D B P : Type 0) : Type 0 where
  pub core : Session
  pub services : Option (Trio D B P)
  pub opening : Opening D B P

-- what the services tell
abbrev pub told_by : {D B P : Type 0} → (B → BuilderTold) → (P → PartTold) → Trio D B P → Told D
told_by b p t = record { keeper = t.keeper; builders = map b t.builders; participants = map p t.participants }

-- with what the workspace was opened, as a vow speaks of it
abbrev pub opened_by : {D B P : Type 0} → (B → BuilderTold) → (P → PartTold) → Opening D B P → Opened
opened_by b p o = record { state = o.core.value.opened; builders = map b o.builders.value; participants = map p o.participants.value }

-- The workspace was opened with no job, and pass 0 alone. The services are home exactly where no pass has them; then no save is
-- under way, and they fit what was done.
pub record IsHall {D B P : Type 0} (b : B → BuilderTold) (p : P → PartTold) (fits : Opened → Keeper D → List Entry → Told D → Type 0) (l : Hall D B P) : Type 0 where
  pub opened : l.core.opened ≡ l.opening.core.value.opened
  pub first : l.core.opened.manager ≡ first_manager
  pub home : is_some l.core.state.manager.passes.services ≡ is_none l.services
  pub rests : ForSome l.services (λ s. (rounds_of l.core.history).under ≡ None)
  pub fit : ForSome l.services (λ s. fits (opened_by b p l.opening) l.opening.keeper.value l.core.history (told_by b p s))

-- the state that was opened
abbrev pub state_in : {D B P : Type 0} → Opening D B P → Moment
state_in o = o.core.value.opened

abbrev pub opened_in : {D B P : Type 0} → Hall D B P → Moment
opened_in l = state_in l.opening
