-- The services go out and come home.
use Rattle.std.specs.Prelude.{◌≡◌, ◌≢◌, ℕ, List, [], ◌∷◌, ◌++◌, Option, Some, None, Result, IfErr, IfOk, IfSome, IsOk, OnErr, OnOk, is_some, true}
use Rattle.std.specs.declared.alloc.AllocError.{AllocError}
use Rattle.core_event.specs.declared.entry.Entry.{Entry}
use Rattle.core_event.specs.declared.event.Event.{Event}
use Rattle.core_event.specs.declared.event.Event.TheVariants.{Service}
use Rattle.core_event.specs.declared.reply.Answer.{Answer}
use Rattle.core_event.specs.declared.reply.Answer.TheVariants.{Done, Refused}
use Rattle.core_event.specs.declared.reply.Refusal.{Refusal}
use Rattle.core_event.specs.declared.reply.Refusal.TheVariants as refusals
use Rattle.core_event.specs.declared.reply.Reply.{Reply}
use Rattle.core_event.specs.declared.service.Outcomes.{Outcomes}
use Rattle.core_event.specs.declared.service.Purpose.{Purpose}
use Rattle.core_event.specs.declared.service.ServiceEvent.TheVariants.{Checkout, CheckIn, Saving}
use Rattle.save_kind.specs.declared.state.PartState.{PartState}
use Rattle.ws_durable.specs.declared.durable.Durable.{Durable}
use Rattle.ws_durable.specs.Saved.{saved}
use Rattle.save_format.specs.Valid.{Valid}
use Rattle.save_store.specs.Stored.{IsNarrow}
use Rattle.ws_core.specs.States.{Moment}
use Rattle.ws_core.specs.Steps.{step}
use Rattle.ws_core.specs.Histories.{entry_of, replay}
use Rattle.ws_core.specs.Durables.{durable_of}
use Rattle.save_history.specs.Saves.{IsDone}
use Rattle.save_history.specs.Stages.{IsUnderWay}
use Rattle.core_event.specs.declared.service.Purpose.TheVariants.{Build, Save}
use Rattle.save_history.specs.Rounds.{Begun, rounds_of}
use Rattle.pass_history.specs.Served.{was_done, who_serves}
use Rattle.ws_core.specs.Ends.{ChecksIn}
use Rattle.ws_locked.specs.Asked.{noted}
use Rattle.ws_locked.specs.declared.moving.CheckInError.{CheckInError}
use Rattle.ws_locked.specs.declared.moving.CheckInError.TheVariants.{Memory, NotServices}

-- the event that takes the services, and the one that gives them back
abbrev pub checkout : Purpose → Event
checkout purpose = Service (Checkout purpose)

abbrev pub checkin : Outcomes → Event
checkin outcome = Service (CheckIn outcome)

abbrev pub error_in : Refusal → CheckInError
error_in (refusals.NotServices holder) = NotServices holder
error_in r = NotServices None

-- why services weren't taken back
abbrev pub error_of : Answer → CheckInError
error_of (Refused r) = error_in r
error_of a = NotServices None

-- pass n asked for the services at the end of a history, and was answered so; its entry was added
pub record WasTaken (s : Moment) (n : ℕ) (purpose : Purpose) (h now : List Entry) (reply : Reply) : Type 0 where
  pub reply_is : reply ≡ (step (replay s h) n (checkout purpose)).1
  pub entry : now ≡ h ++ noted (entry_of (replay s h) n (checkout purpose))

-- with the entry by which pass n gives the services back, whatever it tells, the history is one that they fit, and in which
-- no save is under way
abbrev pub ComesHome : (List Entry → Type 0) → ℕ → Outcomes → List Entry → Type 0
ComesHome Fit n outcome h = (r : Reply) → r.answer ≡ Done
    → Fit (h ++ record { pass = n; event = checkin outcome; reply = r } ∷ []) × ((rounds_of (h ++ record { pass = n; event = checkin outcome; reply = r } ∷ [])).under ≡ None)

-- pass n gave the services back at the end of a history, and its entry was added
pub record WasGiven (s : Moment) (n : ℕ) (outcome : Outcomes) (h now : List Entry) (reply : Reply) : Type 0 where
  pub reply_is : reply ≡ (step (replay s h) n (checkin outcome)).1
  pub done : reply.answer ≡ Done
  pub entry : now ≡ h ++ entry_of (replay s h) n (checkin outcome) ∷ []

-- the services were handed back: the pass hasn't them, and that it was asked is written; or memory wanted
abbrev pub WasHandedBack : Moment → ℕ → Outcomes → List Entry → List Entry → CheckInError → Type 0
WasHandedBack s n outcome h now (NotServices holder) = (now ≡ h ++ entry_of (replay s h) n (checkin outcome) ∷ [])
    × ((step (replay s h) n (checkin outcome)).1.answer ≡ Refused (refusals.NotServices holder)) × (holder ≡ who_serves s h)
WasHandedBack s n outcome h now Memory = now ≡ h

-- the save under way where the services were taken for this
abbrev pub round_for : Purpose → Option Begun
round_for (Build kind scope) = None
round_for (Save kind) = Some (record { kind = kind; kept = None })

-- pass n asked for the services in one turn, and got them where that was done; they fit what had been done by then
pub record WasLent {T : Type 0} (Fit : List Entry → T → Type 0) (s : Moment) (n : ℕ) (purpose : Purpose) (found added : List Entry) (answer : Result (Reply × Option T) AllocError) : Type 0 where
  pub reply : IfOk answer (λ r. r.0 ≡ (step (replay s found) n (checkout purpose)).1)
  pub entry : IfOk answer (λ r. added ≡ noted (entry_of (replay s found) n (checkout purpose)))
  pub lent : IfOk answer (λ r. is_some r.1 ≡ was_done r.0.answer)
  pub fits : IfOk answer (λ r. IfSome r.1 (Fit (found ++ added)))
  pub round : IfOk answer (λ r. IfSome r.1 (λ s. (rounds_of (found ++ added)).under ≡ round_for purpose))
  pub nothing : OnErr answer (added ≡ [])

-- the same where it waited until no other pass had them: that one has isn't why it was refused
pub record WasAwaited {T : Type 0} (Fit : List Entry → T → Type 0) (s : Moment) (n : ℕ) (purpose : Purpose) (found added : List Entry) (answer : Result (Reply × Option T) AllocError) : Type 0 where
  pub lent : WasLent Fit s n purpose found added answer
  pub waited : IfOk answer (λ r. (holder : ℕ) → r.0.answer ≢ Refused (refusals.ServicesOut holder))

-- In the save of pass n the states were kept, by its entry that was added, and this is what lasts over the save of what was
-- there then, unless memory wanted for that; where it wanted before, nothing was done
pub record WereKept (states : List (List ℕ × PartState)) (s : Moment) (n : ℕ) (found added : List Entry) (answer : Result (Option Durable) AllocError) : Type 0 where
  pub entry : OnOk answer ((x : Entry) × (added ≡ x ∷ []) × IsDone n (Saving states) x)
  pub under_way : OnOk answer (IsUnderWay n true (replay s (found ++ added)))
  pub lasts : IfOk answer (λ o. IfSome o (λ d. saved d ≡ durable_of (replay s (found ++ added))))
  pub valid : IfOk answer (λ o. IfSome o (λ d. IsNarrow d → Valid (saved d)))
  pub nothing : OnErr answer (added ≡ [])

-- pass n gave the services back in one turn, or they were handed back
pub record WasBrought {T : Type 0} (s : Moment) (n : ℕ) (outcome : Outcomes) (services : T) (found added : List Entry) (answer : Result Reply (CheckInError × T)) : Type 0 where
  pub given : IfOk answer (λ r. WasGiven s n outcome found (found ++ added) r)
  pub back : IfErr answer (λ e. (e.1 ≡ services) × WasHandedBack s n outcome found (found ++ added) e.0)
  pub never : ChecksIn (replay s found) n (checkin outcome) → IsOk answer
