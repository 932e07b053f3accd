-- What a pass of a shared workspace does in one turn of its own.
use Rattle.std.specs.Prelude.{◌≡◌, ℕ, List, [], ◌∷◌, ◌++◌, Option, Result, IfOk, IfSome, OnErr, is_some}
use Rattle.std.specs.declared.alloc.AllocError.{AllocError}
use Rattle.std.specs.List.{AllByRecursion}
use Rattle.job_manager.specs.Managers.{first_manager}
use Rattle.core_event.specs.declared.entry.Entry.{Entry}
use Rattle.core_event.specs.declared.event.Event.{Event}
use Rattle.core_event.specs.declared.reply.Answer.{Answer}
use Rattle.ws_core.specs.States.{Moment}
use Rattle.ws_core.specs.Steps.{step}
use Rattle.ws_core.specs.Histories.{Legal, entry_of, replay}
use Rattle.ws_core.specs.Sessions.{IsConsistent, Session}
use Rattle.ws_turn.specs.Lists.{of}
use Rattle.pass_turns.specs.Turns.{IsFaithful, Knows}
use Rattle.pass_history.specs.Served.{was_done}
use Rattle.build_history.specs.Events.{IsOwn}

-- the pass that made an entry
abbrev pub pass_of : Entry → ℕ
pass_of x = x.pass

-- the workspace as a history leaves it
abbrev pub session : Moment → List Entry → Session
session s h = record { opened = s; history = h; state = replay s h }

-- what holds of a state with which a workspace was opened: it is consistent, no job is there, and pass 0 alone has entered
pub record IsOpening (s : Moment) : Type 0 where
  pub sound : IsConsistent s
  pub first : s.manager ≡ first_manager

-- ---- one turn

-- the event of pass n was done at the end of the history that was found, and its entry added; where memory wanted nothing was
pub record WasMade (e : Event) (s : Moment) (n : ℕ) (found added : List Entry) (answer : Result Answer AllocError) : Type 0 where
  pub told : IfOk answer (λ a. a ≡ (step (replay s found) n e).1.answer)
  pub entry : IfOk answer (λ a. added ≡ entry_of (replay s found) n e ∷ [])
  pub nothing : OnErr answer (added ≡ [])

-- the same of the event by which pass n takes the services: it got them where that was done, and they fit what had been done by
-- then
pub record WasLent {T : Type 0} (Fit : List Entry → T → Type 0) (e : Event) (s : Moment) (n : ℕ) (found added : List Entry) (answer : Result (Answer × Option T) AllocError) : Type 0 where
  pub told : IfOk answer (λ r. r.0 ≡ (step (replay s found) n e).1.answer)
  pub entry : IfOk answer (λ r. added ≡ entry_of (replay s found) n e ∷ [])
  pub lent : IfOk answer (λ r. is_some r.1 ≡ was_done r.0)
  pub fits : IfOk answer (λ r. IfSome r.1 (Fit (found ++ added)))
  pub nothing : OnErr answer (added ≡ [])

-- ---- the same, as histories that were seen

-- since the history g others alone did something, which led to h
pub record Looked (n : ℕ) (s : Moment) (g h : List Entry) : Type 0 where
  pub between : List Entry
  pub others : of pass_of n between ≡ []
  pub are : h ≡ g ++ between
  pub legal : Legal s h

-- since the history g others did something, and then pass n the event, which led to h
pub record Made (n : ℕ) (e : Event) (s : Moment) (g h : List Entry) : Type 0 where
  pub between : List Entry
  pub others : of pass_of n between ≡ []
  pub are : h ≡ (g ++ between) ++ entry_of (replay s (g ++ between)) n e ∷ []
  pub legal_found : Legal s (g ++ between)
  pub legal : Legal s h

-- and it was answered so
pub record Answered (n : ℕ) (e : Event) (s : Moment) (answer : Answer) (g h : List Entry) : Type 0 where
  pub made : Made n e s g h
  pub told : answer ≡ (step (replay s (g ++ made.between)) n e).1.answer

-- the pass's own entries since the history g are entries of builds
pub record Grew (n : ℕ) (g h : List Entry) : Type 0 where
  pub since : List Entry
  pub are : h ≡ g ++ since
  pub own : AllByRecursion (IsOwn n) (of pass_of n since)

-- what a pass keeps in each of its turns
pub record IsSame (k j : Knows Entry) : Type 0 where
  pub number : j.number ≡ k.number
  pub lost : j.lost ≡ k.lost
  pub faithful : IsFaithful pass_of j
