-- What each step of a save leaves.
use Rattle.std.specs.Prelude.{◌≡◌, ℕ, Bool, true, false, if◌then◌else◌, List, [], ◌∷◌, ◌++◌, Option, Some, None}
use Rattle.save_kind.specs.declared.answer.SaveAnswer.{SaveAnswer}
use Rattle.save_kind.specs.declared.kind.SaveKind.{SaveKind}
use Rattle.save_kind.specs.declared.state.PartState.{PartState}
use Rattle.core_event.specs.declared.entry.Entry.{Entry}
use Rattle.core_event.specs.declared.reply.Answer.{Answer}
use Rattle.core_event.specs.declared.reply.Answer.TheVariants as answers
use Rattle.core_event.specs.declared.reply.Refusal.{Refusal}
use Rattle.core_event.specs.declared.service.ServiceEvent.{ServiceEvent}
use Rattle.core_event.specs.declared.service.ServiceEvent.TheVariants.{Saving}
use Rattle.core_event.specs.Replies.{refusal_number}
use Rattle.pass_table.specs.Rows.{checked_in}
use Rattle.job_manager.specs.declared.manager.JobManager.{JobManager}
use Rattle.service_desk.specs.declared.desk.Serving.TheVariants as serving
use Rattle.ws_marks.specs.Places.{States}
use Rattle.ws_elem.specs.Trees.{Tree}
use Rattle.ws_content.specs.Saves.{is_saved, kept_before, kept_with}
use Rattle.ws_core.specs.States.{Moment}
use Rattle.ws_core.specs.Histories.{after, replay}
use Rattle.ws_core.specs.Sessions.{Session}
use Rattle.save_run.specs.declared.command.Saved.{Saved}
use Rattle.save_run.specs.declared.command.Saved.TheVariants.{Ended, Stopped}
use Rattle.save_history.specs.Steps.{states_kept, steps_of}
use Rattle.save_history.specs.Saves.{IsAnswered, IsSaveOf, beginning, ending}

-- all but who has the services
abbrev pub at_home : JobManager → JobManager
at_home m = record m { passes = checked_in m.passes }

-- what no step of a save changes
pub record Stays (s t : Moment) : Type 0 where
  pub resources : t.resources ≡ s.resources
  pub start : t.remembered.start ≡ s.remembered.start
  pub told : t.remembered.told ≡ s.remembered.told
  pub built : t.remembered.built ≡ s.remembered.built
  pub manager : at_home t.manager ≡ at_home s.manager
  pub builders : t.desk.builders ≡ s.desk.builders

-- a save of the pass is under way; states were kept in it, or not yet
pub record IsUnderWay (k : ℕ) (kept : Bool) (s : Moment) : Type 0 where
  pub services : s.manager.passes.services ≡ Some k
  pub serving : s.desk.serving ≡ Some (serving.Save kept)

-- the pass asked this of the services, and was answered so; nothing else was done
pub record WentOn (k : ℕ) (event : ServiceEvent) (answer : Answer) (x y : Session) : Type 0 where
  pub placed : x.state ≡ replay x.opened x.history
  pub opened : y.opened ≡ x.opened
  pub entry : Entry
  pub is : IsAnswered k event answer entry
  pub history : y.history ≡ x.history ++ entry ∷ []
  pub state : y.state ≡ after x.state entry
  pub stays : Stays x.state y.state

-- the number with which something was refused, if it was
abbrev pub number_of : Answer → Option ℕ
number_of (answers.Refused r) = Some (refusal_number r)
number_of answer = None

-- the beginning of a save was refused with this number
pub record WasRefused (k : ℕ) (kind : SaveKind) (n : ℕ) (x y : Session) : Type 0 where
  pub refusal : Refusal
  pub number : n ≡ refusal_number refusal
  pub went : WentOn k (beginning kind) (answers.Refused refusal) x y
  pub same : y.state ≡ x.state

-- a save began
pub record HasBegun (k : ℕ) (kind : SaveKind) (x y : Session) : Type 0 where
  pub went : WentOn k (beginning kind) answers.Done x y
  pub home : x.state.manager.passes.services ≡ None
  pub under_way : IsUnderWay k false y.state
  pub kept : y.state.remembered.kept ≡ x.state.remembered.kept
  pub before : y.state.remembered.before ≡ Some (kept_before x.state.remembered)

-- a save began, or was refused with a number
abbrev pub Starts : ℕ → SaveKind → Option ℕ → Session → Session → Type 0
Starts k kind None x y = HasBegun k kind x y
Starts k kind (Some n) x y = WasRefused k kind n x y

-- states were kept in it
pub record HasKept (k : ℕ) (states : List (List ℕ × PartState)) (x y : Session) : Type 0 where
  pub went : WentOn k (Saving states) answers.Done x y
  pub under_way : IsUnderWay k true y.state
  pub kept : y.state.remembered.kept ≡ kept_with x.state.resources.tree x.state.remembered.kept states
  pub before : y.state.remembered.before ≡ x.state.remembered.before

-- it ended so
pub record HasEnded (k : ℕ) (o : SaveAnswer) (x y : Session) : Type 0 where
  pub went : WentOn k (ending o) answers.Done x y
  pub home : y.state.manager.passes.services ≡ None
  pub kept : y.state.remembered.kept ≡ (if is_saved o then x.state.remembered.kept else kept_before x.state.remembered)
  pub before : y.state.remembered.before ≡ None

-- ---- a whole save

-- what participants keep after a save that was answered so: these states too, where it was saved
abbrev pub kept_by : Saved → Tree → States Tree → List (List ℕ × PartState) → States Tree
kept_by (Ended o) tree kept states = if is_saved o then kept_with tree kept states else kept
kept_by (Stopped n) tree kept states = kept

-- a save command of the pass was answered so, and nothing else was done
pub record HasSaved (k : ℕ) (kind : SaveKind) (saved : Saved) (x y : Session) : Type 0 where
  pub opened : y.opened ≡ x.opened
  pub entries : List Entry
  pub history : y.history ≡ x.history ++ entries
  pub made : IsSaveOf k kind saved entries
  pub stays : Stays x.state y.state
  pub manager : y.state.manager ≡ x.state.manager
  -- where no save was under way none is, and participants keep what they kept, and the states that were saved
  pub before : x.state.remembered.before ≡ None → y.state.remembered.before ≡ None
  pub kept : x.state.remembered.before ≡ None → y.state.remembered.kept ≡ kept_by saved x.state.resources.tree x.state.remembered.kept (states_kept (steps_of entries))
