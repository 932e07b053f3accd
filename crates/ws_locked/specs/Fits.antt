-- When the services fit a history.
use Rattle.std.specs.Prelude.{◌≡◌, ◌⊎◌, ℕ, List, [], ◌∷◌, None}
use Rattle.ws_outside.specs.declared.contents.Contents.{Contents}
use Rattle.builder_api.specs.Told.{Told as BuilderTold}
use Rattle.save_round.specs.Told.{Told as PartTold}
use Rattle.core_event.specs.declared.entry.Entry.{Entry}
use Rattle.ws_core.specs.States.{Moment}
use Rattle.ws_core.specs.Histories.{replay}
use Rattle.ws_core.specs.Sessions.{Session}
use Rattle.save_history.specs.Kept.{Keeper, IsKept}
use Rattle.save_kind.specs.declared.answer.SaveAnswer.{SaveAnswer}
use Rattle.save_kind.specs.declared.answer.SaveAnswer.TheVariants as answer
use Rattle.save_history.specs.Rounds.{HadSave, Save, rounds_of}
use Rattle.pass_history.specs.Served.{Served, services_of}
use Rattle.ws_locked.specs.Opened.{Opened}

-- the services, and what builders and participants tell
pub record Told (D : Type 0) : Type 0 where
  pub keeper : Keeper D
  pub builders : List BuilderTold
  pub participants : List PartTold

-- the workspace as this history leaves it
abbrev pub session : Moment → List Entry → Session
session s h = record { opened = s; history = h; state = replay s h }

-- a save ends so of which nothing is told but that it wasn't made
abbrev pub EndsIdle : SaveAnswer → Type 0
EndsIdle answer.Saved = ⊥
EndsIdle answer.SaveFailed = ⊥
EndsIdle (answer.ParticipantFailed name) = ⊥
EndsIdle answer.SaveTooLarge = Unit {0}
EndsIdle answer.SaveNumbers = Unit {0}
EndsIdle answer.NoMemory = Unit {0}

-- the services were given back as they were taken: no states were kept
abbrev pub WasIdle : Save → Type 0
WasIdle save = (save.begun.kept ≡ None) × EndsIdle save.answer

-- participants had the calls of these saves, and none for one in which the services were left alone
abbrev pub HadEach : List Save → List PartTold → List PartTold → Type 0
HadEach [] old new = new ≡ old
HadEach (save ∷ saves) old new = (then : List PartTold) × (HadSave save old then ⊎ (WasIdle save × (then ≡ old))) × HadEach saves then new

-- The store is kept for the history: each crash image since it was opened holds a point of it, and now that of the save that
-- was acknowledged last or of one begun after it, and its greatest save number rose by no more than one for each save that was
-- begun. The participants had the calls of the saves that ended, and no others. The builders are as was vowed.
pub record Fits {D : Type 0} (moment : D → ℕ) (left_since : D → ℕ → Contents → Type 0) (may_leave : D → Contents → Type 0) (faults : D → ℕ)
    (vow : Opened → List BuilderTold → List Served → Type 0) (o : Opened) (began : Keeper D) (h : List Entry) (s : Told D) : Type 0 where
  pub same_store : s.keeper.began ≡ began.began
  pub kept : IsKept moment left_since may_leave faults (session o.state h) s.keeper
  pub had : HadEach (rounds_of h).ended o.participants s.participants
  pub vowed : vow o s.builders (services_of o.state h)
