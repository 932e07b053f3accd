-- What a pass has done for a save that it began, and what holds then.
use Rattle.std.specs.Prelude.{◌≡◌, ℕ, Bool, true, false, List, [], ◌∷◌, ◌++◌, map, Option, Some, None, is_some}
use Rattle.std.specs.Option.{ForSome}
use Rattle.ws_outside.specs.declared.contents.Contents.{Contents}
use Rattle.ws_durable.specs.declared.durable.Durable.{Durable}
use Rattle.ws_durable.specs.Saved.{saved}
use Rattle.save_format.specs.Valid.{Valid}
use Rattle.save_store.specs.Stored.{IsNarrow}
use Rattle.save_kind.specs.declared.answer.SaveAnswer.{SaveAnswer}
use Rattle.save_kind.specs.declared.kind.SaveKind.{SaveKind}
use Rattle.save_kind.specs.declared.state.PartState.{PartState}
use Rattle.save_round.specs.Told.{Told as PartTold}
use Rattle.save_run.specs.Saves.{CameTo}
use Rattle.save_run.specs.Books.{Deed, Start, Keep, Write, Finish, EndsUnkept, outcome_of}
use Rattle.core_event.specs.declared.entry.Entry.{Entry}
use Rattle.core_event.specs.declared.service.ServiceEvent.TheVariants.{Saving}
use Rattle.ws_core.specs.States.{Moment}
use Rattle.ws_core.specs.Histories.{Legal, replay}
use Rattle.ws_core.specs.Sessions.{Session}
use Rattle.save_history.specs.Points.{IsAsked}
use Rattle.save_history.specs.Causes.{MayEndSo}
use Rattle.save_history.specs.Kept.{Keeper, IsKept, IsTried, points_at}
use Rattle.save_history.specs.Rounds.{Begun, kept_in, rounds_of}
use Rattle.save_history.specs.Saves.{IsDone, ending}
use Rattle.save_history.specs.Stages.{IsUnderWay}
use Rattle.ws_turn.specs.Lists.{StartsWith}
use Rattle.pass_turns.specs.Turns.{IsFaithful, Knows}
use Rattle.pass_history.specs.Served.{Served, services_of}
use Rattle.ws_locked.specs.Fits.{session}
use Rattle.ws_locked.specs.Halls.{state_in}
use Rattle.ws_locked.specs.declared.services.Opening.{Opening}
use Rattle.ws_shared.specs.Calls.{pass_of}
use Rattle.ws_shared.specs.declared.saving.Try.{Try}

abbrev pub States : Type 0
States = List (List ℕ × PartState)

-- ---- what it has done

abbrev pub then_end : Option SaveAnswer → List Deed
then_end None = []
then_end (Some answer) = Finish answer ∷ []

abbrev pub then_write : Option Try → List Deed → List Deed
then_write None deeds = deeds
then_write (Some t) deeds = Write t.kind t.result ∷ deeds

abbrev pub then_keep : Option States → List Deed → List Deed
then_keep None deeds = deeds
then_keep (Some states) deeds = Keep states ∷ deeds

-- it began, and then states were kept, they were written, and it ended, so far as it has come; nothing before its beginning
-- is noted
abbrev pub book_of : Bool → SaveKind → Option States → Option Try → Option SaveAnswer → List Deed
book_of true kind kept written ended = Start kind None ∷ then_keep kept (then_write written (then_end ended))
book_of false kind kept written ended = []

-- nothing was done since it began, unless that is noted
abbrev pub IsFresh : Bool → Option States → Option Try → Option SaveAnswer → Type 0
IsFresh true kept written ended = Unit {0}
IsFresh false kept written ended = (kept ≡ None) × (written ≡ None) × (ended ≡ None)

-- ---- what holds then

-- the entry by which states were kept, where some were
abbrev pub AreAdded : ℕ → Option States → List Entry → Type 0
AreAdded n None entries = entries ≡ []
AreAdded n (Some states) entries = (x : Entry) × (entries ≡ x ∷ []) × IsDone n (Saving states) x

-- an entry that the services served which names no command
abbrev pub plainly : Entry → Served
plainly x = record { entry = x; command = None }

-- it may end so
abbrev pub EndsSo : Option States → Option Try → SaveAnswer → Type 0
EndsSo None None answer = EndsUnkept answer
EndsSo None (Some t) answer = ⊥
EndsSo (Some states) None answer = ⊥
EndsSo (Some states) (Some t) answer = answer ≡ outcome_of t.result

-- the store, before and behind the write
abbrev pub IsStore : {D : Type 0} → (D → ℕ) → (D → ℕ → Contents → Type 0) → (D → Contents → Type 0) → (D → ℕ) → Option Try → Session → Keeper D → Type 0
IsStore moment left_since may_leave faults None x keeper = IsKept moment left_since may_leave faults x keeper
IsStore moment left_since may_leave faults (Some t) x keeper = IsTried moment left_since may_leave faults t.result x keeper

-- The save that began when the pass had seen k came so far that it has seen j.
pub record IsAt {D : Type 0} (moment : D → ℕ) (left_since : D → ℕ → Contents → Type 0) (may_leave : D → Contents → Type 0) (faults : D → ℕ)
    (s : Moment) (k j : Knows Entry) (keeper : Keeper D)
    (kind : SaveKind) (kept : Option States) (now : Option Durable) (written : Option Try) (ended : Option SaveAnswer) : Type 0 where
  pub begins : StartsWith j.seen k.seen
  pub number : j.number ≡ k.number
  pub lost : j.lost ≡ k.lost
  pub added : (entries : List Entry) × (j.mine ≡ k.mine ++ entries) × AreAdded k.number kept entries
  pub legal : Legal s j.seen
  pub faithful : IsFaithful pass_of j
  pub under_way : IsUnderWay k.number (is_some kept) (replay s j.seen)
  pub ended_before : (rounds_of j.seen).ended ≡ (rounds_of k.seen).ended
  pub round : (rounds_of j.seen).under ≡ Some (record { kind = kind; kept = kept })
  pub served : services_of s j.seen ≡ services_of s k.seen ++ map plainly added.0
  pub store : IsStore moment left_since may_leave faults written (session s j.seen) keeper
  pub valid : ForSome now (λ d. IsNarrow d → Valid (saved d))
  pub unasked : kept ≡ None → now ≡ None
  pub asked : written ≡ None → ForSome now (λ d. IsAsked (points_at (session s j.seen) keeper) (saved d))
  pub ends : ForSome ended (EndsSo kept written)

-- the pass took the services for a save of the kind: that is its last entry, and the last one that it has seen
pub record HasBegun {D B P : Type 0} (kind : SaveKind) (o : Opening D B P) (k : Knows Entry) : Type 0 where
  pub legal : Legal (state_in o) k.seen
  pub faithful : IsFaithful pass_of k
  pub under_way : IsUnderWay k.number false (replay (state_in o) k.seen)
  pub round : (rounds_of k.seen).under ≡ Some (record { kind = kind; kept = None })

-- the save ended so, behind its beginning
pub record HasEndedSo {D B P : Type 0} (kind : SaveKind) (o : Opening D B P) (answer : SaveAnswer) (k j : Knows Entry) : Type 0 where
  pub begins : StartsWith j.seen k.seen
  pub number : j.number ≡ k.number
  pub lost : j.lost ≡ k.lost
  pub made : (kept : Option States) × (entries : List Entry) × (last : Entry) × (j.mine ≡ k.mine ++ (entries ++ last ∷ [])) × AreAdded k.number kept entries × IsDone k.number (ending answer) last
      × (kept ≡ None → EndsUnkept answer)
  pub ends : (before : List Entry) × (x : Entry) × (j.seen ≡ before ++ x ∷ []) × IsDone k.number (ending answer) x
  pub reason : MayEndSo answer (points_at (session (state_in o) j.seen) o.keeper.value) o.keeper.value.began.areas.top
  pub legal_seen : Legal (state_in o) j.seen
  pub faithful : IsFaithful pass_of j

-- all was done for the save that is to end so, but that it isn't told: what the pass and its participants did
pub record IsThrough {D : Type 0} (moment : D → ℕ) (left_since : D → ℕ → Contents → Type 0) (may_leave : D → Contents → Type 0) (faults : D → ℕ)
    (s : Moment) (k j : Knows Entry) (keeper : Keeper D) (kind : SaveKind) (answer : SaveAnswer) (old new : List PartTold) : Type 0 where
  pub kept : Option States
  pub written : Option Try
  pub now : Option Durable
  pub at : IsAt moment left_since may_leave faults s k j keeper kind kept now written None
  pub ends : EndsSo kept written answer
  pub deeds : List Deed
  pub keeps : kept_in deeds ≡ kept
  pub came : CameTo kind answer deeds old new
