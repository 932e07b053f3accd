-- What a pass has done for a save, and what holds then.
use Rattle.std.specs.Prelude.{◌≡◌, ℕ, true, List, [], ◌∷◌, ◌++◌, length, drop, Option, Some, None}
use Rattle.std.specs.Option.{option_map, option_to_list}
use Rattle.ws_outside.specs.declared.contents.Contents.{Contents}
use Rattle.save_kind.specs.declared.answer.SaveAnswer.{SaveAnswer}
use Rattle.save_kind.specs.declared.kind.SaveKind.{SaveKind}
use Rattle.save_kind.specs.declared.state.PartState.{PartState}
use Rattle.save_run.specs.Books.{Deed, Start, Keep, Write, Finish, EndsUnkept, outcome_of}
use Rattle.core_event.specs.declared.entry.Entry.{Entry}
use Rattle.core_event.specs.declared.reply.Answer.{Answer}
use Rattle.ws_core.specs.Histories.{has_entered}
use Rattle.ws_core.specs.Sessions.{Session}
use Rattle.ws_core.specs.Durables.{durable_of}
use Rattle.save_history.specs.Steps.{SaveStep, Begins, Keeps, Ends, step_in}
use Rattle.save_history.specs.Points.{IsAsked}
use Rattle.save_history.specs.Causes.{MayEndSo}
use Rattle.save_history.specs.Kept.{Keeper, IsKept, IsTried, points_at}
use Rattle.save_history.specs.Stages.{HasBegun, HasEnded, HasKept, WasRefused, number_of}
use Rattle.save_host.specs.declared.host.Try.{Try}

-- what an entry is of a save, as a host notes it
abbrev pub deed_by : Answer → SaveStep → Deed
deed_by a (Begins kind) = Start kind (number_of a)
deed_by a (Keeps states) = Keep states
deed_by a (Ends o) = Finish o

abbrev pub deeds_of : List Entry → List Deed
deeds_of [] = []
deeds_of (x ∷ h) = option_to_list (option_map (deed_by x.reply.answer) (step_in x.event)) ++ deeds_of h

-- a write comes behind the states that were kept
abbrev pub with_write : Option Try → List Deed → List Deed
with_write None deeds = deeds
with_write (Some t) [] = []
with_write (Some t) (Start kind refused ∷ deeds) = Start kind refused ∷ with_write (Some t) deeds
with_write (Some t) (Keep states ∷ deeds) = Keep states ∷ Write t.kind t.result ∷ deeds
with_write (Some t) (Write kind result ∷ deeds) = Write kind result ∷ with_write (Some t) deeds
with_write (Some t) (Finish o ∷ deeds) = Finish o ∷ with_write (Some t) deeds

-- what was done between two sessions
abbrev pub book_of : Session → Session → Option Try → List Deed
book_of x y written = with_write written (deeds_of (drop (length x.history) y.history))

-- how far a save of the pass has come between two sessions, and what then holds of the store
pub data IsAt {D : Type 0} (moment : D → ℕ) (left_since : D → ℕ → Contents → Type 0) (may_leave : D → Contents → Type 0) (faults : D → ℕ)
    (k : ℕ) (x y : Session) (keeper : Keeper D) (written : Option Try) : Type 0 where
  -- nothing was done
  IsFresh : y ≡ x → written ≡ None → IsKept moment left_since may_leave faults y keeper → IsAt moment left_since may_leave faults k x y keeper written
  -- its beginning was refused
  IsStopped : (kind : SaveKind) (n : ℕ) → WasRefused k kind n x y → written ≡ None → IsKept moment left_since may_leave faults y keeper → IsAt moment left_since may_leave faults k x y keeper written
  -- it began
  IsBegun : (kind : SaveKind) → HasBegun k kind x y → written ≡ None → IsKept moment left_since may_leave faults y keeper → IsAt moment left_since may_leave faults k x y keeper written
  -- states were kept
  AreKept : (kind : SaveKind) (states : List (List ℕ × PartState)) (a : Session) → HasBegun k kind x a → HasKept k states a y → written ≡ None
      → IsKept moment left_since may_leave faults y keeper → IsAsked (points_at y keeper) (durable_of y.state) → IsAt moment left_since may_leave faults k x y keeper written
  -- a write was tried
  WasTried : (kind : SaveKind) (states : List (List ℕ × PartState)) (a : Session) (t : Try) → HasBegun k kind x a → HasKept k states a y → written ≡ Some t
      → IsTried moment left_since may_leave faults t.result y keeper → IsAt moment left_since may_leave faults k x y keeper written
  -- it ended before states were kept
  IsOver : (kind : SaveKind) (o : SaveAnswer) (a : Session) → HasBegun k kind x a → HasEnded k o a y → EndsUnkept o → written ≡ None
      → IsKept moment left_since may_leave faults y keeper → IsAt moment left_since may_leave faults k x y keeper written
  -- it ended as the write said
  IsThrough : (kind : SaveKind) (states : List (List ℕ × PartState)) (a b : Session) (t : Try) → HasBegun k kind x a → HasKept k states a b → HasEnded k (outcome_of t.result) b y → written ≡ Some t
      → IsKept moment left_since may_leave faults y keeper → MayEndSo (outcome_of t.result) (points_at y keeper) keeper.began.areas.top → IsAt moment left_since may_leave faults k x y keeper written

-- the pass has entered, and its save has come so far
pub record IsReady {D : Type 0} (moment : D → ℕ) (left_since : D → ℕ → Contents → Type 0) (may_leave : D → Contents → Type 0) (faults : D → ℕ)
    (k : ℕ) (x y : Session) (keeper : Keeper D) (written : Option Try) : Type 0 where
  pub entered : has_entered k y.state ≡ true
  pub at : IsAt moment left_since may_leave faults k x y keeper written
