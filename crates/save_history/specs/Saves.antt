-- The entries of a save command.
use Rattle.std.specs.Prelude.{◌≡◌, ◌⊎◌, ℕ, List, [], ◌∷◌}
use Rattle.save_kind.specs.declared.answer.SaveAnswer.{SaveAnswer}
use Rattle.save_kind.specs.declared.kind.SaveKind.{SaveKind}
use Rattle.save_kind.specs.declared.state.PartState.{PartState}
use Rattle.save_run.specs.declared.command.Saved.{Saved}
use Rattle.save_run.specs.declared.command.Saved.TheVariants.{Ended, Stopped}
use Rattle.save_run.specs.Books.{EndsUnkept}
use Rattle.core_event.specs.declared.entry.Entry.{Entry}
use Rattle.core_event.specs.declared.event.Event.TheVariants.{Service}
use Rattle.core_event.specs.declared.reply.Answer.{Answer}
use Rattle.core_event.specs.declared.reply.Answer.TheVariants as answers
use Rattle.core_event.specs.declared.reply.Refusal.{Refusal}
use Rattle.core_event.specs.declared.service.Outcomes.TheVariants as outcomes
use Rattle.core_event.specs.declared.service.Purpose.TheVariants as purposes
use Rattle.core_event.specs.declared.service.ServiceEvent.{ServiceEvent}
use Rattle.core_event.specs.declared.service.ServiceEvent.TheVariants.{Checkout, CheckIn, Saving}
use Rattle.core_event.specs.Replies.{refusal_number}

-- the pass asked this of the services, and was answered so
pub record IsAnswered (k : ℕ) (event : ServiceEvent) (answer : Answer) (x : Entry) : Type 0 where
  pub pass : x.pass ≡ k
  pub event_is : x.event ≡ Service event
  pub answer_is : x.reply.answer ≡ answer

-- the pass asked this of the services, and it was done
abbrev pub IsDone : ℕ → ServiceEvent → Entry → Type 0
IsDone k event x = IsAnswered k event answers.Done x

-- what begins a save of the kind, and what ends one
abbrev pub beginning : SaveKind → ServiceEvent
beginning kind = Checkout (purposes.Save kind)

abbrev pub ending : SaveAnswer → ServiceEvent
ending o = CheckIn (outcomes.Save o)

-- its beginning was refused with this number
pub record WasStopped (k : ℕ) (kind : SaveKind) (n : ℕ) (h : List Entry) : Type 0 where
  pub refusal : Refusal
  pub number : n ≡ refusal_number refusal
  pub entry : Entry
  pub are : h ≡ entry ∷ []
  pub refused : IsAnswered k (beginning kind) (answers.Refused refusal) entry

-- it began, and ended so before states were kept
pub record WasUnkept (k : ℕ) (kind : SaveKind) (o : SaveAnswer) (h : List Entry) : Type 0 where
  pub first : Entry
  pub last : Entry
  pub are : h ≡ first ∷ last ∷ []
  pub begins : IsDone k (beginning kind) first
  pub ends : IsDone k (ending o) last
  pub unkept : EndsUnkept o

-- it began, states were kept, and it ended so
pub record WasKept (k : ℕ) (kind : SaveKind) (o : SaveAnswer) (h : List Entry) : Type 0 where
  pub states : List (List ℕ × PartState)
  pub first : Entry
  pub middle : Entry
  pub last : Entry
  pub are : h ≡ first ∷ middle ∷ last ∷ []
  pub begins : IsDone k (beginning kind) first
  pub keeps : IsDone k (Saving states) middle
  pub ends : IsDone k (ending o) last

-- the entries of a save command of the pass that was answered so
abbrev pub IsSaveOf : ℕ → SaveKind → Saved → List Entry → Type 0
IsSaveOf k kind (Ended o) h = WasUnkept k kind o h ⊎ WasKept k kind o h
IsSaveOf k kind (Stopped n) h = WasStopped k kind n h

-- the entries of a save command of the pass
abbrev pub IsSave : ℕ → SaveKind → List Entry → Type 0
IsSave k kind h = (saved : Saved) × IsSaveOf k kind saved h
