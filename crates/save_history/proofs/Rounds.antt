-- The rounds of a history that goes on, and what participants tell of its saves.
use Rattle.std.proofs.Common.{◌≡◌, ℕ, List, [], ◌∷◌, ◌++◌, Some, None, refl, sym, ap, ◌∙◌, subst}
use Rattle.save_kind.specs.declared.answer.SaveAnswer.{SaveAnswer}
use Rattle.save_kind.specs.declared.kind.SaveKind.{SaveKind}
use Rattle.save_round.specs.Told.{Told}
use Rattle.save_run.specs.Books.{Deed}
use Rattle.save_run.specs.Saves.{CameTo}
use Rattle.core_event.specs.declared.entry.Entry.{Entry}
use Rattle.core_event.specs.declared.reply.Answer.TheVariants.{Refused}
use Rattle.core_event.specs.declared.reply.Refusal.{Refusal}
use Rattle.core_event.specs.declared.service.ServiceEvent.{ServiceEvent}
use Rattle.std.specs.Option.{option_to_list}
use Rattle.save_history.specs.Steps.{SaveStep, Begins, Keeps, Ends, NoSaves, step_asked, step_of, steps_of}
use Rattle.save_history.specs.Saves.{IsAnswered, IsDone, WasKept, WasStopped, WasUnkept}
use Rattle.save_history.specs.Rounds.{HadSave, HadSaves, Rounds, Save, kept_in, no_rounds, rounds_after, rounds_of}
use Rattle.save_history.proofs.Walks.{no_steps, rounds_append, steps_append}

-- ---- the steps of a save

-- what is done makes the step that was asked
pub done_step : (k : ℕ) (event : ServiceEvent) (x : Entry) → IsDone k event x → step_of x.event x.reply.answer ≡ step_asked event
done_step k event x is = λ i. step_of (is.event_is i) (is.answer_is i)

-- what is refused makes none
pub refused_step : (k : ℕ) (event : ServiceEvent) (r : Refusal) (x : Entry) → IsAnswered k event (Refused r) x → step_of x.event x.reply.answer ≡ None
refused_step k event r x is = λ i. step_of (is.event_is i) (is.answer_is i)

pub steps_stopped : (k : ℕ) (kind : SaveKind) (n : ℕ) (h : List Entry) → WasStopped k kind n h → steps_of h ≡ []
steps_stopped k kind n h w = ap steps_of w.are ∙ ap (λ o. option_to_list o ++ []) (refused_step k _ w.refusal w.entry w.refused)

pub steps_unkept : (k : ℕ) (kind : SaveKind) (o : SaveAnswer) (h : List Entry) → WasUnkept k kind o h → steps_of h ≡ Begins kind ∷ Ends o ∷ []
steps_unkept k kind o h w = ap steps_of w.are ∙ (λ i. option_to_list (done_step k _ w.first w.begins i) ++ (option_to_list (done_step k _ w.last w.ends i) ++ []))

pub steps_kept : (k : ℕ) (kind : SaveKind) (o : SaveAnswer) (h : List Entry) (w : WasKept k kind o h) → steps_of h ≡ Begins kind ∷ Keeps w.states ∷ Ends o ∷ []
steps_kept k kind o h w = ap steps_of w.are
    ∙ (λ i. option_to_list (done_step k _ w.first w.begins i) ++ (option_to_list (done_step k _ w.middle w.keeps i) ++ (option_to_list (done_step k _ w.last w.ends i) ++ [])))

-- ---- rounds

-- those of a history that went on by entries with these steps
pub rounds_on : (h h' l : List Entry) (steps : List SaveStep) → h' ≡ h ++ l → steps_of l ≡ steps → rounds_of h' ≡ rounds_after (rounds_of h) steps
rounds_on h h' l steps grew are = ap rounds_of grew ∙ ap (rounds_after no_rounds) (steps_append h l) ∙ rounds_append no_rounds (steps_of h) (steps_of l) ∙ ap (rounds_after (rounds_of h)) are

-- by entries that ask no step they stay
pub rounds_same : (h h' l : List Entry) → h' ≡ h ++ l → NoSaves l → rounds_of h' ≡ rounds_of h
rounds_same h h' l grew none = rounds_on h h' l [] grew (no_steps l none)

-- ---- what participants tell

had_more : (saves : List Save) (save : Save) (a b c : List Told) → HadSaves saves a b → HadSave save b c → HadSaves (saves ++ save ∷ []) a c
had_more [] save a b c had one = (c, subst (λ x. HadSave save x c) had one, refl)
had_more (s ∷ saves) save a b c had one = (had.0, had.1, had_more saves save had.0 b c had.2 one)

-- participants tell the saves of a history
abbrev pub Had : List Entry → List Told → List Told → Type 0
Had h a b = HadSaves (rounds_of h).ended a b

-- nothing was added to it
pub had_same : (h h' : List Entry) (a b c : List Told) → rounds_of h' ≡ rounds_of h → c ≡ b → Had h a b → Had h' a c
had_same h h' a b c is same had = subst (λ r. HadSaves r.ended a c) (sym is) (subst (HadSaves (rounds_of h).ended a) (sym same) had)

-- a save was added in which no states were kept
pub had_unkept : (k : ℕ) (kind : SaveKind) (o : SaveAnswer) (h h' l : List Entry) (a b c : List Told) (deeds : List Deed) → WasUnkept k kind o l → h' ≡ h ++ l → CameTo kind o deeds b c → kept_in deeds ≡ None → Had h a b → Had h' a c
had_unkept k kind o h h' l a b c deeds w grew came none had = subst (λ r. HadSaves r.ended a c) (sym (rounds_on h h' l (Begins kind ∷ Ends o ∷ []) grew (steps_unkept k kind o l w)))
    (had_more (rounds_of h).ended (record { begun = record { kind = kind; kept = None }; answer = o }) a b c had (deeds, none, came))

pub home_unkept : (k : ℕ) (kind : SaveKind) (o : SaveAnswer) (h h' l : List Entry) → WasUnkept k kind o l → h' ≡ h ++ l → (rounds_of h').under ≡ None
home_unkept k kind o h h' l w grew = ap (λ (r : Rounds). r.under) (rounds_on h h' l (Begins kind ∷ Ends o ∷ []) grew (steps_unkept k kind o l w))

-- a save in which these were
pub had_kept : (k : ℕ) (kind : SaveKind) (o : SaveAnswer) (h h' l : List Entry) (a b c : List Told) (deeds : List Deed) (w : WasKept k kind o l) → h' ≡ h ++ l → CameTo kind o deeds b c → kept_in deeds ≡ Some w.states → Had h a b → Had h' a c
had_kept k kind o h h' l a b c deeds w grew came some had = subst (λ r. HadSaves r.ended a c) (sym (rounds_on h h' l (Begins kind ∷ Keeps w.states ∷ Ends o ∷ []) grew (steps_kept k kind o l w)))
    (had_more (rounds_of h).ended (record { begun = record { kind = kind; kept = Some w.states }; answer = o }) a b c had (deeds, some, came))

pub home_kept : (k : ℕ) (kind : SaveKind) (o : SaveAnswer) (h h' l : List Entry) → WasKept k kind o l → h' ≡ h ++ l → (rounds_of h').under ≡ None
home_kept k kind o h h' l w grew = ap (λ (r : Rounds). r.under) (rounds_on h h' l (Begins kind ∷ Keeps w.states ∷ Ends o ∷ []) grew (steps_kept k kind o l w))
