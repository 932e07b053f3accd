-- What entering and leaving leave.
use Rattle.std.proofs.Common.{◌≡◌, ◌≢◌, inl, inr, ℕ, Bool, true, false, List, [], ◌∷◌, ◌++◌, refl, sym, ap, ◌∙◌, subst, arith, true≢false, if◌then◌else◌}
use Rattle.std.specs.Prelude.{None, Result, Ok, Err, IfErr, OnOk, OnErr}
use Rattle.core_event.specs.declared.entry.Entry.{Entry}
use Rattle.core_event.specs.declared.event.Event.TheVariants.{Enter, Leave}
use Rattle.core_event.specs.declared.reply.Answer.{Answer}
use Rattle.core_event.specs.declared.reply.Answer.TheVariants.{Done, Id, Refused}
use Rattle.core_event.specs.declared.reply.Refusal.TheVariants.{PassBusy}
use Rattle.core_event.specs.declared.reply.Reply.{Reply}
use Rattle.job_manager.specs.declared.manager.JobManager.{JobManager}
use Rattle.job_manager.specs.Managers.{first_manager}
use Rattle.ws_core.specs.States.{Moment}
use Rattle.ws_core.specs.Steps.{step}
use Rattle.ws_core.specs.Histories.{Legal, entry_of, has_entered, only_tried, replay}
use Rattle.ws_core.proofs.Grown.{replay_append}
use Rattle.pass_turns.specs.Adds.{AddsUpToOne, WasRefused}
use Rattle.pass_turns.specs.declared.machine.LeaveError.{LeaveError}
use Rattle.pass_turns.specs.declared.machine.LeaveError.TheVariants as errors
use Rattle.pass_history.specs.There.{HasLeft, WasBusy, gives, is_there}
use Rattle.pass_history.proofs.Given.{enter_answer, next_new, replay_next}
use Rattle.pass_history.proofs.Leaving.{busy_stays, enter_stands, enter_there, leave_answer, leave_stands}
use Rattle.pass_history.proofs.Staying.{stays_after}
use Rattle.ws_turn.specs.Lists.{given}
use Rattle.ws_locked.specs.Asked.{WasAsked}

same_id : (a b : ℕ) → Id a ≡ Id b → a ≡ b
same_id a b e = let e : Id a ≡ Id b = e in cc

stands : (b : Bool) (x : Entry) → b ≡ false → (if b then [] else x ∷ []) ≡ x ∷ []
stands true x e = absurd (true≢false e)
stands false x e = refl

-- ---- entering

entered_is : (s : Moment) (n : ℕ) (h added : List Entry) (reply : Reply) → WasAsked Enter s n h added (Ok reply) → added ≡ entry_of (replay s h) n Enter ∷ []
entered_is s n h added reply was = was.entry ∙ stands (only_tried (entry_of (replay s h) n Enter)) (entry_of (replay s h) n Enter) (enter_stands (replay s h) n)

-- the number that is given is the next one
number_is : (s : Moment) (n m : ℕ) (h added : List Entry) (reply : Reply) → WasAsked Enter s n h added (Ok reply) → reply.answer ≡ Id m → m ≡ (replay s h).manager.passes.next
number_is s n m h added reply was is = same_id m _ (sym is ∙ (ap (λ (r : Reply). r.answer) was.reply ∙ enter_answer (replay s h) n))

pub enter_new : (s : Moment) (n m : ℕ) (h added : List Entry) (reply : Reply) → s.manager ≡ first_manager → Legal s h → WasAsked Enter s n h added (Ok reply) → reply.answer ≡ Id m
    → (m ≢ 0) × (given gives m h ≡ false)
enter_new s n m h added reply first legal was is =
    let same = number_is s n m h added reply was is in (
      (λ none. let next = ap (λ (j : JobManager). j.passes.next) first in let up = replay_next s h in absurd (omega (arith, none, same, next, up))),
      subst (λ j. given gives j h ≡ false) (sym same) (next_new s h legal),
    )

-- and both are there then
pub enter_both : (s : Moment) (n m : ℕ) (h added : List Entry) (reply : Reply) → is_there s h n ≡ true → WasAsked Enter s n h added (Ok reply) → reply.answer ≡ Id m
    → (is_there s (h ++ added) m ≡ true) × (is_there s (h ++ added) n ≡ true)
enter_both s n m h added reply there was is =
    let one = entered_is s n h added reply was in
    let x = entry_of (replay s h) n Enter in (
      subst (λ l. is_there s (h ++ l) m ≡ true) (sym one)
          (ap (has_entered m) (replay_append s h (x ∷ [])) ∙ subst (λ j. has_entered j (step (replay s h) n Enter).0 ≡ true) (sym (number_is s n m h added reply was is)) (enter_there (replay s h) n)),
      subst (λ l. is_there s (h ++ l) n ≡ true) (sym one) (stays_after s h x n there (λ leave. absurd (never leave))),
    )
  where
    never : Enter ≡ Leave → ⊥
    never e = let e : Enter ≡ Leave = e in cc

-- ---- leaving

left_is : (s : Moment) (n : ℕ) (h added : List Entry) (reply : Reply) → WasAsked Leave s n h added (Ok reply) → added ≡ entry_of (replay s h) n Leave ∷ []
left_is s n h added reply was = was.entry ∙ stands (only_tried (entry_of (replay s h) n Leave)) (entry_of (replay s h) n Leave) (leave_stands (replay s h) n)

busy_answer : (s : Moment) (n : ℕ) (a : Answer) → a ≡ (step s n Leave).1.answer → a ≢ Done → (step s n Leave).1.answer ≡ Refused PassBusy
busy_answer s n a is other = elim (leave_answer s n) [
  | inl done ↦ absurd (other (is ∙ done))
  | inr busy ↦ busy
]

module _ {T : Type 0} (s : Moment) (n : ℕ) (h added now : List Entry) (reply : Reply) (was : WasAsked Leave s n h added (Ok reply)) (grew : now ≡ h ++ added) where
  pub left_ok : (r : Result T LeaveError) → OnOk r (reply.answer ≡ Done) → OnOk r ((x : Entry) × (now ≡ h ++ x ∷ []) × (x.pass ≡ n) × HasLeft x × (gives x ≡ None))
  left_ok (Ok u) done = (
    entry_of (replay s h) n Leave,
    grew ∙ ap (λ l. h ++ l) (left_is s n h added reply was),
    refl,
    (refl, sym (ap (λ (a : Reply). a.answer) was.reply) ∙ done),
    refl,
  )
  left_ok (Err e) done = tt

  pub left_err : (r : Result T LeaveError) → IfErr r (λ e. (e ≡ errors.Busy) × (reply.answer ≢ Done))
      → IfErr r (λ e. (more : List Entry) × (now ≡ h ++ more) × AddsUpToOne (λ (y : Entry). y.pass) gives n more × WasRefused WasBusy e more)
  left_err (Ok u) busy = tt
  left_err (Err e) busy =
      let x = entry_of (replay s h) n Leave in
      let one = left_is s n h added reply was in (
        added,
        grew,
        inr (x, one, refl, refl),
        subst (λ z. WasRefused WasBusy z added) (sym busy.0) (x, one, (refl, busy_answer (replay s h) n reply.answer (ap (λ (a : Reply). a.answer) was.reply) busy.1)),
      )

  pub left_still : (r : Result T LeaveError) → is_there s h n ≡ true → IfErr r (λ e. (e ≡ errors.Busy) × (reply.answer ≢ Done)) → OnErr r (is_there s now n ≡ true)
  left_still (Ok u) there busy = tt
  left_still (Err e) there busy =
      let x = entry_of (replay s h) n Leave in
      let one = left_is s n h added reply was in
      subst (λ l. is_there s l n ≡ true) (sym (grew ∙ ap (λ l. h ++ l) one))
      (ap (has_entered n) (replay_append s h (x ∷ [])) ∙ busy_stays (replay s h) n n (busy_answer (replay s h) n reply.answer (ap (λ (a : Reply). a.answer) was.reply) busy.1) there)
