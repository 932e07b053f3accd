-- What a pass that takes the services or gives them back adds.
use Rattle.std.proofs.Common.{◌≡◌, inl, inr, ℕ, true, List, [], ◌∷◌, ◌++◌, refl, sym, ap, ◌∙◌, subst, append-nil}
use Rattle.std.specs.Prelude.{◌≢◌, Option, Result, Ok, Err, IfOk, IfErr, IfSome, IsOk, OnErr, is_some}
use Rattle.std.specs.declared.alloc.AllocError.{AllocError}
use Rattle.core_event.specs.declared.entry.Entry.{Entry}
use Rattle.core_event.specs.declared.event.Event.TheVariants.{Leave, Service}
use Rattle.core_event.specs.declared.reply.Reply.{Reply}
use Rattle.core_event.specs.declared.service.Outcomes.{Outcomes}
use Rattle.core_event.specs.declared.service.Purpose.{Purpose}
use Rattle.core_event.specs.declared.service.ServiceEvent.{ServiceEvent}
use Rattle.core_event.specs.declared.service.ServiceEvent.TheVariants.{Checkout, CheckIn}
use Rattle.ws_core.specs.States.{Moment}
use Rattle.ws_core.specs.Ends.{ChecksIn}
use Rattle.core_event.specs.declared.reply.Answer.TheVariants.{Refused}
use Rattle.core_event.specs.declared.reply.Refusal.TheVariants as refusals
use Rattle.ws_core.specs.Steps.{step}
use Rattle.ws_core.specs.Histories.{entry_of, only_tried, replay}
use Rattle.pass_turns.specs.Adds.{AddsUpToOne}
use Rattle.pass_history.specs.Served.{was_done}
use Rattle.pass_history.specs.There.{gives, is_there}
use Rattle.pass_history.proofs.Staying.{stays_after}
use Rattle.save_history.specs.Rounds.{rounds_of}
use Rattle.ws_locked.specs.Asked.{noted}
use Rattle.ws_locked.specs.Moved.{WasAwaited, WasBrought, WasGiven, WasHandedBack, WasLent, WasTaken, checkin, checkout, round_for}
use Rattle.ws_locked.specs.declared.moving.CheckInError.{CheckInError}
use Rattle.ws_locked.specs.declared.moving.CheckInError.TheVariants.{Memory, NotServices}
use Rattle.ws_locked.proofs.Asked.{noted_one, noted_there}

abbrev pub by_pass : Entry → ℕ
by_pass x = x.pass

never_leaves : (v : ServiceEvent) → Service v ≡ Leave → ⊥
never_leaves v e = let e : Service v ≡ Leave = e in cc

-- what a pass added, which is there still
pub record Added (s : Moment) (n : ℕ) (h now added : List Entry) : Type 0 where
  pub grew : now ≡ h ++ added
  pub one : AddsUpToOne by_pass gives n added
  pub still : is_there s h n ≡ true → is_there s now n ≡ true

added_none : (s : Moment) (n : ℕ) (h now : List Entry) → now ≡ h → Added s n h now []
added_none s n h now same = record { grew = same ∙ sym (append-nil h); one = inl refl; still = λ there. subst (λ l. is_there s l n ≡ true) (sym same) there }

added_noted : (s : Moment) (n : ℕ) (h now : List Entry) (v : ServiceEvent) → now ≡ h ++ noted (entry_of (replay s h) n (Service v)) → Added s n h now (noted (entry_of (replay s h) n (Service v)))
added_noted s n h now v is =
    let x = entry_of (replay s h) n (Service v) in
    record {
      grew = is;
      one = noted_one (only_tried x) x n refl refl;
      still = λ there. subst (λ l. is_there s l n ≡ true) (sym is) (noted_there (only_tried x) s h x n there (λ leave. absurd (never_leaves v leave)));
    }

added_one : (s : Moment) (n : ℕ) (h now : List Entry) (v : ServiceEvent) → now ≡ h ++ entry_of (replay s h) n (Service v) ∷ [] → Added s n h now (entry_of (replay s h) n (Service v) ∷ [])
added_one s n h now v is =
    let x = entry_of (replay s h) n (Service v) in
    record {
      grew = is;
      one = inr (x, refl, refl, refl);
      still = λ there. subst (λ l. is_there s l n ≡ true) (sym is) (stays_after s h x n there (λ leave. absurd (never_leaves v leave)));
    }

pub lent : {T : Type 0} (Fit : List Entry → T → Type 0) (s : Moment) (n : ℕ) (purpose : Purpose) (h now : List Entry) (r : Result (Reply × Option T) AllocError)
    → IfOk r (λ a. WasTaken s n purpose h now a.0) → IfOk r (λ a. is_some a.1 ≡ was_done a.0.answer) → IfOk r (λ a. IfSome a.1 (Fit now))
    → IfOk r (λ a. IfSome a.1 (λ t. (rounds_of now).under ≡ round_for purpose)) → OnErr r (now ≡ h)
    → (added : List Entry) × Added s n h now added × WasLent Fit s n purpose h added r
lent Fit s n purpose h now (Ok a) taken told fits round err = (
  noted (entry_of (replay s h) n (checkout purpose)),
  added_noted s n h now (Checkout purpose) taken.entry,
  record { reply = taken.reply_is; entry = refl; lent = told; fits = subst (λ l. IfSome a.1 (Fit l)) taken.entry fits; round = subst (λ l. IfSome a.1 (λ t. (rounds_of l).under ≡ round_for purpose)) taken.entry round; nothing = tt },
)
lent Fit s n purpose h now (Err e) taken told fits round err = ([], added_none s n h now err, record { reply = tt; entry = tt; lent = tt; fits = tt; round = tt; nothing = refl })

-- what isn't refused since another has them, where it waited for that
pub awaited : {T : Type 0} (Fit : List Entry → T → Type 0) (s : Moment) (n : ℕ) (purpose : Purpose) (h added : List Entry) (r : Result (Reply × Option T) AllocError) → WasLent Fit s n purpose h added r
    → ((holder : ℕ) → (step (replay s h) n (checkout purpose)).1.answer ≢ Refused (refusals.ServicesOut holder)) → WasAwaited Fit s n purpose h added r
awaited Fit s n purpose h added (Ok a) w never = record { lent = w; waited = λ holder is. never holder (ap (λ (z : Reply). z.answer) (sym w.reply) ∙ is) }
awaited Fit s n purpose h added (Err e) w never = record { lent = w; waited = tt }

pub brought : {T : Type 0} (s : Moment) (n : ℕ) (outcome : Outcomes) (services : T) (h now : List Entry) (r : Result Reply (CheckInError × T))
    → IfOk r (λ a. WasGiven s n outcome h now a) → IfErr r (λ e. (e.1 ≡ services) × WasHandedBack s n outcome h now e.0) → (ChecksIn (replay s h) n (checkin outcome) → IsOk r)
    → (added : List Entry) × Added s n h now added × WasBrought s n outcome services h added r
brought s n outcome services h now (Ok a) ok err never =
    let x = entry_of (replay s h) n (checkin outcome) in (
      x ∷ [],
      added_one s n h now (CheckIn outcome) ok.entry,
      record { given = subst (λ l. WasGiven s n outcome h l a) ok.entry ok; back = tt; never = never },
    )
brought s n outcome services h now (Err e) ok err never = by e.0 refl
  where
    by : (k : CheckInError) → e.0 ≡ k → (added : List Entry) × Added s n h now added × WasBrought s n outcome services h added (Err e)
    by (NotServices holder) is =
        let back = subst (WasHandedBack s n outcome h now) is err.1 in (
          entry_of (replay s h) n (checkin outcome) ∷ [],
          added_one s n h now (CheckIn outcome) back.0,
          record { given = tt; back = (err.0, subst (λ l. WasHandedBack s n outcome h l e.0) back.0 err.1); never = never },
        )
    by Memory is =
        let back = subst (WasHandedBack s n outcome h now) is err.1 in (
          [],
          added_none s n h now back,
          record { given = tt; back = (err.0, subst (λ l. WasHandedBack s n outcome h l e.0) (back ∙ sym (append-nil h)) err.1); never = never },
        )
