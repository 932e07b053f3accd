-- States are kept in a save.
use Rattle.std.proofs.Common.{◌≡◌, inl, inr, ℕ, true, false, List, [], ◌∷◌, ◌++◌, refl, sym, ap, ◌∙◌, subst, append-nil}
use Rattle.std.specs.Prelude.{Option, Some, None, Result, Ok, Err}
use Rattle.std.specs.declared.alloc.AllocError.{AllocError}
use Rattle.core_event.specs.declared.entry.Entry.{Entry}
use Rattle.core_event.specs.declared.event.Event.TheVariants.{Leave, Service}
use Rattle.core_event.specs.declared.service.ServiceEvent.{ServiceEvent}
use Rattle.core_event.specs.declared.service.ServiceEvent.TheVariants.{Saving}
use Rattle.save_kind.specs.declared.state.PartState.{PartState}
use Rattle.ws_durable.specs.declared.durable.Durable.{Durable}
use Rattle.ws_durable.specs.Saved.{saved}
use Rattle.save_format.specs.Valid.{Valid}
use Rattle.save_store.specs.Stored.{IsNarrow}
use Rattle.ws_core.specs.States.{Moment}
use Rattle.ws_core.specs.Histories.{after, replay}
use Rattle.ws_core.specs.Sessions.{Session}
use Rattle.ws_core.specs.Durables.{durable_of}
use Rattle.ws_core.proofs.Grown.{replay_append}
use Rattle.save_history.specs.Stages.{HasKept, IsUnderWay}
use Rattle.pass_turns.specs.Adds.{AddsUpToOne}
use Rattle.pass_history.specs.There.{gives, given_by, is_there}
use Rattle.pass_history.proofs.Staying.{stays_after}
use Rattle.ws_locked.specs.Moved.{WereKept}
use Rattle.ws_locked.proofs.Halls.{WentOn}

some_none : {T : Type 0} (k : ℕ) (o : Option ℕ) → o ≡ Some k → o ≡ None → T
some_none k o some none = let e : Some k ≡ None = sym some ∙ none in cc

-- the session went on, and no services were home
pub went_kept : (x y : Session) (k : ℕ) (states : List (List ℕ × PartState)) → IsUnderWay k false x.state → HasKept k states x y → WentOn x y
went_kept x y k states under h = record {
  opened = h.went.opened;
  services = h.under_way.services ∙ sym under.services;
  entries = h.went.entry ∷ [];
  history = h.went.history;
  quiet = λ nobody. some_none k x.state.manager.passes.services under.services nobody;
}

-- what was added
pub was_kept : (x y : Session) (s : Moment) (k : ℕ) (states : List (List ℕ × PartState)) (h : HasKept k states x y) → x.state ≡ replay s x.history
    → y.state ≡ replay s (x.history ++ h.went.entry ∷ [])
was_kept x y s k states h at = h.went.state ∙ (ap (λ z. after z h.went.entry) at ∙ sym (replay_append s x.history (h.went.entry ∷ [])))

module _ (x y : Session) (s : Moment) (k : ℕ) (states : List (List ℕ × PartState)) (at : x.state ≡ replay s x.history) where
  pub kept_some : (h : HasKept k states x y) (d : Durable) → saved d ≡ durable_of y.state → (IsNarrow d → Valid (saved d))
      → (added : List Entry) × (y.history ≡ x.history ++ added) × WereKept states s k x.history added (Ok (Some d))
  kept_some h d lasts valid = (
    h.went.entry ∷ [],
    h.went.history,
    record {
      entry = (h.went.entry, refl, h.went.is);
      under_way = subst (IsUnderWay k true) (was_kept x y s k states h at) h.under_way;
      lasts = lasts ∙ ap durable_of (was_kept x y s k states h at);
      valid = valid;
      nothing = tt;
    },
  )

  pub kept_none : (h : HasKept k states x y) → (added : List Entry) × (y.history ≡ x.history ++ added) × WereKept states s k x.history added (Ok None)
  kept_none h = (
    h.went.entry ∷ [],
    h.went.history,
    record { entry = (h.went.entry, refl, h.went.is); under_way = subst (IsUnderWay k true) (was_kept x y s k states h at) h.under_way; lasts = tt; valid = tt; nothing = tt },
  )

  pub kept_nothing : (e : AllocError) → y ≡ x → (added : List Entry) × (y.history ≡ x.history ++ added) × WereKept states s k x.history added (Err e)
  kept_nothing e same = ([], ap (λ (z : Session). z.history) same ∙ sym (append-nil x.history), record { entry = tt; under_way = tt; lasts = tt; valid = tt; nothing = refl })

-- ---- a pass that did it

never_leaves : (v : ServiceEvent) → Service v ≡ Leave → ⊥
never_leaves v e = let e : Service v ≡ Leave = e in cc

gives_none : (x : Entry) (v : ServiceEvent) → x.event ≡ Service v → gives x ≡ None
gives_none x v is = ap (λ e. given_by e x.reply.answer) is

pub keeps_one : (states : List (List ℕ × PartState)) (s : Moment) (n : ℕ) (h added : List Entry) (r : Result (Option Durable) AllocError) → WereKept states s n h added r → AddsUpToOne (λ (x : Entry). x.pass) gives n added
keeps_one states s n h added (Ok o) w = let x = w.entry in inr (x.0, x.1, x.2.pass, gives_none x.0 (Saving states) x.2.event_is)
keeps_one states s n h added (Err e) w = inl w.nothing

pub keeps_there : (states : List (List ℕ × PartState)) (s : Moment) (n : ℕ) (h added : List Entry) (r : Result (Option Durable) AllocError) → is_there s h n ≡ true → WereKept states s n h added r → is_there s (h ++ added) n ≡ true
keeps_there states s n h added (Ok o) there w = let x = w.entry in
    subst (λ l. is_there s (h ++ l) n ≡ true) (sym x.1) (stays_after s h x.0 n there (λ leave. absurd (never_leaves (Saving states) (sym x.2.event_is ∙ leave))))
keeps_there states s n h added (Err e) there w = subst (λ l. is_there s (h ++ l) n ≡ true) (sym w.nothing) (ap (λ l. is_there s l n) (append-nil h) ∙ there)
