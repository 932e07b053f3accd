-- What an event that was asked leaves.
use Rattle.std.proofs.Common.{◌≡◌, ◌≢◌, inl, inr, ℕ, Bool, true, false, List, [], ◌∷◌, ◌++◌, refl, sym, ap, ◌∙◌, subst, append-nil, true≢false, if◌then◌else◌}
use Rattle.std.specs.Prelude.{Option, Some, None, Result, Ok, Err, IfNone, IfOk, IfSome, IsOk, OnOk, OnErr}
use Rattle.std.specs.declared.alloc.AllocError.{AllocError}
use Rattle.core_event.specs.declared.entry.Entry.{Entry}
use Rattle.core_event.specs.declared.event.Event.{Event}
use Rattle.core_event.specs.declared.event.Event.TheVariants.{Enter, Leave, Schedule, Sleep, Wake, Cancel, Take, Finish, Begin, TryBegin, End, Transfer, Batch, EndBatch, Checkpoint, Operation, Service}
use Rattle.core_event.specs.declared.reply.Answer.{Answer}
use Rattle.core_event.specs.declared.reply.Reply.{Reply}
use Rattle.core_event.specs.Replies.{is_attempt}
use Rattle.job_manager.specs.Ends.{EndsLast}
use Rattle.ws_core.specs.States.{Moment}
use Rattle.ws_core.specs.Steps.{step}
use Rattle.ws_core.specs.Histories.{entry_of, only_tried, replay, written}
use Rattle.ws_core.specs.Sessions.{Session}
use Rattle.pass_turns.specs.Adds.{AddsUpToOne, Tried}
use Rattle.pass_history.specs.There.{gives, given_by, is_there}
use Rattle.pass_history.proofs.Staying.{stays_after}
use Rattle.ws_locked.specs.Asked.{WasAsked, WasTried, is_plain, noted}

noted_on : (b : Bool) (h : List Entry) (x : Entry) → (if b then h else h ++ x ∷ []) ≡ h ++ (if b then [] else x ∷ [])
noted_on true h x = sym (append-nil h)
noted_on false h x = refl

-- what the core's step gives, at the state that the history leads to
pub asked : (x y : Session) (s : Moment) (k : ℕ) (e : Event) (r : Result Reply AllocError) → x.state ≡ replay s x.history
    → IfOk r (λ reply. reply ≡ (step x.state k e).1) → OnOk r (y.history ≡ written x.history (entry_of x.state k e)) → OnErr r (y ≡ x) → (EndsLast x.state.manager.passes.rules k e → IsOk r)
    → (added : List Entry) × (y.history ≡ x.history ++ added) × WasAsked e s k x.history added r
asked x y s k e (Ok reply) at told history err never = (
  noted (entry_of (replay s x.history) k e),
  history ∙ (noted_on (only_tried (entry_of x.state k e)) x.history (entry_of x.state k e) ∙ ap (λ z. x.history ++ noted (entry_of z k e)) at),
  record {
    reply = told ∙ ap (λ z. (step z k e).1) at;
    entry = refl;
    nothing = tt;
    never = λ last. never (subst (λ z. EndsLast z.manager.passes.rules k e) (sym at) last);
  },
)
asked x y s k e (Err error) at told history err never = (
  [],
  ap (λ (z : Session). z.history) err ∙ sym (append-nil x.history),
  record {
    reply = tt;
    entry = tt;
    nothing = refl;
    never = λ last. never (subst (λ z. EndsLast z.manager.passes.rules k e) (sym at) last);
  },
)

-- ---- what a plain event adds

plain_gives : (e : Event) (a : Answer) → is_plain e ≡ true → given_by e a ≡ None
plain_gives Enter a is = absurd (true≢false (sym is))
plain_gives Leave a is = refl
plain_gives (Schedule n p u s) a is = refl
plain_gives (Sleep n) a is = refl
plain_gives (Wake n) a is = refl
plain_gives (Cancel n) a is = refl
plain_gives Take a is = refl
plain_gives Finish a is = refl
plain_gives (Begin u) a is = refl
plain_gives (TryBegin u) a is = refl
plain_gives (End u) a is = refl
plain_gives (Transfer to) a is = refl
plain_gives Batch a is = refl
plain_gives EndBatch a is = refl
plain_gives Checkpoint a is = refl
plain_gives (Operation op) a is = refl
plain_gives (Service x) a is = refl

plain_stays : (e : Event) → is_plain e ≡ true → e ≡ Leave → ⊥
plain_stays e is leave = true≢false (sym is ∙ ap is_plain leave)

pub noted_one : (b : Bool) (x : Entry) (n : ℕ) → x.pass ≡ n → gives x ≡ None → AddsUpToOne (λ (y : Entry). y.pass) gives n (if b then [] else x ∷ [])
noted_one true x n by none = inl refl
noted_one false x n by none = inr (x, refl, by, none)

pub noted_there : (b : Bool) (s : Moment) (h : List Entry) (x : Entry) (n : ℕ) → is_there s h n ≡ true → (x.event ≡ Leave → x.pass ≢ n) → is_there s (h ++ (if b then [] else x ∷ [])) n ≡ true
noted_there true s h x n there other = ap (λ l. is_there s l n) (append-nil h) ∙ there
noted_there false s h x n there other = stays_after s h x n there other

pub adds_one : (e : Event) (s : Moment) (n : ℕ) (h added : List Entry) (r : Result Reply AllocError) → is_plain e ≡ true → WasAsked e s n h added r → AddsUpToOne (λ (y : Entry). y.pass) gives n added
adds_one e s n h added (Ok reply) is was =
    let x = entry_of (replay s h) n e in
    subst (AddsUpToOne (λ (y : Entry). y.pass) gives n) (sym was.entry) (noted_one (only_tried x) x n refl (plain_gives e x.reply.answer is))
adds_one e s n h added (Err error) is was = inl was.nothing

-- where nothing was added
pub none_there : (s : Moment) (n : ℕ) (h added : List Entry) → is_there s h n ≡ true → added ≡ [] → is_there s (h ++ added) n ≡ true
none_there s n h added there none = subst (λ l. is_there s (h ++ l) n ≡ true) (sym none) (ap (λ l. is_there s l n) (append-nil h) ∙ there)

pub still_there : (e : Event) (s : Moment) (n : ℕ) (h added : List Entry) (r : Result Reply AllocError) → is_plain e ≡ true → is_there s h n ≡ true → WasAsked e s n h added r → is_there s (h ++ added) n ≡ true
still_there e s n h added (Ok reply) is there was =
    let x = entry_of (replay s h) n e in
    subst (λ l. is_there s (h ++ l) n ≡ true) (sym was.entry) (noted_there (only_tried x) s h x n there (λ leave. absurd (plain_stays e is leave)))
still_there e s n h added (Err error) is there was = none_there s n h added there was.nothing

pub stood_there : (e : Event) (s : Moment) (n : ℕ) (h added : List Entry) → is_plain e ≡ true → is_there s h n ≡ true → added ≡ entry_of (replay s h) n e ∷ [] → is_there s (h ++ added) n ≡ true
stood_there e s n h added is there one = subst (λ l. is_there s (h ++ l) n ≡ true) (sym one) (stays_after s h (entry_of (replay s h) n e) n there (λ leave. absurd (plain_stays e is leave)))

-- ---- an event that was tried

-- it stands where it is more than an attempt
pub tried_stands : (e : Event) (s : Moment) (n : ℕ) (h added : List Entry) (reply : Reply) → WasAsked e s n h added (Ok reply) → is_attempt e reply.answer ≡ false → WasTried e s n h added (Ok (Some reply))
tried_stands e s n h added reply was more = record {
  reply = was.reply;
  entry = was.entry ∙ ap (λ (b : Bool). if b then [] else entry_of (replay s h) n e ∷ []) (ap (λ (r : Reply). is_attempt e r.answer) (sym was.reply) ∙ more);
  waits = tt;
  without = tt;
  nothing = tt;
}

pub tried_waits : (e : Event) (s : Moment) (n : ℕ) (h added : List Entry) (reply : Reply) → WasAsked e s n h added (Ok reply) → is_attempt e reply.answer ≡ true → WasTried e s n h added (Ok None)
tried_waits e s n h added reply was only =
    let waits : is_attempt e (step (replay s h) n e).1.answer ≡ true = ap (λ (r : Reply). is_attempt e r.answer) (sym was.reply) ∙ only in
    record {
      reply = tt;
      entry = tt;
      waits = waits;
      without = was.entry ∙ ap (λ (b : Bool). if b then [] else entry_of (replay s h) n e ∷ []) waits;
      nothing = tt;
    }

-- what is answered of it, or that it waits
pub answered : (e : Event) (same : Type 0) (s : Moment) (n : ℕ) (h added : List Entry) (r : Result (Option Reply) AllocError) (o : Option (Result (Option Reply) AllocError)) → WasTried e s n h added r → same → IfSome o (λ a. a ≡ r) → IfNone o (r ≡ Ok None)
    → Tried (WasTried e) same s n h added o
answered e same s n h added r (Some a) was it answer waits = subst (WasTried e s n h added) (sym answer) was
answered e same s n h added r None was it answer waits = let none : WasTried e s n h added (Ok None) = subst (WasTried e s n h added) waits was in (none.without, it)

pub tried_one : (e : Event) (s : Moment) (n : ℕ) (h added : List Entry) (r : Result (Option Reply) AllocError) → is_plain e ≡ true → WasTried e s n h added r → AddsUpToOne (λ (y : Entry). y.pass) gives n added
tried_one e s n h added (Ok (Some reply)) is was = inr (entry_of (replay s h) n e, was.entry, refl, plain_gives e (step (replay s h) n e).1.answer is)
tried_one e s n h added (Ok None) is was = inl was.without
tried_one e s n h added (Err error) is was = inl was.nothing

pub tried_there : (e : Event) (s : Moment) (n : ℕ) (h added : List Entry) (r : Result (Option Reply) AllocError) → is_plain e ≡ true → is_there s h n ≡ true → WasTried e s n h added r → is_there s (h ++ added) n ≡ true
tried_there e s n h added (Ok (Some reply)) is there was = stood_there e s n h added is there was.entry
tried_there e s n h added (Ok None) is there was = none_there s n h added there was.without
tried_there e s n h added (Err error) is there was = none_there s n h added there was.nothing
