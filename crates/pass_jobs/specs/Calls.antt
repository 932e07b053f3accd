-- What a pass of a room does in one call.
use Rattle.std.specs.Prelude.{◌≡◌, ℕ, Bool, true, false, List, [], Option, Some, None, Result, Ok, Err}
use Rattle.std.specs.declared.alloc.AllocError.{AllocError}
use Rattle.core_event.specs.declared.entry.Entry.{Entry}
use Rattle.core_event.specs.declared.event.Event.{Event}
use Rattle.core_event.specs.declared.event.Event.TheVariants.{Enter, Leave, Service}
use Rattle.ws_core.specs.States.{Moment}
use Rattle.ws_core.specs.Histories.{Legal}
use Rattle.run_order.specs.Lists.{Begins, Cut, Grew}
use Rattle.pass_turns.specs.Turns.{IsFaithful, Knows}
use Rattle.phase_pool.specs.Parts.{IsTake}

-- the pass that made an entry
abbrev pub pass_of : Entry → ℕ
pass_of x = x.pass

-- no pass enters or leaves by the event, and nothing is asked of the services
abbrev pub is_plain : Event → Bool
is_plain Enter = false
is_plain Leave = false
is_plain (Service x) = false
is_plain event = true

-- The pass has seen more, which may follow the state s, and of its own entries such are new.
pub record WentOn (s : Moment) (P : List Entry → Type 0) (k j : Knows Entry) : Type 0 where
  pub begins : Begins k.seen j.seen
  pub number : j.number ≡ k.number
  pub made : Grew P k.mine j.mine
  pub legal : Legal s k.seen → Legal s j.seen
  pub faithful : IsFaithful pass_of j

-- the pass looked on, and made nothing
abbrev pub LookedOn : Moment → Knows Entry → Knows Entry → Type 0
LookedOn s k j = WentOn s (λ h. h ≡ []) k j

-- ---- its entries, by what was answered

-- pass n took the job whose name is answered, or there was none to take
abbrev pub TookOne : ℕ → Result (Option (List ℕ)) AllocError → List Entry → Type 0
TookOne n (Ok (Some name)) h = IsTake n name h
TookOne n (Ok None) h = h ≡ []
TookOne n (Err e) h = h ≡ []

-- such entries; none where it was given up
abbrev pub AllOrNone : {A : Type 0} → (List Entry → Type 0) → Result A AllocError → List Entry → Type 0
AllOrNone P (Ok x) h = P h
AllOrNone P (Err e) h = h ≡ []

-- such entries; the first ones where it was given up
abbrev pub AllOrSome : {A : Type 0} → (List Entry → Type 0) → Result A AllocError → List Entry → Type 0
AllOrSome P (Ok x) h = P h
AllOrSome P (Err e) h = Cut P h
