-- The pass's events of a save, as the core answers them.
use Rattle.std.proofs.Common.{◌≡◌, ℕ, Bool, List, Result, Ok, Err}
use Rattle.std.specs.Prelude.{OnOk}
use Rattle.save_kind.specs.declared.state.PartState.{PartState}
use Rattle.core_event.specs.declared.event.Event.TheVariants.{Service}
use Rattle.core_event.specs.declared.service.ServiceEvent.TheVariants.{Saving}
use Rattle.ws_core.specs.Histories.{entry_of, replay, written}
use Rattle.ws_core.specs.Sessions.{IsConsistent, Session}
use Rattle.ws_core.specs.Steps.{step}
use Rattle.save_history.specs.Stages.{HasKept, IsUnderWay}
use Rattle.save_history.proofs.Stages.{keeps}

-- states were kept, where memory didn't want
pub keeps_ok : {A E : Type 0} (r : Result A E) (x y : Session) (k : ℕ) (kept : Bool) (states : List (List ℕ × PartState)) → IsConsistent x.state → x.state ≡ replay x.opened x.history → IsUnderWay k kept x.state → y.opened ≡ x.opened
    → OnOk r (y.state ≡ (step x.state k (Service (Saving states))).0) → OnOk r (y.history ≡ written x.history (entry_of x.state k (Service (Saving states)))) → OnOk r (HasKept k states x y)
keeps_ok (Ok a) x y k kept states sound placed under opened state history = keeps x y k kept sound placed under opened states state history
keeps_ok (Err e) x y k kept states sound placed under opened state history = tt
