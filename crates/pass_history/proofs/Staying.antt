-- A pass that is there stays.
use Rattle.std.proofs.Common.{◌≡◌, ◌≢◌, ℕ, true, List, [], ◌∷◌, ◌++◌, ap, ◌∙◌}
use Rattle.core_event.specs.declared.entry.Entry.{Entry}
use Rattle.core_event.specs.declared.event.Event.TheVariants.{Leave}
use Rattle.ws_core.specs.States.{Moment}
use Rattle.ws_core.specs.Histories.{has_entered, replay}
use Rattle.ws_core.proofs.Grown.{replay_append}
use Rattle.run_order.proofs.Staying.{step_stays}
use Rattle.pass_history.specs.There.{is_there}

-- after one entry more, unless it is its own Leave
pub stays_after : (s : Moment) (h : List Entry) (x : Entry) (n : ℕ) → is_there s h n ≡ true → (x.event ≡ Leave → x.pass ≢ n) → is_there s (h ++ x ∷ []) n ≡ true
stays_after s h x n there other = ap (has_entered n) (replay_append s h (x ∷ [])) ∙ step_stays (replay s h) x.pass x.event n other there

-- others leave it where it is
pub stays : (s : Moment) (h : List Entry) (x : Entry) (n : ℕ) → is_there s h n ≡ true → x.pass ≢ n → is_there s (h ++ x ∷ []) n ≡ true
stays s h x n there other = stays_after s h x n there (λ _. other)
