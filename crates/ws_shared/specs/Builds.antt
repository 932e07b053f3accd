-- A pass that builds.
use Rattle.std.specs.Prelude.{◌≡◌, ℕ, List, Some, None}
use Rattle.ws_outside.specs.declared.contents.Contents.{Contents}
use Rattle.builder_api.specs.Told.{Told as BuilderTold}
use Rattle.core_event.specs.declared.entry.Entry.{Entry}
use Rattle.save_history.specs.Kept.{Keeper}
use Rattle.save_history.specs.Rounds.{rounds_of}
use Rattle.ws_turn.specs.Lists.{of}
use Rattle.pass_turns.specs.Turns.{Knows}
use Rattle.pass_history.specs.Served.{Served, who_serves}
use Rattle.ws_locked.specs.Fits.{Fits, Told}
use Rattle.ws_locked.specs.Opened.{Opened}
use Rattle.ws_shared.specs.Calls.{pass_of}

-- The pass has the services, no save is under way, and they fit what it has seen.
pub record Builds {D : Type 0} (moment : D → ℕ) (left_since : D → ℕ → Contents → Type 0) (may_leave : D → Contents → Type 0) (faults : D → ℕ)
    (vow : Opened → List BuilderTold → List Served → Type 0) (o : Opened) (began : Keeper D) (k : Knows Entry) (t : Told D) : Type 0 where
  pub serves : who_serves o.state k.seen ≡ Some k.number
  pub own : of pass_of k.number k.seen ≡ k.mine
  pub none : (rounds_of k.seen).under ≡ None
  pub fits : Fits moment left_since may_leave faults vow o began k.seen t
