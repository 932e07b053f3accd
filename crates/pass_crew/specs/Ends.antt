-- Who is there where a run ended.
use Rattle.std.specs.Prelude.{◌≡◌, ◌<◌, ◌≤◌, ℕ, true, false, List}
use Rattle.core_event.specs.declared.entry.Entry.{Entry}
use Rattle.ws_core.specs.States.{Moment}
use Rattle.ws_core.specs.Histories.{has_entered, replay}

-- one of the passes from 1 to n has entered, and hasn't left
abbrev pub OneIsThere : ℕ → Moment → List Entry → Type 0
OneIsThere n s h = (k : ℕ) × (0 < k) × (k ≤ n) × (has_entered k (replay s h) ≡ true)

-- none of them is there
abbrev pub NoneIsThere : ℕ → Moment → List Entry → Type 0
NoneIsThere n s h = (k : ℕ) → 0 < k → k ≤ n → has_entered k (replay s h) ≡ false
