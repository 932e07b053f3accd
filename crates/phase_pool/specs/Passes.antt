-- What contracts see of a pass, and how it goes on.
use Rattle.std.specs.Prelude.{◌≡◌, ◌⊎◌, ℕ, List, []}
use Rattle.core_event.specs.declared.entry.Entry.{Entry}
use Rattle.ws_core.specs.States.{Moment}
use Rattle.ws_core.specs.Histories.{replay}
use Rattle.run_order.specs.Lists.{own, Begins, Grew}

-- a pass: its number, and the entries that it has seen
pub record Known : Type 0 where
  pub number : ℕ
  pub seen : List Entry

-- the pass has seen more, and of its own entries such are new
pub record Makes (P : List Entry → Type 0) (k k' : Known) : Type 0 where
  pub number : k'.number ≡ k.number
  pub begins : Begins k.seen k'.seen
  pub made : Grew P (own k.number k.seen) (own k.number k'.seen)

-- the pass has seen more, and made nothing
abbrev pub LooksOn : Known → Known → Type 0
LooksOn k k' = Makes (λ h. h ≡ []) k k'

-- the pass looked, having made nothing, and made such entries then, by the state that it had found
pub record Finds (s : Moment) (P : Moment → List Entry → Type 0) (k k' : Known) : Type 0 where
  pub found : Known
  pub looked : LooksOn k found
  pub made : Makes (P (replay s found.seen)) found k'

-- the pass has seen what each of the two had, which is what one of them had, and made nothing
pub record Meets (k other k' : Known) : Type 0 where
  pub looks : LooksOn k k'
  pub begins : Begins other.seen k'.seen
  pub one : (k'.seen ≡ k.seen) ⊎ (k'.seen ≡ other.seen)
