-- How passes come and go.
use Rattle.std.specs.Prelude.{◌≡◌, false, ℕ, List, [], ◌∷◌, ◌++◌}
use Rattle.core_event.specs.declared.entry.Entry.{Entry}
use Rattle.core_event.specs.declared.event.Event.TheVariants.{Enter, Leave}
use Rattle.core_event.specs.declared.reply.Reply.{Reply}
use Rattle.ws_core.specs.States.{Moment}
use Rattle.ws_core.specs.Histories.{has_entered, replay}
use Rattle.run_order.specs.Lists.{acts, entry, own, Begins, Grew}
use Rattle.run_order.specs.Fronts.{enters}
use Rattle.phase_pool.specs.Passes.{Known, LooksOn, Makes}
use Rattle.pass_crew.specs.declared.stopped.Stays.{Stays}
use Rattle.pass_crew.specs.declared.stopped.Stays.TheVariants.{Busy, Memory}

-- The pass looked, having made nothing, and then let another in, by its next entry, the last that it has seen. The number of
-- the new one is how many were let in; it has seen as much, and made nothing
pub record LetsIn (k k' new : Known) : Type 0 where
  pub found : Known
  pub looked : LooksOn k found
  pub reply : Reply
  pub number : k'.number ≡ k.number
  pub seen : k'.seen ≡ found.seen ++ entry k.number Enter reply ∷ []
  pub new_number : new.number ≡ enters k'.seen
  pub new_seen : new.seen ≡ k'.seen
  pub new_quiet : own new.number new.seen ≡ []

-- the entry by which pass k leaves, or asks to
abbrev pub Leaving : ℕ → List Entry → Type 0
Leaving k h = acts h ≡ (k, Leave) ∷ []

-- The pass took another in, and made nothing itself: it has seen what each of the two had, and the other's next entry, by which
-- that one left
pub record TakesIn (s : Moment) (k other k' : Known) : Type 0 where
  pub looks : LooksOn k k'
  pub begins : Begins other.seen k'.seen
  pub left : Grew (Leaving other.number) (own other.number other.seen) (own other.number k'.seen)
  pub gone : has_entered other.number (replay s k'.seen) ≡ false

-- a pass that was to leave is still there: where it's busy it asked, and where memory wanted it made nothing
abbrev pub Remains : Stays → Known → Known → Type 0
Remains Busy k k' = Makes (Leaving k.number) k k'
Remains Memory k k' = LooksOn k k'
