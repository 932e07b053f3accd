-- A disk of two areas: what calls do to them, and what a crash may leave between two syncs.
use Rattle.std.specs.Prelude.{◌≡◌, ◌≤◌, ◌+◌, ◌⊎◌, ℕ, max, List, ◌++◌, length, take, drop, Option, Some, option_map}
use Rattle.ws_outside.specs.declared.contents.Contents.{Contents}
use Rattle.ws_outside.specs.declared.contents.Which.{Which}
use Rattle.ws_outside.specs.declared.contents.Which.TheVariants.{Left, Right}

-- what belongs to an area
abbrev pub picked : {T : Type 0} → Which → T → T → T
picked Left on_left on_right = on_left
picked Right on_left on_right = on_right

-- what an area holds
abbrev pub held : Which → Contents → List ℕ
held Left both = both.left
held Right both = both.right

-- what the other one holds
abbrev pub beside : Which → Contents → List ℕ
beside Left both = both.right
beside Right both = both.left

-- both, with these bytes in an area
abbrev pub holding : Which → List ℕ → Contents → Contents
holding Left bytes both = record both { left = bytes }
holding Right bytes both = record both { right = bytes }

-- old with these bytes from a place on
abbrev pub written : ℕ → List ℕ → List ℕ → List ℕ
written at bytes old = take at old ++ bytes ++ drop (at + length bytes) old

-- after a write of n bytes that a crash cuts short: any bytes in the range and past the old end, any length between the
-- old one and the new one, and the same elsewhere
pub record Torn (at n : ℕ) (old new : List ℕ) : Type 0 where
  pub before : take at new ≡ take at old
  pub after : drop (at + n) new ≡ drop (at + n) old
  pub no_shorter : length old ≤ length new
  pub no_longer : length new ≤ max (length old) (at + n)

-- a cut may have happened or not
abbrev pub Cut : ℕ → List ℕ → List ℕ → Type 0
Cut len old new = (new ≡ old) ⊎ (new ≡ take len old)

-- one area goes on by a step, and the other stays
pub record InArea (area : Which) (step : List ℕ → List ℕ → Type 0) (old new : Contents) : Type 0 where
  pub here : step (held area old) (held area new)
  pub there : beside area new ≡ beside area old

-- contents that come by a step from some that could be left
abbrev pub Came : (Contents → Type 0) → (Contents → Contents → Type 0) → Contents → Type 0
Came from step new = (old : Contents) × from old × step old new

-- all that may be left is so
abbrev pub Each : (Contents → Type 0) → (Contents → Type 0) → Type 0
Each may_leave is_so = (c : Contents) → may_leave c → is_so c

-- a crash leaves in this area what a read gives
abbrev pub ReadsThere : Which → Option Contents → Contents → Type 0
ReadsThere area seen c = option_map (held area) seen ≡ Some (held area c)

-- The clock goes on: a crash since t may have left what it may have left before, or what it may leave now, and nothing else.
pub record Elapses (before now : ℕ) (past since : ℕ → Contents → Type 0) (may_leave : Contents → Type 0) : Type 0 where
  pub later : before ≤ now
  pub nothing_else : (t : ℕ) (c : Contents) → t ≤ before → since t c → past t c ⊎ may_leave c
  pub keeps : (t : ℕ) (c : Contents) → t ≤ before → past t c → since t c

-- At every moment since `old` a crash leaves contents that are so: what a run of calls owes.
pub record LeavesOnly {D : Type 0} (moment : D → ℕ) (left_since : D → ℕ → Contents → Type 0) (may_leave : D → Contents → Type 0)
    (old new : D) (is_so : Contents → Type 0) : Type 0 where
  pub later : moment old ≤ moment new
  pub each : Each (left_since new (moment old)) is_so
  pub now : Each (may_leave new) is_so
  -- of a run that began earlier
  pub before : (t : ℕ) (c : Contents) → t ≤ moment old → left_since new t c → left_since old t c ⊎ is_so c
