-- A source and a sink in memory, and what each call does to them.
use Rattle.std.specs.Prelude.{ℕ, ◌-◌, ◌^◌, nat_lt, if◌then◌else◌, List, ◌++◌, take, drop, Option, Some, None, Result, Ok, Err}
use Rattle.ws_outside.specs.Faults.{next}

-- a source in memory
pub record Feed : Type 0 where
  -- what is left to read
  pub left : List ℕ
  -- the most that one call gives
  pub most : ℕ
  -- the calls that are to fail, by their numbers from 0 on
  pub failing : List ℕ
  -- how many calls there were
  pub calls : ℕ
  -- how many of them failed
  pub faults : ℕ

-- a sink in memory
pub record Store : Type 0 where
  -- what was written
  pub written : List ℕ
  -- how much can be written before more memory is asked for
  pub room : ℕ
  -- the most that one call takes
  pub most : ℕ
  -- the calls that are to fail, by their numbers from 0 on
  pub failing : List ℕ
  -- how many calls there were
  pub calls : ℕ
  -- how many of them failed
  pub faults : ℕ

-- a source after a read with this answer
abbrev pub after_read : {E : Type 0} → Feed → Result ℕ E → Feed
after_read s (Ok n) = record s { left = drop n s.left; calls = next s.calls }
after_read s (Err _) = record s { calls = next s.calls; faults = next s.faults }

-- a sink after a write of a piece with this answer; its room may have changed
abbrev pub after_write : {E : Type 0} → Store → List ℕ → ℕ → Result ℕ E → Store
after_write s piece room (Ok n) = record s { written = s.written ++ take n piece; room = room; calls = next s.calls }
after_write s piece room (Err _) = record s { room = room; calls = next s.calls; faults = next s.faults }

-- how many calls there were, which a count at its last value doesn't tell
abbrev pub reads_told : ℕ → Option ℕ
reads_told calls = if nat_lt calls (2 ^ 64 - 1) then Some calls else None
