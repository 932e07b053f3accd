-- What the participant `notes` keeps.
use Rattle.std.specs.Prelude.{ℕ, ◌+◌, ◌-◌, ◌^◌, ◌==◌, true, min, if◌then◌else◌, List, length, codes, Option, Some, None}
use Rattle.byteorder.specs.Endian.{big_bytes, big_number}
use Rattle.save_kind.specs.declared.kind.SaveKind.{SaveKind}
use Rattle.save_kind.specs.declared.kind.SaveKind.TheVariants.{Full, Snapshot}
use Rattle.save_kind.specs.declared.state.PartState.{PartState}
use Rattle.save_round.specs.Told.{Told}

-- its number, and the one that it answered in the save under way
pub record Noted : Type 0 where
  pub number : ℕ
  pub offered : Option ℕ

-- what it tells of itself: its name, not its calls, and that it never failed
abbrev pub notes_told : Told
notes_told = record { named = codes "notes"; calls = None; faults = 0 }

-- the number that it offers in a save of the kind: on full saves one more, and the last number again
abbrev pub offer : SaveKind → ℕ → Option ℕ
offer Full n = Some (min (n + 1) (2 ^ 64 - 1))
offer Snapshot n = None

-- a number as it is kept
abbrev pub number_state : ℕ → PartState
number_state n = record { bytes = big_bytes 8 n; needs_delta = true }

-- its number once the save is done
abbrev pub taken : Noted → ℕ
taken n = by n.offered
  where
    by : Option ℕ → ℕ
    by (Some m) = m
    by None = n.number

-- the number that was kept
abbrev pub number_kept : List ℕ → ℕ
number_kept bytes = if length bytes == 8 then big_number 8 bytes else 0
