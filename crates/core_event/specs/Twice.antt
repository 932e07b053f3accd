-- A value, with a copy where one is wanted.
use Rattle.std.specs.Prelude.{Bool, if◌then◌else◌, Some, None}
use Rattle.core_event.specs.declared.twice.Twice.{Twice}

abbrev pub twice : {T : Type 0} → Bool → T → Twice T
twice wanted x = record { value = x; copy = if wanted then Some x else None }

-- something, and a value with a copy where one is wanted
abbrev pub doubled : {X T : Type 0} → Bool → X × T → X × Twice T
doubled wanted p = (p.0, twice wanted p.1)
