-- The least holder, looked for from the first held rule on.
use Rattle.std.specs.Prelude.{ℕ, nat_lt, if◌then◌else◌, Option, Some, None}
use Rattle.rule_table.specs.declared.held.Held.{Held}

-- what was found, or the one after it where that has a lower holder or nothing was found
abbrev pub lower_than_found : {A : Type 0} → Option (Held A) → Held A → Option (Held A)
lower_than_found None held = Some held
lower_than_found (Some found) held = if nat_lt held.holder found.holder then Some held else Some found
