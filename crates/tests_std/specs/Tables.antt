-- The files that rows include.
use Rattle.std.specs.Prelude.{ℕ, if◌then◌else◌, List, [], codes, Option, Some, None}
use Rattle.std.specs.Str.{bytes_eq}

abbrev pub table : List ℕ → Option (List ℕ)
table name = if bytes_eq name (codes "b") then Some (codes "B\n") else if bytes_eq name (codes "c/d") then Some (codes "@include b\n") else if bytes_eq name (codes "e") then Some [] else None
