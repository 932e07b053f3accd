-- Kinds of saves.
use Rattle.std.specs.Prelude.{ℕ}
use Rattle.save_kind.specs.declared.kind.SaveKind.{SaveKind}
use Rattle.save_kind.specs.declared.kind.SaveKind.TheVariants.{Full, Snapshot}

-- the platform's number of a kind
abbrev pub save_number : SaveKind → ℕ
save_number Full = 1
save_number Snapshot = 2
