use Rattle.std.proofs.Common.{◌≡◌, ◌<◌, ◌∙◌, ℕ, false, List, [], ◌∷◌, length, refl, ap, arith}
use Rattle.proj_desc.specs.Described.{begins_with_slash}
use Rattle.built_read.proofs.commands.begins_with_slash.Goals as goal

none_begins : (bytes : List ℕ) → length bytes < 1 → false ≡ begins_with_slash bytes
none_begins [] h = refl
none_begins (b ∷ bytes) h = absurd (omega arith)

pub returns-in-len1-up : goal.returns-in-len1-up
returns-in-len1-up c = ap begins_with_slash c.as_bytes.ensures.value

pub returns-in-empty : goal.returns-in-empty
returns-in-empty c = none_begins c.as_bytes.result.now c.in-empty.len_below ∙ ap begins_with_slash c.as_bytes.ensures.value
