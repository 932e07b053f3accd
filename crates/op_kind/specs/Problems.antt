-- Problems of build commands: markers on their project.
use Rattle.std.specs.Prelude.{ℕ, pos, int_le, Bool, false, not, ◌&&◌, List, length, codes, Option, Some, None, unwrap_or}
use Rattle.std.specs.Option.{option_map}
use Rattle.std.specs.FinMap.{get, retain_keys}
use Rattle.mark_set.specs.declared.marker.Marker.{Marker}
use Rattle.mark_set.specs.declared.value.Value.{Value}
use Rattle.mark_set.specs.declared.value.Value.TheVariants.{Int, Bool as Truth, Text}
use Rattle.mark_set.specs.Markers.{Marks, has_type}
use Rattle.proj_desc.specs.Canonical.{described}

-- how many commands the description has that the text is
abbrev pub command_count : List ℕ → ℕ
command_count text = unwrap_or (option_map (λ d. length d.commands) (described text)) 0

-- an integer that is at or above the count; neither a truth value nor a text is
abbrev pub is_at_or_above : ℕ → Option Value → Bool
is_at_or_above count None = false
is_at_or_above count (Some (Int n)) = int_le (pos count) n
is_at_or_above count (Some (Truth b)) = false
is_at_or_above count (Some (Text text)) = false

-- a marker of the problems' type whose attribute `command` is an integer at or above the count
abbrev pub is_problem_from : ℕ → Option Marker → Bool
is_problem_from count None = false
is_problem_from count (Some marker) =
    has_type (codes "org.eclipse.core.resources.problemmarker") (Some marker) && is_at_or_above count (get marker.attrs (codes "command"))

-- the markers without these problems
abbrev pub without_problems_from : ℕ → Marks → Marks
without_problems_from count marks = retain_keys marks (λ id. not (is_problem_from count (get marks id)))
