-- What stands at each path after some changes.
use Rattle.std.specs.Prelude.{Bool, true, ◌&&◌, List, [], ◌∷◌, Option, Some, if◌then◌else◌}
use Rattle.std.specs.Option.{option_map}
use Rattle.std.specs.Ordering.{is_lt}
use Rattle.save_form.specs.Lists.{is_above}
use Rattle.res_path.specs.Paths.{Names, path_cmp, path_eq}
use Rattle.save_state.specs.declared.change.Change.{Change}
use Rattle.save_state.specs.Entries.{Entries}

abbrev pub is_path_below : Names → Names → Bool
is_path_below p q = is_lt (path_cmp p q)

-- what stands at each path after the changes
abbrev pub changed : Entries → List Change → Entries
changed base [] p = base p
changed base (c ∷ cs) p = if path_eq c.path p then c.entry else changed base cs p

-- whether the paths of some changes rise, each above the one before it
abbrev pub is_rising : Option Change → List Change → Bool
is_rising before [] = true
is_rising before (c ∷ cs) = is_above is_path_below (option_map (λ (x : Change). x.path) before) c.path && is_rising (Some c) cs
