-- What each description of a project keeps.
use Rattle.std.specs.Prelude.{◌≡◌, ◌≢◌, ◌<◌, ◌≤◌, ℕ, false, List, length, slice_index_or}
use Rattle.std.specs.List.{All, AllPass, AllPairs, list_any}
use Rattle.proj_desc.specs.declared.command.Command.{Command}
use Rattle.proj_desc.specs.declared.desc.Desc.{Desc}
use Rattle.proj_desc.specs.Causes.{is_many, has_bad_name, has_places, is_foreign, meets}
use Rattle.res_path.specs.Paths.{overlap}

pub record IsValid (project : List ℕ) (d : Desc) : Type 0 where
  -- its numbers are within their limits, and its names are names
  pub few : is_many d ≡ false
  pub named : has_bad_name d ≡ false
  -- its paths are paths below the project, or paths elsewhere
  pub placed : AllPass (has_places project) d.commands
  -- it refers to other projects, to each once
  pub others : All (λ name. name ≢ project) d.references
  pub once : AllPairs (λ a b. a ≢ b) d.references
  -- inputs elsewhere lie in these
  pub referenced : All (λ c. list_any (is_foreign d.references) c.inputs ≡ false) d.commands
  -- no two outputs overlap
  pub apart : AllPairs (λ c e. overlap c.output e.output ≡ false) d.commands
  -- no own input overlaps the output of its command or of a later one
  pub unread : (i j : ℕ) (c : Command) → i ≤ j → j < length d.commands → list_any (meets (slice_index_or d.commands j c).output) (slice_index_or d.commands i c).inputs ≡ false
