-- What can be told in a text.
use Rattle.std.specs.Prelude.{◌≡◌, ℕ, ◌<◌, ◌≤◌, ◌^◌, true, List, [], length, Option, None, IfSome}
use Rattle.std.specs.Option.{option_map}
use Rattle.std.specs.List.{AllByRecursion}
use Rattle.std.specs.FinMap.{len}
use Rattle.res_path.specs.Names.{IsName}
use Rattle.ws_elem.specs.Trees.{Tree}
use Rattle.ws_durable.specs.Saved.{Saved, SavedBuilt, SavedKept}
use Rattle.save_form.specs.Laws.{FitEach}
use Rattle.save_form.specs.Lists.{is_above}
use Rattle.save_elem.specs.Elems.{is_name_below}
use Rattle.save_state.specs.declared.records.Built.{Built}
use Rattle.save_state.specs.States.{is_project_from, is_built_above}
use Rattle.save_build.specs.Told.{AreFit}

-- at most 1,048,576 elements
abbrev pub IsFew : Tree → Type 0
IsFew t = len t ≤ 1048576

-- so has each tree, and the shelf
pub record AreFew (d : Saved) : Type 0 where
  pub tree : IsFew d.tree
  pub shelf : IsFew d.shelf
  pub built : AllByRecursion (λ b. IsFew b.tree) d.built
  pub kept : AllByRecursion (λ k. IfSome k.tree IsFew) d.kept

-- each element is sound by itself, has a spelling and stands at a path; and there are few
abbrev pub IsSayableTree : Tree → Type 0
IsSayableTree t = AreFit t × IsFew t

abbrev pub AreSayableNames : List (List ℕ) → Type 0
AreSayableNames names = (length names < 2 ^ 32) × AllByRecursion IsName names

-- the key of a built record
abbrev pub key_of : SavedBuilt → Built
key_of b = record { project = b.project; index = b.index; command = []; references = []; changes = [] }

-- a built record above the one before it
pub record IsSayableBuilt (before : Option SavedBuilt) (b : SavedBuilt) : Type 0 where
  pub project : IsName b.project
  pub from : is_project_from (option_map key_of before) b.project ≡ true
  pub index : b.index < 2 ^ 16
  pub above : is_built_above (option_map key_of before) (b.project, b.index) ≡ true
  pub command : length b.command < 2 ^ 32
  pub references : AreSayableNames b.references
  pub tree : IsSayableTree b.tree

-- a kept state above the one before it
pub record IsSayableKept (before : Option SavedKept) (k : SavedKept) : Type 0 where
  pub participant : IsName k.participant
  pub above : is_above is_name_below (option_map (λ (x : SavedKept). x.participant) before) k.participant ≡ true
  pub bytes : length k.bytes < 2 ^ 32
  pub tree : IfSome k.tree IsSayableTree

-- Numbers have room in their fields, names are names, texts and lists have fewer than 2^32 bytes and items, and built
-- records and kept states rise.
pub record IsSayable (d : Saved) : Type 0 where
  pub next_node : d.next_node < 2 ^ 64
  pub next_stamp : d.next_stamp < 2 ^ 64
  pub next_marker : d.next_marker < 2 ^ 64
  pub partners : AreSayableNames d.partners
  pub tree : IsSayableTree d.tree
  pub shelf : IsSayableTree d.shelf
  pub built : (length d.built < 2 ^ 32) × FitEach IsSayableBuilt None d.built
  pub kept : (length d.kept < 2 ^ 32) × FitEach IsSayableKept None d.kept
