-- A walk over the files that are there, with those that are left to be put.
use Rattle.std.specs.Prelude.{ℕ, Bool, true, false, not, ◌&&◌, ◌||◌, if◌then◌else◌, List, [], ◌∷◌, ◌++◌, map, length, drop, Option, Some, None, is_some, filter}
use Rattle.std.specs.FinMap.{get, remove, entries}
use Rattle.std.specs.List.{flat_map, list_any}
use Rattle.res_path.specs.Paths.{Names, is_prefix}
use Rattle.delta_kind.specs.declared.node.DeltaNode.{DeltaNode}
use Rattle.builder_api.specs.Places.{is_below}
use Rattle.builder_api.specs.Files.{Files}
use Rattle.builder_api.specs.Edits.{Edit}
use Rattle.delta_kind.specs.Deltas.{above}
use Rattle.std_kit.specs.Changes.{change_of}
use Rattle.std_kit.specs.Since.{loses}

abbrev pub edit_if : Names → Option (Option (List ℕ)) → List Edit
edit_if r None = []
edit_if r (Some change) = (r, change) ∷ []

-- the edits for a file that is there
abbrev pub edits_at : Names → Names × List ℕ → Files → List Edit
edits_at o e left = if is_below o e.0 then edit_if (drop (length o) e.0) (change_of (Some e.1) (get left (drop (length o) e.0))) else []

-- what is left to be put after it
abbrev pub left_after : Names → Names × List ℕ → Files → Files
left_after o e left = if is_below o e.0 then remove left (drop (length o) e.0) else left

-- puts of all that are left
abbrev pub puts : Files → List Edit
puts left = map (λ e. (e.0, Some e.1)) (entries left)

-- the edits for the files that are there, in their order, and the puts of what is left at last
abbrev pub edits_along : Names → List (Names × List ℕ) → Files → List Edit
edits_along o [] left = puts left
edits_along o (e ∷ es) left = edits_at o e left ++ edits_along o es (left_after o e left)

-- the edits for the file of the root at a path, where one is to be made
abbrev pub edits_from : Names → Names → Files → Names → List Edit
edits_from o root view q = let r = drop (length root) q in if is_below root q then edit_if r (change_of (get view (o ++ r)) (get view q)) else []

-- the edits at nodes, in their order
abbrev pub edits_at_nodes : Names → Names → Files → List DeltaNode → List Edit
edits_at_nodes o root view nodes = flat_map (λ node. edits_from o root view node.path) nodes

-- a file lies below the one before it, of files in path order
abbrev pub is_over_first : Names → List (Names × List ℕ) → Bool
is_over_first p [] = false
is_over_first p (e ∷ es) = is_prefix p e.0

abbrev pub are_apart : List (Names × List ℕ) → Bool
are_apart [] = true
are_apart (e ∷ es) = not (is_over_first e.0 es) && are_apart es

-- ---- nodes at which files may have gone

abbrev pub has_none : List (Names × List ℕ) → Bool
has_none [] = true
has_none (e ∷ es) = false

-- the first of the nodes lies at or below the path
abbrev pub is_over_node : Names → List DeltaNode → Bool
is_over_node p [] = false
is_over_node p (node ∷ nodes) = is_prefix p node.path

-- a file lies at the path, at or below the root
abbrev pub is_file_of : Names → Files → Names → Bool
is_file_of root view q = is_prefix root q && is_some (get view q)

-- a file of the root lies above the path
abbrev pub has_above : Names → Files → Names → Bool
has_above root view p = list_any (is_file_of root view) (above p)

abbrev pub stands_alone : Names → Files → Names → List DeltaNode → Bool
stands_alone root view p later = is_below root p && not (is_over_node p later) && has_none (filter (λ e. is_prefix p e.0) (entries view)) && not (has_above root view p)

abbrev pub is_calm_at : Names → Names → Files → DeltaNode → List DeltaNode → Bool
is_calm_at root o view node later = not (is_below o node.path) && (not (is_prefix root node.path && loses node) || stands_alone root view node.path later)

abbrev pub are_calm : Names → Names → Files → List DeltaNode → Bool
are_calm root o view [] = true
are_calm root o view (node ∷ later) = is_calm_at root o view node later && are_calm root o view later
