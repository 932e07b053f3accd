-- The lines of a delta.
use Rattle.std.specs.Prelude.{ℕ, ◌==◌, if◌then◌else◌, List, [], ◌++◌, Option, Some, None, codes, decimal, bit_and}
use Rattle.std.specs.List.{flat_map}
use Rattle.res_path.specs.Paths.{Names}
use Rattle.mark_set.specs.declared.delta.Change.{Change}
use Rattle.mark_set.specs.declared.delta.Change.TheVariants.{Added, Removed, Changed}
use Rattle.mark_set.specs.declared.delta.MarkerDelta.{MarkerDelta}
use Rattle.delta_kind.specs.declared.node.DeltaNode.{DeltaNode}
use Rattle.script_words.specs.Words.{word_text}
use Rattle.report_text.specs.Words.{path_word}

-- the kinds' numbers are the platform's: 1 where it came, 2 where it went, 4 where it changed
abbrev pub sign : ℕ → List ℕ
sign kind = if kind == 1 then codes " +" else (if kind == 2 then codes " -" else codes " *")

-- the text, where the flag is set
abbrev pub where_set : ℕ → ℕ → List ℕ → List ℕ
where_set flags flag text = if bit_and flags flag == 0 then [] else text

-- the text and the path, where there is a path
abbrev pub place_text : List ℕ → Option Names → List ℕ
place_text text None = []
place_text text (Some p) = text ++ path_word p

-- where what is there was, and where what was there is
abbrev pub moved_names : DeltaNode → List ℕ
moved_names n = place_text (codes " MOVED_FROM=") n.moved_from ++ place_text (codes " MOVED_TO=") n.moved_to

-- ---- the flags' numbers are the platform's

-- of OPEN and TYPE those that are set
abbrev pub kind_names : ℕ → List ℕ
kind_names flags = where_set flags 0x4000 (codes " OPEN") ++ where_set flags 0x8000 (codes " TYPE")

-- of SYNC, MARKERS and REPLACED those that are set
abbrev pub middle_names : ℕ → List ℕ
middle_names flags = where_set flags 0x10000 (codes " SYNC") ++ where_set flags 0x20000 (codes " MARKERS") ++ where_set flags 0x40000 (codes " REPLACED")

-- of DESCRIPTION and DERIVED_CHANGED those that are set
abbrev pub last_names : ℕ → List ℕ
last_names flags = where_set flags 0x80000 (codes " DESCRIPTION") ++ where_set flags 0x400000 (codes " DERIVED_CHANGED")

-- the names of the flags that are set, in the order of their numbers, a space before each
abbrev pub flag_names : DeltaNode → List ℕ
flag_names n = where_set n.flags 0x100 (codes " CONTENT") ++ moved_names n ++ kind_names n.flags ++ middle_names n.flags ++ last_names n.flags

abbrev pub node_line : DeltaNode → List ℕ
node_line n = codes "  " ++ path_word n.path ++ sign n.kind ++ flag_names n ++ codes "\n"

abbrev pub marker_sign : Change → List ℕ
marker_sign Added = codes " + "
marker_sign Removed = codes " - "
marker_sign Changed = codes " * "

-- a marker's id, what became of it, and its type
abbrev pub marker_line : MarkerDelta → List ℕ
marker_line d = codes "    marker " ++ decimal d.id ++ marker_sign d.change ++ word_text d.mark_type ++ codes "\n"

-- a node's line, and one for each of its marker deltas
abbrev pub node_lines : DeltaNode → List ℕ
node_lines n = node_line n ++ flat_map marker_line n.markers

abbrev pub delta_lines : List DeltaNode → List ℕ
delta_lines = flat_map node_lines
