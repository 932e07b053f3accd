-- The atoms of the workspace: paths, mutexes and ranges of lines.
use Rattle.std.specs.Prelude.{Bool, false, ◌&&◌, ◌||◌}
use Rattle.std.specs.Str.{bytes_eq}
use Rattle.res_path.specs.Paths.{is_prefix, path_eq, path_cmp, overlap}
use Rattle.std.specs.declared.cmp.Ordering.{Ordering}
use Rattle.std.specs.declared.cmp.Ordering.TheVariants.{Less, Greater}
use Rattle.std.specs.Ordering.{nat_cmp}
use Rattle.std.specs.Cmp.Lexicographic.{slice_cmp}
use Rattle.sched_rules.specs.Ranges.{same_range, lies_within, share_a_line, range_cmp}
use Rattle.sched_rules.specs.declared.ws_atom.WsAtom.{WsAtom}
use Rattle.sched_rules.specs.declared.ws_atom.WsAtom.TheVariants.{Path, Mutex, Lines}

-- a path contains what is at or below it, a range of lines the ranges within it, a mutex itself
abbrev pub atom_contains : WsAtom → WsAtom → Bool
atom_contains (Path p) (Path q) = is_prefix p q
atom_contains (Path p) (Lines file first last) = is_prefix p file
atom_contains (Lines file from to) (Lines other first last) = path_eq file other && (same_range from to first last || lies_within from to first last)
atom_contains (Mutex m) (Mutex n) = bytes_eq m n
atom_contains a b = false

-- a path conflicts with what is above, at or below it, a range of lines with those that share a line, a mutex with itself
abbrev pub atom_conflicts : WsAtom → WsAtom → Bool
atom_conflicts (Path p) (Path q) = overlap p q
atom_conflicts (Path p) (Lines file first last) = overlap p file
atom_conflicts (Lines file from to) (Path q) = overlap file q
atom_conflicts (Lines file from to) (Lines other first last) = path_eq file other && (same_range from to first last || share_a_line from to first last)
atom_conflicts (Mutex m) (Mutex n) = bytes_eq m n
atom_conflicts a b = false

-- paths first, then mutexes, then ranges of lines, each kind by its parts
abbrev pub atom_cmp : WsAtom → WsAtom → Ordering
atom_cmp (Path p) (Path q) = path_cmp p q
atom_cmp (Path p) b = Less
atom_cmp (Mutex m) (Path q) = Greater
atom_cmp (Mutex m) (Mutex n) = slice_cmp nat_cmp m n
atom_cmp (Mutex m) (Lines file first last) = Less
atom_cmp (Lines file from to) (Lines other first last) = range_cmp (file, from, to) (other, first, last)
atom_cmp (Lines file from to) b = Greater
