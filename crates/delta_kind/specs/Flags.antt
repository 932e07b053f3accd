-- What became of one path, by its entries before and after.
use Rattle.std.specs.Prelude.{ℕ, ◌+◌, Bool, true, false, not, ◌&&◌, ◌==◌, if◌then◌else◌, Option, Some, None, is_some, bit_and}
use Rattle.std.specs.Bool.{beq}
use Rattle.std.specs.FinMap.{empty}
use Rattle.res_path.specs.Paths.{Names}
use Rattle.mark_set.specs.Markers.{Marks, same_marks}
use Rattle.sync_set.specs.Syncs.{Syncs, same_syncs}
use Rattle.ws_elem.specs.declared.element.Element.{Element}
use Rattle.ws_elem.specs.Kinds.{kind_number, is_file, is_project}

-- both are files, and their stamps differ
abbrev pub has_content : Option Element → Option Element → Bool
has_content (Some a) (Some b) = is_file a.kind && is_file b.kind && not (a.stamp == b.stamp)
has_content (Some a) None = false
has_content None after = false

-- both are projects, and one of them alone is open; or an open project is new
abbrev pub has_open : Option Element → Option Element → Bool
has_open (Some a) (Some b) = is_project a.kind && is_project b.kind && not (beq a.opened b.opened)
has_open None (Some b) = is_project b.kind && b.opened
has_open before None = false

-- both are there, and their kinds differ
abbrev pub has_type : Option Element → Option Element → Bool
has_type (Some a) (Some b) = not (kind_number a.kind == kind_number b.kind)
has_type (Some a) None = false
has_type None after = false

-- the synchronisation bytes of an element, none of one that isn't there
abbrev pub syncs_of : Option Element → Syncs
syncs_of None = empty
syncs_of (Some e) = e.attached.syncs

-- the markers of an element, none of one that isn't there
abbrev pub marks_of : Option Element → Marks
marks_of None = empty
marks_of (Some e) = e.attached.marks

-- the synchronisation bytes differ
abbrev pub has_sync : Option Element → Option Element → Bool
has_sync a b = not (same_syncs (syncs_of a) (syncs_of b))

-- the markers differ
abbrev pub has_markers : Option Element → Option Element → Bool
has_markers a b = not (same_marks (marks_of a) (marks_of b))

-- both are there, and their nodes differ
abbrev pub has_replaced : Option Element → Option Element → Bool
has_replaced (Some a) (Some b) = not (a.node == b.node)
has_replaced (Some a) None = false
has_replaced None after = false

-- both are projects, and the stamps of their descriptions differ
abbrev pub has_description : Option Element → Option Element → Bool
has_description (Some a) (Some b) = is_project a.kind && is_project b.kind && not (a.attached.desc_stamp == b.attached.desc_stamp)
has_description (Some a) None = false
has_description None after = false

-- both are there, and one of them alone is derived
abbrev pub has_derived_changed : Option Element → Option Element → Bool
has_derived_changed (Some a) (Some b) = not (beq a.derived b.derived)
has_derived_changed (Some a) None = false
has_derived_changed None after = false

-- the flag is among these
abbrev pub is_set : ℕ → ℕ → Bool
is_set flag flags = not (bit_and flags flag == 0)

-- the flag, where it holds
abbrev pub flag_if : ℕ → Bool → ℕ
flag_if flag holds = if holds then flag else 0

-- the flags that a path's own entries tell: the contents, open or closed, another kind, synchronisation bytes, markers, another
-- node, the description, derived or not
abbrev pub flags_of : Option Element → Option Element → ℕ
flags_of a b =
    flag_if 0x100 (has_content a b)
    + flag_if 0x4000 (has_open a b)
    + flag_if 0x8000 (has_type a b)
    + flag_if 0x10000 (has_sync a b)
    + flag_if 0x20000 (has_markers a b)
    + flag_if 0x40000 (has_replaced a b)
    + flag_if 0x80000 (has_description a b)
    + flag_if 0x400000 (has_derived_changed a b)

-- the flags that tell that what is at a path was elsewhere, and that what was there is elsewhere
abbrev pub moved_flags : Option Names → Option Names → ℕ
moved_flags from to = flag_if 0x1000 (is_some from) + flag_if 0x2000 (is_some to)

-- only after: added, 1; only before: removed, 2; else changed, 4
abbrev pub kind_of : Option Element → Option Element → ℕ
kind_of None (Some b) = 1
kind_of (Some a) None = 2
kind_of (Some a) (Some b) = 4
kind_of None None = 4

-- the path came, went, or has a flag
abbrev pub differs : Option Element → Option Element → Bool
differs (Some a) (Some b) = not (flags_of (Some a) (Some b) == 0)
differs None None = false
differs (Some a) None = true
differs None (Some b) = true
