-- Whether elements are equal.
use Rattle.std.specs.Prelude.{Bool, true, false, ◌&&◌, ◌==◌, bytes_eq, Option, Some, None}
use Rattle.std.specs.Bool.{beq}
use Rattle.mark_set.specs.Markers.{same_marks}
use Rattle.sync_set.specs.Syncs.{same_syncs}
use Rattle.ws_elem.specs.declared.attached.Attachments.{Attachments}
use Rattle.ws_elem.specs.declared.element.Element.{Element}
use Rattle.ws_elem.specs.Kinds.{kind_number}

abbrev pub same_numbers : Element → Element → Bool
same_numbers a b = (a.node == b.node) && (a.stamp == b.stamp)

abbrev pub same_form : Element → Element → Bool
same_form a b = (kind_number a.kind == kind_number b.kind) && (beq a.opened b.opened && beq a.derived b.derived)

abbrev pub same_attachments : Attachments → Attachments → Bool
same_attachments a b = (a.desc_stamp == b.desc_stamp) && (bytes_eq a.desc b.desc && (same_marks a.marks b.marks && same_syncs a.syncs b.syncs))

-- all that they hold is equal
abbrev pub same_element : Element → Element → Bool
same_element a b = same_numbers a b && (same_form a b && (same_attachments a.attached b.attached && bytes_eq a.bytes b.bytes))

abbrev pub same_entry : Option Element → Option Element → Bool
same_entry None None = true
same_entry None (Some b) = false
same_entry (Some a) None = false
same_entry (Some a) (Some b) = same_element a b
