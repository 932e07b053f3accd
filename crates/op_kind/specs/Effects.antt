-- What an operation does that isn't refused.
use Rattle.std.specs.Prelude.{ℕ, ◌+◌, Bool, true, false, if◌then◌else◌, List, [], ◌∷◌, ◌++◌, length, Option, Some, None, unwrap_or, codes}
use Rattle.std.specs.FinMap.{empty, insert, remove, get}
use Rattle.std.specs.Option.{option_map}
use Rattle.res_path.specs.Paths.{Names}
use Rattle.ws_elem.specs.declared.attached.Attachments.{Attachments}
use Rattle.ws_elem.specs.declared.element.Element.{Element}
use Rattle.ws_elem.specs.declared.kind.Kind.TheVariants.{File, Folder, Project}
use Rattle.ws_elem.specs.Attached.{nothing_attached}
use Rattle.ws_elem.specs.Elements.{bare}
use Rattle.ws_elem.specs.Kinds.{is_file, is_project}
use Rattle.ws_elem.specs.Trees.{Tree, without, branch}
use Rattle.mark_set.specs.declared.value.RawValue.{RawValue}
use Rattle.mark_set.specs.Markers.{Marks}
use Rattle.sync_set.specs.Syncs.{with_bytes}
use Rattle.ws_elem.specs.declared.depth.Depth.{Depth}
use Rattle.proj_desc.specs.Canonical.{canonical_of}
use Rattle.op_kind.specs.declared.answer.OpAnswer.{OpAnswer}
use Rattle.op_kind.specs.declared.answer.OpAnswer.TheVariants.{Done, Id, Count, Seen}
use Rattle.op_kind.specs.declared.op.Op.{Op}
use Rattle.op_kind.specs.declared.op.Op.TheVariants.{CreateFile, CreateFolder, CreateProject, Delete, Write, Touch, Derived, Move, Copy, Open, Close, Describe, Forget, Mark, Attr, Unmark, ClearMarks, Partner, Sync, Flush, Read}
use Rattle.op_kind.specs.declared.op.Want.{Want}
use Rattle.op_kind.specs.declared.op.Want.TheVariants.{Show, Cat, Tree as AsTree, Digest}
use Rattle.op_kind.specs.Marking.{with_marks, with_marker, with_attribute_of, unmarked, count_marks, unsynced, count_bytes, reached, change_within, count_all}
use Rattle.op_kind.specs.Partners.{is_partner, number_of}
use Rattle.op_kind.specs.Problems.{command_count, without_problems_from}
use Rattle.op_kind.specs.Resources.{Resources}
use Rattle.op_kind.specs.Places.{is_shut}
use Rattle.op_kind.specs.Entries.{Entries}
use Rattle.op_kind.specs.Members.{found_at, members, without_members, put_all, carried}
use Rattle.op_kind.specs.Numbers.{stamps_of, stamps_of_all}

-- the description of a project that nobody described
abbrev pub empty_description : List ℕ
empty_description = codes "{\"commands\":[],\"references\":[]}"

-- a file with these contents, with the node and the stamp that it draws
abbrev pub new_file : ℕ → ℕ → List ℕ → Element
new_file node stamp bytes = record (bare File node) { stamp = stamp; bytes = bytes }

-- a folder, with the node that it draws
abbrev pub new_folder : ℕ → Element
new_folder node = bare Folder node

-- an open project with the empty description, with its node and its description's stamp
abbrev pub new_project : ℕ → ℕ → Element
new_project node stamp = record (bare Project node) { opened = true; attached = record nothing_attached { desc_stamp = stamp; desc = empty_description } }

-- the element stands at p, and its numbers are drawn
abbrev pub create : Resources → Names → Element → Resources
create r p e = record r { tree = insert r.tree p e; next_node = r.next_node + 1; next_stamp = r.next_stamp + stamps_of e }

-- the tree with this at p
abbrev pub put_some : Tree → Names → Option Element → Tree
put_some t p None = t
put_some t p (Some e) = insert t p e

-- the tree in which what is at p is changed so
abbrev pub change_at : Tree → Names → (Element → Element) → Tree
change_at t p change = put_some t p (option_map change (get t p))

-- p and all below it are gone, and what the shelf has of it
abbrev pub delete : Resources → Names → Resources
delete r p = record r { tree = without r.tree p; shelf = without r.shelf p }

-- new contents, with a fresh stamp
abbrev pub write : Resources → Names → List ℕ → Resources
write r p bytes = record r {
  tree = change_at r.tree p (λ e. record e { stamp = r.next_stamp; bytes = bytes });
  next_stamp = r.next_stamp + 1;
}

-- the same contents, with a fresh stamp
abbrev pub touch : Resources → Names → Resources
touch r p = record r { tree = change_at r.tree p (λ e. record e { stamp = r.next_stamp }); next_stamp = r.next_stamp + 1 }

abbrev pub derive : Resources → Names → Bool → Resources
derive r p on = record r { tree = change_at r.tree p (λ e. record e { derived = on }) }

-- each element at or below `from` stands at its place below `to`, and nothing at or below `from`
abbrev pub move : Resources → Names → Names → Resources
move r from to = record r { tree = put_all (without r.tree from) (carried from to (branch r.tree from)) }

-- what is attached to an element, with this stamp for a project's description; without markers and synchronisation bytes
abbrev pub stamped : ℕ → Element → Attachments
stamped stamp e = record e.attached {
  desc_stamp = if is_project e.kind then stamp else e.attached.desc_stamp;
  marks = empty;
  syncs = empty;
}

-- an element with this node, and with this stamp for its contents or its description; without markers and
-- synchronisation bytes
abbrev pub renumbered : ℕ → ℕ → Element → Element
renumbered node stamp e = record e {
  node = node;
  stamp = if is_file e.kind then stamp else e.stamp;
  attached = stamped stamp e;
}

-- the elements with fresh numbers, drawn in their order
abbrev pub copies : ℕ → ℕ → Entries → Entries
copies node stamp [] = []
copies node stamp (e ∷ es) = (e.0, renumbered node stamp e.1) ∷ copies (node + 1) (stamp + stamps_of e.1) es

-- a copy of each element at or below `from` stands at its place below `to`
abbrev pub copy : Resources → Names → Names → Resources
copy r from to =
    let copied = branch r.tree from in
    record r {
      tree = put_all r.tree (carried from to (copies r.next_node r.next_stamp copied));
      next_node = r.next_node + length copied;
      next_stamp = r.next_stamp + stamps_of_all copied;
    }

-- the project is open or not
abbrev pub set_open : Tree → Names → Bool → Tree
set_open t p on = change_at t p (λ e. record e { opened = on })

-- a closed project is open, and its members come from the shelf; an open one stays as it is
abbrev pub open_project : Resources → Names → Resources
open_project r p = if is_shut r.tree p then record r {
  tree = put_all (set_open r.tree p true) (members r.shelf p);
  shelf = without_members r.shelf p;
} else r

-- an open project is closed, and its members go to the shelf; a closed one stays as it is
abbrev pub close_project : Resources → Names → Resources
close_project r p = if is_shut r.tree p then r else record r {
  tree = set_open (without_members r.tree p) p false;
  shelf = put_all r.shelf (members r.tree p);
}

-- a project with the description that the text is, in its canonical form and with this stamp, and without the problems
-- of commands that it doesn't have
abbrev pub described : ℕ → List ℕ → Element → Element
described stamp text e = record e {
  attached = record e.attached {
    desc = unwrap_or (canonical_of text) [];
    desc_stamp = stamp;
    marks = without_problems_from (command_count text) e.attached.marks;
  };
}

-- the project at p is so described, with a fresh stamp
abbrev pub describe : Resources → Names → List ℕ → Resources
describe r p text = record r { tree = change_at r.tree p (described r.next_stamp text); next_stamp = r.next_stamp + 1 }

-- the markers of what is at p are changed so
abbrev pub change_marks : Tree → Names → (Marks → Marks) → Tree
change_marks t p change = change_at t p (with_marks change)

-- a marker with the next id
abbrev pub mark : Resources → Names → List ℕ → List (List ℕ × RawValue) → Resources
mark r p mark_type attributes = record r {
  tree = change_marks r.tree p (λ marks. with_marker marks r.next_marker mark_type attributes);
  next_marker = r.next_marker + 1;
}

-- one attribute of a marker gets this value, or goes
abbrev pub set_attribute : Resources → Names → ℕ → List ℕ → Option RawValue → Resources
set_attribute r p id name value = record r { tree = change_marks r.tree p (λ marks. with_attribute_of marks id name value) }

abbrev pub unmark : Resources → Names → ℕ → Resources
unmark r p id = record r { tree = change_marks r.tree p (λ marks. remove marks id) }

-- the markers of this type at p and below it are gone, to the depth
abbrev pub clear_marks : Resources → Names → List ℕ → Depth → Resources
clear_marks r p mark_type depth = record r { tree = change_within r.tree p depth (unmarked mark_type) }

-- the partner is registered; one that is there stays
abbrev pub register : Resources → List ℕ → Resources
register r name = if is_partner r.partners name then r else record r { partners = r.partners ++ name ∷ [] }

-- the partner keeps these bytes at p, or none
abbrev pub sync : Resources → Names → List ℕ → Option (List ℕ) → Resources
sync r p name bytes = record r { tree = change_at r.tree p (λ e. record e { attached = record e.attached { syncs = with_bytes e.attached.syncs (number_of r.partners name) bytes } }) }

-- the partner's bytes at p and below it are gone, to the depth
abbrev pub flush : Resources → Names → List ℕ → Depth → Resources
flush r p name depth = record r { tree = change_within r.tree p depth (unsynced (number_of r.partners name)) }

-- what is read: what is at p, or all at and below it
abbrev pub read : Want → Tree → Names → Entries
read Show t p = found_at p (get t p)
read Cat t p = found_at p (get t p)
read AsTree t p = branch t p
read Digest t p = branch t p

-- the resources after an operation, and its answer
abbrev pub effect : Resources → Op → Resources × OpAnswer
effect r (CreateFile p bytes) = (create r p (new_file r.next_node r.next_stamp bytes), Done)
effect r (CreateFolder p) = (create r p (new_folder r.next_node), Done)
effect r (CreateProject p) = (create r p (new_project r.next_node r.next_stamp), Done)
effect r (Delete p) = (delete r p, Done)
effect r (Write p bytes) = (write r p bytes, Done)
effect r (Touch p) = (touch r p, Done)
effect r (Derived p on) = (derive r p on, Done)
effect r (Move from to) = (move r from to, Done)
effect r (Copy from to) = (copy r from to, Done)
effect r (Open p) = (open_project r p, Done)
effect r (Close p) = (close_project r p, Done)
effect r (Describe p text) = (describe r p text, Done)
-- what is remembered of builds stands beside the resources
effect r (Forget p) = (r, Done)
effect r (Mark p mark_type attributes) = (mark r p mark_type attributes, Id r.next_marker)
effect r (Attr p id name value) = (set_attribute r p id name value, Done)
effect r (Unmark p id) = (unmark r p id, Done)
effect r (ClearMarks p mark_type depth) =
    (clear_marks r p mark_type depth, Count (count_all (count_marks mark_type) (reached r.tree p depth)))
effect r (Partner name) = (register r name, Done)
effect r (Sync p name bytes) = (sync r p name bytes, Done)
effect r (Flush p name depth) =
    (flush r p name depth, Count (count_all (count_bytes (number_of r.partners name)) (reached r.tree p depth)))
effect r (Read p want) = (r, Seen (read want r.tree p) r.partners)
