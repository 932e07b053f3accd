-- Why an operation is refused.
use Rattle.std.specs.Prelude.{ℕ, ◌+◌, ◌-◌, ◌^◌, Bool, false, not, ◌&&◌, ◌||◌, nat_lt, nat_le, if◌then◌else◌, List, [], ◌∷◌, ◌++◌, length, Option, Some, None, is_some}
use Rattle.std.specs.Bool.{beq}
use Rattle.std.specs.List.{list_any}
use Rattle.std.specs.Option.{option_map}
use Rattle.std.specs.FinMap.{get, contains_key, len}
use Rattle.res_path.specs.Paths.{Names, parent, is_prefix, path_text}
use Rattle.ws_elem.specs.declared.element.Element.{Element}
use Rattle.ws_elem.specs.Kinds.{is_project}
use Rattle.ws_elem.specs.Trees.{Tree, branch}
use Rattle.mark_set.specs.Causes.{marker_cause, change_cause}
use Rattle.mark_set.specs.declared.value.RawValue.{RawValue}
use Rattle.proj_desc.specs.Causes.{desc_cause}
use Rattle.proj_desc.specs.FirstCause.{when, first_cause}
use Rattle.op_kind.specs.declared.op.Op.{Op}
use Rattle.op_kind.specs.declared.op.Op.TheVariants.{CreateFile, CreateFolder, CreateProject, Delete, Write, Touch, Derived, Move, Copy, Open, Close, Describe, Forget, Mark, Attr, Unmark, ClearMarks, Partner, Sync, Flush, Read}
use Rattle.op_kind.specs.declared.op.Want.{Want}
use Rattle.op_kind.specs.declared.op.Want.TheVariants.{Show, Cat, Tree as AsTree, Digest}
use Rattle.op_kind.specs.declared.refusal.OpRefusal.{OpRefusal}
use Rattle.op_kind.specs.declared.refusal.OpRefusal.TheVariants.{TooDeep, TooLong, NotFound, Exists, NotContainer, WrongKind, ProjectClosed, TreeFull, NumbersUsed, PartnerUnknown, MarkerUnknown, BadValue, IntoItself, BadDescription}
use Rattle.op_kind.specs.Resources.{Resources}
use Rattle.op_kind.specs.Places.{project_of, project_name, is_root_path, is_project_path, is_member_path, has_file, is_shut, is_in_shut}
use Rattle.op_kind.specs.Members.{rebased}
use Rattle.op_kind.specs.Entries.{Entries}
use Rattle.op_kind.specs.Numbers.{stamps_of_all}
use Rattle.op_kind.specs.Marking.{has_marker}
use Rattle.op_kind.specs.Partners.{is_partner}

-- the platform's number of a refusal
abbrev pub refusal_number : OpRefusal → ℕ
refusal_number TooDeep = 2
refusal_number TooLong = 3
refusal_number (NotFound path) = 10
refusal_number (Exists path) = 11
refusal_number (NotContainer path) = 12
refusal_number (WrongKind path) = 13
refusal_number (ProjectClosed path) = 14
refusal_number TreeFull = 17
refusal_number NumbersUsed = 18
refusal_number PartnerUnknown = 21
refusal_number (MarkerUnknown id) = 22
refusal_number (BadValue cause) = 23
refusal_number IntoItself = 24
refusal_number (BadDescription cause) = 25

-- what a closed project refuses: itself and its members
abbrev pub closed : Tree → Names → Option OpRefusal
closed t p = when (is_shut t p) (ProjectClosed (project_of p))

-- what a closed project refuses: its members
abbrev pub member_closed : Tree → Names → Option OpRefusal
member_closed t p = when (is_in_shut t p) (ProjectClosed (project_of p))

-- nothing is at p
abbrev pub missing : Tree → Names → Option OpRefusal
missing t p = when (not (contains_key t p)) (NotFound p)

-- why nothing can be in the folder, with this at its path: it isn't there, or is a file
abbrev pub container_causes : Names → Option Element → List (Option OpRefusal)
container_causes folder x = when (not (is_some x)) (NotFound folder) ∷ when (has_file x) (NotContainer folder) ∷ []

-- why nothing can be created at p because of what is above it
abbrev pub above_causes : Tree → Names → List (Option OpRefusal)
above_causes t p = closed t p ∷ container_causes (parent p) (get t (parent p))

-- why nothing can come to p: its parent isn't there, or is a file; or something is at p
abbrev pub place_causes : Tree → Names → List (Option OpRefusal)
place_causes t p = container_causes (parent p) (get t (parent p)) ++ when (contains_key t p) (Exists p) ∷ []

-- the greatest number that a counter may reach
abbrev pub max_number : ℕ
max_number = 2 ^ 63 - 1

-- the most elements that tree and shelf may have together
abbrev pub max_elements : ℕ
max_elements = 1048576

-- so many numbers can't be drawn from the counter
abbrev pub is_spent : ℕ → ℕ → Bool
is_spent next count = nat_lt (max_number - next) count

-- why so many elements can't be made, drawing so many stamps
abbrev pub number_causes : Resources → ℕ → ℕ → List (Option OpRefusal)
number_causes r count stamps =
    when (nat_lt max_elements (len r.tree + len r.shelf + count)) TreeFull
    ∷ when (is_spent r.next_node count || is_spent r.next_stamp stamps) NumbersUsed
    ∷ []

-- why nothing can be created at p, drawing so many stamps
abbrev pub creation_causes : Resources → Names → ℕ → List (Option OpRefusal)
creation_causes r p stamps = closed r.tree p ∷ place_causes r.tree p ++ number_causes r 1 stamps

-- why nothing can be created at p even if it is free, drawing so many stamps
abbrev pub around_causes : Resources → Names → ℕ → List (Option OpRefusal)
around_causes r p stamps = above_causes r.tree p ++ number_causes r 1 stamps

-- why the contents of p can't change
abbrev pub contents_causes : Resources → Names → List (Option OpRefusal)
contents_causes r p =
    member_closed r.tree p
    ∷ missing r.tree p
    ∷ when (not (has_file (get r.tree p))) (WrongKind p)
    ∷ when (is_spent r.next_stamp 1) NumbersUsed
    ∷ []

-- why p can't be deleted
abbrev pub deletion_causes : Tree → Names → List (Option OpRefusal)
deletion_causes t p = when (is_root_path p) (WrongKind p) ∷ member_closed t p ∷ missing t p ∷ []

-- why p can't be marked as derived, or as not
abbrev pub derived_causes : Tree → Names → List (Option OpRefusal)
derived_causes t p = member_closed t p ∷ missing t p ∷ when (not (is_member_path p)) (WrongKind p) ∷ []

-- one of the two paths is the root's, or one is a project's and the other isn't
abbrev pub kind_causes : Names → Names → List (Option OpRefusal)
kind_causes from to =
    when (is_root_path from || is_root_path to) (WrongKind [])
    ∷ when (not (beq (is_project_path from) (is_project_path to))) (WrongKind to)
    ∷ []

-- a path that would have more than 64 names
abbrev pub goes_too_deep : Names → Names → Entries → Bool
goes_too_deep from to = list_any (λ e. nat_lt 64 (length (rebased from to e.0)))

-- a path whose text would have more than 4,096 bytes
abbrev pub gets_too_long : Names → Names → Entries → Bool
gets_too_long from to = list_any (λ e. nat_lt 4096 (length (path_text (rebased from to e.0))))

-- why a project's description doesn't fit a project of this name
abbrev pub description_cause : Option Element → List ℕ → Option OpRefusal
description_cause None name = None
description_cause (Some e) name = if is_project e.kind then option_map BadDescription (desc_cause name e.attached.desc) else None

-- why what is at `from` can't come to stand at `to`, whatever is below it
abbrev pub standing_causes : Tree → Names → Names → List (Option OpRefusal)
standing_causes t from to =
    kind_causes from to
    ++ closed t from
    ∷ closed t to
    ∷ missing t from
    ∷ when (is_prefix from to) IntoItself
    ∷ place_causes t to

-- why what is at or below `from` doesn't fit below `to`
abbrev pub fit_causes : Tree → Names → Names → List (Option OpRefusal)
fit_causes t from to =
    when (goes_too_deep from to (branch t from)) TooDeep
    ∷ when (gets_too_long from to (branch t from)) TooLong
    ∷ description_cause (get t from) (project_name to)
    ∷ []

-- why what is at `from` can't come to stand at `to`
abbrev pub transfer_causes : Tree → Names → Names → List (Option OpRefusal)
transfer_causes t from to = standing_causes t from to ++ fit_causes t from to

-- why what is at `from` can't be copied to `to`: a copy also takes room, and draws numbers
abbrev pub copy_causes : Resources → Names → Names → List (Option OpRefusal)
copy_causes r from to =
    let copied = branch r.tree from in
    transfer_causes r.tree from to ++ number_causes r (length copied) (stamps_of_all copied)

-- why p isn't a project that is there
abbrev pub project_causes : Tree → Names → List (Option OpRefusal)
project_causes t p = when (not (is_project_path p)) (WrongKind p) ∷ missing t p ∷ []

-- why the text can't become the description of p
abbrev pub describe_causes : Resources → Names → List ℕ → List (Option OpRefusal)
describe_causes r p text =
    project_causes r.tree p
    ++ closed r.tree p
    ∷ option_map BadDescription (desc_cause (project_name p) text)
    ∷ when (is_spent r.next_stamp 1) NumbersUsed
    ∷ []

-- what is asked can't be read from what is there: a folder, a project or the root has no contents
abbrev pub cannot_be_read : Want → Option Element → Bool
cannot_be_read Show x = false
cannot_be_read Cat x = not (has_file x)
cannot_be_read AsTree x = false
cannot_be_read Digest x = false

-- why p can't be read
abbrev pub read_causes : Tree → Names → Want → List (Option OpRefusal)
read_causes t p want = member_closed t p ∷ missing t p ∷ when (cannot_be_read want (get t p)) (WrongKind p) ∷ []

-- why neither markers nor synchronisation bytes of p can change: it is a closed project or a member of one, or isn't there
abbrev pub marking_causes : Tree → Names → List (Option OpRefusal)
marking_causes t p = closed t p ∷ missing t p ∷ []

-- no marker at p has the id
abbrev pub marker_missing : Tree → Names → ℕ → Option OpRefusal
marker_missing t p id = when (not (has_marker id (get t p))) (MarkerUnknown id)

-- no partner of this name is registered
abbrev pub partner_missing : Resources → List ℕ → Option OpRefusal
partner_missing r name = when (not (is_partner r.partners name)) PartnerUnknown

-- why no marker of this type with these attributes can be made at p
abbrev pub mark_causes : Resources → Names → List ℕ → List (List ℕ × RawValue) → List (Option OpRefusal)
mark_causes r p mark_type attributes =
    marking_causes r.tree p ++ option_map BadValue (marker_cause mark_type attributes) ∷ when (is_spent r.next_marker 1) NumbersUsed ∷ []

-- why the marker can't go
abbrev pub unmark_causes : Tree → Names → ℕ → List (Option OpRefusal)
unmark_causes t p id = marking_causes t p ++ marker_missing t p id ∷ []

-- why an attribute of the marker can't get this value, or go
abbrev pub attr_causes : Tree → Names → ℕ → List ℕ → Option RawValue → List (Option OpRefusal)
attr_causes t p id name value = marking_causes t p ++ marker_missing t p id ∷ option_map BadValue (change_cause name value) ∷ []

-- the most partners that there may be
abbrev pub max_partners : ℕ
max_partners = 2 ^ 32 - 1

-- why the partner can't be registered
abbrev pub partner_causes : Resources → List ℕ → List (Option OpRefusal)
partner_causes r name = when (not (is_partner r.partners name) && nat_le max_partners (length r.partners)) NumbersUsed ∷ []

-- why the partner's bytes at p can't change
abbrev pub sync_causes : Resources → Names → List ℕ → List (Option OpRefusal)
sync_causes r p name = when (is_root_path p) (WrongKind p) ∷ marking_causes r.tree p ++ partner_missing r name ∷ []

-- why the partner's bytes at and below p can't go
abbrev pub flush_causes : Resources → Names → List ℕ → List (Option OpRefusal)
flush_causes r p name = marking_causes r.tree p ++ partner_missing r name ∷ []

-- why an operation is refused, the causes in their order
abbrev pub causes : Resources → Op → List (Option OpRefusal)
causes r (CreateFile p bytes) = when (not (is_member_path p)) (WrongKind p) ∷ creation_causes r p 1
causes r (CreateFolder p) = when (not (is_member_path p)) (WrongKind p) ∷ creation_causes r p 0
causes r (CreateProject p) = when (not (is_project_path p)) (WrongKind p) ∷ creation_causes r p 1
causes r (Delete p) = deletion_causes r.tree p
causes r (Write p bytes) = contents_causes r p
causes r (Touch p) = contents_causes r p
causes r (Derived p on) = derived_causes r.tree p
causes r (Move from to) = transfer_causes r.tree from to
causes r (Copy from to) = copy_causes r from to
causes r (Open p) = project_causes r.tree p
causes r (Close p) = project_causes r.tree p
causes r (Describe p text) = describe_causes r p text
causes r (Forget p) = project_causes r.tree p
causes r (Mark p mark_type attributes) = mark_causes r p mark_type attributes
causes r (Attr p id name value) = attr_causes r.tree p id name value
causes r (Unmark p id) = unmark_causes r.tree p id
causes r (ClearMarks p mark_type depth) = marking_causes r.tree p
causes r (Partner name) = partner_causes r name
causes r (Sync p name bytes) = sync_causes r p name
causes r (Flush p name depth) = flush_causes r p name
causes r (Read p want) = read_causes r.tree p want

-- why an operation is refused, if it is
abbrev pub refusal : Resources → Op → Option OpRefusal
refusal r op = first_cause (causes r op)
