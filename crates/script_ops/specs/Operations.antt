-- The lines of operations: their parts, and their texts.
use Rattle.std.specs.Prelude.{ℕ, List, [], ◌∷◌, Some, None, codes}
use Rattle.std.specs.List.{flat_map}
use Rattle.op_kind.specs.declared.op.Op.{Op}
use Rattle.op_kind.specs.declared.op.Op.TheVariants.{CreateFile, CreateFolder, CreateProject, Delete, Write, Touch, Derived, Move, Copy, Open, Close, Describe, Forget, Mark, Attr, Unmark, ClearMarks, Partner, Sync, Flush, Read}
use Rattle.op_kind.specs.declared.op.Want.{Want}
use Rattle.op_kind.specs.declared.op.Want.TheVariants.{Show, Cat, Tree, Digest}
use Rattle.script_parts.specs.Parts.{Part, keyword, a_number, a_name, a_path, a_text, a_word, switch_word, depth_word, attribute_parts, set_parts, parts_text}

abbrev pub want_word : Want → List ℕ
want_word Show = codes "show"
want_word Cat = codes "cat"
want_word Tree = codes "tree"
want_word Digest = codes "digest"

-- the parts of an operation's line
abbrev pub operation_parts : Op → List Part
operation_parts (CreateProject path) = keyword (codes "create") ∷ keyword (codes "project") ∷ a_path path ∷ []
operation_parts (CreateFolder path) = keyword (codes "create") ∷ keyword (codes "folder") ∷ a_path path ∷ []
operation_parts (CreateFile path bytes) = keyword (codes "create") ∷ keyword (codes "file") ∷ a_path path ∷ a_word bytes ∷ []
operation_parts (Delete path) = keyword (codes "delete") ∷ a_path path ∷ []
operation_parts (Write path bytes) = keyword (codes "write") ∷ a_path path ∷ a_word bytes ∷ []
operation_parts (Touch path) = keyword (codes "touch") ∷ a_path path ∷ []
operation_parts (Derived path derived) = keyword (codes "derived") ∷ a_path path ∷ keyword (switch_word derived) ∷ []
operation_parts (Move path to) = keyword (codes "move") ∷ a_path path ∷ a_path to ∷ []
operation_parts (Copy path to) = keyword (codes "copy") ∷ a_path path ∷ a_path to ∷ []
operation_parts (Open path) = keyword (codes "open") ∷ a_path path ∷ []
operation_parts (Close path) = keyword (codes "close") ∷ a_path path ∷ []
operation_parts (Describe path text) = keyword (codes "describe") ∷ a_path path ∷ a_word text ∷ []
operation_parts (Forget path) = keyword (codes "forget") ∷ a_path path ∷ []
operation_parts (Mark path type attributes) = keyword (codes "mark") ∷ a_path path ∷ a_text type ∷ flat_map attribute_parts attributes
operation_parts (Attr path id name value) = keyword (codes "attr") ∷ a_path path ∷ a_number 64 0 id ∷ a_text name ∷ set_parts value
operation_parts (Unmark path id) = keyword (codes "unmark") ∷ a_path path ∷ a_number 64 0 id ∷ []
operation_parts (ClearMarks path type depth) = keyword (codes "clearmarks") ∷ a_path path ∷ a_text type ∷ keyword (depth_word depth) ∷ []
operation_parts (Partner name) = keyword (codes "partner") ∷ a_name name ∷ []
operation_parts (Sync path name (Some bytes)) = keyword (codes "sync") ∷ a_path path ∷ a_name name ∷ a_word bytes ∷ []
operation_parts (Sync path name None) = keyword (codes "nosync") ∷ a_path path ∷ a_name name ∷ []
operation_parts (Flush path name depth) = keyword (codes "flush") ∷ a_path path ∷ a_name name ∷ keyword (depth_word depth) ∷ []
operation_parts (Read path want) = keyword (want_word want) ∷ a_path path ∷ []

-- an operation's line, without its end
abbrev pub operation_text : Op → List ℕ
operation_text op = parts_text (operation_parts op)
