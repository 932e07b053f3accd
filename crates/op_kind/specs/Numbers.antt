-- The numbers that tell contents and descriptions apart.
use Rattle.std.specs.Prelude.{ℕ, ◌+◌, Bool, ◌||◌, if◌then◌else◌, [], ◌∷◌}
use Rattle.ws_elem.specs.declared.element.Element.{Element}
use Rattle.ws_elem.specs.Kinds.{is_file, is_project}
use Rattle.op_kind.specs.Entries.{Entries}

-- a file's contents have a stamp, and a project's description
abbrev pub has_stamp : Element → Bool
has_stamp e = is_file e.kind || is_project e.kind

-- how many stamps the element draws
abbrev pub stamps_of : Element → ℕ
stamps_of e = if has_stamp e then 1 else 0

-- how many all of them draw
abbrev pub stamps_of_all : Entries → ℕ
stamps_of_all [] = 0
stamps_of_all (e ∷ es) = stamps_of e.1 + stamps_of_all es
