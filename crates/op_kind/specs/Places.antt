-- What stands at a path and around it.
use Rattle.std.specs.Prelude.{ℕ, Bool, false, not, ◌&&◌, ◌==◌, nat_le, List, [], ◌∷◌, length, take, Option, Some, None}
use Rattle.std.specs.FinMap.{get}
use Rattle.res_path.specs.Paths.{Names}
use Rattle.ws_elem.specs.Kinds.{is_file, is_project}
use Rattle.ws_elem.specs.Trees.{Tree}
use Rattle.ws_elem.specs.declared.element.Element.{Element}

-- the path of the project that p is or lies in, and the root for the root
abbrev pub project_of : Names → Names
project_of p = take 1 p

-- the name of the project that p is or lies in
abbrev pub project_name : Names → List ℕ
project_name [] = []
project_name (name ∷ p) = name

abbrev pub is_root_path : Names → Bool
is_root_path p = length p == 0

-- a project's path has one name
abbrev pub is_project_path : Names → Bool
is_project_path p = length p == 1

-- a file's or a folder's path has two names or more
abbrev pub is_member_path : Names → Bool
is_member_path p = nat_le 2 (length p)

-- a file is there
abbrev pub has_file : Option Element → Bool
has_file None = false
has_file (Some e) = is_file e.kind

-- a closed project is there
abbrev pub has_closed : Option Element → Bool
has_closed None = false
has_closed (Some e) = is_project e.kind && not e.opened

-- p is a closed project or has the path of a member of one
abbrev pub is_shut : Tree → Names → Bool
is_shut t p = has_closed (get t (project_of p))

-- p has the path of a member of a closed project
abbrev pub is_in_shut : Tree → Names → Bool
is_in_shut t p = is_member_path p && is_shut t p
