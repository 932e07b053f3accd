-- Kinds of resources.
use Rattle.std.specs.Prelude.{ℕ, Bool, true, false, List, codes}
use Rattle.ws_elem.specs.declared.kind.Kind.{Kind}
use Rattle.ws_elem.specs.declared.kind.Kind.TheVariants.{File, Folder, Project, Root}

-- the platform's number of a kind
abbrev pub kind_number : Kind → ℕ
kind_number File = 1
kind_number Folder = 2
kind_number Project = 4
kind_number Root = 8

-- the platform's word for a kind
abbrev pub kind_word : Kind → List ℕ
kind_word File = codes "file"
kind_word Folder = codes "folder"
kind_word Project = codes "project"
kind_word Root = codes "root"

abbrev pub is_file : Kind → Bool
is_file File = true
is_file Folder = false
is_file Project = false
is_file Root = false

abbrev pub is_project : Kind → Bool
is_project File = false
is_project Folder = false
is_project Project = true
is_project Root = false
