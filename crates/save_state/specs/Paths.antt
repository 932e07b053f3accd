-- Paths as they stand in a state text.
use Rattle.std.specs.Prelude.{ℕ, List, [], ◌∷◌, Option, Some, None, is_none, ◌&&◌, if◌then◌else◌}
use Rattle.std.specs.Str.{is_utf8}
use Rattle.res_path.specs.Paths.{Names, path_text}
use Rattle.res_path.specs.Parts.{path_fault, parts_of}
use Rattle.save_form.specs.Forms.{Form, text, made}

-- the names of a path's text
abbrev pub names_in : List ℕ → Names
names_in [] = []
names_in (b ∷ []) = []
names_in (b ∷ c ∷ bytes) = parts_of (b ∷ c ∷ bytes)

-- the path that a text is of, if any
unfoldable pub path_of : List ℕ → Option Names
path_of bytes = if is_utf8 bytes && is_none (path_fault bytes) then Some (names_in bytes) else None

unfoldable pub path : Form Names
path = made path_of path_text text
