-- What stands at each path of a tree, as a text tells it.
use Rattle.std.specs.Prelude.{ℕ, List, ◌++◌, Option}
use Rattle.res_path.specs.Paths.{Names, path_text}
use Rattle.save_form.specs.Forms.{optional, text}
use Rattle.save_elem.specs.declared.elem.Elem.{Elem}
use Rattle.save_elem.specs.Elems.{elem}

abbrev pub Entries : Type 0
Entries = Names → Option Elem

-- an entry by its bytes: 0 for nothing, or 1 and the element
abbrev pub spell_entry : Option Elem → List ℕ
spell_entry e = (optional elem).spell e

-- a change by its bytes: the path's text, and the entry
abbrev pub spell_change : Names → Option Elem → List ℕ
spell_change p e = text.spell (path_text p) ++ spell_entry e
