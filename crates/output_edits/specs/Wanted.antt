-- What is to stand where some files are to lie below an output.
use Rattle.std.specs.Prelude.{ℕ, zero, suc, ◌-◌, List, [], ◌∷◌, ◌++◌, map, length}
use Rattle.std.specs.List.{flat_map}
use Rattle.std.specs.FinMap.{empty, entries}
use Rattle.res_path.specs.Paths.{Names, parent}
use Rattle.ws_elem.specs.declared.element.Element.{Element}
use Rattle.ws_elem.specs.Trees.{Tree}
use Rattle.op_kind.specs.Effects.{new_folder}
use Rattle.op_kind.specs.Entries.{Entries}
use Rattle.op_kind.specs.Members.{put_all}

-- so many paths above p, the nearest first
abbrev pub above : ℕ → Names → List Names
above zero p = []
above (suc n) p = parent p ∷ above n (parent p)

-- the file at p, and a folder at each path above it but for the root's and the project's; none has its number yet
abbrev pub standing : Names → Element → Entries
standing p e = (p, e) ∷ map (λ q. (q, new_folder 0)) (above (length p - 2) p)

-- all of what is to stand, where these files are to lie below o
abbrev pub wanted : Names → Tree → Tree
wanted o files = put_all empty (flat_map (λ e. standing (o ++ e.0) e.1) (entries files))
