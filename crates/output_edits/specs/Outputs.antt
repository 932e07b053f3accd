-- The files below an output, and what edits make of them.
use Rattle.std.specs.Prelude.{List, [], ◌∷◌, filter}
use Rattle.std.specs.Option.{option_map}
use Rattle.std.specs.FinMap.{empty}
use Rattle.res_path.specs.Paths.{Names}
use Rattle.ws_elem.specs.Kinds.{is_file}
use Rattle.ws_elem.specs.Trees.{Tree, set_at}
use Rattle.op_kind.specs.Entries.{Entries}
use Rattle.op_kind.specs.Effects.{new_file}
use Rattle.op_kind.specs.Members.{members, put_all, carried}
use Rattle.builder_api.specs.Edits.{Edit}

-- the files among what lies below o, by their paths from there
abbrev pub outputs_among : Names → Entries → Tree
outputs_among o es = put_all empty (carried o [] (filter (λ e. is_file e.1.kind) es))

-- the files below o, by their paths from there
abbrev pub outputs : Tree → Names → Tree
outputs t o = outputs_among o (members t o)

-- the files after an edit; one that is put has no numbers yet
abbrev pub edit : Tree → Edit → Tree
edit f e = set_at f e.0 (option_map (new_file 0 0) e.1)

-- the files after edits, in their order
abbrev pub edited : Tree → List Edit → Tree
edited f [] = f
edited f (e ∷ es) = edited (edit f e) es
