-- What is due for a command.
use Rattle.std.specs.Prelude.{List, Option}
use Rattle.std.specs.Option.{option_map}
use Rattle.std.specs.FinMap.{get}
use Rattle.ws_elem.specs.Trees.{Tree}
use Rattle.delta_kind.specs.declared.node.DeltaNode.{DeltaNode}
use Rattle.builder_api.specs.declared.handed.Handed.{Handed}
use Rattle.builder_api.specs.declared.kind.BuildKind.{BuildKind}
use Rattle.builder_api.specs.Files.{files_of}
use Rattle.build_laws.specs.States.{Built, due_delta, is_whole, item}
use Rattle.build_due.specs.declared.site.Site.{Site}
use Rattle.build_due.specs.Sites.{handed}
use Rattle.build_due.specs.Sights.{seen}
use Rattle.ws_marks.specs.declared.record.Record.{Record}
use Rattle.ws_marks.specs.Places.{Records}
use Rattle.ws_content.specs.States.{Contents}

-- what was built last, as builds see it
abbrev pub built_of : Record Tree → Built
built_of r = record { command = r.command; references = r.references; tree = r.tree }

-- the delta that is due for the command, where one is
abbrev pub since : Site → BuildKind → Records Tree → Tree → Option (List DeltaNode)
since s kind built now = due_delta (option_map built_of (get built (s.project, s.index))) (item s.project s.index s.command) s.references (is_whole kind) now

-- what is to be handed for it
abbrev pub handing : Contents → Site → BuildKind → Handed
handing c s kind = handed s kind (since s kind c.remembered.built c.resources.tree) (seen s.inputs s.output (files_of c.resources.tree))
