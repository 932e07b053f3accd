-- What builds see of a state of the core.
use Rattle.std.specs.Option.{option_map}
use Rattle.std.specs.FinMap.{get}
use Rattle.ws_elem.specs.Trees.{Tree}
use Rattle.build_due.specs.declared.site.Site.{Site}
use Rattle.build_due.specs.Sites.{site}
use Rattle.build_laws.specs.States.{Item, item, Records, State, refers}
use Rattle.build_plan.specs.Descriptions.{desc_at}
use Rattle.ws_marks.specs.Places.{Records as Kept}
use Rattle.ws_content.specs.Handing.{built_of}
use Rattle.ws_core.specs.States.{Moment}

-- the command that stands at a place
abbrev pub item_of : Site → Item
item_of s = item s.project s.index s.command

-- the command at its place in the tree
abbrev pub site_of_item : Tree → Item → Site
site_of_item t i = site i (refers (desc_at t) i.project)

-- what was built last
abbrev pub records_of : Kept Tree → Records
records_of built project index = option_map built_of (get built (project, index))

-- what builds see
abbrev pub state_of : Moment → State
state_of s = record { tree = s.resources.tree; records = records_of s.remembered.built; descs = desc_at s.resources.tree }
