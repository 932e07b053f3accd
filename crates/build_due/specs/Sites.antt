-- Commands at their places, and what is handed for one.
use Rattle.std.specs.Prelude.{ℕ, List, Option, is_some, option_map, slice_get}
use Rattle.res_path.specs.Paths.{Names}
use Rattle.delta_kind.specs.declared.node.DeltaNode.{DeltaNode}
use Rattle.proj_desc.specs.declared.desc.Desc.{Desc}
use Rattle.builder_api.specs.declared.handed.Handed.{Handed}
use Rattle.builder_api.specs.declared.kind.BuildKind.{BuildKind}
use Rattle.builder_api.specs.Files.{Files}
use Rattle.build_laws.specs.States.{Item, item, task}
use Rattle.build_due.specs.declared.site.Site.{Site}

-- a command at its place, its project referring to these
abbrev pub site : Item → Names → Site
site i refs = record {
  project = i.project;
  index = i.index;
  command = i.command;
  references = refs;
  inputs = (task i).inputs;
  output = (task i).output;
}

-- the command of this number of a project's description, at its place
abbrev pub site_at : List ℕ → ℕ → Desc → Option Site
site_at project index desc = option_map (λ c. site (item project index c) desc.references) (slice_get desc.commands index)

-- what is handed at the place, of this delta and this view
abbrev pub handed : Site → BuildKind → Option (List DeltaNode) → Files → Handed
handed s kind delta view = record {
  kind = kind;
  last = is_some delta;
  delta = delta;
  view = view;
  inputs = s.inputs;
  output = s.output;
}
