use Rattle.std.proofs.Common.{◌∙◌, ap, map}
use Rattle.serde_json.specs.View.{view}
use Rattle.proj_desc.proofs.Values.{items_are}
use Rattle.built_read.proofs.values.items.Goals as goal

pub returns-in-Some : goal.returns-in-Some
returns-in-Some c = ap (map view) c.as_slice.ensures.value ∙ items_are (view c.args.value.now) c.in-Some.list.now.items c.in-Some.ensures
