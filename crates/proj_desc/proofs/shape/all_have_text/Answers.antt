use Rattle.std.proofs.Common.{◌∙◌, ap}
use Rattle.std.specs.List.{list_all}
use Rattle.serde_json.specs.View.{view}
use Rattle.proj_desc.specs.Values.{is_text}
use Rattle.proj_desc.specs.Causes.{has}
use Rattle.proj_desc.proofs.Lists.{list_all-map}
use Rattle.proj_desc.proofs.shape.all_have_text.Goals as goal

pub returns : goal.returns
returns c =
    c.each_has_text.ensures ∙ list_all-map (has is_text c.args.name.now) view c.items_at.result.now ∙ ap (list_all (has is_text c.args.name.now)) c.items_at.ensures
