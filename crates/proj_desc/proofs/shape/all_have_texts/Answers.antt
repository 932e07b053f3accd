use Rattle.std.proofs.Common.{◌∙◌, ap}
use Rattle.std.specs.List.{list_all}
use Rattle.serde_json.specs.View.{view}
use Rattle.proj_desc.specs.Values.{is_list_of_texts}
use Rattle.proj_desc.specs.Causes.{has}
use Rattle.proj_desc.proofs.Lists.{list_all-map}
use Rattle.proj_desc.proofs.shape.all_have_texts.Goals as goal

pub returns : goal.returns
returns c =
    c.each_has_texts.ensures ∙ list_all-map (has is_list_of_texts c.args.name.now) view c.items_at.result.now ∙ ap (list_all (has is_list_of_texts c.args.name.now)) c.items_at.ensures
