use Rattle.std.proofs.Common.{◌≡◌, ◌∙◌, ap, not, true, rules}
use Rattle.serde_json.specs.View.{view}
use Rattle.proj_desc.specs.Values.{is_object}
use Rattle.proj_desc.proofs.Values.{objects_are}
use Rattle.proj_desc.proofs.shape.is_no_object.Goals as goal

pub returns : goal.returns
returns c =
    let object : is_object (view c.args.value.now) ≡ true = search rules in
    ap not c.are_objects.ensures ∙ objects_are (view c.args.value.now) c.items_at.result.now object c.items_at.ensures
