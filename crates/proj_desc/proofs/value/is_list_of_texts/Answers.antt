use Rattle.std.proofs.Common.{◌∙◌, sym}
use Rattle.serde_json.specs.View.{view}
use Rattle.proj_desc.proofs.Values.{texts_are}
use Rattle.proj_desc.proofs.value.is_list_of_texts.Goals as goal

pub returns-then-is_array : goal.returns-then-is_array
returns-then-is_array c =
    c.are_texts.ensures ∙ texts_are (view c.args.value.now) c.items.result.now (sym c.is_array.ensures ∙ c.if-is_array.true) c.items.ensures
