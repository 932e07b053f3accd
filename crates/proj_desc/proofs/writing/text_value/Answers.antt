use Rattle.std.proofs.Common.{◌∙◌, ap}
use Rattle.serde_json.specs.Data.{string}
use Rattle.proj_desc.proofs.Values.{view_text}
use Rattle.proj_desc.proofs.writing.text_value.Goals as goal

pub returns : goal.returns
returns c = view_text c.in_ok-from_str.field-0 ∙ ap string c.in_ok-from_str.ensures.ok
