use Rattle.std.proofs.Common.{◌≤◌, ◌∙◌, ap, map, length, rules}
use Rattle.std.proofs.lemmas.List.{take_all}
use Rattle.serde_json.specs.Data.{string, array}
use Rattle.serde_json.specs.View.{items_of}
use Rattle.serde_json.proofs.Views.{view-Array}
use Rattle.proj_desc.specs.Canonical.{input_text}
use Rattle.proj_desc.proofs.writing.inputs_value.Goals as goal

pub returns : goal.returns
returns c =
    let all : length c.args.inputs.now ≤ c.loop-input.input-index = search rules in
    view-Array c.loop-input.values
    ∙ ap (λ vs. array (items_of vs)) (c.loop-input.invariant ∙ ap (λ rest. map string (map input_text rest)) (take_all c.loop-input.input-index c.args.inputs.now all))
