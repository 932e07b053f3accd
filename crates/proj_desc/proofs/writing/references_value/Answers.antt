use Rattle.std.proofs.Common.{◌≤◌, ◌∙◌, ap, map, length, rules}
use Rattle.std.proofs.lemmas.List.{take_all}
use Rattle.serde_json.specs.Data.{string, array}
use Rattle.serde_json.specs.View.{items_of}
use Rattle.serde_json.proofs.Views.{view-Array}
use Rattle.proj_desc.proofs.writing.references_value.Goals as goal

pub returns : goal.returns
returns c =
    let all : length c.args.names.now ≤ c.loop-name.name-index = search rules in
    view-Array c.loop-name.values
    ∙ ap (λ vs. array (items_of vs)) (c.loop-name.invariant ∙ ap (λ rest. map string rest) (take_all c.loop-name.name-index c.args.names.now all))
