use Rattle.std.proofs.Common.{◌≤◌, ◌∙◌, ap, map, length, rules}
use Rattle.std.proofs.lemmas.List.{take_all}
use Rattle.serde_json.specs.Data.{array}
use Rattle.serde_json.specs.View.{items_of}
use Rattle.serde_json.proofs.Views.{view-Array}
use Rattle.proj_desc.specs.Canonical.{command_data}
use Rattle.proj_desc.proofs.writing.commands_value.Goals as goal

pub returns : goal.returns
returns c =
    let all : length c.args.commands.now ≤ c.loop-command.command-index = search rules in
    view-Array c.loop-command.values
    ∙ ap (λ vs. array (items_of vs)) (c.loop-command.invariant ∙ ap (λ rest. map command_data rest) (take_all c.loop-command.command-index c.args.commands.now all))
