use Rattle.std.specs.Option.{option_copied}
use Rattle.elem_tree.specs.Inside.Shown.{shown_all, with_current}
use Rattle.elem_tree.proofs.Gathers.{all_lead, both_gather, both_most, none_most}
use Rattle.elem_tree.proofs.gathering.changes_of.Goals as goal

pub returns-clause-leads : goal.returns-clause-leads
returns-clause-leads c =
    all_lead c.none-changes.result c.gather_current.new.changes (shown_all (with_current c.args.layers.now (option_copied c.args.current))) c.args.newest.now.map c.none-changes.ensures
    (both_gather c.none-changes.result c.gather_layers.new.changes c.gather_current.new.changes c.args.layers.now (option_copied c.args.current) c.args.newest.now.map
    c.in_ok-gather_layers.ensures.gathers c.in_ok-gather_current.ensures.gathers)

pub returns-clause-most : goal.returns-clause-most
returns-clause-most c =
    both_most c.none-changes.result c.gather_layers.new.changes c.gather_current.new.changes c.args.layers.now (option_copied c.args.current)
    c.in_ok-gather_layers.ensures.most c.in_ok-gather_current.ensures.most (none_most c.none-changes.result c.none-changes.ensures)
