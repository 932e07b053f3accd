use Rattle.ws_durable.specs.Saved.{saved, trees}
use Rattle.save_valid.specs.Rules.{maps_at}
use Rattle.save_format.proofs.Rules.{lawful}
use Rattle.save_format.proofs.lawful.is_all_right.Goals as goal

pub returns : goal.returns
returns c =
    let d = saved c.args.durable.now in
    lawful d (maps_at c.behind_first-trees.result.now) (maps_at c.args.all.now) c.in_ok-placed.placed c.are_counters_low-low.result c.in_ok-numbers.numbers c.in_ok-contents.contents c.in_ok-projects.projects c.hold_all.result
    (c.behind_first-trees.ensures d.shelf (trees d) c.requires) c.requires c.hold_all.ensures c.in_ok-placed.ensures c.are_counters_low-low.ensures c.in_ok-numbers.ensures c.in_ok-contents.ensures c.in_ok-projects.ensures
