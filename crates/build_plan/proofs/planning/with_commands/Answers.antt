use Rattle.std.proofs.Common.{ap, ◌∙◌, [], arith}
use Rattle.std.specs.Prelude.{unwrap_or}
use Rattle.build_plan.specs.Inside.Walks.{commands_in}
use Rattle.build_plan.proofs.Commanded.{placed_more, left_here, left_more}
use Rattle.build_plan.proofs.planning.with_commands.Goals as goal

pub loop-name-preserved : goal.loop-name-preserved
loop-name-preserved c =
    let names = c.args.names.now in
    let i = c.loop-name.name-index in
    let x = c.name-item.result in
    let here = left_here names i x c.args.commands c.loop-name.commands (omega arith) c.name-item.is c.loop-name.invariant.left in
    record {
      placed = placed_more (λ n. (n, unwrap_or (commands_in c.args.commands n) [])) names i x c.loop-name.order.items c.push.new.self.items _ (omega arith) c.name-item.is c.loop-name.invariant.placed c.in_ok-push.ensures.items
          (λ k. (c.in_ok-copy.ensures k, (c.take_commands-taken.ensures.taken ∙ ap (λ o. unwrap_or o []) here) k));
      left = left_more names i x c.args.commands c.loop-name.commands c.take_commands-taken.new.commands c.requires (omega arith) c.name-item.is c.loop-name.invariant.left c.take_commands-taken.ensures.others;
    }
