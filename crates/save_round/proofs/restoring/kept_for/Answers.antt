use Rattle.std.proofs.Common.{Some, sym, ap, ◌∙◌}
use Rattle.save_round.specs.Restoring.{kept_under}
use Rattle.save_round.proofs.Restored.{is_kept, not_kept}
use Rattle.save_round.proofs.restoring.kept_for.Goals as goal

pub returns-then-is_first : goal.returns-then-is_first
returns-then-is_first g c =
    is_kept g.P.Participant.tells c.args.kept.now c.args.parts.now c.as_slice-all.result.now c.args.at c.is_first.result c.index-all-at.result
    c.as_slice-all.ensures c.is_first.ensures c.if-is_first.true c.requires
    ∙ ap Some (sym (c.kept_of.ensures ∙ ap (λ p. kept_under c.args.kept.now (g.P.Participant.tells p).named) c.index-all-at.is))

pub returns-else-is_first : goal.returns-else-is_first
returns-else-is_first g c =
    not_kept g.P.Participant.tells c.args.kept.now c.args.parts.now c.as_slice-all.result.now c.args.at c.is_first.result c.as_slice-all.ensures c.is_first.ensures c.if-is_first.false c.requires
