use Rattle.ws_durable.specs.Saved.{saved}
use Rattle.save_check.proofs.Ranges.{lawful_in_range}
use Rattle.save_check.proofs.Validity.{valid_where}
use Rattle.save_check.proofs.states.is_valid.Goals as goal

pub is_sayable-requires : goal.is_sayable-requires
is_sayable-requires c = lawful_in_range (saved c.args.durable.now) (rw c.as_slice.ensures at c.is_short.ensures.0 c.if-not-is_short.false) (c.in_ok-is_lawful.ensures.0 c.if-not-branch.false)

pub returns : goal.returns
returns c = valid_where (saved c.args.durable.now) c.is_sayable.result (c.in_ok-is_lawful.ensures.0 c.if-not-branch.false) c.is_sayable.ensures
