use Rattle.std.proofs.lemmas.Bool.Decides.{same_from_decides}
use Rattle.mark_set.specs.Attributes.{same_attributes, same_attributes-Decides}
use Rattle.mark_set.proofs.attrs.AttrsPartialEq.eq.Goals as goal

pub returns-clause-value : goal.returns-clause-value
returns-clause-value c = same_from_decides c.is_same.result (same_attributes c.args.self.now c.args.other.now) c.is_same.ensures (same_attributes-Decides c.args.self.now c.args.other.now)
