use Rattle.std.proofs.Common.{sym, ap, ◌∙◌, arith}
use Rattle.ws_wire.specs.Fields.{Input}
use Rattle.disk_area.proofs.Numbers.{number_told}
use Rattle.disk_area.proofs.parse.two.Goals as goal

pub returns-in-Ok : goal.returns-in-Ok
returns-in-Ok c = number_told 2 c.in-Ok.number c.args.field.now _ (omega arith) (sym (ap (λ (i : Input). i.left) c.of.ensures) ∙ c.in-Ok.ensures.field.bytes)
