use Rattle.script_parts.proofs.Fronts.{no_range}
use Rattle.script_parts.proofs.rules.lines_atom.Goals as goal

pub returns-in_default-number_from-2 : goal.returns-in_default-number_from-2
returns-in_default-number_from-2 c =
    no_range c.args.kind.now c.args.place.now c.first-item.result c.last-item.result c.args.tokens.now c.in-Some.from c.first-item.is c.last-item.is c.in-len2-up.len_at_least
    c.requires (rw c.in-Some.is at c.number_from.ensures) (rw c.in_default-number_from-2.is at c.number_from-2.ensures)
