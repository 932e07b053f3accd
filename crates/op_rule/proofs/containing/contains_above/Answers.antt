use Rattle.std.proofs.Common.{ap, sym, ◌∙◌}
use Rattle.sched_rules.specs.Atoms.{atom_contains}
use Rattle.sched_rules.specs.Rules.{covers}
use Rattle.sched_rules.specs.declared.ws_atom.WsAtom.TheVariants as atoms
use Rattle.op_rule.specs.Rules.{up}
use Rattle.op_rule.proofs.Above.{and_true}
use Rattle.op_rule.proofs.containing.contains_above.Goals as goal

pub returns : goal.returns
returns c =
    c.some_is_strictly_above.ensures ∙ ap (λ all. covers atom_contains all (atoms.Path (up c.args.path.now))) c.atoms.ensures.atoms
    ∙ sym (and_true (covers atom_contains c.args.rule.now (atoms.Path (up c.args.path.now))))
