use Rattle.std.proofs.Common.{List, sym, ◌∙◌, subst}
use Rattle.std.specs.Prelude.{IsTrue}
use Rattle.sched_rules.specs.declared.ws_atom.WsAtom.{WsAtom}
use Rattle.sched_rules.specs.Atoms.{atom_contains, atom_cmp}
use Rattle.sched_rules.specs.Rules.{IsRule}
use Rattle.script_parts.specs.RuleLines.{can_be_named}
use Rattle.script_parts.proofs.Ruled.{read_itself, named_lines}
use Rattle.script_parts.proofs.rule_text.put_rule.Goals as goal

pub returns-clause-same : goal.returns-clause-same
returns-clause-same c = read_itself c.args.rule.now (subst (IsRule atom_cmp atom_contains) c.as_rule.ensures.rule c.atoms-atoms.ensures.form)

pub put_atoms-requires : goal.put_atoms-requires
put_atoms-requires c = named_lines c.atoms-atoms.result.now (subst (λ (rule : List WsAtom). IsTrue (can_be_named rule)) (sym (c.atoms-atoms.ensures.atoms ∙ c.as_rule.ensures.rule)) c.as_rule.ensures.lines)
