use Rattle.std.proofs.Common.{refl}
use Rattle.script_lang.specs.declared.line.Line.TheVariants.{InJob}
use Rattle.script_lang.specs.declared.script.Command.TheVariants.{End}
use Rattle.script_ops.specs.declared.verb.Verb.TheVariants as verb
use Rattle.script_lang.proofs.Begun.{ends_rule, no_ruled}
use Rattle.script_lang.proofs.command.end_line.Goals as goal

pub returns-in-None : goal.returns-in-None
returns-in-None c = no_ruled verb.End (λ rule. InJob (End rule)) c.args.rest.now (λ words. refl) (λ rule. refl) (rw c.in-None.is at c.in_ok-rule_of.ensures)

pub returns-in-Some : goal.returns-in-Some
returns-in-Some c = ends_rule c.args.rest.now c.in-Some.rule (rw c.in-Some.is at c.in_ok-rule_of.ensures)
