use Rattle.std.proofs.Common.{refl}
use Rattle.script_lang.specs.declared.line.Line.TheVariants.{InJob}
use Rattle.script_lang.specs.declared.script.Command.TheVariants.{Sleep}
use Rattle.script_ops.specs.declared.verb.Verb.TheVariants as verb
use Rattle.script_lang.proofs.Begun.{named_found, no_named}
use Rattle.script_lang.proofs.command.sleep_line.Goals as goal

pub returns-in-None : goal.returns-in-None
returns-in-None c = no_named verb.Sleep (λ name. InJob (Sleep name)) c.args.rest.now (λ words. refl) (λ name. refl) (rw c.in-None.is at c.name_alone.ensures)

pub returns-in-Some : goal.returns-in-Some
returns-in-Some c = named_found verb.Sleep (λ name. InJob (Sleep name)) c.args.rest.now c.in-Some.name (rw c.in-Some.is at c.name_alone.ensures) refl refl
