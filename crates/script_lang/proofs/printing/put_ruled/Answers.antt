use Rattle.script_parts.specs.Parts.{rule_parts}
use Rattle.script_parts.proofs.Spaced.{one_word}
use Rattle.script_lang.proofs.printing.put_ruled.Goals as goal

pub returns-clause-text : goal.returns-clause-text
returns-clause-text c =
    one_word c.args.out.now.items c.put_word.new.out.items c.put_rule.new.out.items c.args.verb.now (rule_parts c.args.rule.now) c.in_ok-put_word.ensures.text c.in_ok-put_rule.ensures.text
