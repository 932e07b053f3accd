use Rattle.std.specs.Prelude.{codes, decimal}
use Rattle.res_path.specs.Paths.{path_text}
use Rattle.script_words.specs.Words.{word_text}
use Rattle.script_parts.specs.Parts.{set_parts}
use Rattle.script_parts.proofs.Spaced.{four_words}
use Rattle.script_ops.proofs.op_text.put_attr.Goals as goal

pub returns-clause-text : goal.returns-clause-text
returns-clause-text c =
    four_words c.args.out.now.items c.put_two.new.out.items c.put_number.new.out.items c.put_next.new.out.items c.put_set.new.out.items (word_text (codes "attr")) (word_text (path_text c.args.path.now))
    (decimal c.args.id) c.args.name.now (set_parts c.args.value.now) (rw (← c.path_word.ensures.text) c.in_ok-put_two.ensures.text) c.in_ok-put_number.ensures.text
    (rw (← c.text_word.ensures.text) c.in_ok-put_next.ensures.text) c.in_ok-put_set.ensures.text
