use Rattle.script_words.specs.Words.{word_text}
use Rattle.script_words.proofs.Printed.{text_spells, are_bytes}
use Rattle.script_words.proofs.word_text.put_word.Goals as goal

pub returns-clause-read : goal.returns-clause-read
returns-clause-read c = record {
  text = word_text c.args.word.now;
  new_is = c.in_ok-put_text.ensures.text;
  spelled = text_spells c.args.word.now (are_bytes c.args.word.now c.type_inv.word);
}
