use Rattle.script_words.proofs.Lined.{cut_line}
use Rattle.script_words.proofs.reader.take_line.Goals as goal

pub returns-clause-line : goal.returns-clause-line
returns-clause-line c = cut_line c.args.text.now c.in_ok-line.line c.cut.new.text c.in_ok-line.field-0-1 c.in_ok-line.ensures.parts c.in_ok-line.ensures.whole c.requires
