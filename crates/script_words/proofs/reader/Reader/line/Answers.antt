use Rattle.script_words.proofs.Lined.{other_line}
use Rattle.script_words.proofs.reader.Reader.line.Goals as goal

pub returns-then-not-branch-clause-bad : goal.returns-then-not-branch-clause-bad
returns-then-not-branch-clause-bad c = λ number e.
    other_line c.args.self.now.rest c.skip.new.self.rest c.take_line.new.text c.in_ok-line.line c.skip.ensures.rest c.skip.ensures.first c.in_ok-line.ensures.line (rw c.if-not-branch.true at c.in_ok-words_of.ensures)
