use Rattle.std.proofs.Common.{Err, ap, sym, ◌∙◌}
use Rattle.std.proofs.lemmas.Result.{err_from_is_err_and}
use Rattle.script_words.specs.declared.error.ScriptError.TheVariants.{BadLine}
use Rattle.script_words.specs.Lines.{lines_of}
use Rattle.script_lang.proofs.Whole.{barred, err_same, same_number}
use Rattle.script_lang.proofs.grammar.step.Goals as goal

pub returns-in_err-line-clause-bad : goal.returns-in_err-line-clause-bad
returns-in_err-line-clause-bad c = λ number e.
    let p = err_from_is_err_and c.from_residual.result c.from_residual.ensures.1 in
    c.in_err-line.ensures.bad number (ap Err (sym p.2 ∙ err_same p.0 (BadLine number) (sym p.1 ∙ e))) c.args.progress.now

pub returns-else-branch-clause-bad : goal.returns-else-branch-clause-bad
returns-else-branch-clause-bad c = λ number e.
    barred c.args.reader.now.number number (lines_of c.args.reader.now.rest) (lines_of c.next_line.new.reader.rest) c.in_ok-line.line c.args.progress.now
    (sym (same_number c.next_line.new.reader.number number e) ∙ c.in_ok-line.ensures.at) c.in_ok-line.ensures.read
    (rw c.if-branch.false at c.in_ok-advance.ensures)
