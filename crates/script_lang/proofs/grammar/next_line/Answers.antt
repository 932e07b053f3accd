use Rattle.std.proofs.Common.{List, None, Err, ap, sym, ◌∙◌, subst}
use Rattle.std.proofs.lemmas.Result.{err_from_is_err_and}
use Rattle.script_words.specs.declared.error.ScriptError.TheVariants.{BadLine}
use Rattle.script_words.specs.declared.words.Token.{Token}
use Rattle.script_words.specs.Lines.{lines_of}
use Rattle.script_lang.specs.Inside.Reading.{IsLineOf}
use Rattle.script_lang.proofs.Whole.{unspelled, unsaid, err_same, same_number}
use Rattle.script_lang.proofs.grammar.next_line.Goals as goal

pub returns-in_err-line-clause-bad : goal.returns-in_err-line-clause-bad
returns-in_err-line-clause-bad c = λ number e.
    let p = err_from_is_err_and c.from_residual.result c.from_residual.ensures.1 in
    let bad = ap Err (sym p.2 ∙ err_same p.0 (BadLine number) (sym p.1 ∙ e)) in
    unspelled c.args.reader.now.number number (lines_of c.args.reader.now.rest) (c.in_err-line.ensures.named number bad) (c.in_err-line.ensures.bad number bad)

pub returns-in_default-clause-bad : goal.returns-in_default-clause-bad
returns-in_default-clause-bad c = λ number e.
    unsaid c.args.reader.now.number number (lines_of c.args.reader.now.rest) (lines_of c.line.new.self.rest) c.line.new.tokens.items
    (sym (same_number c.line.new.self.number number e) ∙ c.in_ok-line.ensures.number) c.in_ok-line.ensures.line
    (subst (λ (tokens : List Token). IsLineOf tokens None) c.as_mut_slice.ensures.value (rw c.in_default.is at c.in_ok-line-2.ensures))
