use Rattle.std.proofs.Common.{ℕ, List, Err, ap, sym, ◌∙◌, subst}
use Rattle.std.proofs.lemmas.Result.{err_from_is_err_and}
use Rattle.script_words.specs.declared.error.ScriptError.TheVariants.{BadLine}
use Rattle.script_lang.specs.declared.progress.Progress.{Progress}
use Rattle.script_words.specs.declared.reader.Reader.{Reader}
use Rattle.script_words.specs.Lines.{lines_of}
use Rattle.script_words.specs.Inside.Passing.{Skips}
use Rattle.script_words.specs.Inside.Counts.{Advances}
use Rattle.script_lang.proofs.Whole.{HasRead, read_none, read_skips, read_step, whole_script, whole_alone, first_bad, stuck_none, refused, not_both, err_same}
use Rattle.script_lang.proofs.grammar.parse_shared.Goals as goal

pub loop-alloc-init : goal.loop-alloc-init
loop-alloc-init c =
    subst (λ (rest : List ℕ). HasRead (lines_of c.args.text) (lines_of rest) c.new-reader.result.number c.new-progress.result) (sym c.new-reader.ensures.rest)
    (read_none (lines_of c.args.text) c.new-reader.result.number c.new-progress.result.phases c.new-progress.result.place
    c.new-reader.ensures.number c.new-progress.ensures.phases c.new-progress.ensures.place)

-- what was read is the same behind the skipped lines that the test passes
read_on : (lines : List (List ℕ)) (old new : Reader) (progress : Progress) → HasRead lines (lines_of old.rest) old.number progress → Skips old.rest new.rest → Advances old new
    → HasRead lines (lines_of new.rest) new.number progress
read_on lines old new progress h s a = read_skips lines old.rest new.rest old.number new.number progress h s a.same

pub returns-in_err-step-clause-all : goal.returns-in_err-step-clause-all
returns-in_err-step-clause-all c = λ script s.
    let p = err_from_is_err_and c.from_residual.result c.from_residual.ensures.1 in
    let read = read_on (lines_of c.args.text) c.loop-alloc.reader c.is_whole.new.reader c.loop-alloc.progress c.loop-alloc.invariant c.is_whole.ensures.rest c.is_whole.ensures.count in
    refused c.from_residual.result p.0 p.1
    (λ number e. stuck_none (lines_of c.args.text) (lines_of c.is_whole.new.reader.rest) c.is_whole.new.reader.number number c.loop-alloc.progress read
    (c.in_err-step.ensures.bad number (ap Err (sym p.2 ∙ e))) (λ w. not_both c.is_whole.result c.loop-alloc-test.true (c.is_whole.ensures.whole.1 w)) script s)
    script

pub returns-in_err-step-clause-bad : goal.returns-in_err-step-clause-bad
returns-in_err-step-clause-bad c = λ number e.
    let p = err_from_is_err_and c.from_residual.result c.from_residual.ensures.1 in
    let read = read_on (lines_of c.args.text) c.loop-alloc.reader c.is_whole.new.reader c.loop-alloc.progress c.loop-alloc.invariant c.is_whole.ensures.rest c.is_whole.ensures.count in
    first_bad c.args.text (lines_of c.is_whole.new.reader.rest) c.is_whole.new.reader.number number c.loop-alloc.progress read
    (c.in_err-step.ensures.bad number (ap Err (sym p.2 ∙ err_same p.0 (BadLine number) (sym p.1 ∙ e))))
    (λ w. not_both c.is_whole.result c.loop-alloc-test.true (c.is_whole.ensures.whole.1 w))

pub loop-alloc-preserved : goal.loop-alloc-preserved
loop-alloc-preserved c =
    let read = read_on (lines_of c.args.text) c.loop-alloc.reader c.is_whole.new.reader c.loop-alloc.progress c.loop-alloc.invariant c.is_whole.ensures.rest c.is_whole.ensures.count in
    read_step (lines_of c.args.text) (lines_of c.is_whole.new.reader.rest) (lines_of c.step.new.reader.rest) c.is_whole.new.reader.number c.step.new.reader.number
    c.loop-alloc.progress c.step.new.progress read c.in_ok-step.ensures.read c.in_ok-step.ensures.count.same

pub returns-clause-all : goal.returns-clause-all
returns-clause-all c = λ script s.
    let read = read_on (lines_of c.args.text) c.loop-alloc.reader c.is_whole.new.reader c.loop-alloc.progress c.loop-alloc.invariant c.is_whole.ensures.rest c.is_whole.ensures.count in
    whole_alone (lines_of c.args.text) (lines_of c.is_whole.new.reader.rest) c.is_whole.new.reader.number c.loop-alloc.progress script read
    (c.is_whole.ensures.whole.0 c.loop-alloc-test.false) s

pub returns-clause-found : goal.returns-clause-found
returns-clause-found c =
    let read = read_on (lines_of c.args.text) c.loop-alloc.reader c.is_whole.new.reader c.loop-alloc.progress c.loop-alloc.invariant c.is_whole.ensures.rest c.is_whole.ensures.count in
    whole_script (lines_of c.args.text) (lines_of c.is_whole.new.reader.rest) c.is_whole.new.reader.number c.loop-alloc.progress read
    (c.is_whole.ensures.whole.0 c.loop-alloc-test.false)
