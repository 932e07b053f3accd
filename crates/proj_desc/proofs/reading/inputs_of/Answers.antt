use Rattle.std.proofs.Common.{subst, not, List, ℕ}
use Rattle.std.proofs.lemmas.Result.{err_from_is_err_and}
use Rattle.proj_desc.specs.declared.cause.DescCause.TheVariants.{BadPath}
use Rattle.proj_desc.specs.Values.{text}
use Rattle.proj_desc.specs.Described.{input_of}
use Rattle.proj_desc.specs.Causes.{Tells, is_placed}
use Rattle.proj_desc.specs.FirstCause.{when}
use Rattle.proj_desc.proofs.Told.{told_of_values}
use Rattle.proj_desc.proofs.reading.inputs_of.Goals as goal

pub returns-in_err-input_of-clause-bad : goal.returns-in_err-input_of-clause-bad
returns-in_err-input_of-clause-bad c =
    let p = err_from_is_err_and c.from_residual-in_err-input_of.result c.from_residual-in_err-input_of.ensures.1 in
    rw (p.1, p.2) (told_of_values (is_placed c.args.project.now) (λ v. input_of (text v)) BadPath c.args.values.now c.loop-value.value-index c.value-item.result c.in_err-input_of.field-0.0
    c.loop-value-test.true c.value-item.is (subst (λ (t : List ℕ). Tells (when (not (is_placed c.args.project.now (input_of t))) BadPath) c.in_err-input_of.field-0.0) c.text.ensures c.in_err-input_of.ensures.bad))
