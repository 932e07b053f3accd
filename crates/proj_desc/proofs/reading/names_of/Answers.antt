use Rattle.std.proofs.Common.{subst, not, List, ℕ}
use Rattle.std.proofs.lemmas.Result.{err_from_is_err_and}
use Rattle.res_path.specs.Names.{is_name}
use Rattle.proj_desc.specs.declared.cause.DescCause.TheVariants.{BadName}
use Rattle.proj_desc.specs.Values.{text}
use Rattle.proj_desc.specs.Causes.{Tells}
use Rattle.proj_desc.specs.FirstCause.{when}
use Rattle.proj_desc.proofs.Told.{told_of_values}
use Rattle.proj_desc.proofs.reading.names_of.Goals as goal

pub returns-in_err-name_of-clause-bad : goal.returns-in_err-name_of-clause-bad
returns-in_err-name_of-clause-bad c =
    let p = err_from_is_err_and c.from_residual-in_err-name_of.result c.from_residual-in_err-name_of.ensures.1 in
    rw (p.1, p.2) (told_of_values is_name text BadName c.args.values.now c.loop-value.value-index c.value-item.result c.in_err-name_of.field-0.0
    c.loop-value-test.true c.value-item.is (subst (λ (t : List ℕ). Tells (when (not (is_name t)) BadName) c.in_err-name_of.field-0.0) c.text.ensures c.in_err-name_of.ensures.bad))
