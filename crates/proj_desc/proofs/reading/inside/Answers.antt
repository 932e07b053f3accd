use Rattle.std.proofs.Common.{◌≡◌, ◌<◌, ◌∙◌, ap, sym, List, ℕ, not, drop, length, ◌∷◌, subst, rules}
use Rattle.std.proofs.lemmas.Result.{err_from_is_err_and}
use Rattle.res_path.specs.Paths.{Names}
use Rattle.proj_desc.specs.declared.cause.DescCause.TheVariants.{BadPath}
use Rattle.proj_desc.specs.Described.{names}
use Rattle.proj_desc.specs.Causes.{is_inside, is_path, Tells}
use Rattle.proj_desc.specs.FirstCause.{when}
use Rattle.proj_desc.proofs.Paths.{not_within, some_part}
use Rattle.proj_desc.proofs.Told.{told_by}
use Rattle.proj_desc.proofs.reading.inside.Goals as goal

pub returns-in_err-path-clause-bad : goal.returns-in_err-path-clause-bad
returns-in_err-path-clause-bad c =
    let p = err_from_is_err_and c.from_residual-in_err-path.result c.from_residual-in_err-path.ensures.1 in
    let text : c.as_str.result.now ≡ 47 ∷ c.args.text.now = search rules in
    rw (p.1, p.2) (told_by (is_path (names c.args.text.now)) (is_inside c.args.project.now (names c.args.text.now)) BadPath c.in_err-path.field-0.0
    (not_within c.args.project.now (names c.args.text.now))
    (subst (λ (t : List ℕ). Tells (when (not (is_path (names (drop 1 t)))) BadPath) c.in_err-path.field-0.0) text c.in_err-path.ensures.bad))

pub check_inside-requires-clause-path : goal.check_inside-requires-clause-path
check_inside-requires-clause-path c = ap is_path c.in_ok-path.ensures.ok ∙ c.in_ok-path.ensures.form

pub check_inside-requires-clause-some : goal.check_inside-requires-clause-some
check_inside-requires-clause-some c =
    subst (λ (p : Names). 0 < length p) (sym c.in_ok-path.ensures.ok) (some_part (drop 1 c.as_str.result.now))
