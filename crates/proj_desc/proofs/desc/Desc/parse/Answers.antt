use Rattle.std.proofs.Common.{◌≡◌, Some, None, rules}
use Rattle.proj_desc.specs.Canonical.{described}
use Rattle.proj_desc.specs.Causes.{desc_cause}
use Rattle.proj_desc.proofs.Back.{described_keeps}
use Rattle.proj_desc.proofs.Alone.{commands_keep}
use Rattle.proj_desc.proofs.Valid.{valid}
use Rattle.std.proofs.lemmas.Result.{err_from_is_err_and}
use Rattle.proj_desc.proofs.desc.Desc.parse.Goals as goal

pub returns-in_err-value-clause-bad : goal.returns-in_err-value-clause-bad
returns-in_err-value-clause-bad c =
    let p = err_from_is_err_and c.from_residual.result c.from_residual.ensures.1 in rw (p.1, p.2) (c.in_err-value.ensures.bad c.args.project.now)

pub returns-clause-sound : goal.returns-clause-sound
returns-clause-sound c =
    valid c.args.project.now c.in_ok-desc.desc
    (described_keeps c.args.project.now c.args.text.now c.in_ok-desc.desc (let none : desc_cause c.args.project.now c.args.text.now ≡ None = search rules in none)
    (let described : described c.args.text.now ≡ Some c.in_ok-desc.desc = search rules in described))

pub returns-clause-commands : goal.returns-clause-commands
returns-clause-commands c = commands_keep c.args.project.now c.in_ok-desc.desc (returns-clause-sound c)
