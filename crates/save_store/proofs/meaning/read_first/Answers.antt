use Rattle.std.proofs.Common.{Err, sym, ap, subst}
use Rattle.std.specs.FinMap.{empty}
use Rattle.save_store.specs.Damages.{IsBad, FailsFor}
use Rattle.save_store.proofs.Meanings.{refused}
use Rattle.save_store.proofs.meaning.read_first.Goals as goal

pub returns-in-Err-clause-bad : goal.returns-in-Err-clause-bad
returns-in-Err-clause-bad c =
    subst (FailsFor (IsBad empty empty 57 c.args.image.now)) (sym c.moved.ensures)
    (refused empty empty 57 c.args.image.now c.in-Err.error (λ d valid is. c.in-Err.ensures.all d (valid, is)) (λ at is. c.in-Err.ensures.text at (ap (λ e. Err e) is)) (λ at is. c.in-Err.ensures.state at (ap (λ e. Err e) is)) (λ at is. c.in-Err.ensures.spelled at (ap (λ e. Err e) is)))
