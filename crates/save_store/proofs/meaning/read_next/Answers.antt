use Rattle.std.proofs.Common.{Err, sym, ◌∙◌, ap, subst}
use Rattle.save_store.specs.Damages.{further, moved, IsBad, FailsFor}
use Rattle.save_store.proofs.Meanings.{refused}
use Rattle.save_store.proofs.meaning.read_next.Goals as goal

pub returns-in-Err-clause-bad : goal.returns-in-Err-clause-bad
returns-in-Err-clause-bad c =
    let base = c.args.before.now.tree.map in
    let shelf = c.args.before.now.shelf.map in
    subst (FailsFor (IsBad base shelf (further c.args.gate 41) c.args.body.now)) (sym (c.moved.ensures ∙ ap (λ start. moved start c.in-Err.error) c.further.ensures))
    (refused base shelf (further c.args.gate 41) c.args.body.now c.in-Err.error (λ d valid is. c.in-Err.ensures.all d (valid, is)) (λ at is. c.in-Err.ensures.text at (ap (λ e. Err e) is)) (λ at is. c.in-Err.ensures.state at (ap (λ e. Err e) is)) (λ at is. c.in-Err.ensures.spelled at (ap (λ e. Err e) is)))
