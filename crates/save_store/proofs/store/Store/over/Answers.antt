use Rattle.std.proofs.Common.{[], sym, subst}
use Rattle.ws_durable.specs.Saved.{saved}
use Rattle.save_store.specs.States.{Mean}
use Rattle.save_store.proofs.Meanings.{means_valid}
use Rattle.save_store.proofs.store.Store.over.Goals as goal

pub invariant_of-result : goal.invariant_of-result
invariant_of-result g c = ([], record { point = c.args.texts; points = []; kept = c.requires.kept; last = c.in-Ok.ensures.ok.0; later = tt; gate = λ _. c.requires.gate })

pub returns-in-Ok-clause-valid : goal.returns-in-Ok-clause-valid
returns-in-Ok-clause-valid g c =
    let ok = c.in-Ok.ensures.ok in
    means_valid c.args.texts (saved c.in-Ok.durable) (subst (λ d. Mean c.args.texts (saved d)) (sym ok.1) ok.0)
