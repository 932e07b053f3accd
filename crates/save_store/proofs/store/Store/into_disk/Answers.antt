use Rattle.std.proofs.Common.{◌∷◌, sym, ◌∙◌, ap, subst}
use Rattle.ws_outside.specs.Disk.{Each}
use Rattle.ws_durable.specs.Saved.{saved}
use Rattle.save_store.specs.States.{HoldsOne}
use Rattle.save_store.proofs.Runs.{stored_holds}
use Rattle.save_store.proofs.store.Store.into_disk.Goals as goal

pub returns-clause-holds : goal.returns-clause-holds
returns-clause-holds g c begun kept =
    let d = g.D.Disk in
    subst (λ disk. Each (d.may_leave disk) (HoldsOne (saved c.args.self.last ∷ begun))) (sym (c.into_disk.ensures.disk ∙ ap (λ saves. saves.areas.disk) c.self.view_is)) (stored_holds d.may_leave begun c.args.self kept)
