use Rattle.std.proofs.Common.{false, sym, subst}
use Rattle.save_store.specs.declared.saves.Saves.{Saves}
use Rattle.save_history.specs.Kept.{IsKept}
use Rattle.save_history.proofs.Safe.{kept_first}
use Rattle.save_host.proofs.keeper.Keeper.of.Goals as goal

pub returns-clause-kept : goal.returns-clause-kept
returns-clause-kept g c x none stored =
    let d = g.D.Disk in
    subst (λ (b : Saves g.row.D.Denot). IsKept d.moment d.left_since d.may_leave d.faults x (record { began = b; store = c.args.store; failed = false })) (sym c.of-began.ensures)
    (kept_first d.moment d.left_since d.may_leave d.faults g.met.D.Disk.only_now c.args.store stored x none)
