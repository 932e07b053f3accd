use Rattle.std.proofs.Common.{inl, [], ◌∷◌, ◌++◌, true, Ok, ap, subst}
use Rattle.ws_outside.specs.Disk.{LeavesOnly}
use Rattle.ws_durable.specs.declared.durable.Durable.{Durable}
use Rattle.ws_durable.specs.Saved.{saved}
use Rattle.save_store.specs.States.{HoldsOne}
use Rattle.save_store.proofs.Runs.{start_holds, begun_stored}
use Rattle.save_store.proofs.saves.Saves.snapshot.Goals as goal

pub returns-in-Ok-Some-clause-any_moment : goal.returns-in-Ok-Some-clause-any_moment
returns-in-Ok-Some-clause-any_moment g c begun k =
    let d = g.D.Disk in
    subst (λ (n : Durable). LeavesOnly d.moment d.left_since d.may_leave c.args.self.now.areas.disk c.append.new.self.areas.disk (HoldsOne (saved c.args.self.now.last ∷ begun ++ saved n ∷ []))) (rw c.in-Ok-Some.field-0-is at c.in-Ok-Some.ensures.some).1
    (c.append.ensures.any_moment begun k)

pub returns-in-Ok-None-clause-how : goal.returns-in-Ok-None-clause-how
returns-in-Ok-None-clause-how g c =
    inl (record { asked = c.in-Ok-None.ensures.none (ap (λ o. Ok o) c.in-Ok-None.field-0-is); full = c.full.ensures.full; other_area = c.full.ensures.beside; limits = c.full.ensures.limits })

pub returns-in-Err-clause-any_moment : goal.returns-in-Err-clause-any_moment
returns-in-Err-clause-any_moment g c begun k =
    let d = g.D.Disk in
    start_holds d.moment d.left_since d.may_leave g.met.D.Disk.only_now begun c.args.self.now (saved c.args.now.now) k

pub returns-in-Err-clause-unsaved : goal.returns-in-Err-clause-unsaved
returns-in-Err-clause-unsaved g c begun k = begun_stored g.D.Disk.may_leave c.args.self.now true (saved c.args.now.now) begun k
