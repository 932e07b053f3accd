use Rattle.std.proofs.Common.{[], ◌∷◌, ◌++◌, subst}
use Rattle.ws_outside.specs.Disk.{LeavesOnly}
use Rattle.ws_durable.specs.Saved.{saved}
use Rattle.save_store.specs.States.{HoldsOne}
use Rattle.save_store.specs.Stored.{IsStored}
use Rattle.save_store.proofs.Runs.{stored_after, leaves_now, stored_valid}
use Rattle.save_store.proofs.store.Store.snapshot.Goals as goal

pub snapshot-requires-clause-last : goal.snapshot-requires-clause-last
snapshot-requires-clause-last g c = stored_valid g.D.Disk.may_leave c.self.inside.saves c.self.invariant

pub invariant_of-self : goal.invariant_of-self
invariant_of-self g c = stored_after g.D.Disk.may_leave c.self.inside.saves c.snapshot.new.self (saved c.args.now.now) c.snapshot.result c.snapshot.ensures.saved c.snapshot.ensures.unsaved c.self.invariant

pub returns-clause-any_moment : goal.returns-clause-any_moment
returns-clause-any_moment g c begun kept =
    let d = g.D.Disk in
    subst (λ saves. IsStored d.may_leave begun saves → LeavesOnly d.moment d.left_since d.may_leave saves.areas.disk c.snapshot.new.self.areas.disk (HoldsOne (saved saves.last ∷ begun ++ saved c.args.now.now ∷ []))) c.self.view_is
    (c.snapshot.ensures.any_moment begun) kept

pub returns-clause-leaves : goal.returns-clause-leaves
returns-clause-leaves g c = leaves_now g.D.Disk.may_leave c.self.inside.saves c.snapshot.new.self c.args.now.now c.snapshot.result c.snapshot.ensures.saved c.snapshot.ensures.last c.self.invariant
