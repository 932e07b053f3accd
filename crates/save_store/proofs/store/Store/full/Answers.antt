use Rattle.std.proofs.Common.{[], ◌∷◌, ◌++◌, subst}
use Rattle.ws_outside.specs.Disk.{LeavesOnly}
use Rattle.ws_durable.specs.Saved.{saved}
use Rattle.save_store.specs.States.{HoldsOne}
use Rattle.save_store.specs.Stored.{IsStored}
use Rattle.save_store.proofs.Runs.{stored_after, leaves_now}
use Rattle.save_store.proofs.store.Store.full.Goals as goal

pub invariant_of-self : goal.invariant_of-self
invariant_of-self g c = stored_after g.D.Disk.may_leave c.self.inside.saves c.full.new.self (saved c.args.now.now) c.full.result c.full.ensures.saved c.full.ensures.unsaved c.self.invariant

pub returns-clause-any_moment : goal.returns-clause-any_moment
returns-clause-any_moment g c begun kept =
    let d = g.D.Disk in
    subst (λ saves. IsStored d.may_leave begun saves → LeavesOnly d.moment d.left_since d.may_leave saves.areas.disk c.full.new.self.areas.disk (HoldsOne (saved saves.last ∷ begun ++ saved c.args.now.now ∷ []))) c.self.view_is
    (c.full.ensures.any_moment begun) kept

pub returns-clause-leaves : goal.returns-clause-leaves
returns-clause-leaves g c = leaves_now g.D.Disk.may_leave c.self.inside.saves c.full.new.self c.args.now.now c.full.result c.full.ensures.saved c.full.ensures.last c.self.invariant
