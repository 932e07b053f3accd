use Rattle.std.proofs.Common.{refl, sym, ap, subst}
use Rattle.ws_durable.specs.Saved.{saved}
use Rattle.save_history.specs.Points.{IsAsked}
use Rattle.save_history.specs.Kept.{Keeper, IsKept, IsTried, points_at}
use Rattle.save_host.proofs.Writing.{tried}
use Rattle.save_host.proofs.keeper.Keeper.write.Goals as goal

pub returns-clause-began : goal.returns-clause-began
returns-clause-began g c = ap (λ k. k.began) c.self.view_is

pub returns-clause-tried : goal.returns-clause-tried
returns-clause-tried g c =
    let d = g.D.Disk in
    let inside = c.self.inside in
    let old : Keeper g.row.D.Denot = record { began = inside.began.value; store = inside.store; failed = inside.failed } in
    let new : Keeper g.row.D.Denot = record { began = inside.began.value; store = c.write-written.new.store; failed = c.has_failed-self-inside.result } in
    let now = c.args.now.now in
    λ x. subst (λ k. IsAsked (points_at x k) (saved now) → IsKept d.moment d.left_since d.may_leave d.faults x k → IsTried d.moment d.left_since d.may_leave d.faults c.told.result x new) c.self.view_is
    (λ asked kept. subst (λ r. IsTried d.moment d.left_since d.may_leave d.faults r x new) (sym c.told.ensures)
    (tried d.moment d.left_since d.may_leave d.faults x old new now refl asked kept c.write-written.result c.has_failed-self-inside.ensures c.write-written.ensures))
