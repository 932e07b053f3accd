use Rattle.std.specs.Prelude.{IfSome, MatchResult}
use Rattle.disk_area.specs.declared.damage.Damage.{Damage}
use Rattle.save_store.specs.Damages.{IsDamaged, TellsDamage}
use Rattle.std.proofs.Common.{◌≡◌, subst}
use Rattle.ws_top.proofs.Opened.{opens_ok, opens_err}
use Rattle.ws_top.proofs.opening.open_areas.Goals as goal

pub returns-in-Ok-clause-opens : goal.returns-in-Ok-clause-opens
returns-in-Ok-clause-opens g c = let d = g.D.Disk in let o = c.in-Ok.ensures in
    opens_ok d.moment d.left_since d.may_leave d.seen d.faults c.args.areas.disk c.in-Ok.store.areas.disk c.in-Ok.durable o.holds o.cause
    (subst (λ r. IfSome (d.seen c.args.areas.disk) (λ both. (damage : Damage) → IsDamaged both damage → MatchResult r (λ _. ⊥) (λ e. TellsDamage (λ x. x ≡ damage) e.0))) c.in-Ok.is c.open.ensures.spoilt)
    o.seen o.any_moment

pub returns-in-Err-clause-opens : goal.returns-in-Err-clause-opens
returns-in-Err-clause-opens g c = let d = g.D.Disk in let o = c.in-Err.ensures in
    opens_err d.moment d.left_since d.may_leave d.seen d.faults c.args.areas.disk c.in-Err.disk c.in-Err.fault o.damaged o.cause o.seen o.any_moment
