use Rattle.std.proofs.Common.{◌≡◌, map, false, refl, sym, subst}
use Rattle.std.specs.Prelude.{IfSome, MatchResult}
use Rattle.ws_outside.specs.Disk.{LeavesOnly}
use Rattle.disk_area.specs.declared.damage.Damage.{Damage}
use Rattle.ws_durable.specs.Saved.{Saved, saved}
use Rattle.save_format.specs.Valid.{Valid}
use Rattle.save_store.specs.declared.faults.OpenFault.TheVariants.{Memory}
use Rattle.save_store.specs.Damages.{FaultOf, IsDamaged, IsUndamaged, TellsDamage}
use Rattle.save_store.specs.States.{Holds}
use Rattle.save_history.specs.Kept.{disk_of}
use Rattle.ws_opening.proofs.Begun.{all_stopped, either_at, never, ok_at, seen_both}
use Rattle.ws_opening.proofs.opening.open.Goals as goal

pub returns-in-Ok-clause-held : goal.returns-in-Ok-clause-held
returns-in-Ok-clause-held g c = ok_at c.over.result (λ f. f.keeper) _ c.over.ensures.keeper (λ k. IfSome (g.D.Disk.seen c.args.disk) (λ both. Holds both (saved k.began.last)))
    (subst (λ d. IfSome (g.D.Disk.seen c.args.disk) (λ both. Holds both (saved d))) (sym c.in-Ok.ensures.last) c.in-Ok.ensures.holds)

pub returns-in-Ok-clause-valid : goal.returns-in-Ok-clause-valid
returns-in-Ok-clause-valid g c = ok_at c.over.result (λ f. f.keeper) _ c.over.ensures.keeper (λ k. Valid (saved k.began.last)) (subst (λ d. Valid (saved d)) (sym c.in-Ok.ensures.last) c.in-Ok.ensures.valid)

pub returns-in-Ok-clause-unused : goal.returns-in-Ok-clause-unused
returns-in-Ok-clause-unused g c = ok_at c.over.result (λ f. f.keeper) _ c.over.ensures.keeper (λ k. k.store ≡ k.began) refl

pub returns-in-Ok-clause-sound : goal.returns-in-Ok-clause-sound
returns-in-Ok-clause-sound g c = ok_at c.over.result (λ f. f.keeper) _ c.over.ensures.keeper (λ k. k.failed ≡ false) refl

pub returns-in-Ok-clause-cause : goal.returns-in-Ok-clause-cause
returns-in-Ok-clause-cause g c = either_at c.over.result (λ f. f.keeper) _ (λ e. e.0) _ (λ e. e.1) _ c.over.ensures.keeper c.over.ensures.wanted
    (λ k. g.D.Disk.faults (disk_of k) ≡ g.D.Disk.faults c.args.disk) (λ fault left. FaultOf (g.D.Disk.faults c.args.disk) (g.D.Disk.faults left) fault) c.in-Ok.ensures.cause c.in-Ok.ensures.cause

pub returns-in-Ok-clause-seen : goal.returns-in-Ok-clause-seen
returns-in-Ok-clause-seen g c = either_at c.over.result (λ f. f.keeper) _ (λ e. e.0) _ (λ e. e.1) _ c.over.ensures.keeper c.over.ensures.wanted
    (λ k. g.D.Disk.seen (disk_of k) ≡ g.D.Disk.seen c.args.disk) (λ _ left. g.D.Disk.seen left ≡ g.D.Disk.seen c.args.disk) c.in-Ok.ensures.seen c.in-Ok.ensures.seen

pub returns-in-Ok-clause-any_moment : goal.returns-in-Ok-clause-any_moment
returns-in-Ok-clause-any_moment g c = let d = g.D.Disk in either_at c.over.result (λ f. f.keeper) _ (λ e. e.0) _ (λ e. e.1) _ c.over.ensures.keeper c.over.ensures.wanted
    (λ k. LeavesOnly d.moment d.left_since d.may_leave c.args.disk (disk_of k) (d.may_leave c.args.disk)) (λ _ left. LeavesOnly d.moment d.left_since d.may_leave c.args.disk left (d.may_leave c.args.disk))
    c.in-Ok.ensures.any_moment c.in-Ok.ensures.any_moment

pub returns-in-Ok-clause-stopped : goal.returns-in-Ok-clause-stopped
returns-in-Ok-clause-stopped g c = all_stopped c.over.result (λ e. e.0) Memory (λ e. e.1) _ (λ e. e.3) c.args.participants (map (λ p. g.P.Participant.tells p)) (g.D.Disk.seen c.args.disk) (saved c.in-Ok.store.last) (map (λ b. b.named) (map (λ b. g.B.Builder.tells b) c.args.builders))
    (map (λ p. g.P.Participant.tells p) c.args.participants) (subst (λ d. Valid (saved d)) (sym c.in-Ok.ensures.last) c.in-Ok.ensures.valid)
    (subst (λ d. IfSome (g.D.Disk.seen c.args.disk) (λ both. Holds both (saved d))) (sym c.in-Ok.ensures.last) c.in-Ok.ensures.holds) c.over.ensures.wanted c.over.ensures.stopped

pub returns-in-Ok-clause-spoilt : goal.returns-in-Ok-clause-spoilt
returns-in-Ok-clause-spoilt g c = seen_both (g.D.Disk.seen c.args.disk)
    (subst (λ r. IfSome (g.D.Disk.seen c.args.disk) (λ both. (damage : Damage) → IsDamaged both damage → MatchResult r (λ _. ⊥) (λ e. TellsDamage (λ x. x ≡ damage) e.0))) c.in-Ok.is c.open.ensures.spoilt)
    (λ both spoils damage is. never c.over.result (λ _. ⊥) (λ e. TellsDamage (λ x. x ≡ damage) e.0) (spoils damage is))

pub returns-in-Ok-clause-only : goal.returns-in-Ok-clause-only
returns-in-Ok-clause-only g c = seen_both (g.D.Disk.seen c.args.disk)
    (subst (λ r. IfSome (g.D.Disk.seen c.args.disk) (λ both. (d : Saved) → Holds both d → MatchResult r (λ o. d ≡ saved o.1) (λ e. IsUndamaged e.0))) c.in-Ok.is c.open.ensures.only)
    (λ both same d held. either_at c.over.result (λ f. f.keeper) _ (λ e. e.0) _ (λ e. e.1) _ c.over.ensures.keeper c.over.ensures.wanted (λ k. d ≡ saved k.began.last) (λ fault _. IsUndamaged fault)
    (subst (λ x. d ≡ saved x) (sym c.in-Ok.ensures.last) (same d held)) tt)

pub returns-in-Err-clause-only : goal.returns-in-Err-clause-only
returns-in-Err-clause-only g c = subst (λ r. IfSome (g.D.Disk.seen c.args.disk) (λ both. (d : Saved) → Holds both d → MatchResult r (λ o. d ≡ saved o.1) (λ e. IsUndamaged e.0))) c.in-Err.is c.open.ensures.only

pub returns-in-Err-clause-spoilt : goal.returns-in-Err-clause-spoilt
returns-in-Err-clause-spoilt g c = subst (λ r. IfSome (g.D.Disk.seen c.args.disk) (λ both. (damage : Damage) → IsDamaged both damage → MatchResult r (λ _. ⊥) (λ e. TellsDamage (λ x. x ≡ damage) e.0))) c.in-Err.is c.open.ensures.spoilt
