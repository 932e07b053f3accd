use Rattle.std.proofs.Common.{◌≡◌, map, sym, subst}
use Rattle.std.specs.Prelude.{IfSome, MatchResult}
use Rattle.disk_area.specs.declared.damage.Damage.{Damage}
use Rattle.save_store.specs.Damages.{IsDamaged, TellsDamage}
use Rattle.ws_opening.specs.Opened.{opened_state}
use Rattle.ws_top.specs.Inside.Opening.{LeavesAreas}
use Rattle.ws_top.specs.Outcomes.{Checks}
use Rattle.ws_top.proofs.Checked.{checks_found, checks_refused}
use Rattle.ws_top.proofs.Opened.{areas_found, areas_refused}
use Rattle.ws_top.proofs.checking.check.Goals as goal

pub returns-in-Ok : goal.returns-in-Ok
returns-in-Ok g c =
    let d = g.D.Disk in
    let held = c.args.areas.disk in
    let left = c.check-looked.new.disk in
    let a = g.K.Sink.written c.args.sink.now in
    let b = g.K.Sink.written c.tell_found.new.sink in
    let f = g.K.Sink.faults c.args.sink.now in
    let h = g.K.Sink.faults c.tell_found.new.sink in
    let out = c.tell_found in
    let opened = opened_state out.result.kept (map (λ b. g.B.Builder.tells b) c.args.kit.builders) in
    let o = c.in-Ok.ensures in record {
      checks = subst (λ areas. Checks (d.seen held) (d.faults held) (d.faults areas.disk) a b f h out.result.status) (sym out.ensures.areas) (checks_found c.in-Ok.found (d.seen held) (d.faults held) (d.faults left) a b f h out.result.status o.found out.ensures.tells);
      areas = subst (λ areas. LeavesAreas d.moment d.left_since d.may_leave d.seen d.faults held areas.disk a b f h out.result.kept opened out.result.status out.result.history) (sym out.ensures.areas)
          (areas_found d.moment d.left_since d.may_leave d.seen d.faults c.in-Ok.found held left a b f h out.result.kept opened out.result.status out.result.history o.cause (record { contents = c.check-looked.ensures.seen; any_moment = c.check-looked.ensures.any_moment })
          (subst (λ r. IfSome (d.seen held) (λ both. (damage : Damage) → IsDamaged both damage → MatchResult r (λ _. ⊥) (TellsDamage (λ x. x ≡ damage)))) c.in-Ok.is c.check-looked.ensures.spoilt)
          out.ensures.none out.ensures.nothing out.ensures.tells);
      nothing = out.ensures.nothing;
      none = out.ensures.none;
      kit = out.ensures.kit;
    }

pub returns-in-Err : goal.returns-in-Err
returns-in-Err g c =
    let d = g.D.Disk in
    let held = c.args.areas.disk in
    let left = c.check-looked.new.disk in
    let a = g.K.Sink.written c.args.sink.now in
    let b = g.K.Sink.written c.refuse.new.sink in
    let f = g.K.Sink.faults c.args.sink.now in
    let h = g.K.Sink.faults c.refuse.new.sink in
    let out = c.refuse in
    let opened = opened_state out.result.kept (map (λ b. g.B.Builder.tells b) c.args.kit.builders) in
    let o = c.in-Err.ensures in record {
      checks = subst (λ areas. Checks (d.seen held) (d.faults held) (d.faults areas.disk) a b f h out.result.status) (sym out.ensures.areas)
          (checks_refused c.in-Err.fault (d.seen held) (d.faults held) (d.faults left) a b f h out.result.status (record { damage = o.damaged; cause = o.cause }) out.ensures.told);
      areas = subst (λ areas. LeavesAreas d.moment d.left_since d.may_leave d.seen d.faults held areas.disk a b f h out.result.kept opened out.result.status out.result.history) (sym out.ensures.areas)
          (areas_refused d.moment d.left_since d.may_leave d.seen d.faults c.in-Err.fault held left a b f h out.result.kept opened out.result.status out.result.history (record { damage = o.damaged; cause = o.cause })
          (record { contents = c.check-looked.ensures.seen; any_moment = c.check-looked.ensures.any_moment }) out.ensures.none out.ensures.nothing out.ensures.told);
      nothing = out.ensures.nothing;
      none = out.ensures.none;
      kit = out.ensures.kit;
    }
