use Rattle.std.proofs.Common.{Ok, sym, ◌∙◌, ap, subst}
use Rattle.disk_area.proofs.Readings.{one_told}
use Rattle.save_store.specs.Damages.{IsDamaged, TellsDamage}
use Rattle.save_store.specs.declared.faults.OpenFault.TheVariants as open_fault
use Rattle.save_store.proofs.Damaging.{none_tells, state_tells, spoilt_tells, fault_tells}
use Rattle.save_store.proofs.looking.first_damage.Goals.{in-Ok, in-Err-judge}
use Rattle.save_store.proofs.looking.first_damage.Goals as goal

pub returns-in-Ok-None-clause-told : goal.returns-in-Ok-None-clause-told
returns-in-Ok-None-clause-told g c =
    one_told (g.D.Disk.seen c.args.disk.now)
    (λ both told damaged. none_tells both c.args.damage damaged (open_fault.Damaged c.args.damage) (told ∙ ap (λ whole. Ok whole) c.in-Ok-None.field-0-is)) c.in-Ok-None.ensures.told

pub returns-after-judge-clause-told : goal.returns-after-judge-clause-told
returns-after-judge-clause-told g c =
    let whole = c.in-Ok-Some.whole in
    elim c.match-judge.branch [
      | in-Ok w ↦ one_told (g.D.Disk.seen c.args.disk.now)
          (λ both told damaged. state_tells both c.args.damage damaged whole w.in-Ok.ensures.ok.0 c.match-judge.result (told ∙ ap (λ x. Ok x) c.in-Ok-Some.field-0-is) w.in-Ok.ensures.ok.1) c.in-Ok-Some.ensures.told
      | in-Err-judge w ↦ one_told (g.D.Disk.seen c.args.disk.now)
          (λ both told damaged. subst (TellsDamage (IsDamaged both)) (sym w.result-is) (spoilt_tells both c.args.damage damaged whole w.in-Err-judge.fault (told ∙ ap (λ x. Ok x) c.in-Ok-Some.field-0-is) w.in-Err-judge.ensures.damaged))
          c.in-Ok-Some.ensures.told
    ]

pub returns-in-Err-clause-told : goal.returns-in-Err-clause-told
returns-in-Err-clause-told g c =
    one_told (g.D.Disk.seen c.args.disk.now)
    (λ both told damaged. subst (TellsDamage (IsDamaged both)) (sym c.from.ensures) (fault_tells both c.args.damage damaged c.in-Err.fault told)) c.in-Err.ensures.told
