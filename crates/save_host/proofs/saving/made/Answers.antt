use Rattle.std.proofs.Common.{map, ap}
use Rattle.save_host.proofs.Answered.{made_answered, made_unanswered}
use Rattle.save_host.proofs.saving.made.Goals as goal

pub returns-clause-same_core : goal.returns-clause-same_core
returns-clause-same_core g c = c.save.ensures.stays.0

pub returns-clause-same_keeper : goal.returns-clause-same_keeper
returns-clause-same_keeper g c = c.save.ensures.stays.1

pub returns-clause-began : goal.returns-clause-began
returns-clause-began g c = c.save.ensures.stays.4

pub returns-clause-answered : goal.returns-clause-answered
returns-clause-answered g c =
    let d = g.D.Disk in
    let s = c.args.host.now in
    let n = c.save.new.host in
    let e = c.save.ensures in
    made_answered d.moment d.left_since d.may_leave d.faults s.pass s.began.now.value n.core.now n.keeper.now n.written (map (λ p. g.P.Participant.tells p) c.args.parts.now) (map (λ p. g.P.Participant.tells p) c.save.new.parts)
    c.save.result n.pass n.began.now.value e.stays.3 (ap (λ b. b.value) e.stays.2) (e.stays.5 c.requires.ready) c.args.kind e.answered

pub returns-clause-unanswered : goal.returns-clause-unanswered
returns-clause-unanswered g c =
    let d = g.D.Disk in
    let s = c.args.host.now in
    let n = c.save.new.host in
    let e = c.save.ensures in
    made_unanswered d.moment d.left_since d.may_leave d.faults s.pass s.began.now.value n.core.now n.keeper.now n.written (map (λ p. g.P.Participant.tells p) c.args.parts.now) (map (λ p. g.P.Participant.tells p) c.save.new.parts)
    c.save.result n.pass n.began.now.value e.stays.3 (ap (λ b. b.value) e.stays.2) (e.stays.5 c.requires.ready) e.unanswered
