use Rattle.std.proofs.Common.{◌∙◌, false, map, sym, subst, refl}
use Rattle.std.specs.List.{AllByRecursion}
use Rattle.phase_pool.specs.Workers.{hand}
use Rattle.phase_pool.specs.Inside.Meeting.{Gathers}
use Rattle.phase_pool.specs.declared.worker.Worker.{Worker}
use Rattle.pass_crew.proofs.Admits.{admitted_more, admitted_still}
use Rattle.pass_crew.proofs.Meetings.{gathered_len}
use Rattle.pass_crew.proofs.Places.{all_pushed, pushed, pushed_len}
use Rattle.pass_crew.proofs.admitting.admit_one.Goals as goal

pub let_in-requires-clause-opened : goal.let_in-requires-clause-opened
let_in-requires-clause-opened g c = c.requires.admitted.together.front.opened

pub gather-requires-clause-workers : goal.gather-requires-clause-workers
gather-requires-clause-workers g c = all_pushed (λ w. g.C.Host.here c.args.crew.now w.pass) c.args.workers.now.items c.reserve.new.self.items c.push_reserved.new.self.items _
    c.reserve.ensures.items c.push_reserved.ensures.items c.requires.here.1 c.in-Ok.ensures.here.1

pub gather-requires-in-Err-clause-workers : goal.gather-requires-in-Err-clause-workers
gather-requires-in-Err-clause-workers g c = subst (AllByRecursion (λ w. g.C.Host.here c.args.crew.now w.pass)) (sym c.reserve.ensures.items) c.requires.here.1

pub returns-in-Ok-clause-admitted : goal.returns-in-Ok-clause-admitted
returns-in-Ok-clause-admitted g c =
    let h = c.args.crew.now in
    let knows = g.C.Host.knows in
    let f = hand knows in
    let xs = c.args.workers.now.items in
    let zs = c.gather.new.workers.items in
    let k1 = knows c.let_in.new.pass in
    let k2 = knows c.gather.new.first in
    let w : Worker _ = record { pass = c.in-Ok.pass; stopped = false } in
    admitted_more (g.C.Host.opened h) (knows c.args.first.now) k1 k2 (knows c.in-Ok.pass) (map f xs) (map f zs) (f w) refl refl c.requires.admitted c.in-Ok.ensures.let_in
    (subst (λ l. Gathers k1 k2 l (map f zs)) (pushed f xs c.reserve.new.self.items c.push_reserved.new.self.items w c.reserve.ensures.items c.push_reserved.ensures.items) c.gather.ensures.gathers)
    (g.C.Host.here_legal h c.gather.new.first c.gather.ensures.here)

pub returns-in-Ok-clause-one : goal.returns-in-Ok-clause-one
returns-in-Ok-clause-one g c =
    let knows = g.C.Host.knows in
    gathered_len (hand knows) (knows c.let_in.new.pass) (knows c.gather.new.first) c.push_reserved.new.self.items c.gather.new.workers.items c.gather.ensures.gathers
    ∙ pushed_len c.args.workers.now.items c.reserve.new.self.items c.push_reserved.new.self.items _ c.reserve.ensures.items c.push_reserved.ensures.items

pub returns-in-Err-clause-admitted : goal.returns-in-Err-clause-admitted
returns-in-Err-clause-admitted g c =
    let h = c.args.crew.now in
    let knows = g.C.Host.knows in
    let f = hand knows in
    let k1 = knows c.let_in.new.pass in
    let k2 = knows c.gather-in-Err.new.first in
    let zs = c.gather-in-Err.new.workers.items in
    admitted_still (g.C.Host.opened h) (knows c.args.first.now) k1 k2 (map f c.args.workers.now.items) (map f zs) c.requires.admitted c.in-Err.ensures.nobody
    (subst (λ l. Gathers k1 k2 (map f l) (map f zs)) c.reserve.ensures.items c.gather-in-Err.ensures.gathers)
    (g.C.Host.here_legal h c.gather-in-Err.new.first c.gather-in-Err.ensures.here)

pub returns-in-Err-clause-none : goal.returns-in-Err-clause-none
returns-in-Err-clause-none g c =
    let knows = g.C.Host.knows in
    gathered_len (hand knows) (knows c.let_in.new.pass) (knows c.gather-in-Err.new.first) c.args.workers.now.items c.gather-in-Err.new.workers.items
    (subst (λ l. Gathers (knows c.let_in.new.pass) (knows c.gather-in-Err.new.first) (map (hand knows) l) (map (hand knows) c.gather-in-Err.new.workers.items)) c.reserve.ensures.items c.gather-in-Err.ensures.gathers)
