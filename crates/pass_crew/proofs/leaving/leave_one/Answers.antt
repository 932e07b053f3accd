use Rattle.std.proofs.Common.{map, subst, refl}
use Rattle.std.specs.List.{AllByRecursion}
use Rattle.phase_pool.specs.Workers.{hand}
use Rattle.phase_pool.specs.Inside.Meeting.{Gathers}
use Rattle.phase_pool.specs.declared.worker.Worker.{Worker}
use Rattle.phase_pool.proofs.Runs.{all_wider}
use Rattle.pass_crew.specs.Inside.Assembled.{Assembled, IsKept}
use Rattle.pass_crew.proofs.Kept.{kept_hands, kept_here, kept_left, kept_on}
use Rattle.pass_crew.proofs.Leaves.{left_none, left_one, remained}
use Rattle.pass_crew.proofs.Places.{all_pushed, first_and_rest, pushed}
use Rattle.pass_crew.proofs.leaving.leave_one.Goals as goal

pub take_in-requires : goal.take_in-requires
take_in-requires g c =
    let here = λ (w : Worker _). g.C.Host.here c.args.crew.now w.pass in
    let e = first_and_rest c.args.workers.now.items c.remove-pass.new.self.items c.remove-pass.result c.requires.some c.remove-pass.ensures.value c.remove-pass.ensures.items in
    (c.requires.here.0, (subst (AllByRecursion here) e c.requires.here.1).0)

pub gather-requires-clause-workers : goal.gather-requires-clause-workers
gather-requires-clause-workers g c =
    let here = λ (w : Worker _). g.C.Host.here c.args.crew.now w.pass in
    let e = first_and_rest c.args.workers.now.items c.remove-pass.new.self.items c.remove-pass.result c.requires.some c.remove-pass.ensures.value c.remove-pass.ensures.items in
    (subst (AllByRecursion here) e c.requires.here.1).1

pub gather-requires-in-Err-clause-workers : goal.gather-requires-in-Err-clause-workers
gather-requires-in-Err-clause-workers g c =
    let here = λ (w : Worker _). g.C.Host.here c.args.crew.now w.pass in
    let xs = c.remove-pass.new.self.items in
    let e = first_and_rest c.args.workers.now.items xs c.remove-pass.result c.requires.some c.remove-pass.ensures.value c.remove-pass.ensures.items in
    all_pushed here xs xs c.push_reserved.new.self.items _ refl c.push_reserved.ensures.items (subst (AllByRecursion here) e c.requires.here.1).1 c.in-Err.ensures.here.1

pub returns-in-Ok-clause-left : goal.returns-in-Ok-clause-left
returns-in-Ok-clause-left g c = λ n gone a.
    let h = c.args.crew.now in
    let s = g.C.Host.opened h in
    let knows = g.C.Host.knows in
    let f = hand knows in
    let good = g.C.Host.good h in
    let tells = g.C.Host.tells h in
    let k0 = knows c.args.first.now in
    let k1 = knows c.take_in.new.pass in
    let o = c.remove-pass.result in
    let xs = c.remove-pass.new.self.items in
    let e = first_and_rest c.args.workers.now.items xs o c.requires.some c.remove-pass.ensures.value c.remove-pass.ensures.items in
    let here = (subst (AllByRecursion (λ (w : Worker _). g.C.Host.here h w.pass)) e c.requires.here.1).0 in
    left_one (f o) (map f xs) (subst (λ l. Assembled (IsKept good knows tells) s n gone k0 (map f l)) e a) (kept_on good knows tells (g.met.C.Crew.stays_good h)) k1 (knows c.gather.new.first) (map f c.gather.new.workers.items)
    c.in-Ok.ensures.joined c.gather.ensures.gathers (g.C.Host.here_legal h c.gather.new.first c.gather.ensures.here)
    (kept_left good knows tells o.pass k1.seen c.in-Ok.ensures.good c.in-Ok.ensures.joined.left (g.C.Host.here_tells h o.pass here))

pub returns-in-Err-clause-left : goal.returns-in-Err-clause-left
returns-in-Err-clause-left g c = λ n gone a.
    let h = c.args.crew.now in
    let s = g.C.Host.opened h in
    let knows = g.C.Host.knows in
    let f = hand knows in
    let good = g.C.Host.good h in
    let tells = g.C.Host.tells h in
    let k0 = knows c.args.first.now in
    let k1 = knows c.take_in.new.pass in
    let k2 = knows c.gather-in-Err.new.first in
    let o = c.remove-pass.result in
    let xs = c.remove-pass.new.self.items in
    let zs = c.gather-in-Err.new.workers.items in
    let back : Worker _ = record { pass = c.in-Err.pass; stopped = o.stopped } in
    let e = first_and_rest c.args.workers.now.items xs o c.requires.some c.remove-pass.ensures.value c.remove-pass.ensures.items in
    left_none (f o) (map f xs) (subst (λ l. Assembled (IsKept good knows tells) s n gone k0 (map f l)) e a) (kept_on good knows tells (g.met.C.Crew.stays_good h)) k1 k2 (f back) (map f zs)
    c.in-Err.ensures.looks (remained c.in-Err.why (knows o.pass) (knows c.in-Err.pass) c.in-Err.ensures.remains)
    (subst (λ l. Gathers k1 k2 l (map f zs)) (pushed f xs xs c.push_reserved.new.self.items back refl c.push_reserved.ensures.items) c.gather-in-Err.ensures.gathers)
    (g.C.Host.here_legal h c.gather-in-Err.new.first c.gather-in-Err.ensures.here)
    (kept_hands good knows tells zs (all_wider _ _ (λ w here. kept_here good knows tells w.pass (g.C.Host.here_good h w.pass here) (g.C.Host.here_tells h w.pass here)) zs c.gather-in-Err.ensures.workers))
