use Rattle.std.proofs.Common.{◌≡◌, inl, inr, true, map, sym, ap, subst, arith}
use Rattle.std.specs.List.{AllByRecursion}
use Rattle.ws_core.specs.Histories.{has_entered, replay}
use Rattle.run_order.specs.Lists.{acts, own}
use Rattle.run_order.proofs.Whole.{cut_shuffle_of}
use Rattle.phase_pool.proofs.Results.{err_at}
use Rattle.phase_pool.proofs.Runs.{all_wider}
use Rattle.pass_crew.specs.Ends.{NoneIsThere}
use Rattle.pass_crew.proofs.Ends.{all_good, all_there, all_told, left_all, one_is_there}
use Rattle.pass_crew.proofs.Gone.{nobody_yet}
use Rattle.pass_crew.proofs.Heard.{heard_all, heard_nothing, tells_none}
use Rattle.pass_crew.proofs.Places.{all_mapped}
use Rattle.pass_crew.proofs.Whole.{cut_admitting, some_phases}
use Rattle.pass_crew.proofs.script.run_script.Goals as goal

pub returns-then-is_empty-clause-told : goal.returns-then-is_empty-clause-told
returns-then-is_empty-clause-told g c =
    let seen = (g.C.Host.knows c.args.first.now).seen in
    let u = map (λ l. g.L.Listener.heard l) c.args.listeners.now in
    heard_all seen seen u u c.requires.nothing_seen (tells_none seen u)

pub returns-then-is_empty-clause-gone : goal.returns-then-is_empty-clause-gone
returns-then-is_empty-clause-gone g c =
    let s = g.C.Host.opened c.args.crew.now in
    subst (λ l. NoneIsThere c.args.workers s l) (sym c.requires.nothing_seen) (λ k some few. nobody_yet s c.requires.opened k some)

pub returns-in-Err-clause-cut : goal.returns-in-Err-clause-cut
returns-in-Err-clause-cut g c =
    let h = c.args.crew.now in
    let ps = map (λ p. g.C.Host.plan p) c.args.phases.now in
    let seen = (g.C.Host.knows c.args.first.now).seen in
    cut_shuffle_of (g.C.Host.makes h) (g.C.Host.opened h) ps c.args.workers seen (some_phases (λ p. g.C.Host.plan p) c.args.phases.now c.if-is_empty.ensures)
    (cut_admitting (g.C.Host.makes h) (g.C.Host.opened h) ps c.args.workers 0 seen (omega arith) (ap acts c.requires.nothing_seen))

pub returns-in-Err-clause-told_some : goal.returns-in-Err-clause-told_some
returns-in-Err-clause-told_some g c = heard_nothing (g.C.Host.knows c.args.first.now).seen (map (λ l. g.L.Listener.heard l) c.args.listeners.now)

pub returns-in-Err-ran-clause-here : goal.returns-in-Err-ran-clause-here
returns-in-Err-ran-clause-here g c = (
  c.run_all-crowd.ensures.here.0,
  subst (AllByRecursion (λ p. g.C.Host.here c.args.crew.now p)) (sym c.passes_of.ensures) (all_mapped (λ w. w.pass) (λ p. g.C.Host.here c.args.crew.now p) c.run_all-crowd.result.0.items c.run_all-crowd.ensures.here.1),
)

pub returns-in-Err-ran-clause-there : goal.returns-in-Err-ran-clause-there
returns-in-Err-ran-clause-there g c =
    let h = c.args.crew.now in
    let s = g.C.Host.opened h in
    let knows = g.C.Host.knows in
    let k = knows c.run_all-crowd.new.first in
    let ws = c.run_all-crowd.result.0.items in
    let law = (g.met.C.Crew g.world.𝓛 g.world.𝓜 g.world.𝓡 ((λ s x. x), (λ x. x), (λ x. x), λ x. x)).here_there h in
    elim (err_at c.run_all-crowd.result.1 _ c.in-Err-ran.is c.run_all-crowd.ensures.some_left) [
      | inl none ↦ inl none
      | inr some ↦ inr (one_is_there knows (g.C.Host.good h) (g.C.Host.tells h) s c.args.workers k ws c.run_all-crowd.ensures.ended some (all_there knows s (g.C.Host.here h) law ws c.run_all-crowd.ensures.here.1))
    ]

pub returns-in-Err-ran-clause-left_there : goal.returns-in-Err-ran-clause-left_there
returns-in-Err-ran-clause-left_there g c =
    let h = c.args.crew.now in
    let s = g.C.Host.opened h in
    let knows = g.C.Host.knows in
    let ws = c.run_all-crowd.result.0.items in
    let law = (g.met.C.Crew g.world.𝓛 g.world.𝓜 g.world.𝓡 ((λ s x. x), (λ x. x), (λ x. x), λ x. x)).here_there h in
    left_all knows (g.C.Host.good h) (g.C.Host.tells h) s c.args.workers (knows c.run_all-crowd.new.first) ws c.run_all-crowd.ensures.ended (λ p seen. has_entered (knows p).number (replay s seen) ≡ true)
    (all_there knows s (g.C.Host.here h) law ws c.run_all-crowd.ensures.here.1) c.passes_of.result.items c.passes_of.ensures

pub returns-in-Err-ran-clause-left_tell : goal.returns-in-Err-ran-clause-left_tell
returns-in-Err-ran-clause-left_tell g c =
    let h = c.args.crew.now in
    let knows = g.C.Host.knows in
    let ws = c.run_all-crowd.result.0.items in
    left_all knows (g.C.Host.good h) (g.C.Host.tells h) (g.C.Host.opened h) c.args.workers (knows c.run_all-crowd.new.first) ws c.run_all-crowd.ensures.ended (λ p seen. g.C.Host.tells h p (own (knows p).number seen))
    (all_wider _ _ (λ w here. g.C.Host.here_tells h w.pass here) ws c.run_all-crowd.ensures.here.1) c.passes_of.result.items c.passes_of.ensures

pub returns-in-Ok-ran-clause-good : goal.returns-in-Ok-ran-clause-good
returns-in-Ok-ran-clause-good g c = λ k few.
    let h = c.args.crew.now in
    let knows = g.C.Host.knows in
    all_good knows (g.C.Host.good h) (g.C.Host.tells h) (g.C.Host.opened h) c.args.workers (knows c.run_all-crowd.new.first) c.run_all-crowd.result.0.items c.run_all-crowd.ensures.ended
    (g.C.Host.here_good h c.run_all-crowd.new.first c.run_all-crowd.ensures.here.0) k few

pub returns-in-Ok-ran-clause-told_own : goal.returns-in-Ok-ran-clause-told_own
returns-in-Ok-ran-clause-told_own g c = λ k some few.
    let h = c.args.crew.now in
    let knows = g.C.Host.knows in
    all_told knows (g.C.Host.good h) (g.C.Host.tells h) (g.C.Host.opened h) c.args.workers (knows c.run_all-crowd.new.first) c.run_all-crowd.result.0.items c.run_all-crowd.ensures.ended k some few

pub returns-in-Err-ran-clause-good : goal.returns-in-Err-ran-clause-good
returns-in-Err-ran-clause-good g c = λ k few.
    let h = c.args.crew.now in
    let knows = g.C.Host.knows in
    all_good knows (g.C.Host.good h) (g.C.Host.tells h) (g.C.Host.opened h) c.args.workers (knows c.run_all-crowd.new.first) c.run_all-crowd.result.0.items c.run_all-crowd.ensures.ended
    (g.C.Host.here_good h c.run_all-crowd.new.first c.run_all-crowd.ensures.here.0) k few

pub returns-in-Err-ran-clause-told_own : goal.returns-in-Err-ran-clause-told_own
returns-in-Err-ran-clause-told_own g c = λ k some few.
    let h = c.args.crew.now in
    let knows = g.C.Host.knows in
    all_told knows (g.C.Host.good h) (g.C.Host.tells h) (g.C.Host.opened h) c.args.workers (knows c.run_all-crowd.new.first) c.run_all-crowd.result.0.items c.run_all-crowd.ensures.ended k some few
