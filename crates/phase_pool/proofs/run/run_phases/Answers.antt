use Rattle.std.proofs.Common.{◌∙◌, ◌<◌, ◌≤◌, length, map, sym, subst}
use Rattle.std.proofs.lemmas.List.{length-map}
use Rattle.run_order.specs.Lists.{own}
use Rattle.run_order.specs.Orders.{Phases}
use Rattle.phase_pool.specs.Workers.{hand}
use Rattle.phase_pool.specs.Phases.{CutPhases}
use Rattle.phase_pool.specs.Inside.Meeting.{HasSeen}
use Rattle.phase_pool.proofs.Pairs.{pairs_len}
use Rattle.phase_pool.proofs.Phases.{go_on_gathered}
use Rattle.phase_pool.proofs.Results.{err_on, ok_on}
use Rattle.phase_pool.proofs.Runs.{all_wider, each_pass, each_seen, met_first, same_seen}
use Rattle.phase_pool.proofs.run.run_phases.Goals as goal

-- as many workers are there once all have met
abbrev same_len : goal.returns-clause-len
same_len g c =
    let f = hand g.H.Host.knows in
    let v = c.args.workers.items in
    let w = c.gather.new.workers.items in
    c.run_each.ensures.len ∙ (sym (length-map w f) ∙ (pairs_len (HasSeen (g.H.Host.knows c.gather.new.first).seen) (map f v) (map f w) c.gather.ensures.gathers.workers ∙ length-map v f))

pub run_each-requires-clause-some : goal.run_each-requires-clause-some
run_each-requires-clause-some g c κs within =
    let f = hand g.H.Host.knows in
    let v = c.args.workers.items in
    let w = c.gather.new.workers.items in
    subst (λ n. 0 < n) (sym (sym (length-map w f) ∙ (pairs_len (HasSeen (g.H.Host.knows c.gather.new.first).seen) (map f v) (map f w) c.gather.ensures.gathers.workers ∙ length-map v f))) c.requires.some

pub run_each-requires-clause-together : goal.run_each-requires-clause-together
run_each-requires-clause-together g c κs within =
    let f = hand g.H.Host.knows in
    met_first (g.H.Host.opened c.args.host.now) (g.H.Host.knows c.args.first.now) (g.H.Host.knows c.gather.new.first) (map f c.args.workers.items) (map f c.gather.new.workers.items) c.requires.let_in c.gather.ensures.gathers

pub run_each-requires-clause-all_go_on : goal.run_each-requires-clause-all_go_on
run_each-requires-clause-all_go_on g c κs within =
    let f = hand g.H.Host.knows in
    go_on_gathered (g.H.Host.knows c.args.first.now) (g.H.Host.knows c.gather.new.first) (map f c.args.workers.items) (map f c.gather.new.workers.items) c.gather.ensures.gathers c.requires.all_go_on

pub returns-clause-len : goal.returns-clause-len
returns-clause-len g c = same_len g c

pub returns-clause-whole : goal.returns-clause-whole
returns-clause-whole g c =
    let knows = g.H.Host.knows in
    let f = hand knows in
    let h = c.args.host.now in
    let s = g.H.Host.opened h in
    let ps = map (λ p. g.H.Host.plan p) c.args.phases.now in
    let v = c.args.workers.items in
    let w = c.gather.new.workers.items in
    let len = sym (length-map w f) ∙ (pairs_len (HasSeen (knows c.gather.new.first).seen) (map f v) (map f w) c.gather.ensures.gathers.workers ∙ length-map v f) in
    let same = same_seen s (knows c.args.first.now) (knows c.gather.new.first) (map f v) (map f w) c.requires.let_in c.gather.ensures.gathers in
    ok_on c.run_each.result.1
    (λ run. subst (λ n. Phases (g.H.Host.makes h) n s ps (knows c.args.first.now).seen (knows c.run_each.new.first).seen) len
    (subst (λ z. Phases (g.H.Host.makes h) (length w) s ps z (knows c.run_each.new.first).seen) same run)) c.run_each.ensures.whole

pub returns-clause-cut : goal.returns-clause-cut
returns-clause-cut g c =
    let knows = g.H.Host.knows in
    let f = hand knows in
    let h = c.args.host.now in
    let s = g.H.Host.opened h in
    let ps = map (λ p. g.H.Host.plan p) c.args.phases.now in
    let v = c.args.workers.items in
    let w = c.gather.new.workers.items in
    let len = sym (length-map w f) ∙ (pairs_len (HasSeen (knows c.gather.new.first).seen) (map f v) (map f w) c.gather.ensures.gathers.workers ∙ length-map v f) in
    let same = same_seen s (knows c.args.first.now) (knows c.gather.new.first) (map f v) (map f w) c.requires.let_in c.gather.ensures.gathers in
    err_on c.run_each.result.1
    (λ run. subst (λ n. CutPhases (g.H.Host.makes h) n s ps (knows c.args.first.now).seen (knows c.run_each.new.first).seen) len
    (subst (λ z. CutPhases (g.H.Host.makes h) (length w) s ps z (knows c.run_each.new.first).seen) same run)) c.run_each.ensures.cut

pub returns-clause-good : goal.returns-clause-good
returns-clause-good g c = λ k le.
    let knows = g.H.Host.knows in
    let h = c.args.host.now in
    let ws = c.run_each.result.0.items in
    each_pass (g.H.Host.good h) (hand knows) (g.H.Host.opened h) (knows c.run_each.new.first) ws c.run_each.ensures.together (g.H.Host.here_good h c.run_each.new.first c.run_each.ensures.here.0)
    (all_wider _ _ (λ w here. g.H.Host.here_good h w.pass here) ws c.run_each.ensures.here.1) k (subst (λ n. k ≤ n) (sym (same_len g c)) le)

pub returns-clause-zeroth_tells : goal.returns-clause-zeroth_tells
returns-clause-zeroth_tells g c =
    let h = c.args.host.now in
    let k = g.H.Host.knows c.run_each.new.first in
    subst (λ n. g.H.Host.tells h c.run_each.new.first (own n k.seen)) c.run_each.ensures.together.zeroth (g.H.Host.here_tells h c.run_each.new.first c.run_each.ensures.here.0)

pub returns-clause-workers_tell : goal.returns-clause-workers_tell
returns-clause-workers_tell g c =
    let knows = g.H.Host.knows in
    let h = c.args.host.now in
    let ws = c.run_each.result.0.items in
    each_seen (λ w z. g.H.Host.tells h w.pass (own (knows w.pass).number z)) (hand knows) (knows c.run_each.new.first).seen ws c.run_each.ensures.together.seen
    (all_wider _ _ (λ w here. g.H.Host.here_tells h w.pass here) ws c.run_each.ensures.here.1)
