use Rattle.std.proofs.Common.{◌∙◌, ◌≡◌, ◌<◌, inr, ◌++◌, length, map, sym, ap, subst, arith}
use Rattle.std.proofs.lemmas.List.{length-map}
use Rattle.run_order.specs.Orders.{Enters}
use Rattle.phase_pool.specs.Workers.{hand}
use Rattle.phase_pool.proofs.Results.{err_on, ok_on}
use Rattle.phase_pool.proofs.Runs.{all_wider}
use Rattle.pass_crew.specs.Ends.{NoneIsThere}
use Rattle.pass_crew.specs.Inside.Assembled.{Ended, IsKept}
use Rattle.pass_crew.specs.Inside.Running.{GoesPartly, GoesThrough}
use Rattle.pass_crew.specs.Inside.Telling.{Tells}
use Rattle.pass_crew.proofs.Admits.{admitted_none}
use Rattle.pass_crew.proofs.Entering.{one_or_none}
use Rattle.pass_crew.proofs.Heard.{heard_all, heard_front, heard_nothing, tells_on, tells_since, tells_then}
use Rattle.pass_crew.proofs.Kept.{kept_hands, kept_here}
use Rattle.pass_crew.proofs.Meetings.{assembled_of, ended_of, together_of}
use Rattle.pass_crew.proofs.Whole.{cut_admitting, cut_through, run_through}
use Rattle.pass_crew.proofs.script.run_all.Goals as goal

pub admit_all-requires-clause-admitted : goal.admit_all-requires-clause-admitted
admit_all-requires-clause-admitted g c =
    let h = c.args.crew.now in
    admitted_none (g.C.Host.opened h) (g.C.Host.knows c.args.first.now) c.requires.opened c.requires.zeroth c.requires.nothing_seen (g.C.Host.here_legal h c.args.first.now c.requires.here)

pub tell-told-requires-clause-assembled : goal.tell-told-requires-clause-assembled
tell-told-requires-clause-assembled g c =
    let h = c.args.crew.now in
    let knows = g.C.Host.knows in
    let xs = map (hand knows) c.admit_all.new.workers.items in
    (length xs, 0, assembled_of (IsKept (g.C.Host.good h) knows (g.C.Host.tells h)) (g.C.Host.opened h) (knows c.admit_all.new.first) xs c.admit_all.ensures.admitted.together)

pub run_through-requires-clause-some : goal.run_through-requires-clause-some
run_through-requires-clause-some g c κs within =
    let h = c.args.crew.now in
    let s = g.C.Host.opened h in
    let knows = g.C.Host.knows in
    let f = hand knows in
    let kept = IsKept (g.C.Host.good h) knows (g.C.Host.tells h) in
    let xs = c.admit_all.new.workers.items in
    let zs = c.tell-told.new.workers.items in
    let a = c.tell-told.ensures.assembled (length (map f xs)) 0 (assembled_of kept s (knows c.admit_all.new.first) (map f xs) c.admit_all.ensures.admitted.together) in
    let d = a.len in
    let e = length-map xs f in
    let e' = length-map zs f in
    let all = c.in-Ok.ensures.all in
    let len : length zs ≡ c.args.count = omega (arith, d, e, e', all) in
    subst (λ n. 0 < n) (sym len) c.requires.some

pub run_through-requires-clause-together : goal.run_through-requires-clause-together
run_through-requires-clause-together g c κs within =
    let h = c.args.crew.now in
    let s = g.C.Host.opened h in
    let knows = g.C.Host.knows in
    let f = hand knows in
    let kept = IsKept (g.C.Host.good h) knows (g.C.Host.tells h) in
    let xs = c.admit_all.new.workers.items in
    let zs = c.tell-told.new.workers.items in
    let a = c.tell-told.ensures.assembled (length (map f xs)) 0 (assembled_of kept s (knows c.admit_all.new.first) (map f xs) c.admit_all.ensures.admitted.together) in
    together_of kept s (length (map f xs)) (knows c.tell-told.new.first) (map f zs) a

pub run_through-requires-clause-all_go_on : goal.run_through-requires-clause-all_go_on
run_through-requires-clause-all_go_on g c κs within = c.tell-told.ensures.go_on c.admit_all.ensures.admitted.go_on

pub returns-in-Ok-clause-ended : goal.returns-in-Ok-clause-ended
returns-in-Ok-clause-ended g c =
    let h = c.args.crew.now in
    let s = g.C.Host.opened h in
    let knows = g.C.Host.knows in
    let f = hand knows in
    let kept = IsKept (g.C.Host.good h) knows (g.C.Host.tells h) in
    let xs = c.admit_all.new.workers.items in
    let zs = c.tell-told.new.workers.items in
    let a = c.tell-told.ensures.assembled (length (map f xs)) 0 (assembled_of kept s (knows c.admit_all.new.first) (map f xs) c.admit_all.ensures.admitted.together) in
    let d = a.len in
    let e = length-map xs f in
    let e' = length-map zs f in
    let all = c.in-Ok.ensures.all in
    let len : length zs ≡ c.args.count = omega (arith, d, e, e', all) in
    subst (λ n. Ended kept n (knows c.run_through.new.first) (map f c.run_through.result.0.items)) len c.run_through.ensures.ended

pub returns-in-Ok-clause-whole : goal.returns-in-Ok-clause-whole
returns-in-Ok-clause-whole g c =
    let h = c.args.crew.now in
    let s = g.C.Host.opened h in
    let knows = g.C.Host.knows in
    let f = hand knows in
    let kept = IsKept (g.C.Host.good h) knows (g.C.Host.tells h) in
    let xs = c.admit_all.new.workers.items in
    let zs = c.tell-told.new.workers.items in
    let a = c.tell-told.ensures.assembled (length (map f xs)) 0 (assembled_of kept s (knows c.admit_all.new.first) (map f xs) c.admit_all.ensures.admitted.together) in
    let d = a.len in
    let e = length-map xs f in
    let e' = length-map zs f in
    let all = c.in-Ok.ensures.all in
    let len : length zs ≡ c.args.count = omega (arith, d, e, e', all) in
    let enter = subst (Enters c.args.count) (sym c.tell-told.ensures.same) (subst (λ n. Enters n (knows c.admit_all.new.first).seen) (length-map xs f ∙ c.in-Ok.ensures.all) c.admit_all.ensures.admitted.enter) in
    let ps = map (λ p. g.C.Host.plan p) c.args.phases.now in
    let from = (knows c.tell-told.new.first).seen in
    let to = (knows c.run_through.new.first).seen in
    ok_on c.run_through.result.1 (λ went. run_through (g.C.Host.makes h) s ps c.args.count from to enter (subst (λ n. GoesThrough (g.C.Host.makes h) n s ps from to) len went)) c.run_through.ensures.whole

pub returns-in-Ok-clause-all_in : goal.returns-in-Ok-clause-all_in
returns-in-Ok-clause-all_in g c =
    let h = c.args.crew.now in
    let s = g.C.Host.opened h in
    let knows = g.C.Host.knows in
    let f = hand knows in
    let kept = IsKept (g.C.Host.good h) knows (g.C.Host.tells h) in
    let xs = c.admit_all.new.workers.items in
    let zs = c.tell-told.new.workers.items in
    let a = c.tell-told.ensures.assembled (length (map f xs)) 0 (assembled_of kept s (knows c.admit_all.new.first) (map f xs) c.admit_all.ensures.admitted.together) in
    let d = a.len in
    let e = length-map xs f in
    let e' = length-map zs f in
    let all = c.in-Ok.ensures.all in
    let len : length zs ≡ c.args.count = omega (arith, d, e, e', all) in
    ok_on c.run_through.result.1 (λ in_all. in_all ∙ len) c.run_through.ensures.all_in

pub returns-in-Ok-clause-gone : goal.returns-in-Ok-clause-gone
returns-in-Ok-clause-gone g c =
    let h = c.args.crew.now in
    let s = g.C.Host.opened h in
    let knows = g.C.Host.knows in
    let f = hand knows in
    let kept = IsKept (g.C.Host.good h) knows (g.C.Host.tells h) in
    let xs = c.admit_all.new.workers.items in
    let zs = c.tell-told.new.workers.items in
    let a = c.tell-told.ensures.assembled (length (map f xs)) 0 (assembled_of kept s (knows c.admit_all.new.first) (map f xs) c.admit_all.ensures.admitted.together) in
    let d = a.len in
    let e = length-map xs f in
    let e' = length-map zs f in
    let all = c.in-Ok.ensures.all in
    let len : length zs ≡ c.args.count = omega (arith, d, e, e', all) in
    ok_on c.run_through.result.1 (λ none. subst (λ n. NoneIsThere n s (knows c.run_through.new.first).seen) len none) c.run_through.ensures.gone

pub returns-in-Ok-clause-cut : goal.returns-in-Ok-clause-cut
returns-in-Ok-clause-cut g c =
    let h = c.args.crew.now in
    let s = g.C.Host.opened h in
    let knows = g.C.Host.knows in
    let f = hand knows in
    let kept = IsKept (g.C.Host.good h) knows (g.C.Host.tells h) in
    let xs = c.admit_all.new.workers.items in
    let zs = c.tell-told.new.workers.items in
    let a = c.tell-told.ensures.assembled (length (map f xs)) 0 (assembled_of kept s (knows c.admit_all.new.first) (map f xs) c.admit_all.ensures.admitted.together) in
    let d = a.len in
    let e = length-map xs f in
    let e' = length-map zs f in
    let all = c.in-Ok.ensures.all in
    let len : length zs ≡ c.args.count = omega (arith, d, e, e', all) in
    let enter = subst (Enters c.args.count) (sym c.tell-told.ensures.same) (subst (λ n. Enters n (knows c.admit_all.new.first).seen) (length-map xs f ∙ c.in-Ok.ensures.all) c.admit_all.ensures.admitted.enter) in
    let ps = map (λ p. g.C.Host.plan p) c.args.phases.now in
    let from = (knows c.tell-told.new.first).seen in
    let to = (knows c.run_through.new.first).seen in
    err_on c.run_through.result.1 (λ went. cut_through (g.C.Host.makes h) s ps c.args.count from to enter (subst (λ n. GoesPartly (g.C.Host.makes h) n s ps from to) len went)) c.run_through.ensures.cut

pub returns-in-Ok-clause-some_left : goal.returns-in-Ok-clause-some_left
returns-in-Ok-clause-some_left g c = err_on c.run_through.result.1 (λ some. inr some) c.run_through.ensures.some_left

pub returns-in-Ok-clause-told : goal.returns-in-Ok-clause-told
returns-in-Ok-clause-told g c =
    let knows = g.C.Host.knows in
    let heard = map (λ l. g.L.Listener.heard l) in
    let k0 = (knows c.args.first.now).seen in
    let k2 = (knows c.tell-told.new.first).seen in
    let u = heard c.args.listeners.now in
    let v = heard c.tell-told.new.listeners in
    let w = heard c.run_through.new.listeners in
    let first : Tells k0 k2 u v = tells_since k0 k2 k2 0 u v (sym (ap length c.requires.nothing_seen)) (sym (ap (λ l. l ++ k2) c.requires.nothing_seen)) c.tell-told.ensures.told in
    ok_on c.run_through.result.1 (λ told. heard_all k0 (knows c.run_through.new.first).seen u w c.requires.nothing_seen (tells_on k0 k2 (knows c.run_through.new.first).seen u v w first told)) c.run_through.ensures.told

pub returns-in-Ok-clause-told_some : goal.returns-in-Ok-clause-told_some
returns-in-Ok-clause-told_some g c =
    let knows = g.C.Host.knows in
    let heard = map (λ l. g.L.Listener.heard l) in
    let k0 = (knows c.args.first.now).seen in
    let k2 = (knows c.tell-told.new.first).seen in
    let u = heard c.args.listeners.now in
    let v = heard c.tell-told.new.listeners in
    let w = heard c.run_through.new.listeners in
    let first : Tells k0 k2 u v = tells_since k0 k2 k2 0 u v (sym (ap length c.requires.nothing_seen)) (sym (ap (λ l. l ++ k2) c.requires.nothing_seen)) c.tell-told.ensures.told in
    err_on c.run_through.result.1 (λ told. heard_front k0 (knows c.run_through.new.first).seen u w c.requires.nothing_seen (tells_then k0 k2 (knows c.run_through.new.first).seen u v w first told)) c.run_through.ensures.told_some

pub returns-in-Err-clause-ended : goal.returns-in-Err-clause-ended
returns-in-Err-clause-ended g c =
    let h = c.args.crew.now in
    let knows = g.C.Host.knows in
    let f = hand knows in
    let kept = IsKept (g.C.Host.good h) knows (g.C.Host.tells h) in
    let zs = c.admit_all.new.workers.items in
    let e = length-map zs f in
    let few = c.admit_all.ensures.few in
    ended_of (assembled_of kept (g.C.Host.opened h) (knows c.admit_all.new.first) (map f zs) c.admit_all.ensures.admitted.together) c.args.count (omega (arith, e, few))
    (kept_hands (g.C.Host.good h) knows (g.C.Host.tells h) zs
    (all_wider _ _ (λ w here. kept_here (g.C.Host.good h) knows (g.C.Host.tells h) w.pass (g.C.Host.here_good h w.pass here) (g.C.Host.here_tells h w.pass here)) zs c.admit_all.ensures.here.1))

pub returns-in-Err-clause-cut : goal.returns-in-Err-clause-cut
returns-in-Err-clause-cut g c =
    let h = c.args.crew.now in
    let knows = g.C.Host.knows in
    let zs = c.admit_all.new.workers.items in
    let e = length-map zs (hand knows) in
    let few = c.admit_all.ensures.few in
    cut_admitting (g.C.Host.makes h) (g.C.Host.opened h) (map (λ p. g.C.Host.plan p) c.args.phases.now) c.args.count (length (map (hand knows) zs)) (knows c.admit_all.new.first).seen (omega (arith, e, few)) c.admit_all.ensures.admitted.enter

pub returns-in-Err-clause-some_left : goal.returns-in-Err-clause-some_left
returns-in-Err-clause-some_left g c =
    let knows = g.C.Host.knows in
    let zs = c.admit_all.new.workers.items in
    let seen = (knows c.admit_all.new.first).seen in
    one_or_none zs seen (subst (λ n. Enters n seen) (length-map zs (hand knows)) c.admit_all.ensures.admitted.enter)

pub returns-in-Err-clause-told_some : goal.returns-in-Err-clause-told_some
returns-in-Err-clause-told_some g c = heard_nothing (g.C.Host.knows c.admit_all.new.first).seen (map (λ l. g.L.Listener.heard l) c.args.listeners.now)
