use Rattle.std.proofs.Common.{◌≡◌, true, sym, ap, subst}
use Rattle.pass_history.specs.There.{is_there}
use Rattle.ws_locked.proofs.Taking.{took_one, took_there}
use Rattle.ws_locked.proofs.jobs.TakeJobDeedLocked.make.Goals as goal

pub returns-clause-did : goal.returns-clause-did
returns-clause-did g c =
    let a = c.take_job.ensures.taken in
    let l = c.args.machine.now in
    let s = l.opening.core.value.opened in
    (a.0, a.1, took_one s c.args.pass l.core.history a.0 c.take_job.result a.2, a.2)

pub returns-clause-still : goal.returns-clause-still
returns-clause-still g c =
    let a = c.take_job.ensures.taken in
    let l = c.args.machine.now in
    let s = l.opening.core.value.opened in
    let there = took_there s c.args.pass l.core.history a.0 c.take_job.result c.requires.there a.2 in
    subst (λ o. is_there o c.take_job.new.self.core.history c.args.pass ≡ true) (sym (ap (λ o. o.core.value.opened) c.take_job.ensures.opening))
    (subst (λ h. is_there s h c.args.pass ≡ true) (sym a.1) there)
