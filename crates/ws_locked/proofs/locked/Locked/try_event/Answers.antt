use Rattle.std.proofs.Common.{sym, ◌∙◌, subst}
use Rattle.std.specs.Prelude.{Ok}
use Rattle.ws_locked.specs.Asked.{WasAsked}
use Rattle.ws_locked.proofs.Asked.{tried_stands, tried_waits}
use Rattle.ws_locked.proofs.locked.Locked.try_event.Goals as goal

pub returns-then-is_attempt-clause-tried : goal.returns-then-is_attempt-clause-tried
returns-then-is_attempt-clause-tried g c =
    let l = c.args.self.now in
    let s = l.opening.core.value.opened in
    let a = c.in_ok-reply.ensures.asked in
    let was = subst (λ e. WasAsked e s c.args.pass l.core.history a.0 (Ok c.in_ok-reply.reply)) c.in_ok-copy.ensures a.2 in
    (a.0, a.1, tried_waits c.args.event.now s c.args.pass l.core.history a.0 c.in_ok-reply.reply was (sym c.is_attempt.ensures ∙ c.if-is_attempt.true))

pub returns-clause-tried : goal.returns-clause-tried
returns-clause-tried g c =
    let l = c.args.self.now in
    let s = l.opening.core.value.opened in
    let a = c.in_ok-reply.ensures.asked in
    let was = subst (λ e. WasAsked e s c.args.pass l.core.history a.0 (Ok c.in_ok-reply.reply)) c.in_ok-copy.ensures a.2 in
    (a.0, a.1, tried_stands c.args.event.now s c.args.pass l.core.history a.0 c.in_ok-reply.reply was (sym c.is_attempt.ensures ∙ c.if-is_attempt.false))
