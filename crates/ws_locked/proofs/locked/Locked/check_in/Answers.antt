use Rattle.std.proofs.Common.{◌≡◌, ◌++◌, ◌∷◌, [], refl, sym, ap, ◌∙◌, subst}
use Rattle.std.specs.Prelude.{Some}
use Rattle.std.specs.Option.{option_map}
use Rattle.core_event.specs.declared.reply.Reply.{Reply}
use Rattle.pass_history.specs.Served.{was_done, who_serves}
use Rattle.pass_history.proofs.Serving.{serving_of}
use Rattle.ws_core.specs.Histories.{entry_of, replay}
use Rattle.ws_core.specs.Steps.{step}
use Rattle.ws_locked.specs.declared.locked.Hold.{Hold}
use Rattle.ws_locked.specs.Fits.{Fits}
use Rattle.ws_locked.specs.Halls.{Hall, opened_by, opened_in, told_by, trio_of}
use Rattle.ws_locked.specs.Moved.{ComesHome, WasGiven, WasHandedBack, checkin, error_of}
use Rattle.ws_locked.proofs.Going.{hall_home, hall_refused, home_answer, home_refused, home_written}
use Rattle.ws_locked.proofs.locked.Locked.check_in.Goals as goal

pub invariant_of-self-then-was_done : goal.invariant_of-self-then-was_done
invariant_of-self-then-was_done g c =
    let d = g.D.Disk in
    let e = c.in-Ok.ensures in
    let s = c.self.inside.opening.core.value.opened in
    let at = sym (rw c.deref.ensures at c.state.ensures.state) ∙ (rw c.deref.ensures at c.state.ensures.replayed ∙ ap (λ z. replay z c.self.inside.hold.value.core.history) c.self.invariant.opened) in
    let good = ap (λ (r : Reply). was_done r.answer) (sym (e.reply ∙ ap (λ (h : Hold g.row.D.Denot g.row.B.Denot g.row.P.Denot). (step h.core.state c.args.pass (checkin c.args.outcome)).1) c.deref_mut.ensures.value)) ∙ (sym c.was_done.ensures ∙ c.if-was_done.true) in
    let asks : Hall g.row.D.Denot g.row.B.Denot g.row.P.Denot → Type 0 = λ l. who_serves (opened_in l) l.core.history ≡ Some c.args.pass
    → ComesHome (λ h. Fits d.moment d.left_since d.may_leave d.faults g.V.Vow.fits (opened_by g.B.Builder.tells g.P.Participant.tells l.opening) l.opening.keeper.value h (told_by g.B.Builder.tells g.P.Participant.tells (trio_of c.args.services))) c.args.pass c.args.outcome l.core.history in
    let fits = subst asks (sym c.self.view_is) c.requires.fits in
    rw c.deref_mut-then-was_done.ensures.value (hall_home d.moment d.left_since d.may_leave d.faults g.B.Builder.tells g.P.Participant.tells g.V.Vow.fits
    (record { core = c.self.inside.hold.value.core; services = option_map (λ z. trio_of z) c.self.inside.hold.value.services; opening = c.self.inside.opening })
    c.step.new.self c.args.pass c.args.outcome (trio_of c.args.services) good (rw c.deref_mut.ensures.value at e.opened) (rw c.deref_mut.ensures.value at e.state) (rw c.deref_mut.ensures.value at e.history) (λ serves. fits (sym (ap serving_of at) ∙ serves)) c.self.invariant)

pub invariant_of-self-else-was_done : goal.invariant_of-self-else-was_done
invariant_of-self-else-was_done g c =
    let d = g.D.Disk in
    let e = c.in-Ok.ensures in
    let bad = ap (λ (r : Reply). was_done r.answer) (sym (e.reply ∙ ap (λ (h : Hold g.row.D.Denot g.row.B.Denot g.row.P.Denot). (step h.core.state c.args.pass (checkin c.args.outcome)).1) c.deref_mut.ensures.value)) ∙ (sym c.was_done.ensures ∙ c.if-was_done.false) in
    rw c.deref_mut.ensures.value (hall_refused d.moment d.left_since d.may_leave d.faults g.B.Builder.tells g.P.Participant.tells g.V.Vow.fits
    (record { core = c.self.inside.hold.value.core; services = option_map (λ z. trio_of z) c.self.inside.hold.value.services; opening = c.self.inside.opening })
    c.step.new.self c.args.pass c.args.outcome bad (rw c.deref_mut.ensures.value at e.opened) (rw c.deref_mut.ensures.value at e.state) (rw c.deref_mut.ensures.value at e.history) c.self.invariant)

pub returns-then-was_done-clause-ok : goal.returns-then-was_done-clause-ok
returns-then-was_done-clause-ok g c =
    let e = c.in-Ok.ensures in
    let x = c.self.inside.hold.value.core in
    let at = sym (rw c.deref.ensures at c.state.ensures.state) ∙ (rw c.deref.ensures at c.state.ensures.replayed ∙ ap (λ z. replay z x.history) c.self.invariant.opened) in
    let good = ap (λ (r : Reply). was_done r.answer) (sym (e.reply ∙ ap (λ (h : Hold g.row.D.Denot g.row.B.Denot g.row.P.Denot). (step h.core.state c.args.pass (checkin c.args.outcome)).1) c.deref_mut.ensures.value)) ∙ (sym c.was_done.ensures ∙ c.if-was_done.true) in
    rw c.deref_mut-then-was_done.ensures.value (subst (λ (l : Hall g.row.D.Denot g.row.B.Denot g.row.P.Denot). WasGiven (opened_in l) c.args.pass c.args.outcome l.core.history c.step.new.self.history c.in-Ok.reply) c.self.view_is
    (record {
      reply_is = (e.reply ∙ ap (λ (h : Hold g.row.D.Denot g.row.B.Denot g.row.P.Denot). (step h.core.state c.args.pass (checkin c.args.outcome)).1) c.deref_mut.ensures.value) ∙ ap (λ z. (step z c.args.pass (checkin c.args.outcome)).1) at;
      done = ap (λ (r : Reply). r.answer) (e.reply ∙ ap (λ (h : Hold g.row.D.Denot g.row.B.Denot g.row.P.Denot). (step h.core.state c.args.pass (checkin c.args.outcome)).1) c.deref_mut.ensures.value) ∙ home_answer x.state c.args.pass c.args.outcome good;
      entry = home_written x.state c.args.pass c.args.outcome x.history c.step.new.self.history (rw c.deref_mut.ensures.value at e.history) ∙ ap (λ z. x.history ++ entry_of z c.args.pass (checkin c.args.outcome) ∷ []) at;
    }))

pub returns-clause-err : goal.returns-clause-err
returns-clause-err g c =
    let e = c.in-Ok.ensures in
    let x = c.self.inside.hold.value.core in
    let n = c.args.pass in
    let at = sym (rw c.deref.ensures at c.state.ensures.state) ∙ (rw c.deref.ensures at c.state.ensures.replayed ∙ ap (λ z. replay z x.history) c.self.invariant.opened) in
    let bad = ap (λ (r : Reply). was_done r.answer) (sym (e.reply ∙ ap (λ (h : Hold g.row.D.Denot g.row.B.Denot g.row.P.Denot). (step h.core.state c.args.pass (checkin c.args.outcome)).1) c.deref_mut.ensures.value)) ∙ (sym c.was_done.ensures ∙ c.if-was_done.false) in
    let told = home_refused x.state n c.args.outcome bad in
    let error = c.error_of.ensures ∙ ap error_of (ap (λ (r : Reply). r.answer) (e.reply ∙ ap (λ (h : Hold g.row.D.Denot g.row.B.Denot g.row.P.Denot). (step h.core.state c.args.pass (checkin c.args.outcome)).1) c.deref_mut.ensures.value) ∙ told) in (
      refl,
      subst (λ (l : Hall g.row.D.Denot g.row.B.Denot g.row.P.Denot). WasHandedBack (opened_in l) n c.args.outcome l.core.history c.step.new.self.history c.error_of.result) c.self.view_is
          (subst (λ z. WasHandedBack c.self.inside.opening.core.value.opened n c.args.outcome x.history c.step.new.self.history z) (sym error) (
            home_written x.state n c.args.outcome x.history c.step.new.self.history (rw c.deref_mut.ensures.value at e.history) ∙ ap (λ z. x.history ++ entry_of z n (checkin c.args.outcome) ∷ []) at,
            sym (ap (λ z. (step z n (checkin c.args.outcome)).1.answer) at) ∙ told,
            ap serving_of at,
          )),
    )
