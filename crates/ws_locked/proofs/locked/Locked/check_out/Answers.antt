use Rattle.std.proofs.Common.{◌≡◌, refl, sym, ap, ◌∙◌, subst}
use Rattle.std.specs.Prelude.{None}
use Rattle.std.specs.Option.{option_map}
use Rattle.core_event.specs.declared.reply.Reply.{Reply}
use Rattle.pass_history.specs.Served.{was_done}
use Rattle.ws_core.specs.Histories.{entry_of, written}
use Rattle.ws_core.specs.Steps.{step}
use Rattle.ws_locked.specs.declared.locked.Hold.{Hold}
use Rattle.ws_locked.specs.Fits.{Fits}
use Rattle.ws_locked.specs.Halls.{Hall, opened_by, told_by, trio_of}
use Rattle.ws_locked.specs.Moved.{checkout}
use Rattle.ws_locked.proofs.Fitting.{fits_written}
use Rattle.save_history.specs.Rounds.{rounds_of}
use Rattle.ws_locked.specs.Moved.{round_for}
use Rattle.ws_locked.proofs.Going.{hall_stays, out_fits, round_out}
use Rattle.ws_locked.proofs.locked.Locked.check_out.Goals as goal

pub invariant_of-self-else-was_done : goal.invariant_of-self-else-was_done
invariant_of-self-else-was_done g c =
    let e = c.in_ok-reply.ensures in
    rw c.deref_mut.ensures.value (hall_stays g.D.Disk.moment g.D.Disk.left_since g.D.Disk.may_leave g.D.Disk.faults g.B.Builder.tells g.P.Participant.tells g.V.Vow.fits
    (record { core = c.self.inside.hold.value.core; services = option_map (λ s. trio_of s) c.self.inside.hold.value.services; opening = c.self.inside.opening })
    c.step.new.self c.args.pass c.args.purpose c.in_ok-reply.reply (sym c.was_done.ensures ∙ c.if-was_done.false) (e.reply ∙ ap (λ (h : Hold g.row.D.Denot g.row.B.Denot g.row.P.Denot). (step h.core.state c.args.pass (checkout c.args.purpose)).1) c.deref_mut.ensures.value) (e.opened ∙ ap (λ (h : Hold g.row.D.Denot g.row.B.Denot g.row.P.Denot). h.core.opened) c.deref_mut.ensures.value) (e.state ∙ ap (λ (h : Hold g.row.D.Denot g.row.B.Denot g.row.P.Denot). (step h.core.state c.args.pass (checkout c.args.purpose)).0) c.deref_mut.ensures.value) (e.history ∙ ap (λ (h : Hold g.row.D.Denot g.row.B.Denot g.row.P.Denot). written h.core.history (entry_of h.core.state c.args.pass (checkout c.args.purpose))) c.deref_mut.ensures.value) c.self.invariant)

pub returns-then-was_done-clause-fits : goal.returns-then-was_done-clause-fits
returns-then-was_done-clause-fits g c =
    let e = c.in_ok-reply.ensures in
    let d = g.D.Disk in
    let good = ap (λ (r : Reply). was_done r.answer) (sym (e.reply ∙ ap (λ (h : Hold g.row.D.Denot g.row.B.Denot g.row.P.Denot). (step h.core.state c.args.pass (checkout c.args.purpose)).1) c.deref_mut.ensures.value)) ∙ (sym c.was_done.ensures ∙ c.if-was_done.true) in
    let at : Hall g.row.D.Denot g.row.B.Denot g.row.P.Denot → _ → Type 0 = λ l s. Fits d.moment d.left_since d.may_leave d.faults g.V.Vow.fits (opened_by g.B.Builder.tells g.P.Participant.tells l.opening) l.opening.keeper.value c.step.new.self.history (told_by g.B.Builder.tells g.P.Participant.tells (trio_of s)) in
    rw c.deref_mut-then-was_done.ensures.value (out_fits _ (at c.args.self.now) c.self.inside.hold.value.services c.take-out.result (rw c.deref_mut.ensures.value at (rw c.deref_mut-then-was_done.ensures.value at c.take-out.ensures.value)) c.self.invariant.fit
    (λ s fit. subst (λ l. at l s) c.self.view_is
    (fits_written d.moment d.left_since d.may_leave d.faults g.V.Vow.fits g.V.Vow.kept (opened_by g.B.Builder.tells g.P.Participant.tells c.self.inside.opening) c.self.inside.opening.keeper.value
    c.self.inside.hold.value.core.history c.step.new.self.history (entry_of c.self.inside.hold.value.core.state c.args.pass (checkout c.args.purpose)) c.args.purpose (told_by g.B.Builder.tells g.P.Participant.tells (trio_of s)) (e.history ∙ ap (λ (h : Hold g.row.D.Denot g.row.B.Denot g.row.P.Denot). written h.core.history (entry_of h.core.state c.args.pass (checkout c.args.purpose))) c.deref_mut.ensures.value) refl good fit)))

pub returns-then-was_done-clause-round : goal.returns-then-was_done-clause-round
returns-then-was_done-clause-round g c =
    let e = c.in_ok-reply.ensures in
    rw c.deref_mut-then-was_done.ensures.value (out_fits (λ t. (rounds_of c.self.inside.hold.value.core.history).under ≡ None) (λ s. (rounds_of c.step.new.self.history).under ≡ round_for c.args.purpose) c.self.inside.hold.value.services c.take-out.result (rw c.deref_mut.ensures.value at (rw c.deref_mut-then-was_done.ensures.value at c.take-out.ensures.value)) c.self.invariant.rests
    (λ s none. round_out c.self.inside.hold.value.core c.step.new.self c.args.pass c.args.purpose c.in_ok-reply.reply (sym c.was_done.ensures ∙ c.if-was_done.true) (e.reply ∙ ap (λ (h : Hold g.row.D.Denot g.row.B.Denot g.row.P.Denot). (step h.core.state c.args.pass (checkout c.args.purpose)).1) c.deref_mut.ensures.value) (e.history ∙ ap (λ (h : Hold g.row.D.Denot g.row.B.Denot g.row.P.Denot). written h.core.history (entry_of h.core.state c.args.pass (checkout c.args.purpose))) c.deref_mut.ensures.value) none))
