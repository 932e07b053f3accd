use Rattle.std.proofs.Common.{◌≡◌, ◌++◌, List, sym, ap, ◌∙◌, subst}
use Rattle.std.specs.Option.{option_map}
use Rattle.core_event.specs.declared.entry.Entry.{Entry}
use Rattle.ws_core.specs.Histories.{replay}
use Rattle.ws_locked.specs.Asked.{WasAsked}
use Rattle.ws_locked.specs.Halls.{Hall, opened_in, trio_of}
use Rattle.ws_locked.proofs.Asked.{asked}
use Rattle.ws_locked.proofs.Halls.{hall_on, went_on}
use Rattle.ws_locked.proofs.locked.Locked.ask.Goals as goal

pub invariant_of-self : goal.invariant_of-self
invariant_of-self g c =
    let e = c.step.ensures in
    let d = c.deref_mut.ensures.value in
    rw d (hall_on g.D.Disk.moment g.D.Disk.left_since g.D.Disk.may_leave g.D.Disk.faults g.B.Builder.tells g.P.Participant.tells g.V.Vow.fits
    (record { core = c.self.inside.hold.value.core; services = option_map (λ s. trio_of s) c.self.inside.hold.value.services; opening = c.self.inside.opening })
    c.step.new.self (went_on c.self.inside.hold.value.core c.step.new.self c.args.pass c.args.event c.step.result c.requires.keeps (rw d at e.opened) (rw d at e.state) (rw d at e.history) (rw d at e.err)) c.self.invariant)

pub returns-clause-asked : goal.returns-clause-asked
returns-clause-asked g c =
    let e = c.step.ensures in
    let d = c.deref_mut.ensures.value in
    let at = sym (rw c.deref.ensures at c.state.ensures.state) ∙ (rw c.deref.ensures at c.state.ensures.replayed ∙ ap (λ s. replay s c.self.inside.hold.value.core.history) c.self.invariant.opened) in
    subst (λ (l : Hall g.row.D.Denot g.row.B.Denot g.row.P.Denot). (added : List Entry) × (c.step.new.self.history ≡ l.core.history ++ added) × WasAsked c.args.event (opened_in l) c.args.pass l.core.history added c.step.result) c.self.view_is
    (asked c.self.inside.hold.value.core c.step.new.self c.self.inside.opening.core.value.opened c.args.pass c.args.event c.step.result at (rw d at e.reply) (rw d at e.history) (rw d at e.err) (rw d at e.never))
