use Rattle.std.proofs.Common.{◌≡◌, ◌++◌, List, refl, sym, ap, ◌∙◌, subst, map, true≢false}
use Rattle.std.specs.Prelude.{Ok, Err, IsOk}
use Rattle.core_event.specs.declared.entry.Entry.{Entry}
use Rattle.core_event.specs.declared.service.Outcomes.TheVariants as outcomes
use Rattle.ws_core.specs.Ends.{ChecksIn}
use Rattle.ws_core.specs.Histories.{replay}
use Rattle.save_history.specs.Saves.{IsDone, ending}
use Rattle.pass_turns.specs.Turns.{knows}
use Rattle.ws_locked.specs.Fits.{Fits}
use Rattle.ws_locked.specs.Halls.{opened_by, state_in, told_by, trio_of}
use Rattle.ws_locked.specs.Moved.{ComesHome, WasBrought, checkin}
use Rattle.ws_shared.specs.Calls.{opening_of}
use Rattle.ws_shared.proofs.Stages.{at_begun}
use Rattle.ws_shared.proofs.Ending.{checks_in, given_entry, through_home, unkept_where}
use Rattle.ws_shared.proofs.Reasons.{reason}
use Rattle.ws_shared.proofs.Whole.{has_ended}
use Rattle.ws_shared.proofs.workspace.Workspace.save_with.Goals as goal

pub hosted-answer-requires-clause-at : goal.hosted-answer-requires-clause-at
hosted-answer-requires-clause-at g c =
    let d = g.D.Disk in
    let b = c.requires.begun in
    at_begun d.moment d.left_since d.may_leave d.faults (state_in (opening_of c.args.self.now)) (knows c.args.pass.now) c.args.services.keeper c.args.kind b.legal b.faithful b.under_way b.round c.requires.fits.kept

pub check_in-requires-clause-fits : goal.check_in-requires-clause-fits
check_in-requires-clause-fits g c =
    let d = g.D.Disk in
    let o = opening_of c.args.self.now in
    let t = told_by g.B.Builder.tells g.P.Participant.tells (trio_of c.args.services) in
    let e = c.hosted-answer.ensures in
    let new = map (λ p. g.P.Participant.tells p) c.hosted-answer.new.parts in
    subst (λ a. ComesHome (λ h. Fits d.moment d.left_since d.may_leave d.faults g.V.Vow.fits (opened_by g.B.Builder.tells g.P.Participant.tells o) o.keeper.value h (record { keeper = c.hosted-answer.new.keeper; builders = t.builders; participants = new }))
    (knows c.hosted-answer.new.pass).number (outcomes.Save a) (knows c.hosted-answer.new.pass).seen) (sym e.same)
    (through_home d.moment d.left_since d.may_leave d.faults g.V.Vow.fits g.V.Vow.kept (opened_by g.B.Builder.tells g.P.Participant.tells o) o.keeper.value (knows c.args.pass.now) (knows c.hosted-answer.new.pass) c.hosted-answer.new.keeper c.args.kind c.hosted-answer.result.0
    t.participants new t e.through c.requires.fits refl e.began)

pub unreachable-requires : goal.unreachable-requires
unreachable-requires g c =
    let d = g.D.Disk in
    let o = opening_of c.args.self.now in
    let t = told_by g.B.Builder.tells g.P.Participant.tells (trio_of c.args.services) in
    let e = c.hosted-answer.ensures in
    let b = c.in-Err.ensures.brought in
    let j = knows c.hosted-answer.new.pass in
    true≢false (sym (b.did_it.never (subst (λ a. ChecksIn (replay (state_in o) b.found) j.number (checkin (outcomes.Save a))) (sym e.same)
    (checks_in d.moment d.left_since d.may_leave d.faults g.V.Vow.fits g.V.Vow.kept (opened_by g.B.Builder.tells g.P.Participant.tells o) (knows c.args.pass.now) j c.hosted-answer.new.keeper c.args.kind c.hosted-answer.result.0
    t.participants (map (λ p. g.P.Participant.tells p) c.hosted-answer.new.parts) e.through b.found b.begins b.own_found b.legal_found))))

pub returns-clause-ended : goal.returns-clause-ended
returns-clause-ended g c =
    let d = g.D.Disk in
    let o = opening_of c.args.self.now in
    let e = c.hosted-answer.ensures in
    let w = e.through in
    let b = c.in-Ok.ensures.brought in
    let j = knows c.hosted-answer.new.pass in
    let x = given_entry (state_in o) j.number c.hosted-answer.result.1 _ b.found b.added (Ok c.in-Ok.field-0) refl b.did_it in
    let done = subst (λ a. IsDone j.number (ending a) x.0) e.same x.2 in
    has_ended c.args.kind o c.hosted-answer.result.0 _ (Ok c.in-Ok.field-0) (knows c.args.pass.now) j (knows c.check_in.new.pass) w.kept w.at.added.0 x.0 w.at.begins w.at.number w.at.lost w.at.added.1 w.at.added.2
    (unkept_where w.kept w.written c.hosted-answer.result.0 w.ends) b x.1 done
    (reason d.moment d.left_since d.may_leave d.faults (state_in o) (knows c.args.pass.now) j c.hosted-answer.new.keeper o.keeper.value (e.began ∙ c.requires.fits.same_store) c.args.kind c.hosted-answer.result.0
    (map (λ p. g.P.Participant.tells p) c.args.services.participants) (map (λ p. g.P.Participant.tells p) c.hosted-answer.new.parts) w b.found (knows c.check_in.new.pass).seen b.begins b.own_found b.legal_found x.0 done (b.seen ∙ ap (λ l. b.found ++ l) x.1))
