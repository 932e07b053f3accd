use Rattle.std.proofs.Common.{◌≡◌, false, List, refl, sym, ap, ◌∙◌, subst, true≢false}
use Rattle.std.specs.Prelude.{Ok, Some, None, is_some}
use Rattle.core_event.specs.declared.entry.Entry.{Entry}
use Rattle.ws_core.specs.Histories.{replay}
use Rattle.save_history.specs.Rounds.{rounds_of}
use Rattle.save_history.specs.Stages.{IsUnderWay}
use Rattle.pass_turns.specs.Turns.{knows}
use Rattle.ws_locked.specs.Halls.{state_in}
use Rattle.ws_shared.specs.Calls.{opening_of}
use Rattle.ws_shared.proofs.Beginning.{began, got}
use Rattle.ws_shared.proofs.Whole.{whole}
use Rattle.ws_shared.proofs.workspace.Workspace.save.Goals as goal

pub save_with-requires-clause-begun : goal.save_with-requires-clause-begun
save_with-requires-clause-begun g c =
    let s = state_in (opening_of c.args.self.now) in
    let t = c.in_ok-services.ensures.lent in
    let k = knows c.args.pass.now in
    let b = began _ s k.number c.args.kind t.found t.added c.in_ok-services.field-0-0 c.in_ok-services.services t.did_it in
    record {
      legal = t.legal_seen;
      faithful = t.faithful;
      under_way = subst (λ n. IsUnderWay n false (replay s (knows c.checkout.new.pass).seen)) (sym t.number) (subst (λ l. IsUnderWay k.number false (replay s l)) (sym t.seen) b.under_way);
      round = ap (λ l. (rounds_of l).under) t.seen ∙ b.round;
    }

pub unreachable-requires : goal.unreachable-requires
unreachable-requires g c =
    let s = state_in (opening_of c.args.self.now) in
    let t = c.in_ok-services.ensures.lent in
    let k = knows c.args.pass.now in
    true≢false (sym (got _ s k.number c.args.kind t.found t.added c.in_ok-services.field-0-0 c.in_ok-services.services t.did_it) ∙ ap is_some c.in-None.is)

pub returns-clause-saved : goal.returns-clause-saved
returns-clause-saved g c =
    let o = opening_of c.args.self.now in
    let t = c.in_ok-services.ensures.lent in
    let k = knows c.args.pass.now in
    let b = began _ (state_in o) k.number c.args.kind t.found t.added c.in_ok-services.field-0-0 c.in_ok-services.services t.did_it in
    whole c.args.kind o c.save_with.result _ _ k (knows c.checkout.new.pass) (knows c.save_with.new.pass) t b c.save_with.ensures.ended
