use Rattle.std.proofs.Common.{◌≡◌, ◌⊎◌, inl, inr, [], sym, ap, ◌∙◌, subst, map}
use Rattle.std.specs.Prelude.{MatchResult}
use Rattle.disk_area.specs.declared.damage.Damage.{Damage}
use Rattle.ws_durable.specs.Saved.{Saved, saved}
use Rattle.save_store.specs.States.{Holds}
use Rattle.save_round.specs.Restoring.{WereRestored}
use Rattle.save_store.specs.Damages.{IsDamaged, IsUndamaged, TellsDamage}
use Rattle.ws_core.specs.Durables.{kept_since}
use Rattle.ws_core.specs.Opened.{opened_of}
use Rattle.ws_core.specs.States.{Moment}
use Rattle.ws_core.specs.Sessions.{Session}
use Rattle.ws_locked.specs.Halls.{state_in}
use Rattle.ws_shared.specs.Calls.{opening_of}
use Rattle.ws_shared.proofs.Results.{if_err, if_ok, if_some, match_result}
use Rattle.ws_shared.proofs.workspace.Workspace.open.Goals as goal

widened : {A F H K : Type 0} → A ⊎ (F × H) → A ⊎ (F × (H ⊎ K))
widened (inl a) = inl a
widened (inr p) = inr (p.0, inl p.1)

pub over-requires-clause-vowed : goal.over-requires-clause-vowed
over-requires-clause-vowed g c = λ o is.
    let e = c.in-Ok.ensures in
    subst (λ b. g.V.Vow.fits o (map (λ x. g.B.Builder.tells x) b) []) (sym e.builders) (c.requires.vowed o (is ∙ ap (λ b. map (λ x. g.B.Builder.tells x) b) e.builders))

pub returns-in-Ok-clause-participants : goal.returns-in-Ok-clause-participants
returns-in-Ok-clause-participants g c =
    let old = map (λ p. g.P.Participant.tells p) c.args.participants in
    if_ok c.over.result _ _ (λ r o.
    subst (λ ps. WereRestored (kept_since (state_in (opening_of r.0))) old (map (λ p. g.P.Participant.tells p) ps)) (sym o.3)
    (subst (λ (x : Session). WereRestored (kept_since x.opened) old (map (λ p. g.P.Participant.tells p) c.in-Ok.fresh.participants)) (sym o.0) c.in-Ok.ensures.participants)) c.over.ensures.opening

pub returns-in-Ok-clause-spoilt : goal.returns-in-Ok-clause-spoilt
returns-in-Ok-clause-spoilt g c =
    if_some (g.D.Disk.seen c.args.disk) _ (λ both. (d : Damage) → IsDamaged both d → MatchResult c.over.result (λ x. ⊥) (λ e. TellsDamage (λ x. x ≡ d) e.0)) (λ both never d is. absurd (never d is)) c.in-Ok.ensures.spoilt

pub returns-in-Ok-clause-only : goal.returns-in-Ok-clause-only
returns-in-Ok-clause-only g c =
    if_some (g.D.Disk.seen c.args.disk) _ (λ both. (d : Saved) → Holds both d → MatchResult c.over.result (λ r. d ≡ saved (opening_of r.0).keeper.value.began.last) (λ e. IsUndamaged e.0))
    (λ both only d holds. match_result c.over.result _ (λ r. d ≡ saved (opening_of r.0).keeper.value.began.last) _ (λ e. IsUndamaged e.0)
    (λ r o. only d holds ∙ ap (λ k. saved k.began.last) (sym o.1)) (λ e wanted. subst IsUndamaged (sym wanted.0) tt) c.over.ensures.opening c.over.ensures.err) c.in-Ok.ensures.only

pub returns-in-Ok-clause-stopped : goal.returns-in-Ok-clause-stopped
returns-in-Ok-clause-stopped g c =
    let e = c.in-Ok.ensures in
    let state = saved c.in-Ok.fresh.keeper.began.last in
    let names = map (λ b. b.named) (map (λ b. g.B.Builder.tells b) c.args.builders) in
    let old = map (λ p. g.P.Participant.tells p) c.args.participants in
    if_err c.over.result _ _ (λ x wanted. inr (
      wanted.0,
      inr (record {
        state = state;
        valid = e.valid;
        held = e.held;
        got = subst (λ ps. WereRestored (kept_since (opened_of state names)) old (map (λ p. g.P.Participant.tells p) ps)) (sym wanted.3)
            (subst (λ (s : Moment). WereRestored (kept_since s) old (map (λ p. g.P.Participant.tells p) c.in-Ok.fresh.participants)) e.opened e.participants);
      }),
    )) c.over.ensures.err

pub returns-in-Err-clause-stopped : goal.returns-in-Err-clause-stopped
returns-in-Err-clause-stopped g c = widened c.in-Err.ensures.stopped
