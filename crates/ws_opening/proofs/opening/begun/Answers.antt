use Rattle.std.proofs.Common.{◌⊎◌, map, sym, ap, subst, ◌∙◌, ◌≡◌}
use Rattle.ws_durable.specs.Saved.{saved}
use Rattle.save_round.specs.Restoring.{HasStoppedRestoring, WereRestored}
use Rattle.ws_core.specs.Durables.{kept_since}
use Rattle.ws_core.specs.Opened.{opened_of}
use Rattle.ws_opening.specs.Restored.{restored_of}
use Rattle.ws_opening.proofs.opening.begun.Goals as goal

pub returns-in-Ok-clause-opened : goal.returns-in-Ok-clause-opened
returns-in-Ok-clause-opened g c = c.requires.opened ∙ ap (λ k. opened_of (saved k.began.last) (map (λ b. b.named) (map (λ b. g.B.Builder.tells b) c.args.builders))) (sym c.of.ensures.keeper)

pub returns-in-Ok-clause-first : goal.returns-in-Ok-clause-first
returns-in-Ok-clause-first g c = ap (λ s. s.manager) c.requires.opened

pub returns-in-Ok-clause-kept : goal.returns-in-Ok-clause-kept
returns-in-Ok-clause-kept g c = c.of.ensures.kept c.args.opened.core c.requires.history c.requires.stored

pub returns-in-Ok-clause-participants : goal.returns-in-Ok-clause-participants
returns-in-Ok-clause-participants g c = subst (λ ks. WereRestored ks (map (λ p. g.P.Participant.tells p) c.args.participants) (map (λ p. g.P.Participant.tells p) c.give_back.new.parts)) (c.as_slice.ensures.value ∙ c.requires.states) c.in-Ok.ensures.restored

pub returns-in-Ok-clause-restored : goal.returns-in-Ok-clause-restored
returns-in-Ok-clause-restored g c = c.in-Ok.ensures.told ∙ ap (λ ks. restored_of ks (map (λ p. g.P.Participant.tells p) c.args.participants)) (c.as_slice.ensures.value ∙ c.requires.states)

pub returns-clause-stopped : goal.returns-clause-stopped
returns-clause-stopped g c = subst (λ ks. (c.give_back.new.parts ≡ c.args.participants) ⊎ HasStoppedRestoring ks (map (λ p. g.P.Participant.tells p) c.args.participants) (map (λ p. g.P.Participant.tells p) c.give_back.new.parts))
    (c.as_slice.ensures.value ∙ c.requires.states ∙ ap kept_since c.requires.opened) c.in-Err.ensures.stopped
