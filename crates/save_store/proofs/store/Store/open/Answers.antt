use Rattle.std.proofs.Common.{◌≡◌, Some, refl}
use Rattle.std.proofs.lemmas.Result.{IfOk-weaker, IfErr-weaker, MatchResult-from_both}
use Rattle.std.specs.Prelude.{IfSome}
use Rattle.ws_durable.specs.Saved.{saved}
use Rattle.disk_area.proofs.Readings.{both_told}
use Rattle.area_pair.specs.declared.texts.Texts.{Texts}
use Rattle.save_store.specs.Damages.{IsDamaged, IsUndamaged, OfTexts, SpoilsTexts, TellsDamage}
use Rattle.save_store.specs.States.{Mean}
use Rattle.save_store.proofs.OneDamage.{told_one}
use Rattle.save_store.proofs.Only.{holds_sound}
use Rattle.save_store.proofs.Opening.{told_damaged, told_sound, told_once}
use Rattle.save_store.proofs.store.Store.open.Goals as goal

pub returns-in-Ok-clause-only : goal.returns-in-Ok-clause-only
returns-in-Ok-clause-only g c =
    let seen = g.D.Disk.seen c.args.disk in
    let areas = c.in-Ok.areas in
    let texts = c.in-Ok.texts in
    both_told seen seen refl c.in-Ok.ensures.texts c.in-Ok.ensures.chosen (λ both are begun d holds.
    MatchResult-from_both c.over.result (λ o. d ≡ saved o.1) (λ x. IsUndamaged x.0)
    (IfOk-weaker c.over.result (λ o. Mean texts (saved o.1)) (λ o. d ≡ saved o.1) (λ o means. told_once both areas texts are begun d (saved o.1) holds means) c.over.ensures.means)
    (IfErr-weaker c.over.result (λ x. OfTexts (λ y. (t : Texts) × (texts ≡ Some t) × SpoilsTexts areas.home t y) x.0) (λ x. IsUndamaged x.0) (λ x spoils. told_sound both areas texts are begun d holds x.0 spoils) c.over.ensures.damaged))

pub returns-in-Ok-clause-damaged : goal.returns-in-Ok-clause-damaged
returns-in-Ok-clause-damaged g c =
    let seen = g.D.Disk.seen c.args.disk in
    let areas = c.in-Ok.areas in
    let texts = c.in-Ok.texts in
    IfErr-weaker c.over.result (λ x. OfTexts (λ y. (t : Texts) × (texts ≡ Some t) × SpoilsTexts areas.home t y) x.0) (λ x. IfSome seen (λ both. TellsDamage (IsDamaged both) x.0))
    (λ x spoils. both_told seen seen refl c.in-Ok.ensures.texts c.in-Ok.ensures.chosen (λ both are begun. told_damaged both areas texts are begun x.0 spoils)) c.over.ensures.damaged

pub returns-in-Ok-clause-spoilt : goal.returns-in-Ok-clause-spoilt
returns-in-Ok-clause-spoilt g c =
    let seen = g.D.Disk.seen c.args.disk in
    let areas = c.in-Ok.areas in
    let texts = c.in-Ok.texts in
    both_told seen seen refl c.in-Ok.ensures.texts c.in-Ok.ensures.chosen (λ both are begun d spoilt.
    MatchResult-from_both c.over.result (λ o. ⊥) (λ x. TellsDamage (λ y. y ≡ d) x.0)
    (IfOk-weaker c.over.result (λ o. Mean texts (saved o.1)) (λ o. ⊥) (λ o means. holds_sound both (saved o.1) d (texts, are, means) spoilt) c.over.ensures.means)
    (IfErr-weaker c.over.result (λ x. OfTexts (λ y. (t : Texts) × (texts ≡ Some t) × SpoilsTexts areas.home t y) x.0) (λ x. TellsDamage (λ y. y ≡ d) x.0)
    (λ x spoils. told_one both d spoilt x.0 (told_damaged both areas texts are begun x.0 spoils)) c.over.ensures.damaged))

pub returns-in-Err-Damaged-default-clause-spoilt : goal.returns-in-Err-Damaged-default-clause-spoilt
returns-in-Err-Damaged-default-clause-spoilt g c =
    let seen = g.D.Disk.seen c.args.disk in
    let found = c.in-Err-Damaged-default in
    let damaged = rw found.field-0-0-is at found.ensures.damaged in
    both_told seen (g.D.Disk.seen found.disk) found.ensures.seen damaged c.first_damage-fault.ensures.told (λ both is told d spoilt. told_one both d spoilt c.first_damage-fault.result (told is))
