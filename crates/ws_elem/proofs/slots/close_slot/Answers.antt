use Rattle.std.proofs.Common.{◌≡◌, true, false, refl, sym, ap, ◌∙◌}
use Rattle.ws_elem.specs.Inside.Slots.{is_empty_slot}
use Rattle.ws_elem.proofs.Kept.{sets_closed}
use Rattle.ws_elem.proofs.slots.close_slot.Goals as goal

pub returns-else-is_empty_slot : goal.returns-else-is_empty_slot
returns-else-is_empty_slot c =
    sets_closed c.args.slots.now.entries c.args.path.now c.args.slots.now.entries (λ h. absurd (differ (sym h ∙ ap is_empty_slot (sym c.get.ensures.value) ∙ sym c.is_empty_slot.ensures ∙ c.if-is_empty_slot.false))) (λ h. refl)
  where
    differ : true ≡ false → ⊥
    differ h = cc
