-- What `check` tells.
use Rattle.std.proofs.Common.{◌≡◌, ◌⊎◌, inl, inr, ℕ, List, Option, Some, refl, subst}
use Rattle.std.specs.Prelude.{IfSome}
use Rattle.ws_outside.specs.declared.contents.Contents.{Contents}
use Rattle.ws_outside.specs.Faults.{Rose}
use Rattle.save_store.specs.declared.faults.OpenFault.{OpenFault}
use Rattle.save_store.specs.declared.faults.OpenFault.TheVariants.{Disk, Damaged, Memory}
use Rattle.save_store.specs.declared.look.Found.{Found}
use Rattle.save_store.specs.Damages.{IsDamaged}
use Rattle.save_store.specs.Looks.{IsLookedAt}
use Rattle.ws_top.specs.Areas.{IsDamage, AreUndamaged}
use Rattle.ws_top.specs.Inside.Opening.{HasFault, Refuses, TellsHeld}
use Rattle.ws_top.specs.Outcomes.{Checks, TellsFound, Tells}
use Rattle.ws_top.specs.Texts.{check_text}

-- a text whose writing didn't fail was told whole
told_well : (text : List ℕ) (a b : Option (List ℕ)) (f g n : ℕ) → Tells text a b f g n → (Rose f g → ⊥) → (n ≡ 0) ⊎ (n ≡ 8)
told_well text a b f g n (inl (e, _, _)) good = inl e
told_well text a b f g n (inr (_, _, rose)) good = absurd (good rose)

-- what was found was told, or memory wanted
pub checks_found : (found : Found) (seen : Option Contents) (p q : ℕ) (a b : Option (List ℕ)) (f g n : ℕ) → IfSome seen (λ both. IsLookedAt both found) → TellsHeld found a b f g n → Checks seen p q a b f g n
checks_found found seen p q a b f g n held (inl t) = record {
  tells = inl (record { found = found; held = held; told = t });
  complete = λ good _ both is whole. told_well (check_text found) a b f g n t good;
}
checks_found found seen p q a b f g n held (inr (eight, _)) = record { tells = inr (inr eight); complete = λ _ _ both is whole. inr eight }

-- the areas couldn't be read
pub checks_refused : (e : OpenFault) (seen : Option Contents) (p q : ℕ) (a b : Option (List ℕ)) (f g n : ℕ) → HasFault seen p q e → Refuses e a b f g n → Checks seen p q a b f g n
checks_refused Disk seen p q a b f g n fault (five, _) = record { tells = inr (inl (inl (five, refl))); complete = λ _ sound both is whole. absurd (sound fault.cause) }
checks_refused (Damaged damage) seen p q a b f g n fault (inl (seven, _)) = record {
  tells = inr (inl (inr seven));
  complete = λ _ _ both is whole. absurd (whole damage (subst (λ o. IsDamage o damage) is fault.damage));
}
checks_refused (Damaged damage) seen p q a b f g n fault (inr (eight, _)) = record { tells = inr (inr eight); complete = λ _ _ both is whole. inr eight }
checks_refused Memory seen p q a b f g n fault (eight, _) = record { tells = inr (inr eight); complete = λ _ _ both is whole. inr eight }
