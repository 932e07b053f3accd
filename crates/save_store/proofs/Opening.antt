-- What opening answers, from the texts that were found.
use Rattle.std.proofs.Common.{◌≡◌, Option, Some, Ok, ap, ◌∙◌}
use Rattle.ws_outside.specs.declared.contents.Contents.{Contents}
use Rattle.disk_area.specs.declared.damage.Damage.{Damage}
use Rattle.ws_durable.specs.Saved.{Saved}
use Rattle.area_pair.specs.declared.texts.Texts.{Texts}
use Rattle.area_pair.specs.Reads.{reads}
use Rattle.area_store.specs.declared.desk.Desk.{Desk}
use Rattle.area_store.specs.Begun.{IsBegun}
use Rattle.save_store.specs.declared.faults.OpenFault.{OpenFault}
use Rattle.save_store.specs.declared.faults.OpenFault.TheVariants as open_fault
use Rattle.save_store.specs.Damages.{SpoilsTexts, IsDamaged, IsUndamaged, TellsDamage, OfTexts}
use Rattle.save_store.specs.States.{Mean, Holds}
use Rattle.save_store.proofs.Damaging.{texts_spoil}
use Rattle.save_store.proofs.Only.{holds_once, holds_sound}

module _ {D : Type 0} (both : Contents) (desk : Desk D) (texts : Option Texts) (are : reads both ≡ Ok texts) (begun : IsBegun both desk) where
  spoils_both : (d : Damage) → (t : Texts) × (texts ≡ Some t) × SpoilsTexts desk.home t d → IsDamaged both d
  spoils_both d spoils = texts_spoil both desk spoils.0 d (are ∙ ap (λ (p : Option Texts). Ok p) spoils.1) begun spoils.2

  pub told_damaged : (fault : OpenFault) → OfTexts (λ d. (t : Texts) × (texts ≡ Some t) × SpoilsTexts desk.home t d) fault → TellsDamage (IsDamaged both) fault
  told_damaged open_fault.Disk spoils = tt
  told_damaged (open_fault.Damaged d) spoils = spoils_both d spoils
  told_damaged open_fault.Memory spoils = tt

  pub told_sound : (d : Saved) → Holds both d → (fault : OpenFault) → OfTexts (λ x. (t : Texts) × (texts ≡ Some t) × SpoilsTexts desk.home t x) fault → IsUndamaged fault
  told_sound d holds open_fault.Disk spoils = tt
  told_sound d holds (open_fault.Damaged x) spoils = holds_sound both d x holds (spoils_both x spoils)
  told_sound d holds open_fault.Memory spoils = tt

  pub told_once : (d state : Saved) → Holds both d → Mean texts state → d ≡ state
  told_once d state holds means = holds_once both state d (texts, are, means) holds
