-- The line of a damage.
use Rattle.std.specs.Prelude.{ℕ, List, ◌++◌, codes, decimal}
use Rattle.ws_outside.specs.declared.contents.Which.{Which}
use Rattle.disk_area.specs.declared.damage.Damage.{Damage}
use Rattle.disk_area.specs.declared.damage.DamageCause.{DamageCause}
use Rattle.disk_area.specs.declared.damage.DamageCause.TheVariants.{TooLarge, BadMagic, BadVersion, BadNumber, Truncated, BadDigest, BadText, BadState}
use Rattle.report_text.specs.Words.{hexadecimal}
use Rattle.area_text.specs.Areas.{area_word}

-- an area and a place in it, a space behind each
abbrev pub place_words : Which → ℕ → List ℕ
place_words area at = area_word area ++ codes " " ++ decimal at ++ codes " "

-- what is wrong; of digests the one that is kept, and then that of the bytes
abbrev pub cause_words : DamageCause → List ℕ
cause_words TooLarge = codes "large"
cause_words BadMagic = codes "magic"
cause_words (BadVersion version) = codes "version " ++ decimal version
cause_words BadNumber = codes "number"
cause_words Truncated = codes "truncated"
cause_words (BadDigest kept found) = codes "digest " ++ hexadecimal kept ++ codes " " ++ hexadecimal found
cause_words BadText = codes "text"
cause_words BadState = codes "state"

-- the line with which the program ends on damaged areas
abbrev pub damage_line : Damage → List ℕ
damage_line d = codes "status 7 " ++ place_words d.area d.at ++ cause_words d.cause ++ codes "\n"
