-- How what stands in a list is spelled, whatever stands before it.
use Rattle.std.specs.Prelude.{ℕ, ◌++◌, List, map}
use Rattle.std.specs.FinMap.{entries}
use Rattle.save_form.specs.Forms.{number, text}
use Rattle.save_form.specs.Lists.{list}
use Rattle.mark_set.specs.declared.marker.Marker.{Marker}
use Rattle.mark_set.specs.declared.value.Value.{Value}
use Rattle.save_elem.specs.Elems.{value, attribute}
use Rattle.save_elem.specs.Telling.{told_value, told_attr}

abbrev pub spell_attr : List ℕ × Value → List ℕ
spell_attr attribute = text.spell attribute.0 ++ value.spell (told_value attribute.1)

abbrev pub spell_mark : Marker → List ℕ
spell_mark m = (number 8).spell m.id ++ (text.spell m.mark_type ++ (list attribute).spell (map told_attr (entries m.attrs)))

abbrev pub spell_sync : ℕ × List ℕ → List ℕ
spell_sync entry = (number 4).spell entry.0 ++ text.spell entry.1
