-- What stands in a list is spelled one after the other.
use Rattle.std.proofs.Common.{◌≡◌, [], ◌∷◌, ◌++◌, length, map, Option, Some, refl, sym, ap₂, ◌∙◌}
use Rattle.std.specs.Prelude.{None}
use Rattle.std.specs.List.{flat_map}
use Rattle.std.proofs.lemmas.List.{length-map}
use Rattle.std.proofs.lemmas.List.Concat.{flat_map-cons}
use Rattle.save_form.specs.Lists.{spell_each}
use Rattle.save_state.specs.declared.change.Change.{Change}
use Rattle.save_state.specs.States.{change}
use Rattle.save_state.proofs.Spellings.{change_spelled}
use Rattle.tree_rows.specs.Rows.{Rows}
use Rattle.save_text.specs.Telling.{nothing, told_row}
use Rattle.save_text.specs.Inside.Spellings.{spell_row}

each_row : (before : Option Change) (rows : Rows) → spell_each (change nothing) before (map told_row rows) ≡ flat_map spell_row rows
each_row before [] = refl
each_row before (row ∷ rows) = ap₂ ◌++◌ (change_spelled nothing before (told_row row)) (each_row (Some (told_row row)) rows) ∙ sym (flat_map-cons spell_row row rows)

pub rows_spelled : (rows : Rows) → spell_each (change nothing) None (map told_row rows) ≡ flat_map spell_row rows
rows_spelled rows = each_row None rows

pub rows_counted : (rows : Rows) → length (map told_row rows) ≡ length rows
rows_counted rows = length-map rows told_row

pub ruleset changes = (rows_spelled, rows_counted)

pub ruleset counted = (rows_counted)
