-- How what stands in a list is spelled, whatever stands before it.
use Rattle.std.specs.Prelude.{ℕ, List, ◌++◌, length, Option}
use Rattle.std.specs.List.{flat_map}
use Rattle.std.specs.Option.{option_map}
use Rattle.res_path.specs.Paths.{Names}
use Rattle.ws_elem.specs.declared.element.Element.{Element}
use Rattle.save_elem.specs.Telling.{told}
use Rattle.save_form.specs.Forms.{number, text, optional}
use Rattle.save_form.specs.Lists.{list}
use Rattle.save_state.specs.Entries.{spell_change}
use Rattle.save_state.specs.States.{change}
use Rattle.save_state.specs.declared.records.Built.{Built}
use Rattle.save_state.specs.declared.records.Kept.{Kept}
use Rattle.save_state.specs.declared.state.State.{State}
use Rattle.save_text.specs.Telling.{nothing}

abbrev pub spell_row : Names × Option Element → List ℕ
spell_row row = spell_change row.0 (option_map told row.1)

-- a built record, and a kept state
abbrev pub spell_built : Built → List ℕ
spell_built b = text.spell b.project ++ ((number 2).spell b.index ++ (text.spell b.command ++ ((list λ _. text).spell b.references ++ (list (change nothing)).spell b.changes)))

abbrev pub spell_kept : Kept → List ℕ
spell_kept k = text.spell k.participant ++ (text.spell k.bytes ++ (optional (list (change nothing))).spell k.changes)

-- a whole text
abbrev pub spell_state : State → List ℕ
spell_state s =
    (number 8).spell s.next_node ++ ((number 8).spell s.next_stamp ++ ((number 8).spell s.next_marker ++ ((list λ _. text).spell s.partners
    ++ ((list (change nothing)).spell s.tree ++ ((list (change nothing)).spell s.shelf
    ++ (((number 4).spell (length s.built) ++ flat_map spell_built s.built) ++ ((number 4).spell (length s.kept) ++ flat_map spell_kept s.kept)))))))
