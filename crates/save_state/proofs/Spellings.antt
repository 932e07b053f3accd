-- Entries and changes, as they are spelled.
use Rattle.std.proofs.Common.{◌≡◌, [], ◌∷◌, None, Option, refl}
use Rattle.ws_wire.specs.Fields.{number_field}
use Rattle.save_form.specs.Forms.{number}
use Rattle.save_state.specs.declared.change.Change.{Change}
use Rattle.save_state.specs.Entries.{Entries, spell_entry, spell_change}
use Rattle.save_state.specs.Paths.{path}
use Rattle.save_state.specs.States.{change}

pub spell-none : spell_entry None ≡ 0 ∷ []
unfolding number number_field
spell-none = refl

-- a change's spelling rests neither on the base nor on the change before
pub change_spelled : (base : Entries) (before : Option Change) (c : Change) → (change base before).spell c ≡ spell_change c.path c.entry
unfolding change path
change_spelled base before c = refl

pub ruleset spellings = (spell-none)
