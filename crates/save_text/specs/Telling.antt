-- How what a workspace keeps is told in a text.
use Rattle.std.specs.Prelude.{◌<◌, ◌^◌, List, length, Option, None, IfSome}
use Rattle.std.specs.Option.{option_map}
use Rattle.std.specs.List.{AllByRecursion}
use Rattle.res_path.specs.Paths.{Names}
use Rattle.ws_elem.specs.declared.element.Element.{Element}
use Rattle.save_elem.specs.Telling.{told, IsNarrow}
use Rattle.save_state.specs.declared.change.Change.{Change}
use Rattle.save_state.specs.declared.records.Built.{Built}
use Rattle.save_state.specs.declared.records.Kept.{Kept}
use Rattle.save_state.specs.declared.state.State.{State}
use Rattle.save_state.specs.Entries.{Entries}

abbrev pub nothing : Entries
nothing p = None

-- a row as a change, its element without transient markers
abbrev pub told_row : Names × Option Element → Change
told_row row = record { path = row.0; entry = option_map told row.1 }

-- ---- every text has fewer than 2^32 bytes, and every list fewer than 2^32 items

abbrev pub IsNarrowChange : Change → Type 0
IsNarrowChange c = IfSome c.entry IsNarrow

abbrev pub AreNarrow : List Change → Type 0
AreNarrow cs = (length cs < 2 ^ 32) × AllByRecursion IsNarrowChange cs

abbrev pub IsNarrowBuilt : Built → Type 0
IsNarrowBuilt b = (length b.command < 2 ^ 32) × (length b.references < 2 ^ 32) × AreNarrow b.changes

abbrev pub IsNarrowKept : Kept → Type 0
IsNarrowKept k = (length k.bytes < 2 ^ 32) × IfSome k.changes AreNarrow

-- Names are short by themselves.
pub record IsNarrowState (s : State) : Type 0 where
  pub partners : length s.partners < 2 ^ 32
  pub tree : AreNarrow s.tree
  pub shelf : AreNarrow s.shelf
  pub built : (length s.built < 2 ^ 32) × AllByRecursion IsNarrowBuilt s.built
  pub kept : (length s.kept < 2 ^ 32) × AllByRecursion IsNarrowKept s.kept
