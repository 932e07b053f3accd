-- What has a spelling, from which it is read back.
use Rattle.std.specs.Prelude.{◌≡◌, ℕ, ◌<◌, ◌^◌, true, List, length, Option, None, IfSome}
use Rattle.std.specs.Option.{option_map}
use Rattle.res_path.specs.Paths.{IsPath}
use Rattle.save_form.specs.Laws.{FitEach}
use Rattle.save_form.specs.Lists.{is_above}
use Rattle.save_elem.specs.Elems.{is_name_below}
use Rattle.save_elem.specs.Fits.{FitsElem}
use Rattle.save_state.specs.declared.change.Change.{Change}
use Rattle.save_state.specs.declared.records.Built.{Built}
use Rattle.save_state.specs.declared.records.Kept.{Kept}
use Rattle.save_state.specs.declared.state.State.{State}
use Rattle.save_state.specs.Entries.{Entries}
use Rattle.save_state.specs.Changed.{changed, is_path_below}
use Rattle.save_state.specs.States.{is_new, is_project_from, is_built_above}

abbrev pub FitsTexts : List (List ℕ) → Type 0
FitsTexts ts = (length ts < 2 ^ 32) × FitEach (λ _ t. length t < 2 ^ 32) None ts

-- a change behind the one before it
pub record FitsChange (base : Entries) (before : Option Change) (c : Change) : Type 0 where
  pub path : IsPath c.path
  pub above : is_above is_path_below (option_map (λ (x : Change). x.path) before) c.path ≡ true
  pub entry : IfSome c.entry FitsElem
  pub new : is_new (base c.path) c.entry ≡ true

abbrev pub FitsChanges : Entries → List Change → Type 0
FitsChanges base cs = (length cs < 2 ^ 32) × FitEach (FitsChange base) None cs

-- a built record behind the one before it
pub record FitsBuilt (tree : Entries) (before : Option Built) (b : Built) : Type 0 where
  pub project : length b.project < 2 ^ 32
  pub from : is_project_from before b.project ≡ true
  pub index : b.index < 2 ^ 16
  pub above : is_built_above before (b.project, b.index) ≡ true
  pub command : length b.command < 2 ^ 32
  pub references : FitsTexts b.references
  pub changes : FitsChanges tree b.changes

-- a kept state behind the one before it
pub record FitsKept (tree : Entries) (before : Option Kept) (k : Kept) : Type 0 where
  pub participant : length k.participant < 2 ^ 32
  pub above : is_above is_name_below (option_map (λ (x : Kept). x.participant) before) k.participant ≡ true
  pub bytes : length k.bytes < 2 ^ 32
  pub changes : IfSome k.changes (FitsChanges tree)

pub record FitsState (base base_shelf : Entries) (s : State) : Type 0 where
  pub next_node : s.next_node < 2 ^ 64
  pub next_stamp : s.next_stamp < 2 ^ 64
  pub next_marker : s.next_marker < 2 ^ 64
  pub partners : FitsTexts s.partners
  pub tree : FitsChanges base s.tree
  pub shelf : FitsChanges base_shelf s.shelf
  pub built : (length s.built < 2 ^ 32) × FitEach (FitsBuilt (changed base s.tree)) None s.built
  pub kept : (length s.kept < 2 ^ 32) × FitEach (FitsKept (changed base s.tree)) None s.kept
