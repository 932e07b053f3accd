-- What is decided of elements, and what their counters tell of them.
use Rattle.std.specs.Prelude.{◌<◌, ◌^◌, IfSome}
use Rattle.std.specs.List.{AllByRecursion}
use Rattle.res_path.specs.Paths.{Names, IsPath}
use Rattle.ws_elem.specs.declared.element.Element.{Element}
use Rattle.ws_elem.specs.Trees.{Tree}
use Rattle.ws_durable.specs.Saved.{Saved}
use Rattle.save_elem.specs.Fits.{InRange}
use Rattle.save_elem.specs.Sound.{IsSound}
use Rattle.save_elem.specs.Telling.{told, IsNarrow}
use Rattle.save_valid.specs.Rules.{Each}

-- An element is sound by itself, can be written, and stands at a path.
pub record IsTellable (p : Names) (e : Element) : Type 0 where
  pub sound : IsSound e
  pub narrow : IsNarrow (told e)
  pub path : IsPath p

-- the numbers of each element have room in their fields
abbrev pub AreInRange : Tree → Type 0
AreInRange = Each (λ _ e. InRange (told e))

-- so have those of each tree and of the shelf, and the counters
pub record IsInRange (d : Saved) : Type 0 where
  pub next_node : d.next_node < 2 ^ 64
  pub next_stamp : d.next_stamp < 2 ^ 64
  pub next_marker : d.next_marker < 2 ^ 64
  pub tree : AreInRange d.tree
  pub shelf : AreInRange d.shelf
  pub built : AllByRecursion (λ b. AreInRange b.tree) d.built
  pub kept : AllByRecursion (λ k. IfSome k.tree AreInRange) d.kept
