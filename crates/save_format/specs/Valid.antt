-- What may be kept, and its texts.
use Rattle.std.specs.Prelude.{◌+◌, ◌-◌, ◌^◌, ◌≤◌, ℕ, List, ◌++◌}
use Rattle.std.specs.FinMap.{empty, len}
use Rattle.std.specs.List.{AllByRecursion}
use Rattle.ws_elem.specs.Stamps.{AgreeByStamps}
use Rattle.ws_elem.specs.Trees.{Whole}
use Rattle.ws_durable.specs.Saved.{Saved, trees, maps}
use Rattle.save_read.specs.Sayable.{IsSayable}
use Rattle.save_read.specs.Texts.{IsText}
use Rattle.save_valid.specs.Descriptions.{IsDescribed, IsBuiltIn}
use Rattle.save_valid.specs.Places.{IsShelved}
use Rattle.save_valid.specs.Rules.{Each, IsBelow, counters_of, AllDiffer, nodes_of}

pub record IsLawful (d : Saved) : Type 0 where
  -- the tree, each built tree and each kept tree is whole
  pub whole : AllByRecursion Whole (trees d)
  -- on the shelf stand files and folders below closed projects
  pub shelf : Each (IsShelved d.tree d.shelf) d.shelf
  -- node numbers differ across tree and shelf
  pub nodes : AllDiffer (nodes_of d.tree ++ nodes_of d.shelf)
  -- tree and shelf have at most 1,048,576 elements together
  pub few : len d.tree + len d.shelf ≤ 1048576
  -- counters are at most 2^63 - 1
  pub next_node : d.next_node ≤ 2 ^ 63 - 1
  pub next_stamp : d.next_stamp ≤ 2 ^ 63 - 1
  pub next_marker : d.next_marker ≤ 2 ^ 63 - 1
  -- every node, stamp, description stamp and marker id is below its counter, and partner numbers are registered
  pub below : AllByRecursion (Each (λ _. IsBelow (counters_of d))) (maps d)
  -- partners differ
  pub partners : AllDiffer d.partners
  -- files with equal stamps have equal bytes over all trees and the shelf
  pub stamps : AgreeByStamps (maps d)
  -- descriptions are canonical and valid for their project
  pub described : AllByRecursion (Each IsDescribed) (trees d)
  -- each built record names a project of the tree and an index below its number of commands, its command's text is canonical,
  -- and its references are few
  pub built : AllByRecursion (IsBuiltIn d.tree) d.built

-- It can be told, elements being sound by themselves, without transient markers; and it is lawful.
pub record Valid (d : Saved) : Type 0 where
  pub sayable : IsSayable d
  pub lawful : IsLawful d

-- the bytes are the text of what is kept against what was kept before
abbrev pub IsRecord : Saved → Saved → List ℕ → Type 0
IsRecord before d bytes = Valid d × IsText before.tree before.shelf d bytes

-- the same against nothing
abbrev pub IsImage : Saved → List ℕ → Type 0
IsImage d bytes = Valid d × IsText empty empty d bytes
