-- Edits that a delta tells.
use Rattle.std.specs.Prelude.{◌≡◌, List, [], ◌∷◌}
use Rattle.res_path.specs.Paths.{Names}
use Rattle.delta_kind.specs.declared.node.DeltaNode.{DeltaNode}
use Rattle.builder_api.specs.declared.handed.Handed.{Handed}
use Rattle.builder_api.specs.declared.edits.Edits.{Edits}
use Rattle.std_kit.specs.Changes.{AreChangesAt}
use Rattle.std_kit.specs.Roots.{IsClear}
use Rattle.std_kit.specs.Since.{IsCalm}

-- there is one root, whose files are clear of each other, as those that went were: the edits are those at the nodes, and
-- there is no problem
pub record AreTold (nodes : List DeltaNode) (h : Handed) (e : Edits) : Type 0 where
  pub root : Names
  pub alone : h.inputs ≡ root ∷ []
  pub calm : IsCalm root h.output h.view nodes
  pub clear : IsClear root h.view
  pub files : AreChangesAt h.output root h.view nodes e.files
  pub problems : e.problems ≡ []
