-- Nodes without flags.
use Rattle.std.proofs.Common.{◌≡◌, ℕ, ◌==◌, List, [], ◌++◌, ap, ◌∙◌, append-nil}
use Rattle.std.specs.Prelude.{codes, if◌then◌else◌}
use Rattle.std.specs.Int.Bits.{and_zero_l}
use Rattle.delta_kind.specs.declared.node.DeltaNode.{DeltaNode}
use Rattle.report_text.specs.Deltas.{where_set, moved_names, kind_names, middle_names, last_names, flag_names}

unset : (flag : ℕ) (text : List ℕ) → where_set 0 flag text ≡ []
unset flag text = ap (λ both. if both == 0 then [] else text) (and_zero_l flag)

-- where no flag is set, only the places have names
pub unset_names : (n : DeltaNode) → n.flags ≡ 0 → flag_names n ≡ moved_names n
unset_names n none =
    ap (λ flags. where_set flags 0x100 (codes " CONTENT") ++ moved_names n ++ kind_names flags ++ middle_names flags ++ last_names flags) none
    ∙ (λ i. unset 0x100 (codes " CONTENT") i ++ moved_names n
    ++ (unset 0x4000 (codes " OPEN") i ++ unset 0x8000 (codes " TYPE") i)
    ++ (unset 0x10000 (codes " SYNC") i ++ unset 0x20000 (codes " MARKERS") i ++ unset 0x40000 (codes " REPLACED") i)
    ++ (unset 0x80000 (codes " DESCRIPTION") i ++ unset 0x400000 (codes " DERIVED_CHANGED") i))
    ∙ append-nil (moved_names n ++ [] ++ []) ∙ append-nil (moved_names n ++ []) ∙ append-nil (moved_names n)
