use Rattle.std.proofs.Common.{◌≡◌, ◌++◌, take}
use Rattle.std.specs.List.{flat_map}
use Rattle.std.specs.FinMap.{get}
use Rattle.report_text.specs.Elements.{marker_text}
use Rattle.report_text.proofs.element_text.put_ids.Given as goal

-- the markers so far
abbrev pub invariant-loop-id : goal.invariant-loop-id
invariant-loop-id l = l.out.items ≡ l.fn.out.items ++ flat_map (λ id. marker_text id (get l.marks id)) (take l.id-index l.ids)
