use Rattle.std.proofs.Common.{◌≡◌, ◌++◌}
use Rattle.std.specs.List.{flat_map}
use Rattle.std.specs.FinMap.{entries}
use Rattle.report_text.specs.Elements.{sync_text}
use Rattle.report_text.proofs.element_text.put_syncs.Given as goal

-- the partners so far, and those that are left
abbrev pub invariant-loop-partner : goal.invariant-loop-partner
invariant-loop-partner l = l.out.items ++ flat_map (sync_text l.names) l.partner-iterator ≡ l.fn.out.items ++ flat_map (sync_text l.names) (entries l.syncs)
