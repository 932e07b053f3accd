use Rattle.std.proofs.Common.{◌≡◌, ◌++◌}
use Rattle.std.specs.List.{flat_map}
use Rattle.std.specs.FinMap.{entries}
use Rattle.report_text.specs.Elements.{attribute_text}
use Rattle.report_text.proofs.element_text.put_attributes.Given as goal

-- the attributes so far, and those that are left
abbrev pub invariant-loop-name : goal.invariant-loop-name
invariant-loop-name l = l.out.items ++ flat_map attribute_text l.name-iterator ≡ l.fn.out.items ++ flat_map attribute_text (entries l.attrs)
