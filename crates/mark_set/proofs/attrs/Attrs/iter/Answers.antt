use Rattle.std.proofs.Common.{ap, sym, ◌∙◌}
use Rattle.std.specs.FinMap as map
use Rattle.std.specs.FinMap.{entries-from_sorted}
use Rattle.mark_set.specs.Attributes.{text_cmp}
use Rattle.mark_set.proofs.attrs.Attrs.iter.Goals as goal

pub returns : goal.returns
returns c = c.as_slice.ensures.value ∙ sym (entries-from_sorted text_cmp c.self.inside.values.items c.self.invariant) ∙ ap map.entries c.self.view_is
