use Rattle.std.proofs.Common.{ap, sym, ◌∙◌}
use Rattle.std.specs.FinMap.{entries, entries-from_sorted}
use Rattle.mark_set.specs.Attributes.{text_cmp}
use Rattle.mark_set.proofs.attrs.Attrs.into_vec.Goals as goal

pub returns : goal.returns
returns c = sym (entries-from_sorted text_cmp c.self.inside.values.items c.self.invariant) ∙ ap entries c.self.view_is
