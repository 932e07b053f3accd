use Rattle.std.specs.FinMap.{entries-from_sorted}
use Rattle.mark_set.specs.Attributes.{text_cmp}
use Rattle.mark_set.proofs.attrs.Attrs.of.Goals as goal

pub returns : goal.returns
returns c = entries-from_sorted text_cmp c.args.values.items c.requires
