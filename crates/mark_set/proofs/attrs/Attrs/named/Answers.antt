use Rattle.std.proofs.Common.{◌≡◌, ap, sym, ◌∙◌}
use Rattle.std.specs.FinMap as map
use Rattle.std.specs.FinMap.{find, get-from_sorted}
use Rattle.mark_set.specs.Attributes.{text_cmp}
use Rattle.mark_set.proofs.attrs.Attrs.named.Goals as goal

pub returns : goal.returns
returns c =
    let bytes : c.as_bytes.result.now ≡ c.args.name.now = c.as_bytes.ensures.value in
    rw (← bytes) (c.found.ensures ∙ ap (find text_cmp c.as_bytes.result.now) c.as_slice.ensures.value
    ∙ sym (get-from_sorted text_cmp c.self.inside.values.items c.as_bytes.result.now c.self.invariant) ∙ ap (λ m. map.get m c.as_bytes.result.now) c.self.view_is)
