use Rattle.std.proofs.Common.{◌≡◌, false, ap, sym, ◌∙◌}
use Rattle.std.specs.FinMap.{from_entries, insert}
use Rattle.mark_set.specs.Markers.{is_transient}
use Rattle.mark_set.specs.declared.marker.Marker.{Marker}
use Rattle.mark_set.proofs.Ids.{one_put}
use Rattle.mark_set.proofs.walks.keep.Goals as goal

pub returns-in_ok-insert : goal.returns-in_ok-insert
returns-in_ok-insert c =
    let es = c.args.kept.now.entries in
    let lasts : is_transient c.args.marker.now ≡ false = sym c.is_transient.ensures ∙ c.if-is_transient.false in
    rw lasts (one_put es c.insert.new.self.entries c.args.id c.in_ok-copy.field-0 c.in_ok-insert.ensures.updates.0 ∙ ap (λ (m : Marker). insert (from_entries es) c.args.id m) c.in_ok-copy.ensures)
