use Rattle.std.proofs.lemmas.Bool.Decides.{Decides-at}
use Rattle.mark_set.specs.Markers.{same_marker, same_marker-Decides}
use Rattle.mark_set.proofs.marker.Marker.is_same.Goals as goal

pub returns : goal.returns
returns c = Decides-at c.eq.result (same_marker c.args.self.now c.args.other.now) c.eq.ensures (same_marker-Decides c.args.self.now c.args.other.now)
