use Rattle.std.proofs.Common.{ap, ◌∙◌}
use Rattle.mark_set.specs.Markers.{same_marker}
use Rattle.output_commit.specs.Told.{attributes_of}
use Rattle.output_commit.proofs.Alone.{alone_is}
use Rattle.output_commit.proofs.telling.is_marker_of.Goals as goal

pub returns : goal.returns
returns c = c.eq.ensures ∙ ap (same_marker c.args.marker.now) (alone_is c.empty-alone.result c.add.new.marks c.args.id (attributes_of c.args.index c.args.problem.now) c.in-Some.expected.now c.in_ok-add.ensures c.in-Some.ensures.value)
