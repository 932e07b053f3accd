use Rattle.std.proofs.Common.{◌≡◌}
use Rattle.std.specs.List.{list_any}
use Rattle.mark_set.specs.Markers.{is_transient}
use Rattle.ws_lasting.specs.Inside.{some_transient}
use Rattle.ws_lasting.proofs.elements.some_transient.Given as goal

-- no marker that was looked at is transient
abbrev pub invariant-loop-marker : goal.invariant-loop-marker
invariant-loop-marker l = list_any is_transient l.marker-iterator ≡ some_transient l.marks
