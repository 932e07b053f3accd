-- The markers that are saved.
use Rattle.std.proofs.Common.{◌≡◌, Bool, true, false, nat_cmp, refl, sym, ◌∙◌}
use Rattle.std.specs.Prelude.{Option, Some, None, IfSome, if◌then◌else◌}
use Rattle.std.specs.FinMap.{get, empty, get-empty}
use Rattle.mark_set.specs.Markers.{Marks, AreMarkers, IsMarker, durable_marks, is_durable, get-durable_marks}
use Rattle.mark_set.specs.declared.marker.Marker.{Marker}
use Rattle.mark_set.proofs.Ids.{same_gets}

-- they keep their form
pub still_markers : (marks : Marks) → AreMarkers marks → AreMarkers (durable_marks marks)
still_markers marks all id = rw (get-durable_marks marks id) (go (is_durable (get marks id)) (get marks id) (all id)) where
  go : (b : Bool) (o : Option Marker) → IfSome o (IsMarker id) → IfSome (if b then o else None) (IsMarker id)
  go true o h = h
  go false o h = tt

pub durable-empty : durable_marks empty ≡ empty
durable-empty = same_gets _ _ (λ q. get-durable_marks empty q ∙ none (get empty q) (get-empty nat_cmp q) ∙ sym (get-empty nat_cmp q)) where
  none : (o : Option Marker) → o ≡ None → (if is_durable o then o else None) ≡ None
  none None e = refl
  none (Some m) e = absurd cc
