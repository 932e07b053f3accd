-- Markers that are saved.
use Rattle.std.proofs.Common.{◌≡◌, ◌↔◌, ℕ, Bool, false, List, [], ◌∷◌, map}
use Rattle.std.specs.Prelude.{Option, Some, None, IfSome, IsTrue}
use Rattle.std.specs.Cmp.{nat_cmp_total}
use Rattle.std.specs.List.{AllByRecursion}
use Rattle.std.specs.FinMap.{get, entries, values, nat_cmp-IsAntisymmetric}
use Rattle.mark_set.specs.Markers.{Marks, IsMarker, AreMarkers, is_transient}
use Rattle.mark_set.specs.declared.marker.Marker.{Marker}
use Rattle.save_elem.specs.Sound.{IsSaved, AreSaved}
use Rattle.save_elem.proofs.Items.{saved_entries}
use Rattle.save_elem.proofs.Orders.{from_all}

abbrev IsLasting : Marker → Type 0
IsLasting m = is_transient m ≡ false

entries_last : (es : List (ℕ × Marker)) → AllByRecursion IsLasting (map (λ e. e.1) es) → AllByRecursion (λ e. IsLasting e.1) es
entries_last [] h = tt
entries_last (e ∷ es) h = (h.0, entries_last es h.1)

both : (id : ℕ) (x : Option Marker) → IfSome x (IsMarker id) → IfSome x IsLasting → IfSome x (IsSaved id)
both id None is lasts = tt
both id (Some m) is lasts = record { own = is.own; named = is.named; attributes = is.attributes; lasting = lasts }

saved_from : (marks : Marks) → AreMarkers marks → AllByRecursion IsLasting (values marks) → AreSaved marks
saved_from marks are h id = both id (get marks id) (are id) (from_all nat_cmp_total nat_cmp-IsAntisymmetric (λ _ m. IsLasting m) marks (entries_last (entries marks) h) id)

values_last : (es : List (ℕ × Marker)) → AllByRecursion (λ e. IsSaved e.0 e.1) es → AllByRecursion IsLasting (map (λ e. e.1) es)
values_last [] h = tt
values_last (e ∷ es) h = (h.0.lasting, values_last es h.1)

-- markers of their form are saved where none is transient
pub saved_where : (marks : Marks) (b : Bool) → AreMarkers marks → (IsTrue b ↔ AllByRecursion IsLasting (values marks)) → IsTrue b ↔ AreSaved marks
saved_where marks b are h = (λ u. saved_from marks are (h.0 u), λ s. h.1 (values_last (entries marks) (saved_entries marks s)))
