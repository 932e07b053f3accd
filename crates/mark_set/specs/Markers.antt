-- Markers: a finite map from ids to markers.
use Rattle.std.specs.Prelude.{◌≡◌, ℕ, Bool as Truth, false, not, ◌&&◌, nat_eq, List, filter, Option, Some, None, IfSome, codes, if◌then◌else◌, refl}
use Rattle.std.specs.Bool.{Decides}
use Rattle.std.specs.Ordering.{nat_cmp}
use Rattle.std.specs.Cmp.{IsEquivalence, unsigned_Decides}
use Rattle.std.specs.Cmp.Lexicographic.{pointwise}
use Rattle.std.specs.FinMap.{FinMap, empty, entries, same_entries_map, get, keys, retain_keys, get-retain_keys, nat_cmp-IsAntisymmetric}
use Rattle.std.proofs.Common.{ap, sym}
use Rattle.std.proofs.lemmas.Bool.Decides.{Decides-and}
use Rattle.std.proofs.lemmas.Slice.Eq.{bytes_eq-Decides, slice_eq-Decides}
use Rattle.mark_set.specs.Attributes.{AreAttributes, with_value, with_values, same_attributes, same_attributes-Decides}
use Rattle.mark_set.specs.Equivalences.{decided-IsEquivalence}
use Rattle.mark_set.specs.Forms.{IsName}
use Rattle.mark_set.specs.declared.marker.Marker.{Marker}
use Rattle.mark_set.specs.declared.value.Value.{Value}
use Rattle.mark_set.specs.declared.value.Value.TheVariants.{Int, Bool, Text}
use Rattle.mark_set.specs.declared.value.RawValue.{RawValue}

-- the markers of one resource, by id
abbrev pub Marks : Type 0
Marks = FinMap nat_cmp Marker

-- a marker made of these
abbrev pub new_marker : ℕ → List ℕ → List (List ℕ × RawValue) → Marker
new_marker id mark_type attributes = record { id = id; mark_type = mark_type; attrs = with_values empty attributes }

-- the marker with this value of one attribute, or without it
abbrev pub with_attribute : Marker → List ℕ → Option RawValue → Marker
with_attribute marker name value = record marker { attrs = with_value marker.attrs name value }

-- whether there is a value, and it is the truth value true
abbrev pub is_true : Option Value → Truth
is_true None = false
is_true (Some (Int _)) = false
is_true (Some (Bool b)) = b
is_true (Some (Text _)) = false

-- a transient marker isn't saved
abbrev pub is_transient : Marker → Truth
is_transient marker = is_true (get marker.attrs (codes "transient"))

-- whether a marker is there and is saved
abbrev pub is_durable : Option Marker → Truth
is_durable None = false
is_durable (Some marker) = not (is_transient marker)

-- the markers that are saved
unfoldable pub durable_marks : Marks → Marks
durable_marks marks = retain_keys marks (λ id. is_durable (get marks id))

-- a marker is kept or is left out, as it is
pub get-durable_marks : (marks : Marks) (id : ℕ) → get (durable_marks marks) id ≡ (if is_durable (get marks id) then get marks id else None)
unfolding durable_marks
get-durable_marks marks id = get-retain_keys marks (λ k. is_durable (get marks k)) id (λ k tied. ap (λ (x : ℕ). is_durable (get marks x)) (sym (nat_cmp-IsAntisymmetric id k tied)))

-- whether a marker is there and has the type
abbrev pub has_type : List ℕ → Option Marker → Truth
has_type mark_type None = false
has_type mark_type (Some marker) = pointwise nat_eq marker.mark_type mark_type

-- the ids of the markers of one type, in order
unfoldable pub ids_of_type : List ℕ → Marks → List ℕ
ids_of_type mark_type marks = filter (λ id. has_type mark_type (get marks id)) (keys marks)

-- a marker under its own id, with a type, names and values of their form
pub record IsMarker (id : ℕ) (marker : Marker) : Type 0 where
  pub own : marker.id ≡ id
  pub named : IsName marker.mark_type
  pub attributes : AreAttributes marker.attrs

-- every marker has its form
abbrev pub AreMarkers : Marks → Type 0
AreMarkers marks = (id : ℕ) → IfSome (get marks id) (IsMarker id)

-- whether two markers are the same
abbrev pub same_marker : Marker → Marker → Truth
same_marker a b = nat_eq a.id b.id && (pointwise nat_eq a.mark_type b.mark_type && same_attributes a.attrs b.attrs)

-- it is equality
pub same_marker-Decides : (a b : Marker) → Decides (same_marker a b) (a ≡ b)
same_marker-Decides a b =
    let all = Decides-and _ _ (unsigned_Decides a.id b.id) (Decides-and _ _ (bytes_eq-Decides a.mark_type b.mark_type) (same_attributes-Decides a.attrs b.attrs)) in (
      λ t. let parts = all.0 t in λ i. record { id = parts.0 i; mark_type = parts.1.0 i; attrs = parts.1.1 i },
      λ e. all.1 (ap (λ (m : Marker). m.id) e, (ap (λ (m : Marker). m.mark_type) e, ap (λ (m : Marker). m.attrs) e)),
    )

-- whether two entries have the same id and the same marker
abbrev pub same_entry : ℕ × Marker → ℕ × Marker → Truth
same_entry a b = nat_eq a.0 b.0 && same_marker a.1 b.1

-- whether the same ids have the same markers
unfoldable pub same_marks : Marks → Marks → Truth
same_marks a b = pointwise same_entry (entries a) (entries b)

same_entry-Decides : (a b : ℕ × Marker) → Decides (same_entry a b) (a ≡ b)
same_entry-Decides a b =
    let both = Decides-and _ _ (unsigned_Decides a.0 b.0) (same_marker-Decides a.1 b.1) in
    (λ t. let parts = both.0 t in λ i. (parts.0 i, parts.1 i), λ e. both.1 (ap (λ (p : ℕ × Marker). p.0) e, ap (λ (p : ℕ × Marker). p.1) e))

-- it is equality
pub same_marks-Decides : (a b : Marks) → Decides (same_marks a b) (a ≡ b)
unfolding same_marks
same_marks-Decides a b =
    let lists = slice_eq-Decides same_entry-Decides (entries a) (entries b) (same_marks a b) refl in
    (λ t. same_entries_map a b (lists.0 t), λ e. lists.1 (ap entries e))

pub same_marks-IsEquivalence : IsEquivalence same_marks
same_marks-IsEquivalence = decided-IsEquivalence same_marks-Decides
