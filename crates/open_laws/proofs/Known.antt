-- What is known of a tree that may be kept: its numbers are drawn, and equal stamps mean equal contents.
use Rattle.std.proofs.Common.{◌<◌, ℕ, List, [], ◌∷◌, map, length, subst}
use Rattle.std.specs.Prelude.{Option, Some, None, IfSome}
use Rattle.std.specs.Cmp.{nat_cmp_total}
use Rattle.std.specs.List.{AllByRecursion}
use Rattle.std.specs.FinMap.{get, entries, nat_cmp-IsAntisymmetric}
use Rattle.mark_set.specs.declared.marker.Marker.{Marker}
use Rattle.ws_elem.specs.declared.element.Element.{Element}
use Rattle.ws_elem.specs.Stamps.{SameContents}
use Rattle.ws_elem.specs.Trees.{Tree}
use Rattle.op_kind.specs.Stamps.{IsDrawn, IsKnown}
use Rattle.op_kind.proofs.Cases.{at_some, if_there}
use Rattle.save_elem.proofs.Orders.{from_all}
use Rattle.ws_durable.specs.Saved.{Saved, maps}
use Rattle.save_elem.specs.Sound.{IsSaved, IsSound}
use Rattle.save_build.specs.Told.{AreFit, IsFit}
use Rattle.save_valid.specs.Rules.{Each, IsBelow, counters_of}
use Rattle.ws_core.specs.Opened.{resources_of}

all_mapped : {X Y : Type 0} (P : Y → Type 0) (f : X → Y) (xs : List X) → AllByRecursion P (map f xs) → AllByRecursion (λ x. P (f x)) xs
all_mapped P f [] h = tt
all_mapped P f (x ∷ xs) h = (h.0, all_mapped P f xs h.1)

-- a marker stands under its own id
own_id : (n id : ℕ) (x : Option Marker) → IfSome x (IsSaved id) → IfSome x (λ m. m.id < n) → IfSome x (λ _. id < n)
own_id n id None h g = tt
own_id n id (Some m) h g = subst (λ k. k < n) h.own g

drawn : (d : Saved) (e : Element) → IsSound e → IsBelow (counters_of d) e → IsDrawn (resources_of d) e
drawn d e sound below = record {
  node = below.node;
  stamp = below.stamp;
  desc_stamp = below.desc_stamp;
  marks = λ id. own_id d.next_marker id (get e.attached.marks id) (sound.marks id)
      (from_all nat_cmp_total nat_cmp-IsAntisymmetric (λ _ (m : Marker). m.id < d.next_marker) e.attached.marks
      (all_mapped (λ (m : Marker). m.id < d.next_marker) (λ (entry : ℕ × Marker). entry.1) (entries e.attached.marks) below.marks) id);
  syncs = from_all nat_cmp_total nat_cmp-IsAntisymmetric (λ number _. number < length d.partners) e.attached.syncs below.syncs;
}

-- a tree of which this is told, against all maps that are kept
pub known : (d : Saved) (t : Tree) → AreFit t → Each (λ _. IsBelow (counters_of d)) t → AllByRecursion (SameContents t) (maps d) → IsKnown (resources_of d) t
known d t fit below alike = record {
  drawn = λ p. if_there (IsDrawn (resources_of d)) (get t p) (λ e h.
      drawn d e (at_some (IsFit p) (get t p) e h (fit p)).sound (at_some (IsBelow (counters_of d)) (get t p) e h (below p)));
  tree = alike.1.0;
  shelf = alike.0;
}

pub all_known : (d : Saved) (ts : List Tree) → AllByRecursion AreFit ts → AllByRecursion (Each (λ _. IsBelow (counters_of d))) ts
    → AllByRecursion (λ t. AllByRecursion (SameContents t) (maps d)) ts → AllByRecursion (IsKnown (resources_of d)) ts
all_known d [] fit below alike = tt
all_known d (t ∷ ts) fit below alike = (known d t fit.0 below.0 alike.0, all_known d ts fit.1 below.1 alike.1)
