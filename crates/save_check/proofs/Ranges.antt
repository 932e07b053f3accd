-- What is below its counters has room in its fields.
use Rattle.std.proofs.Common.{◌<◌, ◌≤◌, ◌-◌, ◌^◌, ℕ, Bool, true, false, cond, List, [], ◌∷◌, ◌++◌, length, map, arith}
use Rattle.std.specs.Prelude.{Option, Some, None, IfSome, not}
use Rattle.std.specs.List.{AllByRecursion}
use Rattle.std.specs.FinMap.{get, entries, values}
use Rattle.mark_set.specs.Markers.{is_transient}
use Rattle.mark_set.specs.declared.marker.Marker.{Marker}
use Rattle.ws_elem.specs.declared.element.Element.{Element}
use Rattle.ws_elem.specs.Trees.{Tree}
use Rattle.ws_durable.specs.Saved.{Saved, SavedBuilt, SavedKept, built_trees, kept_trees, with_tree}
use Rattle.save_elem.specs.declared.elem.Mark.{Mark}
use Rattle.save_elem.specs.declared.elem.Sync.{Sync}
use Rattle.save_elem.specs.Fits.{InRange}
use Rattle.save_elem.specs.Telling.{told, told_mark, told_sync, saved}
use Rattle.save_valid.specs.Rules.{Counters, Each, IsBelow, counters_of}
use Rattle.save_format.specs.Valid.{IsLawful}
use Rattle.save_check.specs.Inside.Tellable.{AreInRange, IsInRange}

-- ---- an element

marks_in_range : (top : ℕ) → top ≤ 2 ^ 63 - 1 → (ms : List Marker) → AllByRecursion (λ m. m.id < top) ms → AllByRecursion (λ (m : Mark). m.id < 2 ^ 64) (map told_mark (saved ms))
marks_in_range top low [] h = tt
marks_in_range top low (m ∷ ms) h = by (not (is_transient m)) (marks_in_range top low ms h.1) where
  by : (b : Bool) → AllByRecursion (λ (m : Mark). m.id < 2 ^ 64) (map told_mark (saved ms)) → AllByRecursion (λ (m : Mark). m.id < 2 ^ 64) (map told_mark (cond b (m ∷ saved ms) (saved ms)))
  by true rest = let below = h.0 in (omega (arith, below, low), rest)
  by false rest = rest

syncs_in_range : (top : ℕ) → top < 2 ^ 32 → (es : List (ℕ × List ℕ)) → AllByRecursion (λ s. s.0 < top) es → AllByRecursion (λ (s : Sync). s.partner < 2 ^ 32) (map told_sync es)
syncs_in_range top low [] h = tt
syncs_in_range top low (e ∷ es) h = let below = h.0 in (omega (arith, below, low), syncs_in_range top low es h.1)

-- counters that are low enough for what is below them
pub record AreLow (c : Counters) : Type 0 where
  pub node : c.node ≤ 2 ^ 63 - 1
  pub stamp : c.stamp ≤ 2 ^ 63 - 1
  pub marker : c.marker ≤ 2 ^ 63 - 1
  pub partners : c.partners < 2 ^ 32

element_in_range : (c : Counters) → AreLow c → (e : Element) → IsBelow c e → InRange (told e)
element_in_range c low e h = record {
  node = omega (arith, h.node, low.node);
  stamp = omega (arith, h.stamp, low.stamp);
  desc_stamp = omega (arith, h.desc_stamp, low.stamp);
  marks = marks_in_range c.marker low.marker (values e.attached.marks) h.marks;
  syncs = syncs_in_range c.partners low.partners (entries e.attached.syncs) h.syncs;
}

-- ---- trees

some_in_range : (c : Counters) → AreLow c → (x : Option Element) → IfSome x (IsBelow c) → IfSome x (λ e. InRange (told e))
some_in_range c low None h = tt
some_in_range c low (Some e) h = element_in_range c low e h

tree_in_range : (c : Counters) → AreLow c → (t : Tree) → Each (λ _. IsBelow c) t → AreInRange t
tree_in_range c low t h p = some_in_range c low (get t p) (h p)

all_front : {A : Type 0} (P : A → Type 0) (xs ys : List A) → AllByRecursion P (xs ++ ys) → AllByRecursion P xs
all_front P [] ys h = tt
all_front P (x ∷ xs) ys h = (h.0, all_front P xs ys h.1)

all_back : {A : Type 0} (P : A → Type 0) (xs ys : List A) → AllByRecursion P (xs ++ ys) → AllByRecursion P ys
all_back P [] ys h = h
all_back P (x ∷ xs) ys h = all_back P xs ys h.1

module _ (c : Counters) (low : AreLow c) where
  built_in_range : (bs : List SavedBuilt) → AllByRecursion (Each (λ _. IsBelow c)) (built_trees bs) → AllByRecursion (λ b. AreInRange b.tree) bs
  built_in_range [] h = tt
  built_in_range (b ∷ bs) h = (tree_in_range c low b.tree h.0, built_in_range bs h.1)

  kept_in_range : (ks : List SavedKept) → AllByRecursion (Each (λ _. IsBelow c)) (kept_trees ks) → AllByRecursion (λ k. IfSome k.tree AreInRange) ks
  kept_in_range [] h = tt
  kept_in_range (k ∷ ks) h = by k.tree (kept_in_range ks) h where
    by : (x : Option Tree) → (AllByRecursion (Each (λ _. IsBelow c)) (kept_trees ks) → AllByRecursion (λ k. IfSome k.tree AreInRange) ks) → AllByRecursion (Each (λ _. IsBelow c)) (with_tree x (kept_trees ks))
        → IfSome x AreInRange × AllByRecursion (λ k. IfSome k.tree AreInRange) ks
    by None rest g = (tt, rest g)
    by (Some t) rest g = (tree_in_range c low t g.0, rest g.1)

-- ---- a state

pub lawful_in_range : (d : Saved) → length d.partners < 2 ^ 32 → IsLawful d → IsInRange d
lawful_in_range d few h =
    let c = counters_of d in
    let low : AreLow c = record { node = h.next_node; stamp = h.next_stamp; marker = h.next_marker; partners = few } in
    record {
      next_node = omega (arith, h.next_node);
      next_stamp = omega (arith, h.next_stamp);
      next_marker = omega (arith, h.next_marker);
      tree = tree_in_range c low d.tree h.below.1.0;
      shelf = tree_in_range c low d.shelf h.below.0;
      built = built_in_range c low d.built (all_front (Each (λ _. IsBelow c)) (built_trees d.built) (kept_trees d.kept) h.below.1.1);
      kept = kept_in_range c low d.kept (all_back (Each (λ _. IsBelow c)) (built_trees d.built) (kept_trees d.kept) h.below.1.1);
    }
