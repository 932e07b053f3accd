-- Equal stamps stay for equal contents where each element stood there before with its contents, or draws a fresh stamp.
use Rattle.std.proofs.Common.{◌≡◌, ℕ, ◌<◌, ◌≤◌, Bool, List, length, refl, sym, ap, ◌∙◌, subst, arith, ◌⊎◌, inl, inr}
use Rattle.std.specs.Prelude.{Option, Some, None, IfSome}
use Rattle.std.specs.FinMap.{FinMap, get, empty, get-empty, retain_keys, get-retain_keys, nat_cmp-IsAntisymmetric}
use Rattle.std.specs.Ordering.{nat_cmp}
use Rattle.mark_set.specs.declared.marker.Marker.{Marker}
use Rattle.res_path.specs.Paths.{Names}
use Rattle.ws_elem.specs.Trees.{Tree}
use Rattle.ws_elem.specs.Stamps.{SameContents}
use Rattle.ws_elem.specs.declared.element.Element.{Element}
use Rattle.ws_elem.specs.declared.kind.Kind.TheVariants.{File}
use Rattle.op_kind.specs.Resources.{Resources}
use Rattle.op_kind.specs.Stamps.{IsDrawn, IsKnown}
use Rattle.op_kind.proofs.Cases.{at_cond, if_map, if_there, at_some, absent_if}

-- two files with equal stamps have equal contents
abbrev pub Same : Element → Element → Type 0
Same e f = e.kind ≡ File → f.kind ≡ File → e.stamp ≡ f.stamp → e.bytes ≡ f.bytes

-- the element stands in the tree or on the shelf
pub record Stands (r : Resources) (e : Element) : Type 0 where
  pub path : Names
  pub there : (get r.tree path ≡ Some e) ⊎ (get r.shelf path ≡ Some e)

-- an element that stood there has these contents
pub record IsOld (r : Resources) (e : Element) : Type 0 where
  pub from : Element
  pub stood : Stands r from
  pub kind : from.kind ≡ e.kind
  pub stamp : from.stamp ≡ e.stamp
  pub bytes : from.bytes ≡ e.bytes

-- the element's numbers are drawn, and it is old or fresh
pub record Comes (Fresh : Element → Type 0) (r after : Resources) (e : Element) : Type 0 where
  pub drawn : IsDrawn after e
  pub whence : IsOld r e ⊎ Fresh e

-- the counters are no lower
abbrev pub IsLater : Resources → Resources → Type 0
IsLater r after =
    (r.next_node ≤ after.next_node) × (r.next_stamp ≤ after.next_stamp) × (r.next_marker ≤ after.next_marker) × (length r.partners ≤ length after.partners)

pub still : (r : Resources) → IsLater r r
still r = (omega arith, omega arith, omega arith, omega arith)

-- the resources after an operation have old elements and fresh ones
pub record Grows (Fresh : Element → Type 0) (r after : Resources) : Type 0 where
  pub later : IsLater r after
  pub tree : (p : Names) → IfSome (get after.tree p) (Comes Fresh r after)
  pub shelf : (p : Names) → IfSome (get after.shelf p) (Comes Fresh r after)
  -- fresh files have fresh stamps, and differ in them or are equal
  pub late : (e : Element) → Fresh e → e.kind ≡ File → r.next_stamp ≤ e.stamp
  pub same : (e f : Element) → Fresh e → Fresh f → Same e f

pub old_tree : (r : Resources) (p : Names) (e : Element) → get r.tree p ≡ Some e → IsOld r e
old_tree r p e h = record { from = e; stood = record { path = p; there = inl h }; kind = refl; stamp = refl; bytes = refl }

pub old_shelf : (r : Resources) (p : Names) (e : Element) → get r.shelf p ≡ Some e → IsOld r e
old_shelf r p e h = record { from = e; stood = record { path = p; there = inr h }; kind = refl; stamp = refl; bytes = refl }

-- ---- drawn numbers

pub below_more : {X : Type 0} (x : Option X) (n low high : ℕ) → low ≤ high → IfSome x (λ _. n < low) → IfSome x (λ _. n < high)
below_more None n low high l h = tt
below_more (Some y) n low high l h = omega arith

pub drawn_later : (r after : Resources) (e : Element) → IsLater r after → IsDrawn r e → IsDrawn after e
drawn_later r after e l d = record {
  node = let n : e.node < r.next_node = d.node in let m : r.next_node ≤ after.next_node = l.0 in omega arith;
  stamp = let n : e.stamp < r.next_stamp = d.stamp in let m : r.next_stamp ≤ after.next_stamp = l.1 in omega arith;
  desc_stamp = let n : e.attached.desc_stamp < r.next_stamp = d.desc_stamp in let m : r.next_stamp ≤ after.next_stamp = l.1 in omega arith;
  marks = λ id. below_more (get e.attached.marks id) id r.next_marker after.next_marker l.2 (d.marks id);
  syncs = λ number. below_more (get e.attached.syncs number) number (length r.partners) (length after.partners) l.3 (d.syncs number);
}

-- what has no markers and no bytes has none that aren't drawn
pub no_marks : (n id : ℕ) → IfSome (get {X = Marker} {R = nat_cmp} empty id) (λ _. id < n)
no_marks n id = absent_if (λ _. id < n) (get {X = Marker} {R = nat_cmp} empty id) (get-empty nat_cmp id)

pub no_bytes : (n number : ℕ) → IfSome (get {X = List ℕ} {R = nat_cmp} empty number) (λ _. number < n)
no_bytes n number = absent_if (λ _. number < n) (get {X = List ℕ} {R = nat_cmp} empty number) (get-empty nat_cmp number)

-- all its numbers are below n
abbrev pub Below : {X : Type 0} → ℕ → FinMap nat_cmp X → Type 0
Below n m = (id : ℕ) → IfSome (get m id) (λ _. id < n)

-- so they are where some are left out
pub kept_below : {X : Type 0} (n : ℕ) (m : FinMap nat_cmp X) (test : ℕ → Bool) → Below n m → Below n (retain_keys m test)
kept_below n m test all id = subst (λ y. IfSome y (λ _. id < n))
    (sym (get-retain_keys m test id (λ k tied. ap test (sym (nat_cmp-IsAntisymmetric id k tied)))))
    (at_cond (λ y. IfSome y (λ _. id < n)) (test id) (get m id) None (λ _. all id) (λ _. tt))

-- ---- what a known tree has against what stands there

known_same : (r : Resources) (t : Tree) → IsKnown r t → (p : Names) (e : Element) → get t p ≡ Some e → (f : Element) → Stands r f → Same e f
known_same r t k p e h f s = by s.there
  where
    in_one : (u : Tree) → SameContents t u → get u s.path ≡ Some f → Same e f
    in_one u same g = at_some (Same e) (get u s.path) f g (at_some (λ x. IfSome (get u s.path) (λ y. Same x y)) (get t p) e h (same p s.path))

    by : (get r.tree s.path ≡ Some f) ⊎ (get r.shelf s.path ≡ Some f) → Same e f
    by (inl g) = in_one r.tree k.tree g
    by (inr g) = in_one r.shelf k.shelf g

-- like an old one, or later than all that are drawn
against : (Fresh : Element → Type 0) (r after : Resources) → Grows Fresh r after → (e : Element) → e.stamp < r.next_stamp → ((f : Element) → Stands r f → Same e f)
    → (g : Element) → IsOld r g ⊎ Fresh g → Same e g
against Fresh r after w e drawn same g (inl old) k l is = same old.from old.stood k (old.kind ∙ l) (is ∙ sym old.stamp) ∙ old.bytes
against Fresh r after w e drawn same g (inr fresh) k l is = let late : r.next_stamp ≤ g.stamp = w.late g fresh l in absurd (omega arith)

pub known_kept : (Fresh : Element → Type 0) (r after : Resources) (t : Tree) → Grows Fresh r after → IsKnown r t → IsKnown after t
known_kept Fresh r after t w k = record {
  drawn = λ p. if_map (IsDrawn r) (IsDrawn after) (get t p)
      (λ e. drawn_later r after e w.later) (k.drawn p);
  tree = λ p q. if_there (λ e. IfSome (get after.tree q) (λ g. Same e g)) (get t p) (λ e h. in_one p e h (get after.tree q) (w.tree q));
  shelf = λ p q. if_there (λ e. IfSome (get after.shelf q) (λ g. Same e g)) (get t p) (λ e h. in_one p e h (get after.shelf q) (w.shelf q));
}
  where
    in_one : (p : Names) (e : Element) → get t p ≡ Some e → (x : Option Element) → IfSome x (Comes Fresh r after) → IfSome x (λ g. Same e g)
    in_one p e h x = if_map (Comes Fresh r after) (λ g. Same e g) x (λ g c.
        let d : IsDrawn r e = at_some (IsDrawn r) (get t p) e h (k.drawn p) in
        against Fresh r after w e d.stamp (known_same r t k p e h) g c.whence)

-- ---- and what stands there now against itself

turned : (e f : Element) → Same e f → Same f e
turned e f s k l is = sym (s l k (sym is))

stands_drawn : (r : Resources) → IsKnown r r.tree → IsKnown r r.shelf → (e : Element) → Stands r e → e.stamp < r.next_stamp
stands_drawn r k l e s = by s.there
  where
    by : (get r.tree s.path ≡ Some e) ⊎ (get r.shelf s.path ≡ Some e) → e.stamp < r.next_stamp
    by (inl h) = let d : IsDrawn r e = at_some (IsDrawn r) (get r.tree s.path) e h (k.drawn s.path) in d.stamp
    by (inr h) = let d : IsDrawn r e = at_some (IsDrawn r) (get r.shelf s.path) e h (l.drawn s.path) in d.stamp

stands_same : (r : Resources) → IsKnown r r.tree → IsKnown r r.shelf → (e : Element) → Stands r e → (f : Element) → Stands r f → Same e f
stands_same r k l e s = by s.there
  where
    by : (get r.tree s.path ≡ Some e) ⊎ (get r.shelf s.path ≡ Some e) → (f : Element) → Stands r f → Same e f
    by (inl h) = known_same r r.tree k s.path e h
    by (inr h) = known_same r r.shelf l s.path e h

pairs : (Fresh : Element → Type 0) (r after : Resources) → Grows Fresh r after → IsKnown r r.tree → IsKnown r r.shelf → (e g : Element) → IsOld r e ⊎ Fresh e
    → IsOld r g ⊎ Fresh g → Same e g
pairs Fresh r after w k l e g (inl old) c =
    let same : Same old.from g = against Fresh r after w old.from (stands_drawn r k l old.from old.stood) (stands_same r k l old.from old.stood) g c in
    λ i j is. sym old.bytes ∙ same (old.kind ∙ i) j (old.stamp ∙ is)
pairs Fresh r after w k l e g (inr fresh) (inl old) =
    let same : Same old.from e = against Fresh r after w old.from (stands_drawn r k l old.from old.stood) (stands_same r k l old.from old.stood) e (inr fresh) in
    λ i j is. sym (sym old.bytes ∙ same (old.kind ∙ j) i (old.stamp ∙ sym is))
pairs Fresh r after w k l e g (inr fresh) (inr also) = w.same e g fresh also

-- a tree of what stands there now is known
stays_known : (Fresh : Element → Type 0) (r after : Resources) → Grows Fresh r after → IsKnown r r.tree → IsKnown r r.shelf → (t : Tree)
    → ((p : Names) → IfSome (get t p) (Comes Fresh r after)) → IsKnown after t
stays_known Fresh r after w k l t c = record {
  drawn = λ p. if_map (Comes Fresh r after) (IsDrawn after) (get t p) (λ e x. x.drawn) (c p);
  tree = λ p q. in_one p (get after.tree q) (w.tree q);
  shelf = λ p q. in_one p (get after.shelf q) (w.shelf q);
}
  where
    in_one : (p : Names) (y : Option Element) → IfSome y (Comes Fresh r after) → IfSome (get t p) (λ e. IfSome y (λ g. Same e g))
    in_one p y d = if_map (Comes Fresh r after) (λ e. IfSome y (λ g. Same e g)) (get t p) (λ e x.
        if_map (Comes Fresh r after) (λ g. Same e g) y (λ g z. pairs Fresh r after w k l e g x.whence z.whence) d) (c p)

pub tree_known : (Fresh : Element → Type 0) (r after : Resources) → Grows Fresh r after → IsKnown r r.tree → IsKnown r r.shelf → IsKnown after after.tree
tree_known Fresh r after w k l = stays_known Fresh r after w k l after.tree w.tree

pub shelf_known : (Fresh : Element → Type 0) (r after : Resources) → Grows Fresh r after → IsKnown r r.tree → IsKnown r r.shelf → IsKnown after after.shelf
shelf_known Fresh r after w k l = stays_known Fresh r after w k l after.shelf w.shelf

-- ---- what stays as it was

pub stays_tree : (Fresh : Element → Type 0) (r after : Resources) → IsLater r after → IsKnown r r.tree → (p : Names)
    → IfSome (get r.tree p) (Comes Fresh r after)
stays_tree Fresh r after l k p = if_there (Comes Fresh r after) (get r.tree p) (λ e is. record {
  drawn = drawn_later r after e l (at_some (IsDrawn r) (get r.tree p) e is (k.drawn p));
  whence = inl (old_tree r p e is);
})

pub stays_shelf : (Fresh : Element → Type 0) (r after : Resources) → IsLater r after → IsKnown r r.shelf → (p : Names)
    → IfSome (get r.shelf p) (Comes Fresh r after)
stays_shelf Fresh r after l k p = if_there (Comes Fresh r after) (get r.shelf p) (λ e is. record {
  drawn = drawn_later r after e l (at_some (IsDrawn r) (get r.shelf p) e is (k.drawn p));
  whence = inl (old_shelf r p e is);
})
