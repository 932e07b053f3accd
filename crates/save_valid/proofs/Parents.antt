-- Elements and their parents.
use Rattle.std.proofs.Common.{◌≡◌, ◌≢◌, ◌↔◌, Bool, [], ◌∷◌, length, ap, ◌∙◌, subst}
use Rattle.std.specs.Prelude.{Option, Some, None, IsTrue, IsSomeAnd}
use Rattle.std.specs.FinMap.{get}
use Rattle.res_path.specs.Paths.{Names, parent, parent_of}
use Rattle.ws_elem.specs.declared.element.Element.{Element}
use Rattle.ws_elem.specs.declared.kind.Kind.TheVariants.{Project, Root}
use Rattle.ws_elem.specs.Trees.{Tree}
use Rattle.save_valid.specs.Places.{IsOpen, IsPlaced}

pub root_placed : (t : Tree) (p : Names) (e : Element) → None ≡ parent_of p → (b : Bool) → IsTrue b ↔ (e.kind ≢ Project) → IsTrue b ↔ IsPlaced t p e
root_placed t [] e none b h = h
root_placed t (name ∷ p) e none b h = absurd cc

pub below_placed : (t : Tree) (p : Names) (e : Element) (q : Names) → Some q ≡ parent_of p → (f : Option Element) → f ≡ get t q
    → (b : Bool) → IsTrue b ↔ ((e.kind ≢ Root) × IsSomeAnd f IsOpen × ((e.kind ≡ Project) ↔ (length p ≡ 1))) → IsTrue b ↔ IsPlaced t p e
below_placed t [] e q some f there b h = absurd cc
below_placed t (name ∷ p) e q some f there b h =
    let same : q ≡ parent (name ∷ p) = cc in
    let at : f ≡ get t (parent (name ∷ p)) = there ∙ ap (get t) same in
    subst (λ (x : Option Element). IsTrue b ↔ ((e.kind ≢ Root) × IsSomeAnd x IsOpen × ((e.kind ≡ Project) ↔ (length (name ∷ p) ≡ 1)))) at h
