-- The tests of elements decide that they are equal.
use Rattle.std.proofs.Common.{◌≡◌, true, refl, ap}
use Rattle.std.specs.Prelude.{◌==◌, Option, Some, None}
use Rattle.std.specs.Bool.{Decides}
use Rattle.std.specs.Cmp.{booleans_Decides}
use Rattle.std.proofs.lemmas.Bool.Decides.{Decides-and, Decides-eqb}
use Rattle.std.proofs.lemmas.Slice.Eq.{bytes_eq-Decides}
use Rattle.mark_set.specs.Markers.{same_marks-Decides}
use Rattle.sync_set.specs.Syncs.{same_syncs-Decides}
use Rattle.ws_elem.specs.declared.kind.Kind.{Kind}
use Rattle.ws_elem.specs.declared.kind.Kind.TheVariants.{File, Folder, Project, Root}
use Rattle.ws_elem.specs.declared.attached.Attachments.{Attachments}
use Rattle.ws_elem.specs.declared.element.Element.{Element}
use Rattle.ws_elem.specs.Kinds.{kind_number}
use Rattle.tree_rows.specs.Same.{same_attachments, same_element, same_entry}

kind_by : (a b : Kind) → (kind_number a == kind_number b) ≡ true → a ≡ b
kind_by File File e = refl
kind_by File Folder e = absurd cc
kind_by File Project e = absurd cc
kind_by File Root e = absurd cc
kind_by Folder File e = absurd cc
kind_by Folder Folder e = refl
kind_by Folder Project e = absurd cc
kind_by Folder Root e = absurd cc
kind_by Project File e = absurd cc
kind_by Project Folder e = absurd cc
kind_by Project Project e = refl
kind_by Project Root e = absurd cc
kind_by Root File e = absurd cc
kind_by Root Folder e = absurd cc
kind_by Root Project e = absurd cc
kind_by Root Root e = refl

kind_itself : (a b : Kind) → a ≡ b → (kind_number a == kind_number b) ≡ true
kind_itself a b e = (Decides-eqb (kind_number a) (kind_number b)).1 (ap kind_number e)

kinds : (a b : Kind) → Decides (kind_number a == kind_number b) (a ≡ b)
kinds a b = (kind_by a b, kind_itself a b)

attachments : (a b : Attachments) → Decides (same_attachments a b) (a ≡ b)
attachments a b =
    let all = Decides-and _ _ (Decides-eqb a.desc_stamp b.desc_stamp) (Decides-and _ _ (bytes_eq-Decides a.desc b.desc) (Decides-and _ _ (same_marks-Decides a.marks b.marks) (same_syncs-Decides a.syncs b.syncs))) in (
      λ t. let p = all.0 t in λ i. record { desc_stamp = p.0 i; desc = p.1.0 i; marks = p.1.1.0 i; syncs = p.1.1.1 i },
      λ e. all.1 (ap (λ (x : Attachments). x.desc_stamp) e, (ap (λ (x : Attachments). x.desc) e, (ap (λ (x : Attachments). x.marks) e, ap (λ (x : Attachments). x.syncs) e))),
    )

elements : (a b : Element) → Decides (same_element a b) (a ≡ b)
elements a b =
    let numbers = Decides-and _ _ (Decides-eqb a.node b.node) (Decides-eqb a.stamp b.stamp) in
    let form = Decides-and _ _ (kinds a.kind b.kind) (Decides-and _ _ (booleans_Decides a.opened b.opened) (booleans_Decides a.derived b.derived)) in
    let all = Decides-and _ _ numbers (Decides-and _ _ form (Decides-and _ _ (attachments a.attached b.attached) (bytes_eq-Decides a.bytes b.bytes))) in (
      λ t. let p = all.0 t in λ i. record { kind = p.1.0.0 i; opened = p.1.0.1.0 i; derived = p.1.0.1.1 i; node = p.0.0 i; stamp = p.0.1 i; bytes = p.1.1.1 i; attached = p.1.1.0 i },
      λ e. all.1 (
        (ap (λ (x : Element). x.node) e, ap (λ (x : Element). x.stamp) e),
        (
          (ap (λ (x : Element). x.kind) e, (ap (λ (x : Element). x.opened) e, ap (λ (x : Element). x.derived) e)),
          (ap (λ (x : Element). x.attached) e, ap (λ (x : Element). x.bytes) e),
        ),
      ),
    )

pub equal_by : (a b : Option Element) → same_entry a b ≡ true → a ≡ b
equal_by None None e = refl
equal_by None (Some b) e = absurd cc
equal_by (Some a) None e = absurd cc
equal_by (Some a) (Some b) e = ap (λ (x : Element). Some x) ((elements a b).0 e)

pub equal_so : (a b : Option Element) → a ≡ b → same_entry a b ≡ true
equal_so None None e = refl
equal_so None (Some b) e = absurd cc
equal_so (Some a) None e = absurd cc
equal_so (Some a) (Some b) e = (elements a b).1 cc

pub ruleset decided = (equal_by, equal_so)
