-- What a set of paths has once a path is added.
use Rattle.std.proofs.Common.{◌≡◌, Bool, true, false, ◌||◌, refl, ap, ◌∙◌}
use Rattle.std.specs.FinSet.{contains-insert}
use Rattle.std.specs.Ordering.{eq_by_cmp, is_eq}
use Rattle.std.proofs.lemmas.Cmp.{tied_itself}
use Rattle.res_path.specs.Paths.{Names, path_cmp}
use Rattle.res_path.specs.PathLaws.{path_cmp_total}
use Rattle.ws_elem.specs.Rooms.{Room, has_room, with_room}

pub room_added : (r : Room) (p : Names) → has_room (with_room r p) p ≡ true
room_added r p = contains-insert path_cmp_total r p p ∙ ap (λ o. is_eq o || has_room r p) (tied_itself path_cmp_total p)

pub room_kept : (r : Room) (p q : Names) → has_room r q ≡ true → has_room (with_room r p) q ≡ true
room_kept r p q h = contains-insert path_cmp_total r p q ∙ ap (λ b. eq_by_cmp path_cmp q p || b) h ∙ or_true (eq_by_cmp path_cmp q p)
  where
    or_true : (b : Bool) → (b || true) ≡ true
    or_true true = refl
    or_true false = refl
