-- Edits and the room that they take.
use Rattle.std.proofs.Common.{◌≡◌, ℕ, ◌+◌, ◌<◌, true, List, [], ◌∷◌, ◌++◌, length, take, get_or, sym, ap, ◌∙◌, subst, add-one}
use Rattle.std.specs.Prelude.{Option, Some, None}
use Rattle.std.proofs.lemmas.List.{append-nil}
use Rattle.std.specs.FinMap.{get}
use Rattle.std.proofs.Math.Seq.{take-suc, take-length, take-append_seam}
use Rattle.res_path.specs.Paths.{Names}
use Rattle.ws_elem.specs.declared.element.Element.{Element}
use Rattle.ws_elem.specs.Rooms.{Room, has_room, with_room}
use Rattle.ws_elem.proofs.Rooms.{room_added, room_kept}
use Rattle.ws_elem.specs.Trees.{Tree, set_at}
use Rattle.op_kind.specs.Partners.{Partners, with_partner}
use Rattle.op_plan.specs.Edits.{Edits, HasRooms, KeepsRoom}
use Rattle.op_plan.specs.Inside.Lists.{undoing}

pub rooms_kept : (r s : Room) (cs : Edits) → KeepsRoom r s → HasRooms r cs → HasRooms s cs
rooms_kept r s [] k h = tt
rooms_kept r s (c ∷ cs) k h = (k c.0 h.0, rooms_kept r s cs k h.1)

rooms_push : (r : Room) (cs : Edits) (c : Names × Option Element) → HasRooms r cs → has_room r c.0 ≡ true → HasRooms r (cs ++ c ∷ [])
rooms_push r [] c h g = (g, tt)
rooms_push r (d ∷ cs) c h g = (h.0, rooms_push r cs c h.1 g)

-- the room of the first edits, and of one more
pub rooms_more : (r s : Room) (cs : Edits) (i : ℕ) (c : Names × Option Element) → i < length cs → c ≡ get_or cs i c → s ≡ with_room r c.0
    → HasRooms r (take i cs) → HasRooms s (take (i + 1) cs)
rooms_more r s cs i c lt is e h =
    let keeps : KeepsRoom r s = λ p g. subst (λ z. has_room z p ≡ true) (sym e) (room_kept r c.0 p g) in
    let added : has_room s c.0 ≡ true = subst (λ z. has_room z c.0 ≡ true) (sym e) (room_added r c.0) in
    subst (HasRooms s) (ap (λ x. take i cs ++ x ∷ []) is ∙ sym (take-suc cs i c lt) ∙ ap (λ n. take n cs) (sym (add-one i)))
    (rooms_push s (take i cs) c (rooms_kept r s (take i cs) keeps h) added)

pub keeps_more : (o r s : Room) (p : Names) → KeepsRoom o r → s ≡ with_room r p → KeepsRoom o s
keeps_more o r s p k e q h = subst (λ z. has_room z q ≡ true) (sym e) (room_kept r p q (k q h))

pub keeps_itself : (r : Room) → KeepsRoom r r
keeps_itself r p h = h

pub keeps_same : (o r s : Room) → s ≡ r → KeepsRoom o r → KeepsRoom o s
keeps_same o r s e k p h = subst (λ z. has_room z p ≡ true) (sym e) (k p h)

-- what was added to nothing is all there is
pub all_undone : (t : Tree) (cs : Edits) → undoing t cs ++ [] ≡ undoing t cs
all_undone t cs = append-nil (undoing t cs)

rooms_push_all : (r : Room) (cs ds : Edits) → HasRooms r cs → HasRooms r ds → HasRooms r (cs ++ ds)
rooms_push_all r [] ds h g = g
rooms_push_all r (c ∷ cs) ds h g = (h.0, rooms_push_all r cs ds h.1 g)

-- undoing takes the same room
pub rooms_undoing : (r : Room) (t : Tree) (cs : Edits) → HasRooms r cs → HasRooms r (undoing t cs)
rooms_undoing r t [] h = tt
rooms_undoing r t (c ∷ cs) h = rooms_push_all r (undoing (set_at t c.0 c.1) cs) ((c.0, get t c.0) ∷ []) (rooms_undoing r (set_at t c.0 c.1) cs h.1) (h.0, tt)

-- a partner that was registered as the last is taken away
pub partners_back : (partners : Partners) (partner : Option (List ℕ)) → take (length partners) (with_partner partners partner) ≡ partners
partners_back partners None = take-length partners
partners_back partners (Some name) = take-append_seam partners (name ∷ [])
