-- A project that is opened or closed.
use Rattle.std.proofs.Common.{◌≡◌, true, false, cond, not, ◌&&◌, ◌∷◌, [], ◌++◌, sym, ap, ◌∙◌}
use Rattle.std.specs.Prelude.{Some, None}
use Rattle.std.specs.FinMap.{get, insert, get-retain_keys}
use Rattle.res_path.specs.Paths.{Names}
use Rattle.res_path.proofs.Prefixes.{path_cmp_exact}
use Rattle.ws_elem.specs.declared.element.Element.{Element}
use Rattle.ws_elem.specs.Trees.{Tree}
use Rattle.op_kind.specs.Members.{members, without_members, is_below, put_all}
use Rattle.op_kind.specs.declared.answer.OpAnswer.TheVariants.{Done}
use Rattle.op_kind.specs.declared.op.Op.TheVariants.{Open, Close}
use Rattle.op_plan.specs.declared.plan.Plan.{Plan}
use Rattle.op_kind.specs.Effects.{effect, set_open}
use Rattle.op_kind.specs.Places.{is_shut}
use Rattle.op_kind.specs.declared.side.Side.{Side}
use Rattle.op_plan.specs.Inside.Plans.{no_change, planned}
use Rattle.op_kind.specs.Resources.{Resources, resources}
use Rattle.op_plan.specs.Edits.{Edits, changed}
use Rattle.op_plan.specs.Inside.Lists.{taken, put}
use Rattle.op_plan.proofs.Effected.{changed-append, changed_put, taken_members, change_there}
use Rattle.op_plan.proofs.Walked.{prefix_itself}

-- the open project, and its members after it
pub opens : (t s : Tree) (p : Names) (e : Element) → get t p ≡ Some e
    → changed t ((p, Some (record e { opened = true })) ∷ [] ++ put (members s p)) ≡ put_all (set_open t p true) (members s p)
opens t s p e h =
    changed_put (insert t p (record e { opened = true })) (members s p)
    ∙ ap (λ u. put_all u (members s p)) (sym (change_there t p (λ d. record d { opened = true }) e h))

-- nothing is below itself
not_below : (p : Names) → is_below p p ≡ false
not_below p = ap (λ b. b && not b) (prefix_itself p)

stays : (t : Tree) (p : Names) → get (without_members t p) p ≡ get t p
stays t p = get-retain_keys t (λ q. not (is_below p q)) p (λ x h. ap (λ y. not (is_below p y)) (sym (path_cmp_exact p x h)))
    ∙ ap (λ b. cond (not b) (get t p) None) (not_below p)

-- the members gone, and then the closed project
pub closes : (t : Tree) (p : Names) (e : Element) → get t p ≡ Some e
    → changed t (taken (members t p) ++ (p, Some (record e { opened = false })) ∷ []) ≡ set_open (without_members t p) p false
closes t p e h =
    changed-append t (taken (members t p)) ((p, Some (record e { opened = false })) ∷ [])
    ∙ ap (λ u. insert u p (record e { opened = false })) (taken_members t p)
    ∙ sym (change_there (without_members t p) p (λ d. record d { opened = false }) e (stays t p ∙ h))

-- ---- plans

-- a plan of edits of tree and shelf alone
both_planned : (t : Tree) (side : Side) (cs ds : Edits) (u s : Tree) (plan : Plan) → plan ≡ record (no_change side) { tree = cs; shelf = ds } → changed t cs ≡ u → changed side.shelf.map ds ≡ s
    → planned (resources t side) plan ≡ (record (resources t side) { tree = u; shelf = s }, Done)
both_planned t side cs ds u s plan made tree shelf = ap (planned (resources t side)) made ∙ (λ i. (record (resources t side) { tree = tree i; shelf = shelf i }, Done))

-- the resources with a closed project opened
abbrev opened : Tree → Side → Names → Resources
opened t side p = record (resources t side) { tree = put_all (set_open t p true) (members side.shelf.map p); shelf = without_members side.shelf.map p }

pub open_planned : (t : Tree) (side : Side) (p : Names) (e : Element) (plan : Plan) → is_shut t p ≡ true → get t p ≡ Some e
    → plan ≡ record (no_change side) {
      tree = (p, Some (record e { opened = true })) ∷ [] ++ put (members side.shelf.map p);
      shelf = taken (members side.shelf.map p);
    } → planned (resources t side) plan ≡ effect (resources t side) (Open p)
open_planned t side p e plan shut there made =
    both_planned t side ((p, Some (record e { opened = true })) ∷ [] ++ put (members side.shelf.map p)) (taken (members side.shelf.map p))
    (put_all (set_open t p true) (members side.shelf.map p)) (without_members side.shelf.map p) plan made
    (opens t side.shelf.map p e there) (taken_members side.shelf.map p)
    ∙ sym (ap (λ b. (cond b (opened t side p) (resources t side), Done)) shut)

-- the resources with an open project closed
abbrev closed : Tree → Side → Names → Resources
closed t side p = record (resources t side) { tree = set_open (without_members t p) p false; shelf = put_all side.shelf.map (members t p) }

pub close_planned : (t : Tree) (side : Side) (p : Names) (e : Element) (plan : Plan) → is_shut t p ≡ false → get t p ≡ Some e
    → plan ≡ record (no_change side) {
      tree = taken (members t p) ++ (p, Some (record e { opened = false })) ∷ [];
      shelf = put (members t p);
    } → planned (resources t side) plan ≡ effect (resources t side) (Close p)
close_planned t side p e plan shut there made =
    both_planned t side (taken (members t p) ++ (p, Some (record e { opened = false })) ∷ []) (put (members t p))
    (set_open (without_members t p) p false) (put_all side.shelf.map (members t p)) plan made
    (closes t p e there) (changed_put side.shelf.map (members t p))
    ∙ sym (ap (λ b. (cond b (resources t side) (closed t side p), Done)) shut)

-- an open project that is opened, and a closed one that is closed, stay as they are
pub open_already : (t : Tree) (side : Side) (p : Names) (plan : Plan) → is_shut t p ≡ false → plan ≡ no_change side → planned (resources t side) plan ≡ effect (resources t side) (Open p)
open_already t side p plan shut made = ap (planned (resources t side)) made ∙ sym (ap (λ b. (cond b (opened t side p) (resources t side), Done)) shut)

pub closed_already : (t : Tree) (side : Side) (p : Names) (plan : Plan) → is_shut t p ≡ true → plan ≡ no_change side → planned (resources t side) plan ≡ effect (resources t side) (Close p)
closed_already t side p plan shut made = ap (planned (resources t side)) made ∙ sym (ap (λ b. (cond b (resources t side) (closed t side p), Done)) shut)
