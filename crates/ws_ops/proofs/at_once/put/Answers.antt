use Rattle.std.proofs.Common.{◌≡◌, Bool, true, false, ◌+◌, [], ◌∷◌, sym, ap, subst, ◌∙◌, refl}
use Rattle.std.specs.Prelude.{Option, Some, None, is_some, not, if◌then◌else◌}
use Rattle.std.specs.FinMap.{get, contains_key, insert}
use Rattle.ws_elem.specs.declared.element.Element.{Element}
use Rattle.ws_elem.specs.Rooms.{has_room}
use Rattle.ws_elem.specs.Trees.{Tree}
use Rattle.ws_elem.proofs.Rooms.{room_added}
use Rattle.op_kind.specs.declared.side.Side.{Side}
use Rattle.op_plan.specs.Backs.{HasWay, way_to}
use Rattle.op_plan.specs.Edits.{changed}
use Rattle.op_kind.specs.Resources.{resources}
use Rattle.op_plan.proofs.Effected.{undone}
use Rattle.op_plan.proofs.Made.{keeps_itself, keeps_more, partners_back}
use Rattle.ws_ops.proofs.at_once.put.Goals as goal

was_free : (put there : Bool) → put ≡ not there → put ≡ true → there ≡ false
was_free put true h g = absurd (let no : true ≡ false = sym g ∙ h in cc)
was_free put false h g = refl

nothing : (x : Option Element) → is_some x ≡ false → x ≡ None
nothing None h = refl
nothing (Some e) h = cc

pub returns-then-not-branch-clause-room : goal.returns-then-not-branch-clause-room
returns-then-not-branch-clause-room g c =
    let room = g.T.TreeRep.room c.args.tree.now in
    keeps_more room room (g.T.TreeRep.room c.put_new.new.self) c.args.path.now (keeps_itself room) c.in_ok-put_new.ensures.room

pub returns-clause-room : goal.returns-clause-room
returns-clause-room g c =
    let room = g.T.TreeRep.room c.args.tree.now in
    keeps_more room room (g.T.TreeRep.room c.put_new.new.self) c.args.path.now (keeps_itself room) c.in_ok-put_new.ensures.room

pub returns-clause-done : goal.returns-clause-done
returns-clause-done g c =
    let side = c.args.side.now in
    let t : Tree = g.T.TreeRep.tree c.args.tree.now in
    let p = c.args.path.now in
    let e = c.args.element in
    let room = g.T.TreeRep.room c.put_new.new.self in
    let drawn : Side = record side { next_node = side.next_node + 1; next_stamp = side.next_stamp + c.args.stamps } in
    let free : contains_key t p ≡ false = was_free c.in_ok-put_new.field-0 (contains_key t p) c.in_ok-put_new.ensures.answer c.if-not-branch.false in
    let after : g.T.TreeRep.tree c.put_new.new.self ≡ insert t p e =
    c.in_ok-put_new.ensures.ok ∙ ap (λ b. if b then t else insert t p e) free in
    let tree_back : changed (g.T.TreeRep.tree c.put_new.new.self) ((p, None) ∷ []) ≡ t =
    (λ i. changed (after i) ((p, sym (nothing (get t p) free) i) ∷ [])) ∙ undone t ((p, Some e) ∷ []) in
    let roomy : has_room room p ≡ true =
    subst (λ r. has_room r p ≡ true) (sym c.in_ok-put_new.ensures.room) (room_added (g.T.TreeRep.room c.args.tree.now) p) in
    record {
      free = free;
      resources = λ i. resources (after i) drawn;
      answer = refl;
      back = subst (λ w. HasWay w room side.shelf.room (resources (g.T.TreeRep.tree c.put_new.new.self) drawn) (resources t side))
          (sym (c.to-back.ensures ∙ (λ i. way_to side (c.len-partners.ensures i) (c.in_ok-earlier.ensures i) (c.nothing.ensures i))))
          (record {
            leads = λ i. resources (tree_back i) (record side { partners = partners_back side.partners None i });
            tree_rooms = (roomy, tt);
            shelf_rooms = tt;
          });
    }
