-- What a plan comes to.
use Rattle.std.proofs.Common.{◌≡◌, ℕ, ◌+◌, List, [], ◌++◌, length, sym, ap, ◌∙◌}
use Rattle.std.specs.Prelude.{Option, Some, unwrap_or}
use Rattle.proj_desc.specs.declared.desc.Desc.{Desc}
use Rattle.proj_desc.specs.Canonical.{canonical, described}
use Rattle.op_kind.specs.Problems.{without_problems_from}
use Rattle.std.specs.Option.{option_map}
use Rattle.std.specs.FinMap.{get}
use Rattle.res_path.specs.Paths.{Names}
use Rattle.ws_elem.specs.declared.element.Element.{Element}
use Rattle.ws_elem.specs.Trees.{Tree, without, branch}
use Rattle.op_kind.specs.declared.answer.OpAnswer.TheVariants.{Done, Id}
use Rattle.op_kind.specs.declared.op.Op.TheVariants.{Delete, Describe, Move, Copy}
use Rattle.op_kind.specs.declared.side.Side.{Side}
use Rattle.op_kind.specs.Effects.{effect, change_at, put_some, copies}
use Rattle.op_kind.specs.Entries.{Entries}
use Rattle.op_kind.specs.Members.{carried, put_all}
use Rattle.op_kind.specs.Numbers.{stamps_of_all}
use Rattle.op_kind.specs.Resources.{resources}
use Rattle.op_plan.specs.declared.plan.Plan.{Plan}
use Rattle.op_plan.specs.Edits.{changed}
use Rattle.op_plan.specs.Inside.Lists.{taken, put}
use Rattle.op_plan.specs.Inside.Plans.{no_change, put_at, stamp_at, planned}
use Rattle.op_plan.proofs.Effected.{changed-append, changed_put, taken_branch, copies_carried}
use Rattle.op_plan.proofs.Carried.{carried_count, carried_stamps}

-- ---- creations and deletions

pub deletion_planned : (t : Tree) (side : Side) (p : Names) (plan : Plan) → plan ≡ record (no_change side) { tree = taken (branch t p); shelf = taken (branch side.shelf.map p) }
    → planned (resources t side) plan ≡ effect (resources t side) (Delete p)
deletion_planned t side p plan made =
    ap (planned (resources t side)) made ∙ (λ i. (record (resources t side) { tree = taken_branch t p i; shelf = taken_branch side.shelf.map p i }, Done))

-- ---- an element that is changed where it is

-- what is found at p, so changed, is put there
pub found_planned : (t : Tree) (side : Side) (p : Names) (change : Element → Element) (e : Element) (plan : Plan) → option_map change (get t p) ≡ Some e → plan ≡ put_at side p e
    → planned (resources t side) plan ≡ (record (resources t side) { tree = change_at t p change }, Done)
found_planned t side p change e plan found made =
    ap (planned (resources t side)) made ∙ (λ i. (record (resources t side) { tree = put_some t p (sym found i) }, Done))

pub put_planned : (t : Tree) (side : Side) (p : Names) (change : Element → Element) (e : Element) (plan : Plan) → get t p ≡ Some e → plan ≡ put_at side p (change e)
    → planned (resources t side) plan ≡ (record (resources t side) { tree = change_at t p change }, Done)
put_planned t side p change e plan there made = found_planned t side p change (change e) plan (ap (option_map change) there) made

-- the same, and a stamp is drawn
pub stamp_planned : (t : Tree) (side : Side) (p : Names) (change : Element → Element) (e : Element) (plan : Plan) → get t p ≡ Some e → plan ≡ stamp_at side p (change e)
    → planned (resources t side) plan ≡ (record (resources t side) { tree = change_at t p change; next_stamp = side.next_stamp + 1 }, Done)
stamp_planned t side p change e plan there made =
    ap (planned (resources t side)) made
    ∙ (λ i. (record (resources t side) { tree = put_some t p (option_map change (sym there i)); next_stamp = side.next_stamp + 1 }, Done))

-- ---- a description

-- a project with the description that a text is, if it is one
abbrev so_described : ℕ → Option Desc → Element → Element
so_described stamp desc e = record e {
  attached = record e.attached {
    desc = unwrap_or (option_map canonical desc) [];
    desc_stamp = stamp;
    marks = without_problems_from (unwrap_or (option_map (λ d. length d.commands) desc) 0) e.attached.marks;
  };
}

pub describe_planned : (t : Tree) (side : Side) (p : Names) (text : List ℕ) (e : Element) (d : Desc) (plan : Plan) → get t p ≡ Some e → described text ≡ Some d
    → plan ≡ stamp_at side p (record e {
      attached = record e.attached {
        desc = canonical d;
        desc_stamp = side.next_stamp;
        marks = without_problems_from (length d.commands) e.attached.marks;
      };
    }) → planned (resources t side) plan ≡ effect (resources t side) (Describe p text)
describe_planned t side p text e d plan there is made =
    ap (planned (resources t side)) made
    ∙ (λ i. (record (resources t side) { tree = put_some t p (option_map (so_described side.next_stamp (sym is i)) (sym there i)); next_stamp = side.next_stamp + 1 }, Done))

-- ---- a marker

-- what is found at p, so changed, is put there, and a marker's number is drawn
pub mark_planned : (t : Tree) (side : Side) (p : Names) (change : Element → Element) (e : Element) (plan : Plan) → option_map change (get t p) ≡ Some e
    → plan ≡ record (put_at side p e) { next_marker = side.next_marker + 1; answer = Id side.next_marker }
    → planned (resources t side) plan ≡ (record (resources t side) { tree = change_at t p change; next_marker = side.next_marker + 1 }, Id side.next_marker)
mark_planned t side p change e plan found made =
    ap (planned (resources t side)) made
    ∙ (λ i. (record (resources t side) { tree = put_some t p (sym found i); next_marker = side.next_marker + 1 }, Id side.next_marker))

-- ---- moves and copies

-- what is carried is moved
pub move_planned : (t : Tree) (side : Side) (from to : Names) (ms cs : Entries) (plan : Plan) → ms ≡ branch t from → cs ≡ carried from to (branch t from)
    → plan ≡ record (no_change side) { tree = taken ms ++ put cs } → planned (resources t side) plan ≡ effect (resources t side) (Move from to)
move_planned t side from to ms cs plan members here made =
    let es = branch t from in
    ap (planned (resources t side)) made
    ∙ ap (λ u. (record (resources t side) { tree = u }, Done)) (
    (λ i. changed t (taken (members i) ++ put (here i)))
    ∙ changed-append t (taken es) (put (carried from to es)) ∙ ap (λ u. changed u (put (carried from to es))) (taken_branch t from)
    ∙ changed_put (without t from) (carried from to es))

-- copies of what is carried
pub copy_planned : (t : Tree) (side : Side) (from to : Names) (cs : Entries) (plan : Plan) → cs ≡ carried from to (branch t from)
    → plan ≡ record (no_change side) {
      tree = put (copies side.next_node side.next_stamp cs);
      next_node = side.next_node + length cs;
      next_stamp = side.next_stamp + stamps_of_all cs;
    } → planned (resources t side) plan ≡ effect (resources t side) (Copy from to)
copy_planned t side from to cs plan here made =
    let es = branch t from in
    let n = side.next_node in
    let s = side.next_stamp in
    let tree : changed t (put (copies n s (carried from to es))) ≡ put_all t (carried from to (copies n s es)) =
    changed_put t (copies n s (carried from to es)) ∙ ap (put_all t) (copies_carried from to n s es) in
    ap (planned (resources t side)) made
    ∙ (λ i. planned (resources t side) (record (no_change side) { tree = put (copies n s (here i)); next_node = n + length (here i); next_stamp = s + stamps_of_all (here i) }))
    ∙ (λ i. (record (resources t side) { tree = tree i; next_node = n + carried_count from to es i; next_stamp = s + carried_stamps from to es i }, Done))
