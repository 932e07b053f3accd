-- What is done at once.
use Rattle.std.specs.Prelude.{◌≡◌, ℕ, ◌+◌, false, None}
use Rattle.std.specs.FinMap.{contains_key, insert}
use Rattle.res_path.specs.Paths.{Names}
use Rattle.ws_elem.specs.declared.element.Element.{Element}
use Rattle.ws_elem.specs.Rooms.{Room}
use Rattle.op_kind.specs.declared.answer.OpAnswer.TheVariants.{Done}
use Rattle.op_plan.specs.declared.back.Applied.{Applied}
use Rattle.op_kind.specs.declared.op.Op.{Op}
use Rattle.op_plan.specs.Backs.{HasWay}
use Rattle.op_kind.specs.Effects.{effect}
use Rattle.op_kind.specs.Refusals.{refusal}
use Rattle.op_kind.specs.Resources.{Resources}

-- the operation wasn't refused, and is done: the resources now, the answer, and the way back to those before
pub record IsDone (before : Resources) (op : Op) (room shelf_room : Room) (now : Resources) (done : Applied) : Type 0 where
  pub allowed : refusal before op ≡ None
  pub resources : now ≡ (effect before op).0
  pub answer : done.answer ≡ (effect before op).1
  pub back : HasWay done.back room shelf_room now before

-- a new element was put at p, where nothing was, and has drawn a node and so many stamps
pub record IsPut (before : Resources) (p : Names) (e : Element) (stamps : ℕ) (room shelf_room : Room) (now : Resources) (done : Applied) : Type 0 where
  pub free : contains_key before.tree p ≡ false
  pub resources : now ≡ record before { tree = insert before.tree p e; next_node = before.next_node + 1; next_stamp = before.next_stamp + stamps }
  pub answer : done.answer ≡ Done
  pub back : HasWay done.back room shelf_room now before
