-- What an operation is going to change.
use Rattle.std.specs.Prelude.{◌≡◌, ◌==◌, ℕ, ◌+◌, ◌<◌, ◌^◌, not, List, [], ◌∷◌, filter, Some, None, Result, MatchResult}
use Rattle.res_path.specs.Paths.{Names}
use Rattle.ws_elem.specs.declared.element.Element.{Element}
use Rattle.op_kind.specs.declared.answer.OpAnswer.{OpAnswer}
use Rattle.op_kind.specs.declared.answer.OpAnswer.TheVariants.{Count, Done}
use Rattle.op_kind.specs.declared.op.Op.{Op}
use Rattle.op_plan.specs.declared.plan.Plan.{Plan}
use Rattle.op_kind.specs.declared.refusal.OpError.{OpError}
use Rattle.op_kind.specs.declared.side.Side.{Side}
use Rattle.op_plan.specs.Edits.{changed}
use Rattle.op_plan.specs.Inside.Lists.{put}
use Rattle.op_kind.specs.Entries.{Entries}
use Rattle.op_kind.specs.Marking.{change_all, count_all, unmarked, count_marks, unsynced, count_bytes}
use Rattle.op_kind.specs.Effects.{effect}
use Rattle.op_kind.specs.Judging.{IfRefused}
use Rattle.op_kind.specs.Partners.{with_partner}
use Rattle.op_kind.specs.Refusals.{refusal}
use Rattle.op_kind.specs.Resources.{Resources}

-- the plan that changes nothing
abbrev pub no_change : Side → Plan
no_change side = record {
  tree = [];
  shelf = [];
  next_node = side.next_node;
  next_stamp = side.next_stamp;
  next_marker = side.next_marker;
  partner = None;
  answer = Done;
}

-- the plan that puts the element at p
abbrev pub put_at : Side → Names → Element → Plan
put_at side p e = record (no_change side) { tree = (p, Some e) ∷ [] }

-- the plan that puts the element at p, which has drawn a stamp
abbrev pub stamp_at : Side → Names → Element → Plan
stamp_at side p e = record (put_at side p e) { next_stamp = side.next_stamp + 1 }

-- the plan that puts a new element at p, which has drawn a node and so many stamps
abbrev pub create_at : Side → Names → Element → ℕ → Plan
create_at side p e stamps = record (put_at side p e) { next_node = side.next_node + 1; next_stamp = side.next_stamp + stamps }

-- the plan by which these elements lose their markers of this type: those that have none aren't put anew
abbrev pub unmark_at : Side → List ℕ → Entries → Plan
unmark_at side mark_type es = record (no_change side) {
  tree = put (change_all (unmarked mark_type) (filter (λ e. not (count_marks mark_type e.1 == 0)) es));
  answer = Count (count_all (count_marks mark_type) es);
}

-- the plan by which these elements lose the partner's bytes: those that have none aren't put anew
abbrev pub unsync_at : Side → ℕ → Entries → Plan
unsync_at side number es = record (no_change side) {
  tree = put (change_all (unsynced number) (filter (λ e. not (count_bytes number e.1 == 0)) es));
  answer = Count (count_all (count_bytes number) es);
}

-- the resources after a plan, and its answer
abbrev pub planned : Resources → Plan → Resources × OpAnswer
planned r plan = (
  record {
    tree = changed r.tree plan.tree;
    shelf = changed r.shelf plan.shelf;
    next_node = plan.next_node;
    next_stamp = plan.next_stamp;
    next_marker = plan.next_marker;
    partners = with_partner r.partners plan.partner;
  },
  plan.answer,
)

-- a plan of what the operation does, or why it is refused
abbrev pub Plans : Resources → Op → Result Plan OpError → Type 0
Plans r op result = MatchResult result (λ plan. (refusal r op ≡ None) × (planned r plan ≡ effect r op)) (IfRefused (λ x. refusal r op ≡ Some x))

-- so many nodes and so many stamps can be drawn
pub record CanDraw (side : Side) (nodes stamps : ℕ) : Type 0 where
  pub node : side.next_node + nodes < 2 ^ 64
  pub stamp : side.next_stamp + stamps < 2 ^ 64
