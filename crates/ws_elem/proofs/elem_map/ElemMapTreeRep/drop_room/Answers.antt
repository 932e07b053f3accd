use Rattle.std.proofs.Common.{sym, ◌∙◌}
use Rattle.ws_elem.proofs.Kept.{after_close, kept_close, kept_cleared}
use Rattle.ws_elem.proofs.Filled.{none_empty}
use Rattle.ws_elem.proofs.elem_map.ElemMapTreeRep.drop_room.Goals as goal

pub invariant_of-self : goal.invariant_of-self
invariant_of-self c =
    kept_cleared c.self.inside.slots.entries c.self.inside.room c.clear.new.self c.self.inside.elements c.self.invariant c.clear.ensures
    (none_empty c.self.inside.slots.entries c.len.ensures.ordered (sym c.len.ensures.len ∙ sym c.if-self-len.true ∙ c.self.invariant.counted))

pub loop-path-preserved : goal.loop-path-preserved
loop-path-preserved c = (
  after_close c.loop-path.self-inside.slots.entries c.close_last.new.slots.entries c.loop-path.self-inside.room c.loop-path.self-inside.elements c.in-Some.path
      c.close_last.ensures ∙ c.loop-path.invariant.0,
  kept_close c.loop-path.self-inside.slots.entries c.close_last.new.slots.entries c.loop-path.self-inside.room c.loop-path.self-inside.elements c.in-Some.path
      c.pop.new.self c.loop-path.invariant.1 c.close_last.ensures c.in-Some.ensures.gone,
)
