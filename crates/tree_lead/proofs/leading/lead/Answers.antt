use Rattle.std.proofs.Common.{◌∙◌, subst}
use Rattle.std.specs.Option.{option_copied}
use Rattle.tree_lead.proofs.Led.{IsLed, led_last, led_next}
use Rattle.tree_lead.proofs.leading.lead.Goals as goal

pub loop-row-preserved : goal.loop-row-preserved
loop-row-preserved g c = record {
  led = led_next (g.T.TreeRep.tree c.loop-row.tree) (g.T.TreeRep.tree c.set.new.tree) c.args.wanted.now.map c.in-Some.row.path.now (option_copied c.in-Some.row.entry) c.next.new.self
      c.in_ok-set.ensures.tree (subst (IsLed (g.T.TreeRep.tree c.loop-row.tree) c.args.wanted.now.map) c.in-Some.ensures.steps c.loop-row.invariant.led);
  remembered = c.in_ok-set.ensures.remembered ∙ c.loop-row.invariant.remembered;
  room = c.in_ok-set.ensures.room ∙ c.loop-row.invariant.room;
}

pub returns-clause-tree : goal.returns-clause-tree
returns-clause-tree g c = led_last (g.T.TreeRep.tree c.loop-row.tree) c.args.wanted.now.map c.loop-row.row-iterator c.in-None.ensures.steps.0 c.loop-row.invariant.led
