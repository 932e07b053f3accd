use Rattle.std.proofs.Common.{◌≡◌}
use Rattle.tree_lead.proofs.Led.{IsLed}
use Rattle.tree_lead.proofs.leading.lead.Given as goal

-- the rows that are left lead to the wanted tree
abbrev pub invariant-loop-row : goal.invariant-loop-row
invariant-loop-row g l = record {
  led : IsLed (g.T.TreeRep.tree l.tree) l.wanted.map l.row-iterator;
  remembered : g.T.TreeRep.remembered l.tree ≡ g.T.TreeRep.remembered l.fn.tree;
  room : g.T.TreeRep.room l.tree ≡ g.T.TreeRep.room l.fn.tree;
}
