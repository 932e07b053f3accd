use Rattle.std.proofs.Common.{◌≡◌, not, drop}
use Rattle.std.specs.List.{filter}
use Rattle.sched_rules.specs.Rules.{IsRising, has_wider, all_placed}
use Rattle.sched_rules.proofs.rule.add_outermost.Given as goal

abbrev pub invariant-loop-atom : goal.invariant-loop-atom
invariant-loop-atom g l = record {
  placed : all_placed g.A.Ord.cmp (filter (λ atom. not (has_wider g.A.Atom.contains l.others atom)) (drop l.atom-index l.atoms)) l.placed.items
      ≡ all_placed g.A.Ord.cmp (filter (λ atom. not (has_wider g.A.Atom.contains l.others atom)) l.atoms) l.fn.placed.items;
  rising : IsRising g.A.Ord.cmp l.placed.items;
}
