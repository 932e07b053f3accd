use Rattle.std.proofs.Common.{◌∙◌, sym, ap}
use Rattle.sched_rules.specs.Rules.{all_placed}
use Rattle.sched_rules.proofs.Combining.{combined_in_turn, left_of}
use Rattle.sched_rules.proofs.rule.combined.Goals as goal

pub returns : goal.returns
returns g c =
    let one = c.args.a.now in
    let two = c.args.b.now in
    c.in_ok-add_outermost-2.ensures.placed
    ∙ ap (all_placed g.A.Ord.cmp (left_of g.A.Atom.contains two one))
    (c.in_ok-add_outermost.ensures.placed ∙ ap (all_placed g.A.Ord.cmp (left_of g.A.Atom.contains one two)) c.new-atoms.ensures.items)
    ∙ sym (combined_in_turn g.met.A.Atom.lawful g.met.A.Ord.total g.met.A.Atom.exact one two c.requires.a c.requires.b)
