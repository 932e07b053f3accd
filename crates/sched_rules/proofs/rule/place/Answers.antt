use Rattle.std.proofs.Common.{◌≡◌, ◌∙◌, sym, ap, subst}
use Rattle.std.specs.List.{insert}
use Rattle.sched_rules.specs.Rules.{IsRising, placed}
use Rattle.sched_rules.proofs.Placing.{placed_rising}
use Rattle.sched_rules.proofs.rule.place.Goals as goal

pub returns-in_ok-insert-clause-rising : goal.returns-in_ok-insert-clause-rising
returns-in_ok-insert-clause-rising g c =
    let old = c.args.atoms.now.items in
    let there : c.insert.new.self.items ≡ placed g.A.Ord.cmp c.args.atom old =
    c.in_ok-insert.ensures.items
    ∙ (λ i. insert (sym c.as_slice.ensures.value i) c.in-Some.at c.args.atom)
    ∙ sym c.in-Some.ensures.at.1
    ∙ ap (placed g.A.Ord.cmp c.args.atom) c.as_slice.ensures.value in
    subst (IsRising g.A.Ord.cmp) (sym there) (placed_rising g.met.A.Ord.total c.args.atom old c.requires)
