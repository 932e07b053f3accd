use Rattle.std.proofs.Common.{◌≡◌, ◌-◌, ◌<◌, length, ◌∙◌, sym, ap, arith}
use Rattle.std.specs.declared.cmp.Ordering.{Ordering}
use Rattle.std.specs.declared.cmp.Ordering.TheVariants.{Less}
use Rattle.sched_rules.proofs.Placing.{each_drop_more, placed_after, placed_tied, placed_first}
use Rattle.sched_rules.proofs.rule.place_of.Goals as goal

-- what a comparison with the atom that was read says of the atom at that place
read_as : {A : Type 0} (f : A → Ordering) {x y : A} {r o : Ordering} → x ≡ y → r ≡ f x → r ≡ o → f y ≡ o
read_as f e h g = ap f (sym e) ∙ sym h ∙ g

pub loop-at-preserved : goal.loop-at-preserved
loop-at-preserved g c = record {
  within = omega arith;
  above = each_drop_more (λ other. g.A.Ord.cmp c.args.atom.now other ≡ Less) c.args.atoms.now c.loop-at.at c.index-atoms-at.result
      c.loop-at-test.true c.loop-at.invariant.within c.index-atoms-at.is (sym c.cmp.ensures ∙ c.in-Less.is) c.loop-at.invariant.above;
}

pub returns-in-Equal-clause-there : goal.returns-in-Equal-clause-there
returns-in-Equal-clause-there g c =
    let inside : c.loop-at.at - 1 < length c.args.atoms.now = omega arith in
    placed_tied g.met.A.Ord.total c.args.atom.now c.args.atoms.now (c.loop-at.at - 1) c.index-atoms-at.result g.met.A.Atom.exact c.requires
    inside (read_as (g.A.Ord.cmp c.args.atom.now) c.index-atoms-at.is c.cmp.ensures c.in-Equal.is)

pub returns-in-Greater-clause-at : goal.returns-in-Greater-clause-at
returns-in-Greater-clause-at g c = (
  c.loop-at.invariant.within,
  placed_after g.met.A.Ord.total c.args.atom.now c.args.atoms.now c.loop-at.at c.index-atoms-at.result c.requires c.loop-at-test.true
      c.loop-at.invariant.within (read_as (g.A.Ord.cmp c.args.atom.now) c.index-atoms-at.is c.cmp.ensures c.in-Greater.is) c.loop-at.invariant.above,
)

pub returns-clause-at : goal.returns-clause-at
returns-clause-at g c = (omega arith, placed_first g.met.A.Ord.total c.args.atom.now c.args.atoms.now c.loop-at.at c.loop-at-test.false c.loop-at.invariant.above)
