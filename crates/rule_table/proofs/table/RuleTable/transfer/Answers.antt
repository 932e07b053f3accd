use Rattle.std.proofs.Common.{◌≡◌, ◌∙◌, sym, ap, subst, false, arith, Option, Some, None, Bor, refl}
use Rattle.std.specs.Prelude.{option_copied, is_some}
use Rattle.std.proofs.lemmas.Grind.{common_steps}
use Rattle.rule_table.specs.Tables.{IsApart, last_rule, moved}
use Rattle.rule_table.proofs.Kept.{apart_moved, none_of}
use Rattle.rule_table.proofs.table.RuleTable.transfer.Goals as goal

none_lent : {X : Type 0} (o : Option (Bor X)) → false ≡ is_some o → option_copied o ≡ None
none_lent None h = refl
none_lent (Some x) h = cc

pub returns-clause-moved : goal.returns-clause-moved
returns-clause-moved g c = grind (arith, common_steps)

pub invariant_of-self : goal.invariant_of-self
invariant_of-self g c =
    let all = c.self.inside.held.items in
    let none : last_rule c.args.to all ≡ None = ap (last_rule c.args.to) c.self.view_is ∙ sym c.last-2.ensures ∙ none_lent c.last-2.result c.if-is_some.ensures in
    subst (IsApart g.A.Atom.contains g.A.Atom.conflicts) (sym (returns-clause-moved g c ∙ ap (moved c.args.from c.args.to) (sym c.self.view_is)))
    (apart_moved g.A.Atom.contains g.A.Atom.conflicts c.args.from c.args.to all (none_of c.args.to all none) c.self.invariant)

pub returns-clause-apart : goal.returns-clause-apart
returns-clause-apart g c = invariant_of-self g c
