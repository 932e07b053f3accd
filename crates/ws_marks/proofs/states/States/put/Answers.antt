use Rattle.std.proofs.Common.{ap, sym, subst, ◌∙◌}
use Rattle.std.specs.FinMap as map
use Rattle.std.specs.BTreeMap.{get}
use Rattle.ws_marks.specs.Places.{States, name_cmp}
use Rattle.ws_marks.specs.Inside.{AllNamed}
use Rattle.ws_marks.proofs.Kept.{get_is, named_put, one_put}
use Rattle.ws_marks.proofs.Places.{name_cmp_exact, name_cmp_total}
use Rattle.ws_marks.proofs.states.States.put.Goals as goal

pub invariant_of-self-2 : goal.invariant_of-self-2
invariant_of-self-2 g c =
    subst AllNamed (sym (one_put name_cmp_total name_cmp_exact c.self.inside.states.entries c.insert.new.self.entries c.args.name c.args.new c.in-Ok.ensures.updates.0))
    (named_put (map.from_entries c.self.inside.states.entries) c.args.name c.args.new c.self.invariant (sym c.requires))

pub returns-clause-before : goal.returns-clause-before
returns-clause-before g c =
    c.in-Ok.ensures.old ∙ ap (get name_cmp c.self.inside.states) c.requires ∙ sym (get_is name_cmp_total c.self.inside.states.entries c.args.new.participant)
    ∙ ap (λ (m : States g.row.M.Denot). map.get m c.args.new.participant) c.self.view_is

pub returns-clause-ok : goal.returns-clause-ok
returns-clause-ok g c =
    one_put name_cmp_total name_cmp_exact c.self.inside.states.entries c.insert.new.self.entries c.args.name c.args.new c.in-Ok.ensures.updates.0
    ∙ (λ i. map.insert (c.self.view_is i) (c.requires i) c.args.new)
