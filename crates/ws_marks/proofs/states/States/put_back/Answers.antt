use Rattle.std.proofs.Common.{◌≡◌, ap, sym, subst, ◌∙◌}
use Rattle.std.specs.FinMap as map
use Rattle.std.specs.Prelude.{IsSome, IfSome}
use Rattle.ws_marks.specs.Places.{States}
use Rattle.ws_marks.specs.Inside.{AllNamed}
use Rattle.ws_marks.specs.Marked.{set_at}
use Rattle.ws_marks.proofs.Kept.{get_is, named_put, named_without, one_put, one_taken}
use Rattle.ws_marks.proofs.Places.{name_cmp_exact, name_cmp_total}
use Rattle.ws_marks.proofs.states.States.put_back.Goals as goal

pub invariant_of-self : goal.invariant_of-self
invariant_of-self g c =
    subst AllNamed (sym (one_taken name_cmp_total name_cmp_exact c.self.inside.states.entries c.remove.new.self.entries c.args.name.now c.remove.ensures.updates.0))
    (named_without (map.from_entries c.self.inside.states.entries) c.args.name.now c.self.invariant)

pub returns-in-None-clause-gone : goal.returns-in-None-clause-gone
returns-in-None-clause-gone g c =
    c.remove.ensures.value ∙ sym (get_is name_cmp_total c.self.inside.states.entries c.args.name.now) ∙ ap (λ (m : States g.row.M.Denot). map.get m c.args.name.now) c.self.view_is

pub returns-in-None-clause-set : goal.returns-in-None-clause-set
returns-in-None-clause-set g c =
    one_taken name_cmp_total name_cmp_exact c.self.inside.states.entries c.remove.new.self.entries c.args.name.now c.remove.ensures.updates.0
    ∙ ap (λ (m : States g.row.M.Denot). map.remove m c.args.name.now) c.self.view_is ∙ ap (λ before. set_at c.args.self.now c.args.name.now before) (sym c.in-None.is)

pub replace-requires : goal.replace-requires
replace-requires g c =
    subst IsSome (ap (λ (m : States g.row.M.Denot). map.get m c.args.name.now) (sym c.self.view_is) ∙ get_is name_cmp_total c.self.inside.states.entries c.args.name.now) c.requires.there

pub invariant_of-self-in-Some : goal.invariant_of-self-in-Some
invariant_of-self-in-Some g c =
    subst AllNamed (sym (one_put name_cmp_total name_cmp_exact c.self.inside.states.entries c.replace.new.states.entries c.args.name.now c.in-Some.state c.replace.ensures.set.0))
    (named_put (map.from_entries c.self.inside.states.entries) c.args.name.now c.in-Some.state c.self.invariant (subst (λ before. IfSome before (λ s. s.participant ≡ c.args.name.now)) c.in-Some.is c.requires.named))

pub returns-in-Some-clause-gone : goal.returns-in-Some-clause-gone
returns-in-Some-clause-gone g c =
    c.replace.ensures.gone ∙ sym (get_is name_cmp_total c.self.inside.states.entries c.args.name.now) ∙ ap (λ (m : States g.row.M.Denot). map.get m c.args.name.now) c.self.view_is

pub returns-in-Some-clause-set : goal.returns-in-Some-clause-set
returns-in-Some-clause-set g c =
    one_put name_cmp_total name_cmp_exact c.self.inside.states.entries c.replace.new.states.entries c.args.name.now c.in-Some.state c.replace.ensures.set.0
    ∙ ap (λ (m : States g.row.M.Denot). map.insert m c.args.name.now c.in-Some.state) c.self.view_is ∙ ap (λ before. set_at c.args.self.now c.args.name.now before) (sym c.in-Some.is)
