use Rattle.std.proofs.Common.{◌≡◌, ap, sym, ◌∙◌}
use Rattle.std.specs.Prelude.{None, Some}
use Rattle.std.specs.Option.{option_copied}
use Rattle.std.specs.FinMap as map
use Rattle.ws_marks.specs.Places.{States}
use Rattle.ws_marks.specs.Marked.{state_after}
use Rattle.ws_marks.proofs.Firsts.{shown_own}
use Rattle.ws_marks.proofs.Kept.{all_first, above_first, own_shown}
use Rattle.ws_marks.proofs.states.States.next.Goals as goal

pub returns-in-None-clause-next : goal.returns-in-None-clause-next
returns-in-None-clause-next g c =
    c.first.ensures ∙ all_first c.self.inside.states.entries c.range.result (c.range.ensures.between tt) c.range.ensures.ordered ∙ ap (λ (m : States g.row.M.Denot). state_after m None) c.self.view_is
    ∙ ap (λ after. state_after c.args.self.now (option_copied after)) (sym c.in-None.is)

pub returns-in-None-clause-own : goal.returns-in-None-clause-own
returns-in-None-clause-own g c =
    shown_own (λ s. map.get c.args.self.now s.participant ≡ Some s) c.first.result (state_after (map.from_entries c.self.inside.states.entries) None)
    (c.first.ensures ∙ all_first c.self.inside.states.entries c.range.result (c.range.ensures.between tt) c.range.ensures.ordered)
    (own_shown None c.self.inside.states.entries c.args.self.now c.range.ensures.ordered c.self.invariant c.self.view_is)

pub returns-in-Some-clause-next : goal.returns-in-Some-clause-next
returns-in-Some-clause-next g c =
    c.first-in-Some.ensures ∙ above_first c.in-Some.name.now c.self.inside.states.entries c.range-in-Some.result (c.range-in-Some.ensures.between tt) c.range-in-Some.ensures.ordered
    ∙ ap (λ (m : States g.row.M.Denot). state_after m (Some c.in-Some.name.now)) c.self.view_is
    ∙ ap (λ after. state_after c.args.self.now (option_copied after)) (sym c.in-Some.is)

pub returns-in-Some-clause-own : goal.returns-in-Some-clause-own
returns-in-Some-clause-own g c =
    shown_own (λ s. map.get c.args.self.now s.participant ≡ Some s) c.first-in-Some.result (state_after (map.from_entries c.self.inside.states.entries) (Some c.in-Some.name.now))
    (c.first-in-Some.ensures ∙ above_first c.in-Some.name.now c.self.inside.states.entries c.range-in-Some.result (c.range-in-Some.ensures.between tt) c.range-in-Some.ensures.ordered)
    (own_shown (Some c.in-Some.name.now) c.self.inside.states.entries c.args.self.now c.range-in-Some.ensures.ordered c.self.invariant c.self.view_is)
