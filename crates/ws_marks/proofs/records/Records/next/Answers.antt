use Rattle.std.proofs.Common.{◌≡◌, ap, ◌∙◌}
use Rattle.std.specs.Prelude.{Option, Some, find as first_that}
use Rattle.std.specs.Option.{option_map}
use Rattle.std.specs.FinMap as map
use Rattle.ws_marks.specs.Places.{Place, Records, place_of}
use Rattle.ws_marks.specs.Marked.{is_above, record_after}
use Rattle.ws_marks.specs.Inside.{placed}
use Rattle.ws_marks.proofs.Firsts.{shown_own}
use Rattle.ws_marks.proofs.Tables.{all_shown, own_shown}
use Rattle.ws_marks.proofs.records.Records.next.Goals as goal

pub returns-clause-next : goal.returns-clause-next
returns-clause-next g c =
    let after : Option Place = option_map (λ k. (k.0.now, k.1)) c.args.after in
    c.next.ensures ∙ ap (λ rs. option_map (λ e. e.1) (first_that (λ e. is_above after e.0) (placed rs))) c.as_slice.ensures.value
    ∙ ap (λ es. option_map (λ e. e.1) (first_that (λ e. is_above after e.0) es)) (all_shown c.self.inside.records.items c.self.invariant)
    ∙ ap (λ (m : Records g.row.M.Denot). record_after m after) c.self.view_is

pub returns-clause-own : goal.returns-clause-own
returns-clause-own g c =
    let after : Option Place = option_map (λ k. (k.0.now, k.1)) c.args.after in
    shown_own (λ r. map.get c.args.self.now (place_of r) ≡ Some r) c.next.result
    (option_map (λ e. e.1) (first_that (λ e. is_above after e.0) (placed c.self.inside.records.items)))
    (c.next.ensures ∙ ap (λ rs. option_map (λ e. e.1) (first_that (λ e. is_above after e.0) (placed rs))) c.as_slice.ensures.value)
    (own_shown (is_above after) c.self.inside.records.items c.args.self.now c.self.invariant c.self.view_is)
