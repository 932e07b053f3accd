use Rattle.std.proofs.Common.{◌≡◌, true, ap, ◌∙◌}
use Rattle.std.specs.Prelude.{Some, find as first_that}
use Rattle.std.specs.Option.{option_map}
use Rattle.std.specs.FinMap as map
use Rattle.ws_marks.specs.Places.{Records, place_of}
use Rattle.ws_marks.specs.Marked.{first_from, is_from}
use Rattle.ws_marks.specs.Inside.{placed}
use Rattle.ws_marks.proofs.Firsts.{found_passes, given_own}
use Rattle.ws_marks.proofs.Tables.{all_shown, own_shown}
use Rattle.ws_marks.proofs.records.Records.take.Goals as goal

pub returns-clause-first : goal.returns-clause-first
returns-clause-first g c =
    c.take.ensures.first ∙ ap (λ es. option_map (λ e. e.1) (first_that (λ e. is_from c.args.project.now c.args.from e.0) es)) (all_shown c.self.inside.records.items c.self.invariant)
    ∙ ap (λ (m : Records g.row.M.Denot). first_from m c.args.project.now c.args.from) c.self.view_is

pub returns-clause-own : goal.returns-clause-own
returns-clause-own g c =
    given_own (λ r. map.get c.args.self.now (place_of r) ≡ Some r) c.take.result
    (option_map (λ e. e.1) (first_that (λ e. is_from c.args.project.now c.args.from e.0) (placed c.self.inside.records.items))) c.take.ensures.first
    (own_shown (is_from c.args.project.now c.args.from) c.self.inside.records.items c.args.self.now c.self.invariant c.self.view_is)

pub returns-clause-one : goal.returns-clause-one
returns-clause-one g c =
    given_own (λ r. is_from c.args.project.now c.args.from (place_of r) ≡ true) c.take.result
    (option_map (λ e. e.1) (first_that (λ e. is_from c.args.project.now c.args.from e.0) (placed c.self.inside.records.items))) c.take.ensures.first
    (found_passes (is_from c.args.project.now c.args.from) c.self.inside.records.items)
