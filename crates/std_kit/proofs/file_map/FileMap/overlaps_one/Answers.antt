use Rattle.std.proofs.Common.{◌||◌, sym, ap, ◌∙◌}
use Rattle.std.specs.List.{list_any}
use Rattle.std.specs.FinMap.{keys}
use Rattle.res_path.specs.Paths.{is_prefix}
use Rattle.std_kit.proofs.Neighbours.{overlaps}
use Rattle.std_kit.proofs.file_map.FileMap.overlaps_one.Goals as goal

pub returns-then-is_over_one : goal.returns-then-is_over_one
returns-then-is_over_one c =
    c.if-is_over_one.true ∙ ap (λ b. b || list_any (λ q. is_prefix q c.args.path.now) (keys c.args.self.now)) (sym c.if-is_over_one.true ∙ c.is_over_one.ensures)
    ∙ sym (overlaps c.args.self.now c.args.path.now)

pub returns-else-is_over_one : goal.returns-else-is_over_one
returns-else-is_over_one c =
    c.is_under_one.ensures ∙ ap (λ b. b || list_any (λ q. is_prefix q c.args.path.now) (keys c.args.self.now)) (sym c.if-is_over_one.false ∙ c.is_over_one.ensures)
    ∙ sym (overlaps c.args.self.now c.args.path.now)
