use Rattle.std.proofs.Common.{ap, sym, ◌∙◌}
use Rattle.res_path.specs.PathLaws.{path_ties}
use Rattle.ws_elem.specs.Inside.Slots.{is_kept_apart}
use Rattle.ws_elem.proofs.room.is_kept_apart.Goals as goal

pub returns-in-Some : goal.returns-in-Some
returns-in-Some c =
    c.eq.ensures ∙ path_ties c.args.path.now c.in-Some.one ∙ ap (λ one. is_kept_apart one c.args.path.now) (sym c.in-Some.is)
