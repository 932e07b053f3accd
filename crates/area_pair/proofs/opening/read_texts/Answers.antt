use Rattle.std.proofs.Common.{Ok, Some, refl, sym, ◌∙◌, ap, subst}
use Rattle.disk_area.proofs.Readings.{one_told}
use Rattle.area_pair.specs.Found.{TellsEnd}
use Rattle.area_pair.proofs.Ending.{ended_tells}
use Rattle.area_pair.proofs.opening.read_texts.Goals as goal

pub returns-in-Some-clause-told : goal.returns-in-Some-clause-told
returns-in-Some-clause-told g c =
    let whole = c.in-Some.whole in
    one_told (g.D.Disk.seen c.args.disk.now)
    (λ both told. subst (TellsEnd both (Some c.args.area)) (sym c.ended.ensures) (ended_tells both c.args.area whole whole.end refl (told ∙ ap (λ o. Ok o) c.in-Some.is)))
    c.in_ok-read_area.ensures.told
