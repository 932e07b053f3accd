use Rattle.std.proofs.Common.{refl}
use Rattle.std.specs.Prelude.{Some}
use Rattle.std.specs.Option.{option_map}
use Rattle.ws_shared.proofs.Courses.{finished, may_so, still_noted}
use Rattle.ws_shared.proofs.Stages.{at_end}
use Rattle.ws_shared.proofs.saving.SharedHostHost.finish.Goals as goal

pub returns-clause-stays : goal.returns-clause-stays
returns-clause-stays g c =
    let d = g.D.Disk in
    let s = c.args.self.now in
    let kept = option_map (λ z. z.value) s.kept.now in
    let so = may_so s.noted s.kind kept s.written s.ended.now c.args.answer c.requires.ends in (
      refl,
      refl,
      refl,
      refl,
      refl,
      refl,
      refl,
      λ ready. (
        ready.0,
        at_end d.moment d.left_since d.may_leave d.faults (g.T.Keeps.opened s.room.now) (g.T.Keeps.knows s.began.now.value) (g.T.Keeps.knows s.pass.now) s.keeper.now s.kind kept s.now.now s.written s.ended.now c.args.answer so.1 ready.1,
        still_noted _ _ _ s.noted s.kind kept s.written s.ended.now c.args.answer c.requires.ends,
      ),
    )

pub returns-clause-ended : goal.returns-clause-ended
returns-clause-ended g c =
    let s = c.args.self.now in
    finished s.noted s.kind (option_map (λ z. z.value) s.kept.now) s.written s.ended.now c.args.answer c.requires.ends
