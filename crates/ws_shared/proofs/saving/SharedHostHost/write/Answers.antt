use Rattle.std.proofs.Common.{refl, sym, subst}
use Rattle.std.specs.Prelude.{None, Some}
use Rattle.std.specs.Option.{option_map}
use Rattle.ws_locked.specs.Fits.{session}
use Rattle.ws_shared.proofs.Courses.{kept_noted, only_kept, wrote}
use Rattle.ws_shared.proofs.Stages.{tried_at}
use Rattle.ws_shared.proofs.saving.SharedHostHost.write.Goals as goal

pub returns-clause-stays : goal.returns-clause-stays
returns-clause-stays g c =
    let d = g.D.Disk in
    let s = c.args.self.now in
    let kept = option_map (λ z. z.value) s.kept.now in
    let o = g.T.Keeps.opened s.room.now in (
      refl,
      refl,
      refl,
      refl,
      refl,
      c.write-result.ensures.began,
      refl,
      λ ready. (
        ready.0,
        tried_at d.moment d.left_since d.may_leave d.faults o s.noted (g.T.Keeps.knows s.began.now.value) (g.T.Keeps.knows s.pass.now) s.keeper.now c.write-result.new.keeper s.kind kept s.now.now s.written s.ended.now
            (only_kept s.noted s.kind c.args.kind kept s.written s.ended.now c.requires.kept) (record { kind = c.args.kind; result = c.write-result.result }) ready.1
            (c.write-result.ensures.tried (session o (g.T.Keeps.knows s.pass.now).seen)),
        kept_noted _ _ _ s.noted kept s.written s.ended.now (only_kept s.noted s.kind c.args.kind kept s.written s.ended.now c.requires.kept),
      ),
    )

pub returns-clause-written : goal.returns-clause-written
returns-clause-written g c =
    let s = c.args.self.now in
    wrote s.noted s.kind (option_map (λ z. z.value) s.kept.now) s.written s.ended.now (record { kind = c.args.kind; result = c.write-result.result }) (only_kept s.noted s.kind c.args.kind (option_map (λ z. z.value) s.kept.now) s.written s.ended.now c.requires.kept)
