use Rattle.std.proofs.Common.{◌≡◌, refl, sym, ap, subst}
use Rattle.std.specs.Prelude.{None, Ok, Err, Some}
use Rattle.std.specs.Option.{option_map}
use Rattle.ws_shared.specs.Inside.Hosts.{IsAt}
use Rattle.ws_shared.proofs.Courses.{begun_noted, only_begun}
use Rattle.ws_shared.proofs.Stages.{begun_at, keep_err, keep_ok, may_keep, not_kept, now_kept}
use Rattle.ws_shared.proofs.saving.SharedHostHost.keep.Goals as goal

pub keep-requires-clause-under_way : goal.keep-requires-clause-under_way
keep-requires-clause-under_way g c = λ h begins own legal.
    let d = g.D.Disk in
    let s = c.args.self.now in
    let kept = option_map (λ z. z.value) s.kept.now in
    let o = g.T.Keeps.opened s.room.now in
    let only = only_begun s.noted s.kind c.requires.begun.0 kept s.written s.ended.now c.requires.begun.1 in
    may_keep d.moment d.left_since d.may_leave d.faults o (g.T.Keeps.knows s.began.now.value) (g.T.Keeps.knows s.pass.now) s.keeper.now s.kind s.now.now h
    (begun_at d.moment d.left_since d.may_leave d.faults o s.noted (g.T.Keeps.knows s.began.now.value) (g.T.Keeps.knows s.pass.now) s.keeper.now s.kind kept s.now.now s.written s.ended.now only c.requires.ready.1) begins own legal

pub returns-in-Ok-clause-stays : goal.returns-in-Ok-clause-stays
returns-in-Ok-clause-stays g c =
    let d = g.D.Disk in
    let t = g.T.Keeps in
    let s = c.args.self.now in
    let kept = option_map (λ z. z.value) s.kept.now in
    let o = t.opened s.room.now in
    let k = t.knows s.began.now.value in
    let only = only_begun s.noted s.kind c.requires.begun.0 kept s.written s.ended.now c.requires.begun.1 in (
      refl,
      refl,
      refl,
      refl,
      refl,
      refl,
      refl,
      λ ready.
          let at = begun_at d.moment d.left_since d.may_leave d.faults o s.noted k (t.knows s.pass.now) s.keeper.now s.kind kept s.now.now s.written s.ended.now only ready.1 in
          let then = keep_ok d.moment d.left_since d.may_leave d.faults o k (t.knows s.pass.now) (t.knows c.keep.new.self) s.keeper.now s.kind s.now.now at c.args.states c.in-Ok.now c.in-Ok.ensures.kept in (
            c.keep.ensures.of,
            subst (λ v. IsAt d.moment d.left_since d.may_leave d.faults o k (t.knows c.keep.new.self) s.keeper.now s.kind (Some v) c.in-Ok.now s.written s.ended.now) (sym c.of-kept.ensures)
                (now_kept d.moment d.left_since d.may_leave d.faults o s.noted k (t.knows c.keep.new.self) s.keeper.now s.kind kept c.args.states c.in-Ok.now s.written s.ended.now only then),
            begun_noted _ _ _ s.noted kept s.written s.ended.now only,
          ),
    )

pub returns-in-Err-clause-stays : goal.returns-in-Err-clause-stays
returns-in-Err-clause-stays g c =
    let d = g.D.Disk in
    let t = g.T.Keeps in
    let s = c.args.self.now in
    let kept = option_map (λ z. z.value) s.kept.now in
    let o = t.opened s.room.now in
    let k = t.knows s.began.now.value in
    let only = only_begun s.noted s.kind c.requires.begun.0 kept s.written s.ended.now c.requires.begun.1 in (
      refl,
      refl,
      refl,
      refl,
      refl,
      refl,
      refl,
      λ ready.
          let at = begun_at d.moment d.left_since d.may_leave d.faults o s.noted k (t.knows s.pass.now) s.keeper.now s.kind kept s.now.now s.written s.ended.now only ready.1 in
          let then = keep_err d.moment d.left_since d.may_leave d.faults o k (t.knows s.pass.now) (t.knows c.keep.new.self) s.keeper.now s.kind s.now.now at c.args.states c.in-Err.error c.in-Err.ensures.kept in (
            c.keep.ensures.of,
            not_kept d.moment d.left_since d.may_leave d.faults o s.noted k (t.knows c.keep.new.self) s.keeper.now s.kind kept s.now.now s.written s.ended.now only then,
            begun_noted _ _ _ s.noted kept s.written s.ended.now only,
          ),
    )
