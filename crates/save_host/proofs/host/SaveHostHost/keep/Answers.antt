use Rattle.std.proofs.Common.{refl}
use Rattle.save_host.proofs.Hosting.{begun_under_way, keep_book, keep_ready, same_book}
use Rattle.save_host.proofs.host.SaveHostHost.keep.Goals as goal

pub keep-requires-clause-under_way : goal.keep-requires-clause-under_way
keep-requires-clause-under_way g c =
    let d = g.D.Disk in
    let s = c.args.self.now in
    begun_under_way d.moment d.left_since d.may_leave d.faults s.pass s.began.now.value s.core.now s.core.now s.keeper.now s.written c.requires.ready c.requires.begun.0 c.requires.begun.1

pub returns-clause-stays : goal.returns-clause-stays
returns-clause-stays g c =
    let d = g.D.Disk in
    let s = c.args.self.now in
    let e = c.keep.ensures in (
      refl,
      refl,
      refl,
      refl,
      refl,
      λ ready. keep_ready d.moment d.left_since d.may_leave d.faults s.pass s.began.now.value s.core.now c.keep.new.core s.keeper.now s.written ready c.requires.begun.0 c.requires.begun.1 c.keep.result c.args.states e.kept e.same,
    )

pub returns-clause-kept : goal.returns-clause-kept
returns-clause-kept g c =
    let d = g.D.Disk in
    let s = c.args.self.now in
    keep_book d.moment d.left_since d.may_leave d.faults s.pass s.began.now.value s.core.now c.keep.new.core s.keeper.now s.written c.requires.ready c.requires.begun.0 c.requires.begun.1 c.keep.result c.args.states c.keep.ensures.kept

pub returns-clause-same : goal.returns-clause-same
returns-clause-same g c =
    let d = g.D.Disk in
    let s = c.args.self.now in
    same_book d.moment d.left_since d.may_leave d.faults s.pass s.began.now.value s.core.now c.keep.new.core s.keeper.now s.written c.requires.ready c.keep.result c.keep.ensures.same
