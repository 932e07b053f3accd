use Rattle.std.proofs.Common.{refl}
use Rattle.save_host.proofs.Hosting.{fresh_book, start_book, start_ready}
use Rattle.save_host.proofs.host.SaveHostHost.start.Goals as goal

pub returns-clause-stays : goal.returns-clause-stays
returns-clause-stays g c =
    let d = g.D.Disk in
    let s = c.args.self.now in
    let e = c.begin.ensures in (
      refl,
      refl,
      refl,
      refl,
      refl,
      λ ready. start_ready d.moment d.left_since d.may_leave d.faults s.pass s.began.now.value s.core.now c.begin.new.core s.keeper.now s.written ready c.begin.result c.args.kind c.requires.fresh e.starts e.same,
    )

pub returns-clause-begun : goal.returns-clause-begun
returns-clause-begun g c =
    let d = g.D.Disk in
    let s = c.args.self.now in
    start_book d.moment d.left_since d.may_leave d.faults s.pass s.began.now.value s.core.now c.begin.new.core s.keeper.now s.written c.requires.ready c.begin.result c.args.kind c.requires.fresh c.begin.ensures.starts

pub returns-clause-same : goal.returns-clause-same
returns-clause-same g c =
    let d = g.D.Disk in
    let s = c.args.self.now in
    fresh_book d.moment d.left_since d.may_leave d.faults s.pass s.began.now.value s.core.now c.begin.new.core s.keeper.now s.written c.requires.ready c.begin.result c.requires.fresh c.begin.ensures.same
