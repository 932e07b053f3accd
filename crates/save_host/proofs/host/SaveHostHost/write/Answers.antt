use Rattle.std.proofs.Common.{refl}
use Rattle.save_host.proofs.Hosting.{write_book, write_ready}
use Rattle.save_host.proofs.host.SaveHostHost.write.Goals as goal

pub returns-clause-stays : goal.returns-clause-stays
returns-clause-stays g c =
    let d = g.D.Disk in
    let s = c.args.self.now in (
      refl,
      refl,
      refl,
      refl,
      c.write-result.ensures.began,
      λ ready. write_ready d.moment d.left_since d.may_leave d.faults s.pass s.began.now.value s.core.now s.core.now s.keeper.now s.written ready c.args.kind c.write-result.new.keeper
          (record { kind = c.args.kind; result = c.write-result.result }) c.requires.kept c.write-result.ensures.tried,
    )

pub returns-clause-written : goal.returns-clause-written
returns-clause-written g c =
    let d = g.D.Disk in
    let s = c.args.self.now in
    write_book d.moment d.left_since d.may_leave d.faults s.pass s.began.now.value s.core.now s.core.now s.keeper.now s.written c.requires.ready c.args.kind (record { kind = c.args.kind; result = c.write-result.result }) c.requires.kept
