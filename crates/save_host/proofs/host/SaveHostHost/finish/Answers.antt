use Rattle.std.proofs.Common.{refl}
use Rattle.save_host.proofs.Hosting.{finish_book, finish_ready, may_check_in}
use Rattle.save_host.proofs.host.SaveHostHost.finish.Goals as goal

pub check_in-requires-clause-under_way : goal.check_in-requires-clause-under_way
check_in-requires-clause-under_way g c =
    let d = g.D.Disk in
    let s = c.args.self.now in
    may_check_in d.moment d.left_since d.may_leave d.faults s.pass s.began.now.value s.core.now s.core.now s.keeper.now s.written c.requires.ready c.args.answer c.requires.ends

pub returns-clause-stays : goal.returns-clause-stays
returns-clause-stays g c =
    let d = g.D.Disk in
    let s = c.args.self.now in (
      refl,
      refl,
      refl,
      refl,
      refl,
      λ ready. finish_ready d.moment d.left_since d.may_leave d.faults s.pass s.began.now.value s.core.now c.check_in.new.core s.keeper.now s.written ready c.args.answer c.requires.ends c.check_in.ensures,
    )

pub returns-clause-ended : goal.returns-clause-ended
returns-clause-ended g c =
    let d = g.D.Disk in
    let s = c.args.self.now in
    finish_book d.moment d.left_since d.may_leave d.faults s.pass s.began.now.value s.core.now c.check_in.new.core s.keeper.now s.written c.requires.ready c.args.answer c.requires.ends c.check_in.ensures
