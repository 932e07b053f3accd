use Rattle.save_host.proofs.Caused.{full_why, snapshot_why}
use Rattle.save_host.proofs.keeper.write.Goals as goal

pub returns-in-Full : goal.returns-in-Full
returns-in-Full g c =
    let e = c.full.ensures in record {
      run = e.any_moment;
      stored = e.saved;
      unsaved = e.unsaved;
      last = e.last;
      stays = e.stays;
      risen = e.risen.1;
      why = full_why c.full.result c.args.now.now c.args.store.now.areas.top e.limits;
      cause = e.cause;
    }

pub returns-in-Snapshot : goal.returns-in-Snapshot
returns-in-Snapshot g c =
    let e = c.snapshot.ensures in record {
      run = e.any_moment;
      stored = e.saved;
      unsaved = e.unsaved;
      last = e.last;
      stays = e.stays;
      risen = e.risen.1;
      why = snapshot_why g.D.Disk.seen c.snapshot.result c.args.now.now c.args.store.now c.snapshot.new.self e.how;
      cause = e.cause;
    }
