-- One call on a disk in memory, by what the trait asks of it.
use Rattle.std.specs.Prelude.{◌≡◌, length, Bool, if◌then◌else◌}
use Rattle.ws_outside.specs.declared.call.Request.{Request}
use Rattle.ws_outside.specs.declared.call.Request.TheVariants.{Len, Read, Write, Cut, Sync}
use Rattle.ws_outside.specs.declared.contents.Which.{Which}
use Rattle.ws_outside.specs.Disk.{held, holding, InArea, Came, Each, Elapses}
use Rattle.ws_outside.specs.Replay.{Device, done, reads, Leaves, MayLeave, LeftSince}

-- a call, done or not
pub record Stepped (area : Which) (request : Request) (ok : Bool) (old new : Device) : Type 0 where
  pub seen : reads new.first new.calls ≡ (if ok then holding area (done request (held area (reads old.first old.calls))) (reads old.first old.calls) else reads old.first old.calls)
  pub crash : Each (MayLeave new.first new.calls) (Came (MayLeave old.first old.calls) (InArea area (Leaves request ok (held area (reads old.first old.calls)))))
  pub time : Elapses (length old.calls) (length new.calls) (LeftSince old.first old.calls) (LeftSince new.first new.calls) (MayLeave new.first new.calls)

-- a call that makes new bytes of an area, for which memory may want
abbrev pub NeedsMemory : Request → Type 0
NeedsMemory Len = ⊥
NeedsMemory (Read _ _) = ⊥
NeedsMemory (Write _ _) = Unit {0}
NeedsMemory (Cut _) = Unit {0}
NeedsMemory Sync = ⊥
