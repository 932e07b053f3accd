use Rattle.std.proofs.Common.{◌≡◌, true, false, rules}
use Rattle.std.specs.Prelude.{vec_capacity}
use Rattle.ws_outside.specs.Replay.{Device, called}
use Rattle.ws_outside.proofs.Replays.{stepped, unstepped}
use Rattle.ws_outside.proofs.mem_disk.MemDisk.step.Goals as goal

pub returns-then-is_err-clause-failed : goal.returns-then-is_err-clause-failed
returns-then-is_err-clause-failed c =
    let s = c.self.inside in
    let n = c.one_more-self-inside.result in
    let new : Device = record { first = s.first; calls = c.reserve.new.self.items; failing = s.failing.items; room = vec_capacity c.reserve.new.self; faults = n } in
    let old : Device = c.args.self.now in
    let is : new ≡ record old { faults = n } = search rules in
    unstepped c.args.area c.args.request c.args.self.now new n is

pub returns-then-try_step-clause-stepped : goal.returns-then-try_step-clause-stepped
returns-then-try_step-clause-stepped c =
    let new : Device = c.try_step.new.self in
    let is : new ≡ called c.args.area c.args.request true new.room c.args.self.now = search rules in
    stepped c.args.area c.args.request true new.room c.args.self.now new is

pub returns-clause-failed : goal.returns-clause-failed
returns-clause-failed c =
    let s = c.self-2.inside in
    let new : Device = record { first = s.first; calls = s.calls.items; failing = s.failing.items; room = vec_capacity s.calls; faults = c.one_more-self-inside-2.result } in
    let is : new ≡ called c.args.area c.args.request false new.room c.args.self.now = search rules in
    stepped c.args.area c.args.request false new.room c.args.self.now new is
