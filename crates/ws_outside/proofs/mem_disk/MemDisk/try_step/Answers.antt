use Rattle.std.proofs.Common.{sym, ◌∙◌, ap}
use Rattle.std.specs.Prelude.{if◌then◌else◌}
use Rattle.ws_outside.specs.Disk.{held, holding}
use Rattle.ws_outside.specs.Replay.{done, reads}
use Rattle.ws_outside.proofs.Replays.{seen_push}
use Rattle.ws_outside.proofs.mem_disk.MemDisk.try_step.Goals as goal

pub invariant_of-self : goal.invariant_of-self
invariant_of-self c =
    let s = c.self.inside in
    let ok = c.change-done.result in
    c.change-done.ensures.both
    ∙ ap (λ both. if ok then holding c.args.area (done c.args.request (held c.args.area both)) both else both) c.self.invariant
    ∙ sym (seen_push c.args.area c.args.request ok s.first s.calls.items)
    ∙ ap (reads s.first) (sym c.push_reserved.ensures.items)
