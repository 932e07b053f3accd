use Rattle.save_state.proofs.StateLaws.{taken, left_over}
use Rattle.save_state.proofs.entry.Entry.read.Goals as goal

pub slice_bounds-of-count : goal.slice_bounds-of-count
slice_bounds-of-count c =
    let read = c.in_ok-elem.ensures in
    let le = left_over c.args.input.now c.read_optional.new.input c.in_ok-elem.elem read in
    rw (c.len.ensures, c.rest-start.ensures) le

pub invariant_of-result : goal.invariant_of-result
invariant_of-result c =
    let read = c.in_ok-elem.ensures in
    let front = taken c.args.input.now c.read_optional.new.input c.in_ok-elem.elem read in
    rw (c.of-bytes.ensures, c.len.ensures, c.rest-start.ensures) front
