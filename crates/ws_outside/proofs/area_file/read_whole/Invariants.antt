use Rattle.std.proofs.Common.{◌≤◌, length}
use Rattle.ws_outside.proofs.area_file.read_whole.Given as goal

abbrev pub invariant-loop : goal.invariant-loop
invariant-loop l = l.count ≤ length l.buf
