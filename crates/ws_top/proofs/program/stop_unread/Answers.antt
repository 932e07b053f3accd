use Rattle.ws_top.proofs.Lines.{line_3, line_9}
use Rattle.ws_top.proofs.program.stop_unread.Goals as goal

pub stop-requires : goal.stop-requires
stop-requires g c = line_3

pub stop-requires-in-TooLong : goal.stop-requires-in-TooLong
stop-requires-in-TooLong g c = line_9
