use Rattle.ws_top.proofs.Lines.{line_8}
use Rattle.ws_top.proofs.response.want.Goals as goal

pub stop-requires : goal.stop-requires
stop-requires g c = line_8
