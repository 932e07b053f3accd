use Rattle.run_text.proofs.Pieces.{front_none}
use Rattle.ws_top.proofs.report.print_changed.Goals as goal

pub returns-in-Err : goal.returns-in-Err
returns-in-Err g c = record { printed = front_none _ _ _ _ }
