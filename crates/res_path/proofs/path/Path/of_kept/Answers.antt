use Rattle.res_path.proofs.Built.{kept_utf8}
use Rattle.res_path.proofs.path.Path.of_kept.Goals as goal

pub from_known_utf8-requires : goal.from_known_utf8-requires
from_known_utf8-requires c = kept_utf8 c.args.text c.requires
