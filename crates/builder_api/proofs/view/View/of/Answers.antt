use Rattle.ws_elem.proofs.Ordered.{entries_is}
use Rattle.builder_api.proofs.view.View.of.Goals as goal

pub returns : goal.returns
returns c = entries_is c.args.files.items c.requires
