use Rattle.ws_durable.specs.Saved.{saved}
use Rattle.open_laws.proofs.Opens.{valid_opens}
use Rattle.ws_opening.proofs.opened.with_builders.Goals as goal

pub of-requires : goal.of-requires
of-requires c = valid_opens (saved c.args.durable) c.requires.valid
