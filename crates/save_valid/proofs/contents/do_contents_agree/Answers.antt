use Rattle.save_valid.specs.Rules.{maps_at}
use Rattle.save_valid.proofs.Stamped.{agrees}
use Rattle.save_valid.proofs.contents.do_contents_agree.Goals as goal

pub returns : goal.returns
returns c = agrees (maps_at c.args.trees.now) c.none-contents.result c.keep_trees.result c.none-contents.ensures c.keep_trees.ensures
