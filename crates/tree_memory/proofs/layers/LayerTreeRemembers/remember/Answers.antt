use Rattle.tree_memory.proofs.Marks.{others_stay}
use Rattle.tree_memory.proofs.layers.LayerTreeRemembers.remember.Goals as goal

pub returns-clause-others : goal.returns-clause-others
returns-clause-others c = others_stay c.args.self.now c.seal.new.self c.seal.ensures.marks c.seal.result c.seal.ensures.ok
