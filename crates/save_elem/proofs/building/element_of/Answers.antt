use Rattle.save_elem.proofs.Items.{only_found}
use Rattle.save_elem.proofs.building.element_of.Goals as goal

pub returns-clause-only : goal.returns-clause-only
returns-clause-only c = only_found c.args.elem.now c.build.result c.build.ensures
