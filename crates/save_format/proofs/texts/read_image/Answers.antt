use Rattle.std.proofs.Common.{subst}
use Rattle.ws_elem.specs.Trees.{Tree}
use Rattle.save_read.specs.Texts.{IsSpelled}
use Rattle.save_format.proofs.Nothing.{nothing_fits}
use Rattle.save_format.proofs.texts.read_image.Goals as goal

pub read_lawful-requires-clause-base : goal.read_lawful-requires-clause-base
read_lawful-requires-clause-base c = nothing_fits c.empty-nothing.result.map c.empty-nothing.ensures.map

pub read_lawful-requires-clause-shelf : goal.read_lawful-requires-clause-shelf
read_lawful-requires-clause-shelf c = nothing_fits c.empty-nothing.result.map c.empty-nothing.ensures.map

pub returns-clause-spelled : goal.returns-clause-spelled
returns-clause-spelled c at is = subst (λ (t : Tree). IsSpelled t t c.args.body.now) c.empty-nothing.ensures.map (c.read_lawful.ensures.spelled at is)
