use Rattle.builder_api.proofs.Calls.{called_at}
use Rattle.builder_api.proofs.builders.Builders.clean.Goals as goal

pub returns : goal.returns
returns g c = record {
  called = called_at g.B.Builder.tells _ c.self.inside.all.items c.args.self.now c.args.at _ c.index_mut.result.now c.self.view_is c.requires (rw (← c.index_mut.ensures.value) c.clean_one.ensures.called);
}
