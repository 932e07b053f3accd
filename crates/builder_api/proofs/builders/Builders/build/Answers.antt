use Rattle.builder_api.proofs.Calls.{called_at, told_at, risen_at}
use Rattle.builder_api.proofs.builders.Builders.build.Goals as goal

pub returns-clause-lawful : goal.returns-clause-lawful
returns-clause-lawful g c =
    told_at g.B.Builder.tells _ c.self.inside.all.items c.args.self.now c.args.at c.index_mut.result.now c.self.view_is c.requires (rw (← c.index_mut.ensures.value) c.build_one.ensures.lawful)

pub returns-clause-called : goal.returns-clause-called
returns-clause-called g c =
    called_at g.B.Builder.tells _ c.self.inside.all.items c.args.self.now c.args.at _ c.index_mut.result.now c.self.view_is c.requires (rw (← c.index_mut.ensures.value) c.build_one.ensures.called)

pub returns-clause-failed : goal.returns-clause-failed
returns-clause-failed g c =
    λ is. risen_at g.B.Builder.tells c.self.inside.all.items c.args.self.now c.args.at _ c.index_mut.result.now c.self.view_is c.requires (rw (← c.index_mut.ensures.value) (c.build_one.ensures.failed is))
