use Rattle.std.proofs.Common.{sym, ◌∙◌, map}
use Rattle.builder_api.proofs.Firsts.{place_within, meanings_kept}
use Rattle.builder_api.proofs.builders.Builders.clean_first.Goals as goal

pub clean-requires : goal.clean-requires
clean-requires g c = place_within g.B.Builder.tells c.args.name.now c.args.self.now c.in-Some.at (sym c.place_of.ensures ∙ c.in-Some.is)

pub returns-in-Some-clause-meanings : goal.returns-in-Some-clause-meanings
returns-in-Some-clause-meanings g c = λ ms have. meanings_kept ms c.in-Some.at _ (map g.B.Builder.tells c.args.self.now) _ c.clean.ensures.called have
