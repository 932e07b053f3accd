use Rattle.std.proofs.Common.{sym, ap, ◌∙◌, map}
use Rattle.builder_api.specs.Told.{place_named}
use Rattle.builder_api.proofs.Firsts.{place_within, means_at, meanings_kept}
use Rattle.builder_api.proofs.builders.Builders.build_first.Goals as goal

pub build-requires : goal.build-requires
build-requires g c =
    place_within g.B.Builder.tells c.args.command.now.builder c.args.self.now c.in-Some.at
    (sym (c.place_of.ensures ∙ ap (λ n. place_named n (map g.B.Builder.tells c.args.self.now)) c.text.ensures.text) ∙ c.in-Some.is)

pub returns-in-Some-clause-lawful : goal.returns-in-Some-clause-lawful
returns-in-Some-clause-lawful g c =
    λ ms have. means_at ms _ c.args.command.now.builder (map g.B.Builder.tells c.args.self.now) c.in-Some.at have
    (sym (c.place_of.ensures ∙ ap (λ n. place_named n (map g.B.Builder.tells c.args.self.now)) c.text.ensures.text) ∙ c.in-Some.is) c.build.ensures.lawful

pub returns-in-Some-clause-meanings : goal.returns-in-Some-clause-meanings
returns-in-Some-clause-meanings g c = λ ms have. meanings_kept ms c.in-Some.at _ (map g.B.Builder.tells c.args.self.now) _ c.build.ensures.called have
