use Rattle.std.proofs.Common.{map}
use Rattle.std.specs.Option.{option_copied}
use Rattle.build_host.proofs.Cutting.{built_of, cut_of, home_of}
use Rattle.build_host.proofs.Served.{serves_built}
use Rattle.build_host.proofs.building.build.Goals as goal

pub returns-clause-made : goal.returns-clause-made
returns-clause-made g c = built_of c.hosted-answer.result g.M.Meanings.meaning c.args.kind (option_copied c.args.project) c.args.core.now c.hosted-answer.new.core 0 (map (λ b. g.B.Builder.tells b) c.args.builders.now)
    (map (λ b. g.B.Builder.tells b) c.args.builders.now) (map (λ b. g.B.Builder.tells b) c.hosted-answer.new.builders) c.hosted-answer.ensures.goes c.settle.ensures.placed c.hosted-answer.ensures.answered

pub returns-clause-cut : goal.returns-clause-cut
returns-clause-cut g c = cut_of c.hosted-answer.result g.M.Meanings.meaning c.args.kind (option_copied c.args.project) c.args.core.now c.hosted-answer.new.core 0 (map (λ b. g.B.Builder.tells b) c.args.builders.now)
    (map (λ b. g.B.Builder.tells b) c.args.builders.now) (map (λ b. g.B.Builder.tells b) c.hosted-answer.new.builders) c.hosted-answer.ensures.goes c.settle.ensures.placed c.hosted-answer.ensures.unanswered

pub returns-clause-home : goal.returns-clause-home
returns-clause-home g c = home_of c.hosted-answer.result g.M.Meanings.meaning c.args.kind (option_copied c.args.project) c.args.core.now c.hosted-answer.new.core 0 (map (λ b. g.B.Builder.tells b) c.args.builders.now)
    (map (λ b. g.B.Builder.tells b) c.args.builders.now) (map (λ b. g.B.Builder.tells b) c.hosted-answer.new.builders) c.hosted-answer.ensures.goes c.settle.ensures.placed c.hosted-answer.ensures.answered

pub returns-clause-serves : goal.returns-clause-serves
returns-clause-serves g c = serves_built g.M.Meanings.meaning c.args.core.now c.hosted-answer.new.core (map (λ b. g.B.Builder.tells b) c.args.builders.now) (map (λ b. g.B.Builder.tells b) c.hosted-answer.new.builders)
    c.hosted-answer.ensures.goes c.hosted-answer.ensures.builders c.settle.ensures.placed c.settle-2.ensures.placed c.hosted-answer.result c.args.kind (option_copied c.args.project) c.requires.named c.settle-2.ensures.legal c.hosted-answer.ensures.answered c.hosted-answer.ensures.unanswered
