use Rattle.std.proofs.Common.{map}
use Rattle.std.specs.Option.{option_copied}
use Rattle.build_host.proofs.Results.{answered_at, unanswered_at}
use Rattle.build_host.proofs.building.made.Goals as goal

pub returns-clause-same_core : goal.returns-clause-same_core
returns-clause-same_core g c = c.run.ensures.stays.0

pub returns-clause-same_builders : goal.returns-clause-same_builders
returns-clause-same_builders g c = c.run.ensures.stays.1

pub returns-clause-goes : goal.returns-clause-goes
returns-clause-goes g c = c.run.ensures.stays.2

pub returns-clause-builders : goal.returns-clause-builders
returns-clause-builders g c = c.run.ensures.stays.3

pub returns-clause-answered : goal.returns-clause-answered
returns-clause-answered g c = answered_at c.run.result g.M.Meanings.meaning c.args.kind (option_copied c.args.project) c.args.host.now.core.now c.run.new.host.core.now c.args.host.now.first c.run.new.host.first
    (map (λ b. g.B.Builder.tells b) c.args.host.now.began.now.value) (map (λ b. g.B.Builder.tells b) c.run.new.host.began.now.value) (map (λ b. g.B.Builder.tells b) c.args.host.now.builders.now) (map (λ b. g.B.Builder.tells b) c.run.new.host.builders.now)
    c.requires.first c.requires.began c.run.ensures.answered

pub returns-clause-unanswered : goal.returns-clause-unanswered
returns-clause-unanswered g c = unanswered_at c.run.result g.M.Meanings.meaning c.args.kind (option_copied c.args.project) c.args.host.now.core.now c.run.new.host.core.now c.args.host.now.first c.run.new.host.first
    (map (λ b. g.B.Builder.tells b) c.args.host.now.began.now.value) (map (λ b. g.B.Builder.tells b) c.run.new.host.began.now.value) (map (λ b. g.B.Builder.tells b) c.args.host.now.builders.now) (map (λ b. g.B.Builder.tells b) c.run.new.host.builders.now)
    c.requires.first c.requires.began c.run.ensures.unanswered
