use Rattle.std.proofs.Common.{ap, sym, ◌∙◌}
use Rattle.build_core.specs.Histories.{taken_of}
use Rattle.build_host.proofs.Taking.{takes}
use Rattle.build_host.proofs.Tried.{commit_answered}
use Rattle.build_host.proofs.serving.commit.Goals as goal

pub unreachable-requires : goal.unreachable-requires
unreachable-requires g c = commit_answered c.args.core.now.state 1 c.args.edits (ap taken_of (sym c.in_ok-answer.ensures.steps.1) ∙ sym c.taken_of.ensures ∙ c.in-None.is)

pub returns-clause-taken : goal.returns-clause-taken
returns-clause-taken g c = λ first began told le. takes 1 first began told c.args.edits c.in-Some.taken c.args.core.now c.answered.new.core le c.requires.may c.in_ok-answer.ensures.steps.0
    (ap taken_of (sym c.in_ok-answer.ensures.steps.1) ∙ sym c.taken_of.ensures ∙ c.in-Some.is)
