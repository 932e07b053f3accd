use Rattle.std.proofs.Common.{◌≡◌, false, true, not, map, refl, sym, ap, ◌∙◌, subst}
use Rattle.std.specs.Prelude.{is_some}
use Rattle.builder_api.specs.Told.{WasFirstCalled}
use Rattle.builder_api.specs.Told as calls
use Rattle.build_laws.specs.States.{item}
use Rattle.build_host.proofs.Clearing.{clears}
use Rattle.build_history.proofs.Counts.{called_names}
use Rattle.build_host.proofs.Results.{longer, none_some}
use Rattle.build_host.proofs.host.WorkerHostHost.clean.Goals as goal

pub returns-then-is_none-clause-stays : goal.returns-then-is_none-clause-stays
returns-then-is_none-clause-stays g c = (
  refl,
  refl,
  c.clear.ensures.goes,
  record { names = called_names _ _ (map (λ b. g.B.Builder.tells b) c.args.self.now.builders.now) (map (λ b. g.B.Builder.tells b) c.clean_first.new.self) c.clean_first.ensures.called; means = c.clean_first.ensures.meanings g.M.Meanings.meaning },
  longer c.args.self.now.core.now c.clear.new.core c.args.self.now.first c.clear.ensures.goes,
)

pub returns-then-is_none-clause-cleaned : goal.returns-then-is_none-clause-cleaned
returns-then-is_none-clause-cleaned g c =
    let none : is_some c.in_ok-refused.refused ≡ false = c.is_none.ensures ∙ ap not c.if-is_none.true in
    clears 1 c.args.self.now.first (map (λ b. g.B.Builder.tells b) c.args.self.now.began.now.value) (map (λ b. g.B.Builder.tells b) c.args.self.now.builders.now) (map (λ b. g.B.Builder.tells b) c.clean_first.new.self) (item c.args.project.now c.args.index c.args.command.now) c.in_ok-refused.refused c.args.self.now.core.now c.clear.new.core c.requires.ready.1 c.requires.serving c.requires.described
    c.in_ok-refused.ensures.steps.0 c.in_ok-refused.ensures.steps.1
    (λ same. subst (λ n. WasFirstCalled n calls.Cleaned (map (λ b. g.B.Builder.tells b) c.args.self.now.builders.now) (map (λ b. g.B.Builder.tells b) c.clean_first.new.self)) c.text.ensures.text c.clean_first.ensures.called)
    (λ m is. absurd (none_some c.in_ok-refused.refused m none is))

pub returns-else-is_none-clause-cleaned : goal.returns-else-is_none-clause-cleaned
returns-else-is_none-clause-cleaned g c =
    let some : is_some c.in_ok-refused.refused ≡ true = c.is_none.ensures ∙ ap not c.if-is_none.false in
    clears 1 c.args.self.now.first (map (λ b. g.B.Builder.tells b) c.args.self.now.began.now.value) (map (λ b. g.B.Builder.tells b) c.args.self.now.builders.now) (map (λ b. g.B.Builder.tells b) c.args.self.now.builders.now) (item c.args.project.now c.args.index c.args.command.now) c.in_ok-refused.refused c.args.self.now.core.now c.clear.new.core c.requires.ready.1 c.requires.serving c.requires.described
    c.in_ok-refused.ensures.steps.0 c.in_ok-refused.ensures.steps.1
    (λ same. let no : false ≡ true = sym (ap is_some same) ∙ some in cc)
    (λ m is. refl)
