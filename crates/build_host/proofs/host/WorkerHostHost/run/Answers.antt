use Rattle.std.proofs.Common.{map, refl}
use Rattle.build_history.proofs.Counts.{builder_placed, called_names}
use Rattle.build_host.specs.Laws.{goes_itself}
use Rattle.build_host.proofs.host.WorkerHostHost.run.Goals as goal

pub unreachable-requires : goal.unreachable-requires
unreachable-requires g c = builder_placed c.args.command.now.builder c.args.self.now.core.now.state.desk.builders (map (λ b. g.B.Builder.tells b) c.args.self.now.builders.now) c.requires.ready.0.named c.requires.present (c.in-None.ensures.none.0 refl)

pub returns-clause-stays : goal.returns-clause-stays
returns-clause-stays g c = (
  refl,
  refl,
  goes_itself c.args.self.now.core.now,
  record { names = called_names _ _ (map (λ b. g.B.Builder.tells b) c.args.self.now.builders.now) (map (λ b. g.B.Builder.tells b) c.build_first.new.self) c.in-Some.ensures.called; means = c.in-Some.ensures.meanings g.M.Meanings.meaning },
  λ h. h,
)
