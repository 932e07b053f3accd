use Rattle.std.proofs.Common.{◌≡◌, ◌⊎◌, true, [], map, sym, ap, subst, ◌∙◌}
use Rattle.build_host.specs.Hosts.{IsServed}
use Rattle.phase_run.specs.Calm.{IsCalm}
use Rattle.save_history.specs.Rounds.{HadSaves, rounds_of}
use Rattle.ws_core.specs.Durables.{kept_since}
use Rattle.ws_core.specs.Histories.{Legal, has_entered, replay}
use Rattle.ws_top.specs.Builds.{MakesBuilds}
use Rattle.ws_top.specs.Outcomes.{Shuffle, CutShuffle, StoppedShuffle, IsOneThread, HearsNotices}
use Rattle.ws_top.specs.Texts.{report_of}
use Rattle.ws_top.proofs.Built.{builds_of}
use Rattle.ws_top.proofs.Performed.{performs_for, report_alike}
use Rattle.ws_top.proofs.Ran.{has_run, ran_fault, ran_store, ran_told}
use Rattle.ws_top.proofs.Responded.{performed, performed_cut}
use Rattle.ws_top.proofs.Taking.{saved_names}
use Rattle.ws_top.proofs.Told.{hears_all, hears_front}
use Rattle.ws_top.proofs.running.perform_on.Goals as goal

pub of-space-requires-clause-kept : goal.of-space-requires-clause-kept
of-space-requires-clause-kept g c = c.of-keeper.ensures.kept c.args.opened.core c.requires.history c.requires.stored

pub run_phases-ran-requires-clause-opened : goal.run_phases-ran-requires-clause-opened
run_phases-ran-requires-clause-opened g c = ap (λ s. s.opened.manager) c.of-space.ensures.core ∙ ap (λ s. s.manager) c.requires.opened

pub run_phases-ran-requires-clause-served : goal.run_phases-ran-requires-clause-served
run_phases-ran-requires-clause-served g c = subst (λ s. IsServed g.M.Meanings.meaning s.opened (map (λ b. g.B.Builder.tells b) c.args.kit.builders)) (sym c.of-space.ensures.core) (record { named = ap (λ s. s.desk.builders) c.requires.opened; means = c.requires.means })

pub report-requires : goal.report-requires
report-requires g c =
    let ran = (has_run g.D.Disk.moment g.D.Disk.left_since g.D.Disk.may_leave g.D.Disk.faults (λ p. g.P.Participant.tells p) c.args.opened.core c.args.store c.of-keeper.result c.args.kit.participants c.of-space.result c.run_phases-ran.new.space c.into_parts-core.result.0 c.into_parts-core.result.1 c.into_parts-core.result.2 c.of-keeper.ensures.keeper c.of-space.ensures.core c.of-space.ensures.keeper c.of-space.ensures.began c.run_phases-ran.ensures.opened c.run_phases-ran.ensures.start c.into_parts-core.ensures.core c.into_parts-core.ensures.keeper c.into_parts-core.ensures.participants c.into_parts-core.ensures.sound) in record {
      some = c.requires.some;
      calm = subst (λ s. IsCalm s.history) (sym c.into_parts-core.ensures.core) c.in-Ok.ensures.calm;
      states = c.as_slice.ensures.value ∙ c.requires.states ∙ ap kept_since (sym ran.at);
      told = ran_told g.D.Disk.moment g.D.Disk.left_since g.D.Disk.may_leave g.D.Disk.faults c.args.opened.core.opened c.args.store (map (λ p. g.P.Participant.tells p) c.args.kit.participants) c.into_parts-core.result.0 c.into_parts-core.result.1 (map (λ p. g.P.Participant.tells p) c.into_parts-core.result.2) ran;
    }

pub report_cut-requires : goal.report_cut-requires
report_cut-requires g c =
    let ran = (has_run g.D.Disk.moment g.D.Disk.left_since g.D.Disk.may_leave g.D.Disk.faults (λ p. g.P.Participant.tells p) c.args.opened.core c.args.store c.of-keeper.result c.args.kit.participants c.of-space.result c.run_phases-ran.new.space c.into_parts-core.result.0 c.into_parts-core.result.1 c.into_parts-core.result.2 c.of-keeper.ensures.keeper c.of-space.ensures.core c.of-space.ensures.keeper c.of-space.ensures.began c.run_phases-ran.ensures.opened c.run_phases-ran.ensures.start c.into_parts-core.ensures.core c.into_parts-core.ensures.keeper c.into_parts-core.ensures.participants c.into_parts-core.ensures.sound) in record {
      some = c.requires.some;
      states = c.as_slice-in-Err.ensures.value ∙ c.requires.states ∙ ap kept_since (sym ran.at);
      told = ran_told g.D.Disk.moment g.D.Disk.left_since g.D.Disk.may_leave g.D.Disk.faults c.args.opened.core.opened c.args.store (map (λ p. g.P.Participant.tells p) c.args.kit.participants) c.into_parts-core.result.0 c.into_parts-core.result.1 (map (λ p. g.P.Participant.tells p) c.into_parts-core.result.2) ran;
    }

pub returns-in-Ok : goal.returns-in-Ok
returns-in-Ok g c =
    let ran = (has_run g.D.Disk.moment g.D.Disk.left_since g.D.Disk.may_leave g.D.Disk.faults (λ p. g.P.Participant.tells p) c.args.opened.core c.args.store c.of-keeper.result c.args.kit.participants c.of-space.result c.run_phases-ran.new.space c.into_parts-core.result.0 c.into_parts-core.result.1 c.into_parts-core.result.2 c.of-keeper.ensures.keeper c.of-space.ensures.core c.of-space.ensures.keeper c.of-space.ensures.began c.run_phases-ran.ensures.opened c.run_phases-ran.ensures.start c.into_parts-core.ensures.core c.into_parts-core.ensures.keeper c.into_parts-core.ensures.participants c.into_parts-core.ensures.sound) in
    let all = c.report.ensures.history ∙ ap (λ s. s.history) c.into_parts-core.ensures.core in record {
      performs = performs_for (Shuffle g.M.Meanings.meaning c.args.opened.core.opened c.args.script) (CutShuffle g.M.Meanings.meaning c.args.opened.core.opened c.args.script) (StoppedShuffle g.M.Meanings.meaning c.args.opened.core.opened c.args.script) c.report.result.kept (report_of c.args.telling (map (λ p. g.P.Participant.tells p) c.args.kit.participants)) (report_of c.args.telling (map (λ p. g.P.Participant.tells p) c.into_parts-core.result.2)) c.args.opened.core.opened (g.K.Sink.written c.args.sink.now) (g.K.Sink.written c.report.new.sink) (g.K.Sink.faults c.args.sink.now) (g.K.Sink.faults c.report.new.sink) c.report.result.status c.report.result.history
          (report_alike c.args.telling c.args.opened.core.opened c.report.result.history (map (λ p. g.P.Participant.tells p) c.args.kit.participants) (map (λ p. g.P.Participant.tells p) c.into_parts-core.result.2) (saved_names (rounds_of c.into_parts-core.result.0.history).ended (map (λ p. g.P.Participant.tells p) c.args.kit.participants) (map (λ p. g.P.Participant.tells p) c.into_parts-core.result.2) ran.had))
          (performed g.M.Meanings.meaning c.report.result.kept (report_of c.args.telling (map (λ p. g.P.Participant.tells p) c.into_parts-core.result.2)) c.args.opened.core.opened c.into_parts-core.result.0 c.args.script (g.K.Sink.written c.args.sink.now) (g.K.Sink.written c.report.new.sink) (g.K.Sink.faults c.args.sink.now) (g.K.Sink.faults c.report.new.sink) c.report.result.status c.report.result.history ran.at
          (subst (λ s. Shuffle g.M.Meanings.meaning c.args.opened.core.opened c.args.script s.history) (sym c.into_parts-core.ensures.core) (subst (λ s. Shuffle g.M.Meanings.meaning s.opened c.args.script c.run_phases-ran.new.space.core.history) c.of-space.ensures.core
          (subst (λ phases. Shuffle g.M.Meanings.meaning c.of-space.result.core.opened (record { phases = phases }) c.run_phases-ran.new.space.core.history) c.as_slice-phases.ensures c.in-Ok.ensures.whole))) c.report.ensures.performs);
      heard = subst (λ kit. HearsNotices c.args.opened.core.opened c.report.result.status c.report.result.history (map (λ l. g.L.Listener.heard l) c.args.kit.listeners) (map (λ l. g.L.Listener.heard l) kit.listeners)) (sym c.report.ensures.kit)
          (hears_all c.args.opened.core.opened c.report.result.status c.run_phases-ran.new.space.core.history c.report.result.history (map (λ l. g.L.Listener.heard l) c.args.kit.listeners) (map (λ l. g.L.Listener.heard l) c.run_phases-ran.new.listeners) (subst (λ s. IsOneThread s c.report.result.history) ran.at c.report.ensures.performs.thread) all c.in-Ok.ensures.told);
      builds = subst (λ kit. MakesBuilds g.M.Meanings.meaning c.args.opened.core.opened c.report.result.history (map (λ b. g.B.Builder.tells b) c.args.kit.builders) (map (λ b. g.B.Builder.tells b) kit.builders)) (sym c.report.ensures.kit)
          (subst (λ s. MakesBuilds g.M.Meanings.meaning s.opened c.report.result.history (map (λ b. g.B.Builder.tells b) c.args.kit.builders) (map (λ b. g.B.Builder.tells b) c.run_phases-ran.new.builders)) c.of-space.ensures.core
          (builds_of g.M.Meanings.meaning c.of-space.result.core c.run_phases-ran.new.space.core (map (λ b. g.B.Builder.tells b) c.args.kit.builders) (map (λ b. g.B.Builder.tells b) c.run_phases-ran.new.builders) c.report.result.history
          (ap (λ s. s.history) c.of-space.ensures.core ∙ c.requires.history) c.run_phases-ran.ensures.serves all (subst (λ s. Legal s.opened c.report.result.history) c.into_parts-core.ensures.core c.report.ensures.performs.thread.legal)));
      kept = c.report.ensures.kept;
      had = subst (λ kit. HadSaves (rounds_of c.report.result.history).ended (map (λ p. g.P.Participant.tells p) c.args.kit.participants) (map (λ p. g.P.Participant.tells p) kit.participants)) (sym c.report.ensures.kit)
          (subst (λ h. HadSaves (rounds_of h).ended (map (λ p. g.P.Participant.tells p) c.args.kit.participants) (map (λ p. g.P.Participant.tells p) c.into_parts-core.result.2)) (sym c.report.ensures.history) ran.had);
      fault = ran_fault g.D.Disk.moment g.D.Disk.left_since g.D.Disk.may_leave g.D.Disk.faults c.args.opened.core.opened c.args.store (map (λ p. g.P.Participant.tells p) c.args.kit.participants) c.into_parts-core.result.0 c.into_parts-core.result.1 (map (λ p. g.P.Participant.tells p) c.into_parts-core.result.2) ran c.report.result.areas.disk c.report.result.status c.report.ensures.fault;
      store = ran_store g.D.Disk.moment g.D.Disk.left_since g.D.Disk.may_leave g.D.Disk.faults c.args.opened.core.opened c.args.store (map (λ p. g.P.Participant.tells p) c.args.kit.participants) c.into_parts-core.result.0 c.into_parts-core.result.1 (map (λ p. g.P.Participant.tells p) c.into_parts-core.result.2) ran c.report.result.areas.disk c.report.result.history c.report.ensures.history c.report.ensures.disk;
    }

pub returns : goal.returns
returns g c =
    let ran = (has_run g.D.Disk.moment g.D.Disk.left_since g.D.Disk.may_leave g.D.Disk.faults (λ p. g.P.Participant.tells p) c.args.opened.core c.args.store c.of-keeper.result c.args.kit.participants c.of-space.result c.run_phases-ran.new.space c.into_parts-core.result.0 c.into_parts-core.result.1 c.into_parts-core.result.2 c.of-keeper.ensures.keeper c.of-space.ensures.core c.of-space.ensures.keeper c.of-space.ensures.began c.run_phases-ran.ensures.opened c.run_phases-ran.ensures.start c.into_parts-core.ensures.core c.into_parts-core.ensures.keeper c.into_parts-core.ensures.participants c.into_parts-core.ensures.sound) in
    let all = c.report_cut.ensures.history ∙ ap (λ s. s.history) c.into_parts-core.ensures.core in record {
      performs = performs_for (Shuffle g.M.Meanings.meaning c.args.opened.core.opened c.args.script) (CutShuffle g.M.Meanings.meaning c.args.opened.core.opened c.args.script) (StoppedShuffle g.M.Meanings.meaning c.args.opened.core.opened c.args.script) c.report_cut.result.kept (report_of c.args.telling (map (λ p. g.P.Participant.tells p) c.args.kit.participants)) (report_of c.args.telling (map (λ p. g.P.Participant.tells p) c.into_parts-core.result.2)) c.args.opened.core.opened (g.K.Sink.written c.args.sink.now) (g.K.Sink.written c.report_cut.new.sink) (g.K.Sink.faults c.args.sink.now) (g.K.Sink.faults c.report_cut.new.sink) c.report_cut.result.status c.report_cut.result.history
          (report_alike c.args.telling c.args.opened.core.opened c.report_cut.result.history (map (λ p. g.P.Participant.tells p) c.args.kit.participants) (map (λ p. g.P.Participant.tells p) c.into_parts-core.result.2) (saved_names (rounds_of c.into_parts-core.result.0.history).ended (map (λ p. g.P.Participant.tells p) c.args.kit.participants) (map (λ p. g.P.Participant.tells p) c.into_parts-core.result.2) ran.had))
          (performed_cut g.M.Meanings.meaning c.report_cut.result.kept (report_of c.args.telling (map (λ p. g.P.Participant.tells p) c.into_parts-core.result.2)) c.args.opened.core.opened c.into_parts-core.result.0 c.args.script (g.K.Sink.written c.args.sink.now) (g.K.Sink.written c.report_cut.new.sink) (g.K.Sink.faults c.args.sink.now) (g.K.Sink.faults c.report_cut.new.sink) c.report_cut.result.status c.report_cut.result.history ran.at
          (subst (λ s. CutShuffle g.M.Meanings.meaning c.args.opened.core.opened c.args.script s.history) (sym c.into_parts-core.ensures.core) (subst (λ s. CutShuffle g.M.Meanings.meaning s.opened c.args.script c.run_phases-ran.new.space.core.history) c.of-space.ensures.core
          (subst (λ phases. CutShuffle g.M.Meanings.meaning c.of-space.result.core.opened (record { phases = phases }) c.run_phases-ran.new.space.core.history) c.as_slice-phases.ensures c.in-Err.ensures.cut)))
          (subst (λ s. (s.history ≡ []) ⊎ (has_entered 1 (replay s.opened s.history) ≡ true)) (sym c.into_parts-core.ensures.core) c.in-Err.ensures.there) c.report_cut.ensures.performs);
      heard = subst (λ kit. HearsNotices c.args.opened.core.opened c.report_cut.result.status c.report_cut.result.history (map (λ l. g.L.Listener.heard l) c.args.kit.listeners) (map (λ l. g.L.Listener.heard l) kit.listeners)) (sym c.report_cut.ensures.kit)
          (hears_front c.args.opened.core.opened c.report_cut.result.status c.run_phases-ran.new.space.core.history c.report_cut.result.history (map (λ l. g.L.Listener.heard l) c.args.kit.listeners) (map (λ l. g.L.Listener.heard l) c.run_phases-ran.new.listeners) c.report_cut.ensures.status (subst (λ s. IsOneThread s c.report_cut.result.history) ran.at c.report_cut.ensures.performs.thread) all c.in-Err.ensures.told_some);
      builds = subst (λ kit. MakesBuilds g.M.Meanings.meaning c.args.opened.core.opened c.report_cut.result.history (map (λ b. g.B.Builder.tells b) c.args.kit.builders) (map (λ b. g.B.Builder.tells b) kit.builders)) (sym c.report_cut.ensures.kit)
          (subst (λ s. MakesBuilds g.M.Meanings.meaning s.opened c.report_cut.result.history (map (λ b. g.B.Builder.tells b) c.args.kit.builders) (map (λ b. g.B.Builder.tells b) c.run_phases-ran.new.builders)) c.of-space.ensures.core
          (builds_of g.M.Meanings.meaning c.of-space.result.core c.run_phases-ran.new.space.core (map (λ b. g.B.Builder.tells b) c.args.kit.builders) (map (λ b. g.B.Builder.tells b) c.run_phases-ran.new.builders) c.report_cut.result.history
          (ap (λ s. s.history) c.of-space.ensures.core ∙ c.requires.history) c.run_phases-ran.ensures.serves all (subst (λ s. Legal s.opened c.report_cut.result.history) c.into_parts-core.ensures.core c.report_cut.ensures.performs.thread.legal)));
      kept = c.report_cut.ensures.kept;
      had = subst (λ kit. HadSaves (rounds_of c.report_cut.result.history).ended (map (λ p. g.P.Participant.tells p) c.args.kit.participants) (map (λ p. g.P.Participant.tells p) kit.participants)) (sym c.report_cut.ensures.kit)
          (subst (λ h. HadSaves (rounds_of h).ended (map (λ p. g.P.Participant.tells p) c.args.kit.participants) (map (λ p. g.P.Participant.tells p) c.into_parts-core.result.2)) (sym c.report_cut.ensures.history) ran.had);
      fault = ran_fault g.D.Disk.moment g.D.Disk.left_since g.D.Disk.may_leave g.D.Disk.faults c.args.opened.core.opened c.args.store (map (λ p. g.P.Participant.tells p) c.args.kit.participants) c.into_parts-core.result.0 c.into_parts-core.result.1 (map (λ p. g.P.Participant.tells p) c.into_parts-core.result.2) ran c.report_cut.result.areas.disk c.report_cut.result.status c.report_cut.ensures.fault;
      store = ran_store g.D.Disk.moment g.D.Disk.left_since g.D.Disk.may_leave g.D.Disk.faults c.args.opened.core.opened c.args.store (map (λ p. g.P.Participant.tells p) c.args.kit.participants) c.into_parts-core.result.0 c.into_parts-core.result.1 (map (λ p. g.P.Participant.tells p) c.into_parts-core.result.2) ran c.report_cut.result.areas.disk c.report_cut.result.history c.report_cut.ensures.history c.report_cut.ensures.disk;
    }
