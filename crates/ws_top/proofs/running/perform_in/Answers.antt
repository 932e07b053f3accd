use Rattle.std.proofs.Common.{inl, inr, map, sym, ap, subst, ◌∙◌, arith}
use Rattle.std.specs.Prelude.{is_some}
use Rattle.save_round.specs.Restoring.{HasStoppedRestoring}
use Rattle.ws_core.specs.Durables.{kept_since}
use Rattle.ws_opening.specs.Opened.{opened_state}
use Rattle.ws_top.specs.Builds.{MakesBuilds}
use Rattle.ws_top.specs.Inside.Running.{KeepsStore}
use Rattle.ws_top.specs.Outcomes.{Shuffle, CutShuffle, StoppedShuffle, HearsNotices}
use Rattle.ws_top.specs.Texts.{report_of}
use Rattle.ws_top.proofs.Built.{builds_nothing}
use Rattle.ws_top.proofs.Opened.{disk_calm, store_none, store_some}
use Rattle.ws_top.proofs.Performed.{performs_for, report_alike}
use Rattle.ws_top.proofs.Responded.{performed_from, performs_wanted}
use Rattle.ws_top.proofs.Taking.{restored_names, taken_all, taken_stopped}
use Rattle.ws_top.proofs.Told.{hears_nothing}
use Rattle.ws_top.proofs.running.perform_in.Goals as goal

pub returns-in-Ok : goal.returns-in-Ok
returns-in-Ok g c =
    let out = c.perform_on in
    let told = (map (λ b. g.B.Builder.tells b) c.args.kit.builders) in
    let old = (map (λ p. g.P.Participant.tells p) c.args.kit.participants) in
    let then = (map (λ p. g.P.Participant.tells p) c.restore_all-restored.new.parts) in
    let at = c.requires.opened ∙ ap (λ k. opened_state k told) (sym out.ensures.kept) in
    let some = ap is_some out.ensures.kept ∙ c.requires.some in record {
      performs = performed_from g.M.Meanings.meaning out.result.kept (report_of c.args.telling old) c.args.opened.core.opened (opened_state out.result.kept told) c.args.script (g.K.Sink.written c.args.sink.now) (g.K.Sink.written c.perform_on.new.sink) (g.K.Sink.faults c.args.sink.now) (g.K.Sink.faults c.perform_on.new.sink) out.result.status out.result.history at
          (performs_for (Shuffle g.M.Meanings.meaning c.args.opened.core.opened c.args.script) (CutShuffle g.M.Meanings.meaning c.args.opened.core.opened c.args.script) (StoppedShuffle g.M.Meanings.meaning c.args.opened.core.opened c.args.script) out.result.kept (report_of c.args.telling old) (report_of c.args.telling then) c.args.opened.core.opened (g.K.Sink.written c.args.sink.now) (g.K.Sink.written c.perform_on.new.sink) (g.K.Sink.faults c.args.sink.now) (g.K.Sink.faults c.perform_on.new.sink) out.result.status out.result.history
          (report_alike c.args.telling c.args.opened.core.opened out.result.history old then (restored_names c.as_slice.result.now old then c.in-Ok.ensures.restored)) out.ensures.performs);
      from = inl out.ensures.kept;
      heard = subst (λ s. HearsNotices s out.result.status out.result.history (map (λ l. g.L.Listener.heard l) c.args.kit.listeners) (map (λ l. g.L.Listener.heard l) out.result.kit.listeners)) at out.ensures.heard;
      builds = subst (λ s. MakesBuilds g.M.Meanings.meaning s out.result.history told (map (λ b. g.B.Builder.tells b) out.result.kit.builders)) at out.ensures.builds;
      participants = taken_all out.result.kept (opened_state out.result.kept told) out.result.status out.result.history c.as_slice.result.now old then (map (λ p. g.P.Participant.tells p) out.result.kit.participants) some
          (c.as_slice.ensures.value ∙ c.requires.states ∙ ap kept_since at) c.in-Ok.ensures.restored out.ensures.had;
      fault = out.ensures.fault;
      store = store_some g.D.Disk.moment g.D.Disk.left_since g.D.Disk.may_leave g.D.Disk.seen g.D.Disk.faults c.args.store out.result.areas.disk out.result.kept (opened_state out.result.kept told) out.result.history some
          (subst (λ s. KeepsStore g.D.Disk.moment g.D.Disk.left_since g.D.Disk.may_leave g.D.Disk.faults c.args.store out.result.areas.disk s out.result.history) at out.ensures.store);
    }

pub returns-in-Err : goal.returns-in-Err
returns-in-Err g c = record {
  performs = performs_wanted g.M.Meanings.meaning c.want.result.kept (report_of c.args.telling (map (λ p. g.P.Participant.tells p) c.args.kit.participants)) (map (λ b. g.B.Builder.tells b) c.args.kit.builders) c.args.script (g.K.Sink.written c.args.sink.now) (g.K.Sink.written c.want.new.sink) (g.K.Sink.faults c.args.sink.now) (g.K.Sink.faults c.want.new.sink) c.want.result.status c.want.result.history c.want.ensures.status c.want.ensures.nothing c.want.ensures.none c.want.ensures.line;
  from = inr (c.want.ensures.none, c.want.ensures.status, c.want.ensures.nothing, c.want.ensures.line);
  heard = hears_nothing (opened_state c.want.result.kept (map (λ b. g.B.Builder.tells b) c.args.kit.builders)) c.want.result.status c.want.result.history (map (λ l. g.L.Listener.heard l) c.args.kit.listeners) (map (λ l. g.L.Listener.heard l) c.want.result.kit.listeners) c.want.ensures.nothing (ap (λ kit. map (λ l. g.L.Listener.heard l) kit.listeners) c.want.ensures.kit);
  builds = builds_nothing g.M.Meanings.meaning (opened_state c.want.result.kept (map (λ b. g.B.Builder.tells b) c.args.kit.builders)) c.want.result.history (map (λ b. g.B.Builder.tells b) c.args.kit.builders) (map (λ b. g.B.Builder.tells b) c.want.result.kit.builders) c.want.ensures.nothing (ap (λ kit. map (λ b. g.B.Builder.tells b) kit.builders) c.want.ensures.kit);
  fault = disk_calm (g.D.Disk.faults c.args.store.areas.disk) (g.D.Disk.faults c.want.result.areas.disk) c.want.result.status 8 c.want.ensures.status (λ k. omega (arith, k)) (ap g.D.Disk.faults (ap (λ areas. areas.disk) c.want.ensures.areas ∙ c.areas_of.ensures));
  store = store_none g.D.Disk.moment g.D.Disk.left_since g.D.Disk.may_leave g.D.Disk.seen g.D.Disk.faults c.args.store c.want.result.areas.disk c.want.result.kept (opened_state c.want.result.kept (map (λ b. g.B.Builder.tells b) c.args.kit.builders)) c.want.result.history c.want.ensures.none (ap (λ areas. areas.disk) c.want.ensures.areas ∙ c.areas_of.ensures);
  participants = taken_stopped c.want.result.kept (opened_state c.want.result.kept (map (λ b. g.B.Builder.tells b) c.args.kit.builders)) c.want.result.status c.want.result.history c.as_slice.result.now (map (λ p. g.P.Participant.tells p) c.args.kit.participants) (map (λ p. g.P.Participant.tells p) c.want.result.kit.participants) c.want.ensures.none c.want.ensures.status
      (subst (λ ps. HasStoppedRestoring c.as_slice.result.now (map (λ p. g.P.Participant.tells p) c.args.kit.participants) (map (λ p. g.P.Participant.tells p) ps)) (sym (ap (λ kit. kit.participants) c.want.ensures.kit)) c.in-Err.ensures.stopped);
}
