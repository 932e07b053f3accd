use Rattle.std.proofs.Common.{◌⊎◌, inl, map, ap, subst}
use Rattle.script_gen.specs.Generated.{generated}
use Rattle.ws_opening.specs.Opened.{opened_state}
use Rattle.ws_top.specs.declared.report.Telling.TheVariants.{Summary}
use Rattle.ws_top.specs.Inside.Parts.{Performs, IsRefused}
use Rattle.ws_top.specs.Outcomes.{Shuffle, CutShuffle, StoppedShuffle}
use Rattle.ws_top.specs.Texts.{report_of}
use Rattle.ws_top.proofs.Built.{builds_nothing}
use Rattle.ws_top.proofs.Opened.{opens_wanted}
use Rattle.ws_top.proofs.Responded.{performs_wanted}
use Rattle.ws_top.proofs.Taking.{taken_none}
use Rattle.ws_top.proofs.Told.{hears_nothing}
use Rattle.ws_top.proofs.loading.load.Goals as goal

pub returns-in-Ok : goal.returns-in-Ok
returns-in-Ok g c = let out = c.perform in let opened = opened_state out.result.kept (map (λ b. g.B.Builder.tells b) c.args.kit.builders) in record {
  performs = subst (λ s. Performs (Shuffle g.M.Meanings.meaning opened s) (CutShuffle g.M.Meanings.meaning opened s) (StoppedShuffle g.M.Meanings.meaning opened s) out.result.kept (report_of Summary (map (λ p. g.P.Participant.tells p) c.args.kit.participants)) opened (g.K.Sink.written c.args.sink.now) (g.K.Sink.written c.perform.new.sink) (g.K.Sink.faults c.args.sink.now) (g.K.Sink.faults c.perform.new.sink) out.result.status out.result.history ⊎ IsRefused out.result.kept out.result.status out.result.history)
      c.in-Ok.ensures out.ensures.performs;
  areas = out.ensures.areas;
  heard = out.ensures.heard;
  builds = out.ensures.builds;
  participants = out.ensures.participants;
}

pub returns-in-Err : goal.returns-in-Err
returns-in-Err g c = record {
  performs = inl (performs_wanted g.M.Meanings.meaning c.want.result.kept (report_of Summary (map (λ p. g.P.Participant.tells p) c.args.kit.participants)) (map (λ b. g.B.Builder.tells b) c.args.kit.builders) (generated c.args.number) (g.K.Sink.written c.args.sink.now) (g.K.Sink.written c.want.new.sink) (g.K.Sink.faults c.args.sink.now) (g.K.Sink.faults c.want.new.sink) c.want.result.status c.want.result.history c.want.ensures.status c.want.ensures.nothing c.want.ensures.none c.want.ensures.line);
  areas = opens_wanted g.D.Disk.moment g.D.Disk.left_since g.D.Disk.may_leave g.D.Disk.seen g.D.Disk.faults g.met.D.Disk.only_now c.args.areas.disk c.want.result.areas.disk (g.K.Sink.written c.args.sink.now) (g.K.Sink.written c.want.new.sink) (g.K.Sink.faults c.args.sink.now) (g.K.Sink.faults c.want.new.sink) c.want.result.kept (opened_state c.want.result.kept (map (λ b. g.B.Builder.tells b) c.args.kit.builders)) c.want.result.status c.want.result.history (ap (λ areas. areas.disk) c.want.ensures.areas) c.want.ensures.none c.want.ensures.nothing c.want.ensures.status c.want.ensures.line;
  heard = hears_nothing (opened_state c.want.result.kept (map (λ b. g.B.Builder.tells b) c.args.kit.builders)) c.want.result.status c.want.result.history (map (λ l. g.L.Listener.heard l) c.args.kit.listeners) (map (λ l. g.L.Listener.heard l) c.want.result.kit.listeners) c.want.ensures.nothing (ap (λ kit. map (λ l. g.L.Listener.heard l) kit.listeners) c.want.ensures.kit);
  builds = builds_nothing g.M.Meanings.meaning (opened_state c.want.result.kept (map (λ b. g.B.Builder.tells b) c.args.kit.builders)) c.want.result.history (map (λ b. g.B.Builder.tells b) c.args.kit.builders) (map (λ b. g.B.Builder.tells b) c.want.result.kit.builders) c.want.ensures.nothing (ap (λ kit. map (λ b. g.B.Builder.tells b) kit.builders) c.want.ensures.kit);
  participants = taken_none c.want.result.kept (opened_state c.want.result.kept (map (λ b. g.B.Builder.tells b) c.args.kit.builders)) c.want.result.status c.want.result.history (map (λ p. g.P.Participant.tells p) c.args.kit.participants) (map (λ p. g.P.Participant.tells p) c.want.result.kit.participants) c.want.ensures.none (ap (λ kit. map (λ p. g.P.Participant.tells p) kit.participants) c.want.ensures.kit);
}
