use Rattle.std.proofs.Common.{map, ap}
use Rattle.ws_opening.specs.Opened.{opened_state}
use Rattle.ws_top.proofs.Built.{builds_nothing}
use Rattle.ws_top.proofs.Opened.{opens_unread}
use Rattle.ws_top.proofs.Taking.{taken_none}
use Rattle.ws_top.proofs.Told.{hears_nothing}
use Rattle.ws_top.proofs.Answered.{ends_responded, ends_unread}
use Rattle.ws_top.proofs.program.run.Goals as goal

pub returns-in-Ok : goal.returns-in-Ok
returns-in-Ok g c = let out = c.respond in record {
  ends = ends_responded g.M.Meanings.meaning out.result.kept (map (λ p. g.P.Participant.tells p) c.args.kit.participants) (map (λ b. g.B.Builder.tells b) c.args.kit.builders) (g.S.Source.left c.args.source.now) (g.S.Source.left c.read_all.new.source) (g.S.Source.reads c.args.source.now) (g.S.Source.reads c.read_all.new.source) (g.S.Source.faults c.args.source.now) (g.S.Source.faults c.read_all.new.source)
      (g.D.Disk.seen c.args.areas.disk) (g.D.Disk.faults c.args.areas.disk) (g.D.Disk.faults c.respond.result.areas.disk) (g.K.Sink.written c.args.sink.now) (g.K.Sink.written c.respond.new.sink) (g.K.Sink.faults c.args.sink.now) (g.K.Sink.faults c.respond.new.sink) out.result.status out.result.history
      c.in-Ok.bytes.items c.in-Ok.ensures.read c.in-Ok.ensures.calm c.read_all.ensures.some out.ensures.areas.areas.fault out.ensures.areas.areas.unopened out.ensures.responds;
  areas = out.ensures.areas;
  heard = out.ensures.heard;
  builds = out.ensures.builds;
  participants = out.ensures.participants;
}

pub returns-in-Err : goal.returns-in-Err
returns-in-Err g c = let out = c.stop_unread in record {
  ends = ends_unread g.M.Meanings.meaning out.result.kept (map (λ p. g.P.Participant.tells p) c.args.kit.participants) (map (λ b. g.B.Builder.tells b) c.args.kit.builders) c.in-Err.error (g.S.Source.left c.args.source.now) (g.S.Source.left c.read_all.new.source) (g.S.Source.reads c.args.source.now) (g.S.Source.reads c.read_all.new.source) (g.S.Source.faults c.args.source.now) (g.S.Source.faults c.read_all.new.source)
      (g.D.Disk.seen c.args.areas.disk) (g.D.Disk.faults c.args.areas.disk) (g.D.Disk.faults c.stop_unread.result.areas.disk) (g.K.Sink.written c.args.sink.now) (g.K.Sink.written c.stop_unread.new.sink) (g.K.Sink.faults c.args.sink.now) (g.K.Sink.faults c.stop_unread.new.sink) out.result.status out.result.history
      c.in-Err.ensures.cause c.in-Err.ensures.much c.read_all.ensures.some out.ensures.status out.ensures.nothing out.ensures.none out.ensures.line;
  areas = opens_unread g.D.Disk.moment g.D.Disk.left_since g.D.Disk.may_leave g.D.Disk.seen g.D.Disk.faults g.met.D.Disk.only_now c.in-Err.error c.args.areas.disk out.result.areas.disk (g.K.Sink.written c.args.sink.now) (g.K.Sink.written c.stop_unread.new.sink) (g.K.Sink.faults c.args.sink.now) (g.K.Sink.faults c.stop_unread.new.sink) out.result.kept (opened_state out.result.kept (map (λ b. g.B.Builder.tells b) c.args.kit.builders)) out.result.status out.result.history
      (ap (λ areas. areas.disk) out.ensures.areas) out.ensures.none out.ensures.nothing out.ensures.status out.ensures.line;
  heard = hears_nothing (opened_state c.stop_unread.result.kept (map (λ b. g.B.Builder.tells b) c.args.kit.builders)) c.stop_unread.result.status c.stop_unread.result.history (map (λ l. g.L.Listener.heard l) c.args.kit.listeners) (map (λ l. g.L.Listener.heard l) c.stop_unread.result.kit.listeners) c.stop_unread.ensures.nothing (ap (λ kit. map (λ l. g.L.Listener.heard l) kit.listeners) c.stop_unread.ensures.kit);
  builds = builds_nothing g.M.Meanings.meaning (opened_state c.stop_unread.result.kept (map (λ b. g.B.Builder.tells b) c.args.kit.builders)) c.stop_unread.result.history (map (λ b. g.B.Builder.tells b) c.args.kit.builders) (map (λ b. g.B.Builder.tells b) c.stop_unread.result.kit.builders) c.stop_unread.ensures.nothing (ap (λ kit. map (λ b. g.B.Builder.tells b) kit.builders) c.stop_unread.ensures.kit);
  participants = taken_none c.stop_unread.result.kept (opened_state c.stop_unread.result.kept (map (λ b. g.B.Builder.tells b) c.args.kit.builders)) c.stop_unread.result.status c.stop_unread.result.history (map (λ p. g.P.Participant.tells p) c.args.kit.participants) (map (λ p. g.P.Participant.tells p) c.stop_unread.result.kit.participants) c.stop_unread.ensures.none (ap (λ kit. map (λ p. g.P.Participant.tells p) kit.participants) c.stop_unread.ensures.kit);
}
