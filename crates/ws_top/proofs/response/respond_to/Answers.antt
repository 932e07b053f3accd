use Rattle.std.proofs.Common.{inl, inr, map, ap, ◌∙◌, Err}
use Rattle.ws_opening.specs.Opened.{opened_state}
use Rattle.ws_top.proofs.Built.{builds_nothing}
use Rattle.ws_top.proofs.Opened.{opens_wanted, opens_bad_line}
use Rattle.ws_top.proofs.Responded.{none_spelled, responds_script, responds_nothing, responds_bad}
use Rattle.ws_top.proofs.Taking.{taken_none}
use Rattle.ws_top.proofs.Told.{hears_nothing}
use Rattle.ws_top.proofs.response.respond_to.Goals as goal

pub returns-in-Ok : goal.returns-in-Ok
returns-in-Ok g c = record {
  responds = responds_script g.M.Meanings.meaning c.perform.result.kept (map (λ p. g.P.Participant.tells p) c.args.kit.participants) (opened_state c.perform.result.kept (map (λ b. g.B.Builder.tells b) c.args.kit.builders)) c.args.text c.in-Ok.script (g.K.Sink.written c.args.sink.now) (g.K.Sink.written c.perform.new.sink) (g.K.Sink.faults c.args.sink.now) (g.K.Sink.faults c.perform.new.sink) c.perform.result.status c.perform.result.history c.in-Ok.ensures.found c.perform.ensures.performs;
  areas = c.perform.ensures.areas;
  heard = c.perform.ensures.heard;
  builds = c.perform.ensures.builds;
  participants = c.perform.ensures.participants;
}

pub returns-in-Err-BadLine : goal.returns-in-Err-BadLine
returns-in-Err-BadLine g c = let bad = c.in-Err-BadLine.is ∙ ap Err c.in-Err-BadLine.field-0-is in record {
  responds = responds_bad g.M.Meanings.meaning c.say_bad_line.result.kept (map (λ p. g.P.Participant.tells p) c.args.kit.participants) (map (λ b. g.B.Builder.tells b) c.args.kit.builders) c.args.text c.in-Err-BadLine.line (g.K.Sink.written c.args.sink.now) (g.K.Sink.written c.say_bad_line.new.sink) (g.K.Sink.faults c.args.sink.now) (g.K.Sink.faults c.say_bad_line.new.sink) c.say_bad_line.result.status c.say_bad_line.result.history
      (none_spelled c.args.text c.parse_shared.result c.in-Err-BadLine.line bad c.parse_shared.ensures.all)
      (c.parse_shared.ensures.bad c.in-Err-BadLine.line bad)
      c.say_bad_line.ensures.told c.say_bad_line.ensures.nothing c.say_bad_line.ensures.none;
  areas = opens_bad_line g.D.Disk.moment g.D.Disk.left_since g.D.Disk.may_leave g.D.Disk.seen g.D.Disk.faults g.met.D.Disk.only_now c.in-Err-BadLine.line c.args.areas.disk c.say_bad_line.result.areas.disk (g.K.Sink.written c.args.sink.now) (g.K.Sink.written c.say_bad_line.new.sink) (g.K.Sink.faults c.args.sink.now) (g.K.Sink.faults c.say_bad_line.new.sink) c.say_bad_line.result.kept (opened_state c.say_bad_line.result.kept (map (λ b. g.B.Builder.tells b) c.args.kit.builders)) c.say_bad_line.result.status c.say_bad_line.result.history
      (ap (λ areas. areas.disk) c.say_bad_line.ensures.areas) c.say_bad_line.ensures.none c.say_bad_line.ensures.nothing c.say_bad_line.ensures.told;
  heard = hears_nothing (opened_state c.say_bad_line.result.kept (map (λ b. g.B.Builder.tells b) c.args.kit.builders)) c.say_bad_line.result.status c.say_bad_line.result.history (map (λ l. g.L.Listener.heard l) c.args.kit.listeners) (map (λ l. g.L.Listener.heard l) c.say_bad_line.result.kit.listeners) c.say_bad_line.ensures.nothing (ap (λ kit. map (λ l. g.L.Listener.heard l) kit.listeners) c.say_bad_line.ensures.kit);
  builds = builds_nothing g.M.Meanings.meaning (opened_state c.say_bad_line.result.kept (map (λ b. g.B.Builder.tells b) c.args.kit.builders)) c.say_bad_line.result.history (map (λ b. g.B.Builder.tells b) c.args.kit.builders) (map (λ b. g.B.Builder.tells b) c.say_bad_line.result.kit.builders) c.say_bad_line.ensures.nothing (ap (λ kit. map (λ b. g.B.Builder.tells b) kit.builders) c.say_bad_line.ensures.kit);
  participants = taken_none c.say_bad_line.result.kept (opened_state c.say_bad_line.result.kept (map (λ b. g.B.Builder.tells b) c.args.kit.builders)) c.say_bad_line.result.status c.say_bad_line.result.history (map (λ p. g.P.Participant.tells p) c.args.kit.participants) (map (λ p. g.P.Participant.tells p) c.say_bad_line.result.kit.participants) c.say_bad_line.ensures.none (ap (λ kit. map (λ p. g.P.Participant.tells p) kit.participants) c.say_bad_line.ensures.kit);
}

pub returns-in-Err-Memory : goal.returns-in-Err-Memory
returns-in-Err-Memory g c = record {
  responds = responds_nothing g.M.Meanings.meaning c.want.result.kept (map (λ p. g.P.Participant.tells p) c.args.kit.participants) (map (λ b. g.B.Builder.tells b) c.args.kit.builders) c.args.text (g.K.Sink.written c.args.sink.now) (g.K.Sink.written c.want.new.sink) (g.K.Sink.faults c.args.sink.now) (g.K.Sink.faults c.want.new.sink) c.want.result.status c.want.result.history c.want.ensures.status c.want.ensures.nothing c.want.ensures.none c.want.ensures.line;
  areas = opens_wanted g.D.Disk.moment g.D.Disk.left_since g.D.Disk.may_leave g.D.Disk.seen g.D.Disk.faults g.met.D.Disk.only_now c.args.areas.disk c.want.result.areas.disk (g.K.Sink.written c.args.sink.now) (g.K.Sink.written c.want.new.sink) (g.K.Sink.faults c.args.sink.now) (g.K.Sink.faults c.want.new.sink) c.want.result.kept (opened_state c.want.result.kept (map (λ b. g.B.Builder.tells b) c.args.kit.builders)) c.want.result.status c.want.result.history (ap (λ areas. areas.disk) c.want.ensures.areas) c.want.ensures.none c.want.ensures.nothing c.want.ensures.status c.want.ensures.line;
  heard = hears_nothing (opened_state c.want.result.kept (map (λ b. g.B.Builder.tells b) c.args.kit.builders)) c.want.result.status c.want.result.history (map (λ l. g.L.Listener.heard l) c.args.kit.listeners) (map (λ l. g.L.Listener.heard l) c.want.result.kit.listeners) c.want.ensures.nothing (ap (λ kit. map (λ l. g.L.Listener.heard l) kit.listeners) c.want.ensures.kit);
  builds = builds_nothing g.M.Meanings.meaning (opened_state c.want.result.kept (map (λ b. g.B.Builder.tells b) c.args.kit.builders)) c.want.result.history (map (λ b. g.B.Builder.tells b) c.args.kit.builders) (map (λ b. g.B.Builder.tells b) c.want.result.kit.builders) c.want.ensures.nothing (ap (λ kit. map (λ b. g.B.Builder.tells b) kit.builders) c.want.ensures.kit);
  participants = taken_none c.want.result.kept (opened_state c.want.result.kept (map (λ b. g.B.Builder.tells b) c.args.kit.builders)) c.want.result.status c.want.result.history (map (λ p. g.P.Participant.tells p) c.args.kit.participants) (map (λ p. g.P.Participant.tells p) c.want.result.kit.participants) c.want.ensures.none (ap (λ kit. map (λ p. g.P.Participant.tells p) kit.participants) c.want.ensures.kit);
}
