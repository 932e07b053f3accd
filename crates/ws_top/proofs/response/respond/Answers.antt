use Rattle.std.proofs.Common.{map, ap, subst}
use Rattle.ws_opening.specs.Opened.{opened_state}
use Rattle.ws_top.specs.Inside.Parts.{Responds}
use Rattle.ws_top.proofs.Built.{builds_nothing}
use Rattle.ws_top.proofs.Opened.{opens_wanted}
use Rattle.ws_top.proofs.Responded.{responds_nothing}
use Rattle.ws_top.proofs.Taking.{taken_none}
use Rattle.ws_top.proofs.Told.{hears_nothing}
use Rattle.ws_top.proofs.response.respond.Goals as goal

pub returns-in-Ok : goal.returns-in-Ok
returns-in-Ok g c = record {
  responds = subst (λ bytes. Responds g.M.Meanings.meaning c.respond_to.result.kept (map (λ p. g.P.Participant.tells p) c.args.kit.participants) (opened_state c.respond_to.result.kept (map (λ b. g.B.Builder.tells b) c.args.kit.builders)) bytes (g.K.Sink.written c.args.sink.now) (g.K.Sink.written c.respond_to.new.sink) (g.K.Sink.faults c.args.sink.now) (g.K.Sink.faults c.respond_to.new.sink) c.respond_to.result.status c.respond_to.result.history) c.in-Ok.ensures.ok c.respond_to.ensures.responds;
  areas = c.respond_to.ensures.areas;
  heard = c.respond_to.ensures.heard;
  builds = c.respond_to.ensures.builds;
  participants = c.respond_to.ensures.participants;
}

pub returns : goal.returns
returns g c = record {
  responds = responds_nothing g.M.Meanings.meaning c.want.result.kept (map (λ p. g.P.Participant.tells p) c.args.kit.participants) (map (λ b. g.B.Builder.tells b) c.args.kit.builders) c.args.bytes.items (g.K.Sink.written c.args.sink.now) (g.K.Sink.written c.want.new.sink) (g.K.Sink.faults c.args.sink.now) (g.K.Sink.faults c.want.new.sink) c.want.result.status c.want.result.history c.want.ensures.status c.want.ensures.nothing c.want.ensures.none c.want.ensures.line;
  areas = opens_wanted g.D.Disk.moment g.D.Disk.left_since g.D.Disk.may_leave g.D.Disk.seen g.D.Disk.faults g.met.D.Disk.only_now c.args.areas.disk c.want.result.areas.disk (g.K.Sink.written c.args.sink.now) (g.K.Sink.written c.want.new.sink) (g.K.Sink.faults c.args.sink.now) (g.K.Sink.faults c.want.new.sink) c.want.result.kept (opened_state c.want.result.kept (map (λ b. g.B.Builder.tells b) c.args.kit.builders)) c.want.result.status c.want.result.history (ap (λ areas. areas.disk) c.want.ensures.areas) c.want.ensures.none c.want.ensures.nothing c.want.ensures.status c.want.ensures.line;
  heard = hears_nothing (opened_state c.want.result.kept (map (λ b. g.B.Builder.tells b) c.args.kit.builders)) c.want.result.status c.want.result.history (map (λ l. g.L.Listener.heard l) c.args.kit.listeners) (map (λ l. g.L.Listener.heard l) c.want.result.kit.listeners) c.want.ensures.nothing (ap (λ kit. map (λ l. g.L.Listener.heard l) kit.listeners) c.want.ensures.kit);
  builds = builds_nothing g.M.Meanings.meaning (opened_state c.want.result.kept (map (λ b. g.B.Builder.tells b) c.args.kit.builders)) c.want.result.history (map (λ b. g.B.Builder.tells b) c.args.kit.builders) (map (λ b. g.B.Builder.tells b) c.want.result.kit.builders) c.want.ensures.nothing (ap (λ kit. map (λ b. g.B.Builder.tells b) kit.builders) c.want.ensures.kit);
  participants = taken_none c.want.result.kept (opened_state c.want.result.kept (map (λ b. g.B.Builder.tells b) c.args.kit.builders)) c.want.result.status c.want.result.history (map (λ p. g.P.Participant.tells p) c.args.kit.participants) (map (λ p. g.P.Participant.tells p) c.want.result.kit.participants) c.want.ensures.none (ap (λ kit. map (λ p. g.P.Participant.tells p) kit.participants) c.want.ensures.kit);
}
