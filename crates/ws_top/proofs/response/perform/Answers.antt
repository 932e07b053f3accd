use Rattle.std.proofs.Common.{inl, map, sym, ap, subst, ◌∙◌}
use Rattle.ws_opening.specs.Opened.{opened_state}
use Rattle.ws_top.specs.Inside.Opening.{OpensAreas}
use Rattle.ws_top.specs.Texts.{report_of}
use Rattle.ws_top.proofs.Built.{builds_nothing}
use Rattle.ws_top.proofs.Opened.{opens_from, opens_refused}
use Rattle.ws_top.proofs.Responded.{performs_refused}
use Rattle.ws_top.proofs.Taking.{taken_none}
use Rattle.ws_top.proofs.Told.{hears_nothing}
use Rattle.ws_top.proofs.response.perform.Goals as goal

pub returns-in-Ok : goal.returns-in-Ok
returns-in-Ok g c = let d = g.D.Disk in let out = c.perform_from in let opened = opened_state out.result.kept (map (λ b. g.B.Builder.tells b) c.args.kit.builders) in record {
  performs = inl out.ensures.performs;
  areas = opens_from d.moment d.left_since d.may_leave d.seen d.faults c.args.areas.disk out.result.areas.disk c.in-Ok.durable (g.K.Sink.written c.args.sink.now) (g.K.Sink.written c.perform_from.new.sink) (g.K.Sink.faults c.args.sink.now) (g.K.Sink.faults c.perform_from.new.sink) out.result.kept opened out.result.status out.result.history
      c.in-Ok.store c.in-Ok.ensures.last c.in-Ok.ensures.opens out.ensures.from out.ensures.fault out.ensures.store out.ensures.performs.ends;
  heard = out.ensures.heard;
  builds = out.ensures.builds;
  participants = out.ensures.participants;
}

pub returns-in-Err : goal.returns-in-Err
returns-in-Err g c = let d = g.D.Disk in let out = c.refuse in let opened = opened_state out.result.kept (map (λ b. g.B.Builder.tells b) c.args.kit.builders) in record {
  performs = performs_refused g.M.Meanings.meaning out.result.kept (report_of c.args.telling (map (λ p. g.P.Participant.tells p) c.args.kit.participants)) (map (λ b. g.B.Builder.tells b) c.args.kit.builders) c.args.script c.in-Err.fault (g.K.Sink.written c.args.sink.now) (g.K.Sink.written c.refuse.new.sink) (g.K.Sink.faults c.args.sink.now) (g.K.Sink.faults c.refuse.new.sink) out.result.status out.result.history out.ensures.told out.ensures.nothing out.ensures.none;
  areas = subst (λ areas. OpensAreas d.moment d.left_since d.may_leave d.seen d.faults c.args.areas.disk areas.disk (g.K.Sink.written c.args.sink.now) (g.K.Sink.written c.refuse.new.sink) (g.K.Sink.faults c.args.sink.now) (g.K.Sink.faults c.refuse.new.sink) out.result.kept opened out.result.status out.result.history) (sym out.ensures.areas)
      (opens_refused d.moment d.left_since d.may_leave d.seen d.faults c.in-Err.fault c.args.areas.disk c.in-Err.areas.disk (g.K.Sink.written c.args.sink.now) (g.K.Sink.written c.refuse.new.sink) (g.K.Sink.faults c.args.sink.now) (g.K.Sink.faults c.refuse.new.sink) out.result.kept opened out.result.status out.result.history
      c.in-Err.ensures.opens out.ensures.none out.ensures.nothing out.ensures.told);
  heard = hears_nothing (opened_state c.refuse.result.kept (map (λ b. g.B.Builder.tells b) c.args.kit.builders)) c.refuse.result.status c.refuse.result.history (map (λ l. g.L.Listener.heard l) c.args.kit.listeners) (map (λ l. g.L.Listener.heard l) c.refuse.result.kit.listeners) c.refuse.ensures.nothing (ap (λ kit. map (λ l. g.L.Listener.heard l) kit.listeners) c.refuse.ensures.kit);
  builds = builds_nothing g.M.Meanings.meaning (opened_state c.refuse.result.kept (map (λ b. g.B.Builder.tells b) c.args.kit.builders)) c.refuse.result.history (map (λ b. g.B.Builder.tells b) c.args.kit.builders) (map (λ b. g.B.Builder.tells b) c.refuse.result.kit.builders) c.refuse.ensures.nothing (ap (λ kit. map (λ b. g.B.Builder.tells b) kit.builders) c.refuse.ensures.kit);
  participants = taken_none c.refuse.result.kept (opened_state c.refuse.result.kept (map (λ b. g.B.Builder.tells b) c.args.kit.builders)) c.refuse.result.status c.refuse.result.history (map (λ p. g.P.Participant.tells p) c.args.kit.participants) (map (λ p. g.P.Participant.tells p) c.refuse.result.kit.participants) c.refuse.ensures.none (ap (λ kit. map (λ p. g.P.Participant.tells p) kit.participants) c.refuse.ensures.kit);
}
