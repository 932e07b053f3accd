use Rattle.std.proofs.Common.{inl, inr, map, Some, sym, ap, subst, ◌∙◌, arith}
use Rattle.std.specs.Prelude.{is_some}
use Rattle.ws_opening.specs.Opened.{opened_state}
use Rattle.ws_top.specs.Inside.Opening.{RunsFrom}
use Rattle.ws_top.specs.Texts.{report_of}
use Rattle.ws_top.proofs.Built.{builds_nothing}
use Rattle.ws_top.proofs.Opened.{disk_calm, store_none}
use Rattle.ws_top.proofs.Responded.{performs_wanted}
use Rattle.ws_top.proofs.Taking.{taken_none}
use Rattle.ws_top.proofs.Told.{hears_nothing}
use Rattle.ws_top.proofs.running.perform_from.Goals as goal

pub perform_in-requires-clause-some : goal.perform_in-requires-clause-some
perform_in-requires-clause-some g c = ap is_some c.in-Ok.ensures.kept

pub returns-in-Ok-clause-from : goal.returns-in-Ok-clause-from
returns-in-Ok-clause-from g c = subst (λ k. RunsFrom k c.perform_in.result.kept (g.K.Sink.written c.args.sink.now) (g.K.Sink.written c.perform_in.new.sink) (g.K.Sink.faults c.args.sink.now) (g.K.Sink.faults c.perform_in.new.sink) c.perform_in.result.status c.perform_in.result.history) c.in-Ok.ensures.kept c.perform_in.ensures.from

pub returns-in-Err : goal.returns-in-Err
returns-in-Err g c = record {
  performs = performs_wanted g.M.Meanings.meaning c.want.result.kept (report_of c.args.telling (map (λ p. g.P.Participant.tells p) c.args.kit.participants)) (map (λ b. g.B.Builder.tells b) c.args.kit.builders) c.args.script (g.K.Sink.written c.args.sink.now) (g.K.Sink.written c.want.new.sink) (g.K.Sink.faults c.args.sink.now) (g.K.Sink.faults c.want.new.sink) c.want.result.status c.want.result.history c.want.ensures.status c.want.ensures.nothing c.want.ensures.none c.want.ensures.line;
  from = inr (c.want.ensures.none, c.want.ensures.status, c.want.ensures.nothing, c.want.ensures.line);
  heard = hears_nothing (opened_state c.want.result.kept (map (λ b. g.B.Builder.tells b) c.args.kit.builders)) c.want.result.status c.want.result.history (map (λ l. g.L.Listener.heard l) c.args.kit.listeners) (map (λ l. g.L.Listener.heard l) c.want.result.kit.listeners) c.want.ensures.nothing (ap (λ kit. map (λ l. g.L.Listener.heard l) kit.listeners) c.want.ensures.kit);
  builds = builds_nothing g.M.Meanings.meaning (opened_state c.want.result.kept (map (λ b. g.B.Builder.tells b) c.args.kit.builders)) c.want.result.history (map (λ b. g.B.Builder.tells b) c.args.kit.builders) (map (λ b. g.B.Builder.tells b) c.want.result.kit.builders) c.want.ensures.nothing (ap (λ kit. map (λ b. g.B.Builder.tells b) kit.builders) c.want.ensures.kit);
  fault = disk_calm (g.D.Disk.faults c.args.store.areas.disk) (g.D.Disk.faults c.want.result.areas.disk) c.want.result.status 8 c.want.ensures.status (λ k. omega (arith, k)) (ap g.D.Disk.faults (ap (λ areas. areas.disk) c.want.ensures.areas ∙ c.areas_of.ensures));
  store = store_none g.D.Disk.moment g.D.Disk.left_since g.D.Disk.may_leave g.D.Disk.seen g.D.Disk.faults c.args.store c.want.result.areas.disk c.want.result.kept (opened_state c.want.result.kept (map (λ b. g.B.Builder.tells b) c.args.kit.builders)) c.want.result.history c.want.ensures.none (ap (λ areas. areas.disk) c.want.ensures.areas ∙ c.areas_of.ensures);
  participants = taken_none c.want.result.kept (opened_state c.want.result.kept (map (λ b. g.B.Builder.tells b) c.args.kit.builders)) c.want.result.status c.want.result.history (map (λ p. g.P.Participant.tells p) c.args.kit.participants) (map (λ p. g.P.Participant.tells p) c.want.result.kit.participants) c.want.ensures.none (ap (λ kit. map (λ p. g.P.Participant.tells p) kit.participants) c.want.ensures.kit);
}
