use Rattle.std.proofs.Common.{◌≡◌, ◌⊎◌, [], map, refl, ap, subst, sym, None}
use Rattle.std.specs.Prelude.{string_bytes, IfOk, IfErr}
use Rattle.ws_opening.specs.Opened.{opened_state}
use Rattle.run_words.specs.Forms.{form_of, Works, Touches}
use Rattle.ws_top.specs.Outcomes.{WasIdle, Writes, ReadsNothing, EndsProgram}
use Rattle.ws_top.specs.Texts.{status_line}
use Rattle.ws_top.proofs.Built.{builds_nothing}
use Rattle.ws_top.proofs.Opened.{leaves_same}
use Rattle.ws_top.proofs.Taking.{taken_none}
use Rattle.ws_top.proofs.Told.{hears_nothing}
use Rattle.ws_top.proofs.program.answer.Goals as goal

pub returns-in-Ok : goal.returns-in-Ok
returns-in-Ok g c = let e = c.top.ensures in record {
  ends = subst (λ w. IfOk w (λ given. EndsProgram g.M.Meanings.meaning c.top.result.kept (map (λ b. g.B.Builder.tells b) c.args.kit.builders) (map (λ p. g.P.Participant.tells p) c.args.kit.participants) (form_of (map string_bytes given.items)) (g.S.Source.left c.args.source.now) (g.S.Source.left c.top.new.source) (g.S.Source.reads c.args.source.now) (g.S.Source.reads c.top.new.source) (g.S.Source.faults c.args.source.now) (g.S.Source.faults c.top.new.source) (g.D.Disk.seen c.args.areas.disk) (g.D.Disk.faults c.args.areas.disk) (g.D.Disk.faults c.top.result.areas.disk) (g.K.Sink.written c.args.sink.now) (g.K.Sink.written c.top.new.sink) (g.K.Sink.faults c.args.sink.now) (g.K.Sink.faults c.top.new.sink) c.top.result.status c.top.result.history)) (sym c.in-Ok.is)
      (subst (λ ws. EndsProgram g.M.Meanings.meaning c.top.result.kept (map (λ b. g.B.Builder.tells b) c.args.kit.builders) (map (λ p. g.P.Participant.tells p) c.args.kit.participants) (form_of (map string_bytes ws)) (g.S.Source.left c.args.source.now) (g.S.Source.left c.top.new.source) (g.S.Source.reads c.args.source.now) (g.S.Source.reads c.top.new.source) (g.S.Source.faults c.args.source.now) (g.S.Source.faults c.top.new.source) (g.D.Disk.seen c.args.areas.disk) (g.D.Disk.faults c.args.areas.disk) (g.D.Disk.faults c.top.result.areas.disk) (g.K.Sink.written c.args.sink.now) (g.K.Sink.written c.top.new.sink) (g.K.Sink.faults c.args.sink.now) (g.K.Sink.faults c.top.new.sink) c.top.result.status c.top.result.history) c.as_slice.ensures.value
      (record { ends = e.status; usage = e.usage; read_fault = e.read_fault; disk_fault = e.disk_fault; write_fault = e.write_fault; damaged = e.damaged; complete = e.complete; reads = e.reads; opens = e.opens; none = e.none; thread = e.thread; runs = e.runs; calm = e.calm; line = e.line; unopened = e.unopened; loads = e.loads; checks = e.checks; generates = e.generates; help = e.help; version = e.version; unread = e.unread; undone = e.undone }));
  heard = e.heard;
  builds = e.builds;
  participants = e.participants;
  leaves = e.leaves;
  unsaved = e.unsaved;
  unfailed = e.unfailed;
  untouched = subst (λ w. IfOk w (λ given. (Touches (form_of (map string_bytes given.items)) → ⊥) ⊎ WasIdle c.top.result.status → c.top.result.areas.disk ≡ c.args.areas.disk)) (sym c.in-Ok.is)
      (subst (λ ws. (Touches (form_of (map string_bytes ws)) → ⊥) ⊎ WasIdle c.top.result.status → c.top.result.areas.disk ≡ c.args.areas.disk) c.as_slice.ensures.value e.untouched);
  uncalled = subst (λ w. IfOk w (λ given. (Works (form_of (map string_bytes given.items)) → ⊥) → c.top.result.kit ≡ c.args.kit)) (sym c.in-Ok.is)
      (subst (λ ws. (Works (form_of (map string_bytes ws)) → ⊥) → c.top.result.kit ≡ c.args.kit) c.as_slice.ensures.value e.uncalled);
  memory = subst (λ w. IfErr w (λ _. c.top.result.status ≡ 8)) (sym c.in-Ok.is) tt;
  unread = subst (λ w. IfErr w (λ _. ReadsNothing (g.S.Source.left c.args.source.now) (g.S.Source.left c.top.new.source) (g.S.Source.reads c.args.source.now) (g.S.Source.reads c.top.new.source) (g.S.Source.faults c.args.source.now) (g.S.Source.faults c.top.new.source))) (sym c.in-Ok.is) tt;
  nothing = subst (λ w. IfErr w (λ _. c.top.result.history ≡ [])) (sym c.in-Ok.is) tt;
  line = subst (λ w. IfErr w (λ _. Writes (g.K.Sink.written c.args.sink.now) (g.K.Sink.written c.top.new.sink) (g.K.Sink.faults c.args.sink.now) (g.K.Sink.faults c.top.new.sink) (status_line 8))) (sym c.in-Ok.is) tt;
  areas = subst (λ w. IfErr w (λ _. c.top.result.areas.disk ≡ c.args.areas.disk)) (sym c.in-Ok.is) tt;
  kit = subst (λ w. IfErr w (λ _. c.top.result.kit ≡ c.args.kit)) (sym c.in-Ok.is) tt;
  none = subst (λ w. IfErr w (λ _. c.top.result.kept ≡ None)) (sym c.in-Ok.is) tt;
}

pub returns-in-Err : goal.returns-in-Err
returns-in-Err g c =
    let out = c.want in
    let same = ap (λ areas. areas.disk) out.ensures.areas in record {
      ends = subst (λ w. IfOk w (λ given. EndsProgram g.M.Meanings.meaning c.want.result.kept (map (λ b. g.B.Builder.tells b) c.args.kit.builders) (map (λ p. g.P.Participant.tells p) c.args.kit.participants) (form_of (map string_bytes given.items)) (g.S.Source.left c.args.source.now) (g.S.Source.left c.args.source.now) (g.S.Source.reads c.args.source.now) (g.S.Source.reads c.args.source.now) (g.S.Source.faults c.args.source.now) (g.S.Source.faults c.args.source.now) (g.D.Disk.seen c.args.areas.disk) (g.D.Disk.faults c.args.areas.disk) (g.D.Disk.faults c.want.result.areas.disk) (g.K.Sink.written c.args.sink.now) (g.K.Sink.written c.want.new.sink) (g.K.Sink.faults c.args.sink.now) (g.K.Sink.faults c.want.new.sink) c.want.result.status c.want.result.history)) (sym c.in-Err.is) tt;
      heard = hears_nothing (opened_state c.want.result.kept (map (λ b. g.B.Builder.tells b) c.args.kit.builders)) c.want.result.status c.want.result.history (map (λ l. g.L.Listener.heard l) c.args.kit.listeners) (map (λ l. g.L.Listener.heard l) c.want.result.kit.listeners) c.want.ensures.nothing (ap (λ kit. map (λ l. g.L.Listener.heard l) kit.listeners) c.want.ensures.kit);
      builds = builds_nothing g.M.Meanings.meaning (opened_state c.want.result.kept (map (λ b. g.B.Builder.tells b) c.args.kit.builders)) c.want.result.history (map (λ b. g.B.Builder.tells b) c.args.kit.builders) (map (λ b. g.B.Builder.tells b) c.want.result.kit.builders) c.want.ensures.nothing (ap (λ kit. map (λ b. g.B.Builder.tells b) kit.builders) c.want.ensures.kit);
      participants = taken_none c.want.result.kept (opened_state c.want.result.kept (map (λ b. g.B.Builder.tells b) c.args.kit.builders)) c.want.result.status c.want.result.history (map (λ p. g.P.Participant.tells p) c.args.kit.participants) (map (λ p. g.P.Participant.tells p) c.want.result.kit.participants) c.want.ensures.none (ap (λ kit. map (λ p. g.P.Participant.tells p) kit.participants) c.want.ensures.kit);
      leaves = leaves_same g.D.Disk.moment g.D.Disk.left_since g.D.Disk.may_leave g.D.Disk.seen g.D.Disk.faults g.met.D.Disk.only_now c.args.areas.disk out.result.areas.disk out.result.kept (opened_state c.want.result.kept (map (λ b. g.B.Builder.tells b) c.args.kit.builders)) out.result.history out.ensures.none same;
      unsaved = λ _. ap g.D.Disk.seen same;
      unfailed = λ _ _. ap g.D.Disk.faults same;
      untouched = subst (λ w. IfOk w (λ given. (Touches (form_of (map string_bytes given.items)) → ⊥) ⊎ WasIdle out.result.status → out.result.areas.disk ≡ c.args.areas.disk)) (sym c.in-Err.is) tt;
      uncalled = subst (λ w. IfOk w (λ given. (Works (form_of (map string_bytes given.items)) → ⊥) → out.result.kit ≡ c.args.kit)) (sym c.in-Err.is) tt;
      memory = subst (λ w. IfErr w (λ _. out.result.status ≡ 8)) (sym c.in-Err.is) out.ensures.status;
      unread = subst (λ w. IfErr w (λ _. ReadsNothing (g.S.Source.left c.args.source.now) (g.S.Source.left c.args.source.now) (g.S.Source.reads c.args.source.now) (g.S.Source.reads c.args.source.now) (g.S.Source.faults c.args.source.now) (g.S.Source.faults c.args.source.now))) (sym c.in-Err.is) (record { left = refl; reads = refl; faults = refl });
      nothing = subst (λ w. IfErr w (λ _. out.result.history ≡ [])) (sym c.in-Err.is) out.ensures.nothing;
      line = subst (λ w. IfErr w (λ _. Writes (g.K.Sink.written c.args.sink.now) (g.K.Sink.written c.want.new.sink) (g.K.Sink.faults c.args.sink.now) (g.K.Sink.faults c.want.new.sink) (status_line 8))) (sym c.in-Err.is) out.ensures.line;
      areas = subst (λ w. IfErr w (λ _. out.result.areas.disk ≡ c.args.areas.disk)) (sym c.in-Err.is) same;
      kit = subst (λ w. IfErr w (λ _. out.result.kit ≡ c.args.kit)) (sym c.in-Err.is) out.ensures.kit;
      none = subst (λ w. IfErr w (λ _. out.result.kept ≡ None)) (sym c.in-Err.is) out.ensures.none;
    }
