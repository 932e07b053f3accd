use Rattle.std.proofs.Common.{◌⊎◌, inl, inr, map, sym, ◌∙◌, ap, subst, Some}
use Rattle.std.specs.Prelude.{string_bytes}
use Rattle.ws_opening.specs.Opened.{opened_state}
use Rattle.run_words.specs.Forms.{form_of}
use Rattle.ws_top.specs.Outcomes.{Tells}
use Rattle.ws_top.proofs.Answered.{program_run, program_usage, program_help, program_version, program_check, program_generate, program_load, ends_loaded, touched_idle}
use Rattle.ws_top.proofs.Built.{builds_nothing}
use Rattle.ws_top.proofs.Lines.{line_2}
use Rattle.ws_top.proofs.Opened.{leaves_same, unsaved_of}
use Rattle.ws_top.proofs.Taking.{taken_none}
use Rattle.ws_top.proofs.Told.{hears_nothing}
use Rattle.ws_top.proofs.program.top.Goals as goal

pub stop-requires : goal.stop-requires
stop-requires g c = line_2

pub returns-in-None : goal.returns-in-None
returns-in-None g c =
    let out = c.stop in
    let same = ap (λ areas. areas.disk) out.ensures.areas in
    let p = program_usage g.M.Meanings.meaning out.result.kept (map (λ b. g.B.Builder.tells b) c.args.kit.builders) (map (λ p. g.P.Participant.tells p) c.args.kit.participants) (form_of (map string_bytes c.args.words.now)) (g.S.Source.left c.args.source.now) (g.S.Source.reads c.args.source.now) (g.S.Source.faults c.args.source.now)
    (g.D.Disk.seen c.args.areas.disk) (g.D.Disk.faults c.args.areas.disk) (g.D.Disk.faults c.stop.result.areas.disk) (g.K.Sink.written c.args.sink.now) (g.K.Sink.written c.stop.new.sink) (g.K.Sink.faults c.args.sink.now) (g.K.Sink.faults c.stop.new.sink) out.result.status out.result.history
    (sym c.form_of.ensures ∙ c.in-None.is) (ap g.D.Disk.faults same) out.ensures.none out.ensures.status out.ensures.nothing out.ensures.line in record {
      status = p.ends;
      usage = p.usage;
      read_fault = p.read_fault;
      disk_fault = p.disk_fault;
      unfailed = λ _ _. ap g.D.Disk.faults same;
      write_fault = p.write_fault;
      damaged = p.damaged;
      complete = p.complete;
      reads = p.reads;
      opens = p.opens;
      none = p.none;
      thread = p.thread;
      runs = p.runs;
      calm = p.calm;
      line = p.line;
      unopened = p.unopened;
      loads = p.loads;
      checks = p.checks;
      generates = p.generates;
      help = p.help;
      version = p.version;
      unread = p.unread;
      undone = p.undone;
      uncalled = λ _. out.ensures.kit;
      heard = hears_nothing (opened_state c.stop.result.kept (map (λ b. g.B.Builder.tells b) c.args.kit.builders)) c.stop.result.status c.stop.result.history (map (λ l. g.L.Listener.heard l) c.args.kit.listeners) (map (λ l. g.L.Listener.heard l) c.stop.result.kit.listeners) c.stop.ensures.nothing (ap (λ kit. map (λ l. g.L.Listener.heard l) kit.listeners) c.stop.ensures.kit);
      builds = builds_nothing g.M.Meanings.meaning (opened_state c.stop.result.kept (map (λ b. g.B.Builder.tells b) c.args.kit.builders)) c.stop.result.history (map (λ b. g.B.Builder.tells b) c.args.kit.builders) (map (λ b. g.B.Builder.tells b) c.stop.result.kit.builders) c.stop.ensures.nothing (ap (λ kit. map (λ b. g.B.Builder.tells b) kit.builders) c.stop.ensures.kit);
      participants = taken_none c.stop.result.kept (opened_state c.stop.result.kept (map (λ b. g.B.Builder.tells b) c.args.kit.builders)) c.stop.result.status c.stop.result.history (map (λ p. g.P.Participant.tells p) c.args.kit.participants) (map (λ p. g.P.Participant.tells p) c.stop.result.kit.participants) c.stop.ensures.none (ap (λ kit. map (λ p. g.P.Participant.tells p) kit.participants) c.stop.ensures.kit);
      leaves = leaves_same g.D.Disk.moment g.D.Disk.left_since g.D.Disk.may_leave g.D.Disk.seen g.D.Disk.faults g.met.D.Disk.only_now c.args.areas.disk out.result.areas.disk out.result.kept (opened_state c.stop.result.kept (map (λ b. g.B.Builder.tells b) c.args.kit.builders)) out.result.history out.ensures.none same;
      unsaved = λ _. ap g.D.Disk.seen same;
      untouched = λ _. same;
    }

pub returns-in-Some-Help : goal.returns-in-Some-Help
returns-in-Some-Help g c =
    let out = c.tell in
    let same = ap (λ areas. areas.disk) out.ensures.areas in
    let p = program_help g.M.Meanings.meaning out.result.kept (map (λ b. g.B.Builder.tells b) c.args.kit.builders) (map (λ p. g.P.Participant.tells p) c.args.kit.participants) (form_of (map string_bytes c.args.words.now)) (g.S.Source.left c.args.source.now) (g.S.Source.reads c.args.source.now) (g.S.Source.faults c.args.source.now)
    (g.D.Disk.seen c.args.areas.disk) (g.D.Disk.faults c.args.areas.disk) (g.D.Disk.faults c.tell.result.areas.disk) (g.K.Sink.written c.args.sink.now) (g.K.Sink.written c.tell.new.sink) (g.K.Sink.faults c.args.sink.now) (g.K.Sink.faults c.tell.new.sink) out.result.status out.result.history
    (sym c.form_of.ensures ∙ c.in-Some-Help.is ∙ ap Some c.in-Some-Help.field-0-is) (ap g.D.Disk.faults same) out.ensures.none (subst (λ text. Tells text (g.K.Sink.written c.args.sink.now) (g.K.Sink.written c.tell.new.sink) (g.K.Sink.faults c.args.sink.now) (g.K.Sink.faults c.tell.new.sink) c.tell.result.status) c.as_bytes.ensures.value c.tell.ensures.tells) out.ensures.nothing in record {
      status = p.ends;
      usage = p.usage;
      read_fault = p.read_fault;
      disk_fault = p.disk_fault;
      unfailed = λ _ _. ap g.D.Disk.faults same;
      write_fault = p.write_fault;
      damaged = p.damaged;
      complete = p.complete;
      reads = p.reads;
      opens = p.opens;
      none = p.none;
      thread = p.thread;
      runs = p.runs;
      calm = p.calm;
      line = p.line;
      unopened = p.unopened;
      loads = p.loads;
      checks = p.checks;
      generates = p.generates;
      help = p.help;
      version = p.version;
      unread = p.unread;
      undone = p.undone;
      uncalled = λ _. out.ensures.kit;
      heard = hears_nothing (opened_state c.tell.result.kept (map (λ b. g.B.Builder.tells b) c.args.kit.builders)) c.tell.result.status c.tell.result.history (map (λ l. g.L.Listener.heard l) c.args.kit.listeners) (map (λ l. g.L.Listener.heard l) c.tell.result.kit.listeners) c.tell.ensures.nothing (ap (λ kit. map (λ l. g.L.Listener.heard l) kit.listeners) c.tell.ensures.kit);
      builds = builds_nothing g.M.Meanings.meaning (opened_state c.tell.result.kept (map (λ b. g.B.Builder.tells b) c.args.kit.builders)) c.tell.result.history (map (λ b. g.B.Builder.tells b) c.args.kit.builders) (map (λ b. g.B.Builder.tells b) c.tell.result.kit.builders) c.tell.ensures.nothing (ap (λ kit. map (λ b. g.B.Builder.tells b) kit.builders) c.tell.ensures.kit);
      participants = taken_none c.tell.result.kept (opened_state c.tell.result.kept (map (λ b. g.B.Builder.tells b) c.args.kit.builders)) c.tell.result.status c.tell.result.history (map (λ p. g.P.Participant.tells p) c.args.kit.participants) (map (λ p. g.P.Participant.tells p) c.tell.result.kit.participants) c.tell.ensures.none (ap (λ kit. map (λ p. g.P.Participant.tells p) kit.participants) c.tell.ensures.kit);
      leaves = leaves_same g.D.Disk.moment g.D.Disk.left_since g.D.Disk.may_leave g.D.Disk.seen g.D.Disk.faults g.met.D.Disk.only_now c.args.areas.disk out.result.areas.disk out.result.kept (opened_state c.tell.result.kept (map (λ b. g.B.Builder.tells b) c.args.kit.builders)) out.result.history out.ensures.none same;
      unsaved = λ _. ap g.D.Disk.seen same;
      untouched = λ _. same;
    }

pub returns-in-Some-Generate : goal.returns-in-Some-Generate
returns-in-Some-Generate g c =
    let out = c.tell_script in
    let same = ap (λ areas. areas.disk) out.ensures.areas in
    let p = program_generate g.M.Meanings.meaning out.result.kept (map (λ b. g.B.Builder.tells b) c.args.kit.builders) (map (λ p. g.P.Participant.tells p) c.args.kit.participants) (form_of (map string_bytes c.args.words.now)) c.in-Some-Generate.number (g.S.Source.left c.args.source.now) (g.S.Source.reads c.args.source.now) (g.S.Source.faults c.args.source.now)
    (g.D.Disk.seen c.args.areas.disk) (g.D.Disk.faults c.args.areas.disk) (g.D.Disk.faults c.tell_script.result.areas.disk) (g.K.Sink.written c.args.sink.now) (g.K.Sink.written c.tell_script.new.sink) (g.K.Sink.faults c.args.sink.now) (g.K.Sink.faults c.tell_script.new.sink) out.result.status out.result.history
    (sym c.form_of.ensures ∙ c.in-Some-Generate.is ∙ ap Some c.in-Some-Generate.field-0-is) (ap g.D.Disk.faults same) out.ensures.none out.ensures.tells out.ensures.nothing in record {
      status = p.ends;
      usage = p.usage;
      read_fault = p.read_fault;
      disk_fault = p.disk_fault;
      unfailed = λ _ _. ap g.D.Disk.faults same;
      write_fault = p.write_fault;
      damaged = p.damaged;
      complete = p.complete;
      reads = p.reads;
      opens = p.opens;
      none = p.none;
      thread = p.thread;
      runs = p.runs;
      calm = p.calm;
      line = p.line;
      unopened = p.unopened;
      loads = p.loads;
      checks = p.checks;
      generates = p.generates;
      help = p.help;
      version = p.version;
      unread = p.unread;
      undone = p.undone;
      uncalled = λ _. out.ensures.kit;
      heard = hears_nothing (opened_state c.tell_script.result.kept (map (λ b. g.B.Builder.tells b) c.args.kit.builders)) c.tell_script.result.status c.tell_script.result.history (map (λ l. g.L.Listener.heard l) c.args.kit.listeners) (map (λ l. g.L.Listener.heard l) c.tell_script.result.kit.listeners) c.tell_script.ensures.nothing (ap (λ kit. map (λ l. g.L.Listener.heard l) kit.listeners) c.tell_script.ensures.kit);
      builds = builds_nothing g.M.Meanings.meaning (opened_state c.tell_script.result.kept (map (λ b. g.B.Builder.tells b) c.args.kit.builders)) c.tell_script.result.history (map (λ b. g.B.Builder.tells b) c.args.kit.builders) (map (λ b. g.B.Builder.tells b) c.tell_script.result.kit.builders) c.tell_script.ensures.nothing (ap (λ kit. map (λ b. g.B.Builder.tells b) kit.builders) c.tell_script.ensures.kit);
      participants = taken_none c.tell_script.result.kept (opened_state c.tell_script.result.kept (map (λ b. g.B.Builder.tells b) c.args.kit.builders)) c.tell_script.result.status c.tell_script.result.history (map (λ p. g.P.Participant.tells p) c.args.kit.participants) (map (λ p. g.P.Participant.tells p) c.tell_script.result.kit.participants) c.tell_script.ensures.none (ap (λ kit. map (λ p. g.P.Participant.tells p) kit.participants) c.tell_script.ensures.kit);
      leaves = leaves_same g.D.Disk.moment g.D.Disk.left_since g.D.Disk.may_leave g.D.Disk.seen g.D.Disk.faults g.met.D.Disk.only_now c.args.areas.disk out.result.areas.disk out.result.kept (opened_state c.tell_script.result.kept (map (λ b. g.B.Builder.tells b) c.args.kit.builders)) out.result.history out.ensures.none same;
      unsaved = λ _. ap g.D.Disk.seen same;
      untouched = λ _. same;
    }

pub returns-in-Some-Version : goal.returns-in-Some-Version
returns-in-Some-Version g c =
    let out = c.tell-in-Some-Version in
    let same = ap (λ areas. areas.disk) out.ensures.areas in
    let p = program_version g.M.Meanings.meaning out.result.kept (map (λ b. g.B.Builder.tells b) c.args.kit.builders) (map (λ p. g.P.Participant.tells p) c.args.kit.participants) (form_of (map string_bytes c.args.words.now)) (g.S.Source.left c.args.source.now) (g.S.Source.reads c.args.source.now) (g.S.Source.faults c.args.source.now)
    (g.D.Disk.seen c.args.areas.disk) (g.D.Disk.faults c.args.areas.disk) (g.D.Disk.faults c.tell-in-Some-Version.result.areas.disk) (g.K.Sink.written c.args.sink.now) (g.K.Sink.written c.tell-in-Some-Version.new.sink) (g.K.Sink.faults c.args.sink.now) (g.K.Sink.faults c.tell-in-Some-Version.new.sink) out.result.status out.result.history
    (sym c.form_of.ensures ∙ c.in-Some-Version.is ∙ ap Some c.in-Some-Version.field-0-is) (ap g.D.Disk.faults same) out.ensures.none (subst (λ text. Tells text (g.K.Sink.written c.args.sink.now) (g.K.Sink.written c.tell-in-Some-Version.new.sink) (g.K.Sink.faults c.args.sink.now) (g.K.Sink.faults c.tell-in-Some-Version.new.sink) c.tell-in-Some-Version.result.status) c.as_bytes-in-Some-Version.ensures.value c.tell-in-Some-Version.ensures.tells) out.ensures.nothing in record {
      status = p.ends;
      usage = p.usage;
      read_fault = p.read_fault;
      disk_fault = p.disk_fault;
      unfailed = λ _ _. ap g.D.Disk.faults same;
      write_fault = p.write_fault;
      damaged = p.damaged;
      complete = p.complete;
      reads = p.reads;
      opens = p.opens;
      none = p.none;
      thread = p.thread;
      runs = p.runs;
      calm = p.calm;
      line = p.line;
      unopened = p.unopened;
      loads = p.loads;
      checks = p.checks;
      generates = p.generates;
      help = p.help;
      version = p.version;
      unread = p.unread;
      undone = p.undone;
      uncalled = λ _. out.ensures.kit;
      heard = hears_nothing (opened_state c.tell-in-Some-Version.result.kept (map (λ b. g.B.Builder.tells b) c.args.kit.builders)) c.tell-in-Some-Version.result.status c.tell-in-Some-Version.result.history (map (λ l. g.L.Listener.heard l) c.args.kit.listeners) (map (λ l. g.L.Listener.heard l) c.tell-in-Some-Version.result.kit.listeners) c.tell-in-Some-Version.ensures.nothing (ap (λ kit. map (λ l. g.L.Listener.heard l) kit.listeners) c.tell-in-Some-Version.ensures.kit);
      builds = builds_nothing g.M.Meanings.meaning (opened_state c.tell-in-Some-Version.result.kept (map (λ b. g.B.Builder.tells b) c.args.kit.builders)) c.tell-in-Some-Version.result.history (map (λ b. g.B.Builder.tells b) c.args.kit.builders) (map (λ b. g.B.Builder.tells b) c.tell-in-Some-Version.result.kit.builders) c.tell-in-Some-Version.ensures.nothing (ap (λ kit. map (λ b. g.B.Builder.tells b) kit.builders) c.tell-in-Some-Version.ensures.kit);
      participants = taken_none c.tell-in-Some-Version.result.kept (opened_state c.tell-in-Some-Version.result.kept (map (λ b. g.B.Builder.tells b) c.args.kit.builders)) c.tell-in-Some-Version.result.status c.tell-in-Some-Version.result.history (map (λ p. g.P.Participant.tells p) c.args.kit.participants) (map (λ p. g.P.Participant.tells p) c.tell-in-Some-Version.result.kit.participants) c.tell-in-Some-Version.ensures.none (ap (λ kit. map (λ p. g.P.Participant.tells p) kit.participants) c.tell-in-Some-Version.ensures.kit);
      leaves = leaves_same g.D.Disk.moment g.D.Disk.left_since g.D.Disk.may_leave g.D.Disk.seen g.D.Disk.faults g.met.D.Disk.only_now c.args.areas.disk out.result.areas.disk out.result.kept (opened_state c.tell-in-Some-Version.result.kept (map (λ b. g.B.Builder.tells b) c.args.kit.builders)) out.result.history out.ensures.none same;
      unsaved = λ _. ap g.D.Disk.seen same;
      untouched = λ _. same;
    }

pub returns-in-Some-Check : goal.returns-in-Some-Check
returns-in-Some-Check g c =
    let out = c.check in
    let is = sym c.form_of.ensures ∙ c.in-Some-Check.is ∙ ap Some c.in-Some-Check.field-0-is in
    let areas = out.ensures.areas in
    let p = program_check g.M.Meanings.meaning out.result.kept (map (λ b. g.B.Builder.tells b) c.args.kit.builders) (map (λ p. g.P.Participant.tells p) c.args.kit.participants) (form_of (map string_bytes c.args.words.now)) (g.S.Source.left c.args.source.now) (g.S.Source.reads c.args.source.now) (g.S.Source.faults c.args.source.now)
    (g.D.Disk.seen c.args.areas.disk) (g.D.Disk.faults c.args.areas.disk) (g.D.Disk.faults c.check.result.areas.disk) (g.K.Sink.written c.args.sink.now) (g.K.Sink.written c.check.new.sink) (g.K.Sink.faults c.args.sink.now) (g.K.Sink.faults c.check.new.sink) out.result.status out.result.history
    is areas.fault areas.unopened areas.damaged out.ensures.none out.ensures.checks out.ensures.nothing in record {
      status = p.ends;
      usage = p.usage;
      read_fault = p.read_fault;
      disk_fault = p.disk_fault;
      unfailed = areas.unfailed;
      write_fault = p.write_fault;
      damaged = p.damaged;
      complete = p.complete;
      reads = p.reads;
      opens = p.opens;
      none = p.none;
      thread = p.thread;
      runs = p.runs;
      calm = p.calm;
      line = p.line;
      unopened = p.unopened;
      loads = p.loads;
      checks = p.checks;
      generates = p.generates;
      help = p.help;
      version = p.version;
      unread = p.unread;
      undone = p.undone;
      uncalled = λ _. out.ensures.kit;
      heard = hears_nothing (opened_state c.check.result.kept (map (λ b. g.B.Builder.tells b) c.args.kit.builders)) c.check.result.status c.check.result.history (map (λ l. g.L.Listener.heard l) c.args.kit.listeners) (map (λ l. g.L.Listener.heard l) c.check.result.kit.listeners) c.check.ensures.nothing (ap (λ kit. map (λ l. g.L.Listener.heard l) kit.listeners) c.check.ensures.kit);
      builds = builds_nothing g.M.Meanings.meaning (opened_state c.check.result.kept (map (λ b. g.B.Builder.tells b) c.args.kit.builders)) c.check.result.history (map (λ b. g.B.Builder.tells b) c.args.kit.builders) (map (λ b. g.B.Builder.tells b) c.check.result.kit.builders) c.check.ensures.nothing (ap (λ kit. map (λ b. g.B.Builder.tells b) kit.builders) c.check.ensures.kit);
      participants = taken_none c.check.result.kept (opened_state c.check.result.kept (map (λ b. g.B.Builder.tells b) c.args.kit.builders)) c.check.result.status c.check.result.history (map (λ p. g.P.Participant.tells p) c.args.kit.participants) (map (λ p. g.P.Participant.tells p) c.check.result.kit.participants) c.check.ensures.none (ap (λ kit. map (λ p. g.P.Participant.tells p) kit.participants) c.check.ensures.kit);
      leaves = areas.leaves;
      unsaved = unsaved_of g.D.Disk.moment g.D.Disk.left_since g.D.Disk.may_leave g.D.Disk.seen g.D.Disk.faults c.args.areas.disk out.result.areas.disk out.result.kept (opened_state c.check.result.kept (map (λ b. g.B.Builder.tells b) c.args.kit.builders)) out.result.history areas.leaves;
      untouched = touched_idle (form_of (map string_bytes c.args.words.now)) out.result.status (inr is) areas.idle;
    }

pub returns-in-Some-Run : goal.returns-in-Some-Run
returns-in-Some-Run g c =
    let out = c.run in
    let is = sym c.form_of.ensures ∙ c.in-Some-Run.is ∙ ap Some c.in-Some-Run.field-0-is in
    let areas = out.ensures.areas.areas in
    let p = program_run g.M.Meanings.meaning out.result.kept (map (λ b. g.B.Builder.tells b) c.args.kit.builders) (map (λ p. g.P.Participant.tells p) c.args.kit.participants) (form_of (map string_bytes c.args.words.now)) (g.S.Source.left c.args.source.now) (g.S.Source.left c.run.new.source) (g.S.Source.reads c.args.source.now) (g.S.Source.reads c.run.new.source) (g.S.Source.faults c.args.source.now) (g.S.Source.faults c.run.new.source)
    (g.D.Disk.seen c.args.areas.disk) (g.D.Disk.faults c.args.areas.disk) (g.D.Disk.faults c.run.result.areas.disk) (g.K.Sink.written c.args.sink.now) (g.K.Sink.written c.run.new.sink) (g.K.Sink.faults c.args.sink.now) (g.K.Sink.faults c.run.new.sink) out.result.status out.result.history
    is out.ensures.ends areas.fault areas.unopened areas.damaged out.ensures.areas.state in record {
      status = p.ends;
      usage = p.usage;
      read_fault = p.read_fault;
      disk_fault = p.disk_fault;
      unfailed = areas.unfailed;
      write_fault = p.write_fault;
      damaged = p.damaged;
      complete = p.complete;
      reads = p.reads;
      opens = p.opens;
      none = p.none;
      thread = p.thread;
      runs = p.runs;
      calm = p.calm;
      line = p.line;
      unopened = p.unopened;
      loads = p.loads;
      checks = p.checks;
      generates = p.generates;
      help = p.help;
      version = p.version;
      unread = p.unread;
      undone = p.undone;
      uncalled = λ no. absurd (no (inl is));
      heard = out.ensures.heard;
      builds = out.ensures.builds;
      participants = out.ensures.participants;
      leaves = areas.leaves;
      unsaved = unsaved_of g.D.Disk.moment g.D.Disk.left_since g.D.Disk.may_leave g.D.Disk.seen g.D.Disk.faults c.args.areas.disk out.result.areas.disk out.result.kept (opened_state c.run.result.kept (map (λ b. g.B.Builder.tells b) c.args.kit.builders)) out.result.history areas.leaves;
      untouched = touched_idle (form_of (map string_bytes c.args.words.now)) out.result.status (inl (inl is)) areas.idle;
    }

pub returns-in-Some-Load : goal.returns-in-Some-Load
returns-in-Some-Load g c =
    let out = c.load in
    let is = sym c.form_of.ensures ∙ c.in-Some-Load.is ∙ ap Some c.in-Some-Load.field-0-is in
    let areas = out.ensures.areas.areas in
    let p = program_load g.M.Meanings.meaning out.result.kept (map (λ b. g.B.Builder.tells b) c.args.kit.builders) (map (λ p. g.P.Participant.tells p) c.args.kit.participants) (form_of (map string_bytes c.args.words.now)) c.in-Some-Load.number (g.S.Source.left c.args.source.now) (g.S.Source.reads c.args.source.now) (g.S.Source.faults c.args.source.now)
    (g.D.Disk.seen c.args.areas.disk) (g.D.Disk.faults c.args.areas.disk) (g.D.Disk.faults c.load.result.areas.disk) (g.K.Sink.written c.args.sink.now) (g.K.Sink.written c.load.new.sink) (g.K.Sink.faults c.args.sink.now) (g.K.Sink.faults c.load.new.sink) out.result.status out.result.history
    is (ends_loaded g.M.Meanings.meaning c.in-Some-Load.number out.result.kept (map (λ p. g.P.Participant.tells p) c.args.kit.participants) (map (λ b. g.B.Builder.tells b) c.args.kit.builders) (g.D.Disk.seen c.args.areas.disk) (g.D.Disk.faults c.args.areas.disk) (g.D.Disk.faults c.load.result.areas.disk) (g.K.Sink.written c.args.sink.now) (g.K.Sink.written c.load.new.sink) (g.K.Sink.faults c.args.sink.now) (g.K.Sink.faults c.load.new.sink) out.result.status out.result.history areas.fault areas.unopened out.ensures.performs) areas.fault areas.unopened areas.damaged out.ensures.areas.state in record {
      status = p.ends;
      usage = p.usage;
      read_fault = p.read_fault;
      disk_fault = p.disk_fault;
      unfailed = areas.unfailed;
      write_fault = p.write_fault;
      damaged = p.damaged;
      complete = p.complete;
      reads = p.reads;
      opens = p.opens;
      none = p.none;
      thread = p.thread;
      runs = p.runs;
      calm = p.calm;
      line = p.line;
      unopened = p.unopened;
      loads = p.loads;
      checks = p.checks;
      generates = p.generates;
      help = p.help;
      version = p.version;
      unread = p.unread;
      undone = p.undone;
      uncalled = λ no. absurd (no (inr (c.in-Some-Load.number, is)));
      heard = out.ensures.heard;
      builds = out.ensures.builds;
      participants = out.ensures.participants;
      leaves = areas.leaves;
      unsaved = unsaved_of g.D.Disk.moment g.D.Disk.left_since g.D.Disk.may_leave g.D.Disk.seen g.D.Disk.faults c.args.areas.disk out.result.areas.disk out.result.kept (opened_state c.load.result.kept (map (λ b. g.B.Builder.tells b) c.args.kit.builders)) out.result.history areas.leaves;
      untouched = touched_idle (form_of (map string_bytes c.args.words.now)) out.result.status (inl (inr (c.in-Some-Load.number, is))) areas.idle;
    }
