use Rattle.std.proofs.Common.{sym, subst, map}
use Rattle.std.specs.Option.{option_map}
use Rattle.core_event.specs.declared.entry.Entry.{Entry}
use Rattle.save_kind.specs.declared.kind.SaveKind.{SaveKind}
use Rattle.save_run.specs.Saves.{HasEnded}
use Rattle.ws_core.specs.States.{Moment}
use Rattle.pass_turns.specs.Turns.{Knows}
use Rattle.ws_shared.specs.Inside.Hosts.{IsAt, IsFresh, book_of}
use Rattle.ws_shared.proofs.Courses.{ended_is}
use Rattle.ws_shared.proofs.Stages.{at_first, through}
use Rattle.ws_shared.proofs.saving.made.Goals as goal

pub returns-clause-through : goal.returns-clause-through
returns-clause-through g c =
    let d = g.D.Disk in
    let t = g.T.Keeps in
    let s = c.args.host.now in
    let n = c.save_begun.new.host in
    let st = c.save_begun.ensures.stays in
    let kept = option_map (λ z. z.value) n.kept.now in
    let old = map (λ p. g.P.Participant.tells p) c.args.parts.now in
    let new = map (λ p. g.P.Participant.tells p) c.save_begun.new.parts in
    let at = at_first d.moment d.left_since d.may_leave d.faults (t.opened s.room.now) (t.knows s.began.now.value) (t.knows s.pass.now) s.keeper.now s.kind (λ z. z.value) s.kept.now s.now.now s.written s.ended.now c.requires.kept c.requires.now c.requires.written c.requires.ended c.requires.at in
    let ready = st.7 (c.requires.of, at, subst (λ z. IsFresh z (option_map (λ z. z.value) s.kept.now) s.written s.ended.now) (sym c.requires.noted) tt) in
    let At : Moment → Knows Entry → SaveKind → Type 0 = λ o k kind. IsAt d.moment d.left_since d.may_leave d.faults o k (t.knows n.pass.now) n.keeper.now kind kept n.now.now n.written n.ended.now in
    through d.moment d.left_since d.may_leave d.faults (t.opened s.room.now) n.noted (t.knows s.began.now.value) (t.knows n.pass.now) n.keeper.now s.kind kept n.now.now n.written n.ended.now c.save_begun.result old new
    (subst (λ r. At (t.opened r) (t.knows s.began.now.value) s.kind) st.3 (subst (λ b. At (t.opened n.room.now) (t.knows b.value) s.kind) st.2 (subst (λ z. At (t.opened n.room.now) (t.knows n.began.now.value) z) st.4 ready.1)))
    (subst (λ z. HasEnded s.kind c.save_begun.result (book_of n.noted z kept n.written n.ended.now) old new) st.4 c.save_begun.ensures.ended)

pub returns-clause-answer : goal.returns-clause-answer
returns-clause-answer g c =
    let n = c.save_begun.new.host in
    ended_is n.noted n.kind (option_map (λ z. z.value) n.kept.now) n.written n.ended.now c.save_begun.result (map (λ p. g.P.Participant.tells p) c.args.parts.now) (map (λ p. g.P.Participant.tells p) c.save_begun.new.parts)
    (subst (λ z. HasEnded z c.save_begun.result (book_of n.noted n.kind (option_map (λ z. z.value) n.kept.now) n.written n.ended.now) (map (λ p. g.P.Participant.tells p) c.args.parts.now) (map (λ p. g.P.Participant.tells p) c.save_begun.new.parts))
    (sym c.save_begun.ensures.stays.4) c.save_begun.ensures.ended)

pub returns-clause-same_answer : goal.returns-clause-same_answer
returns-clause-same_answer g c = c.save_begun.ensures.stays.6
