use Rattle.std.proofs.Common.{sym, ap, subst, ◌∙◌}
use Rattle.std.specs.FinMap as map
use Rattle.layer_log.proofs.Looks.{put_elsewhere}
use Rattle.elem_tree.specs.Inside.Slots.{IsReady, noted_at}
use Rattle.elem_tree.specs.declared.slot.Slot.TheVariants.{Noted}
use Rattle.elem_tree.proofs.Slots.{note_ready, taken_back, unknown_noted}
use Rattle.elem_tree.proofs.noting.put_unknown.Goals as goal

pub returns-in-Ok-clause-noted : goal.returns-in-Ok-clause-noted
returns-in-Ok-clause-noted c =
    (note_ready c.args.notes.now c.args.newest.now.map c.args.newest.now.room c.args.path c.requires.ready c.put.new.self.map c.note.new.self (c.in_ok-note.ensures.ok ∙ (λ i. noted_at c.args.notes.now (c.in_ok-at.ensures i) ((c.get.ensures ∙ ap (λ t. map.get t.map c.in_ok-at.at) c.elements.ensures ∙ ap (map.get c.args.newest.now.map) c.in_ok-at.ensures) i)))
    (λ q h. ap (λ t. map.get t q) c.in-Ok.ensures.ok ∙ put_elsewhere c.args.newest.now.map c.args.path q c.args.element h)).1

pub returns-in-Ok-clause-ready : goal.returns-in-Ok-clause-ready
returns-in-Ok-clause-ready c =
    subst (IsReady c.note.new.self c.put.new.self.map) (sym c.put.ensures.room)
    (note_ready c.args.notes.now c.args.newest.now.map c.args.newest.now.room c.args.path c.requires.ready c.put.new.self.map c.note.new.self (c.in_ok-note.ensures.ok ∙ (λ i. noted_at c.args.notes.now (c.in_ok-at.ensures i) ((c.get.ensures ∙ ap (λ t. map.get t.map c.in_ok-at.at) c.elements.ensures ∙ ap (map.get c.args.newest.now.map) c.in_ok-at.ensures) i)))
    (λ q h. ap (λ t. map.get t q) c.in-Ok.ensures.ok ∙ put_elsewhere c.args.newest.now.map c.args.path q c.args.element h)).0

pub returns-in-Err-clause-err : goal.returns-in-Err-clause-err
returns-in-Err-clause-err c = (
  c.in-Err.ensures.err,
  (taken_back c.args.notes.now c.args.newest.now.map c.args.newest.now.room c.args.path c.requires.ready (Noted (map.get c.args.newest.now.map c.args.path)) c.note.new.self c.take_back.new.notes c.requires.unknown
      ((c.in_ok-note.ensures.ok ∙ (λ i. noted_at c.args.notes.now (c.in_ok-at.ensures i) ((c.get.ensures ∙ ap (λ t. map.get t.map c.in_ok-at.at) c.elements.ensures ∙ ap (map.get c.args.newest.now.map) c.in_ok-at.ensures) i))) ∙ unknown_noted c.args.notes.now c.args.path _ c.requires.unknown) (c.take_back.ensures ∙ ap (map.remove c.note.new.self) c.in_ok-at.ensures)).1,
)

pub returns-in-Err-clause-ready : goal.returns-in-Err-clause-ready
returns-in-Err-clause-ready c =
    subst (IsReady c.take_back.new.notes c.put.new.self.map) (sym c.put.ensures.room)
    (subst (λ t. IsReady c.take_back.new.notes t c.args.newest.now.room) (sym c.in-Err.ensures.err)
    (taken_back c.args.notes.now c.args.newest.now.map c.args.newest.now.room c.args.path c.requires.ready (Noted (map.get c.args.newest.now.map c.args.path)) c.note.new.self c.take_back.new.notes c.requires.unknown
    ((c.in_ok-note.ensures.ok ∙ (λ i. noted_at c.args.notes.now (c.in_ok-at.ensures i) ((c.get.ensures ∙ ap (λ t. map.get t.map c.in_ok-at.at) c.elements.ensures ∙ ap (map.get c.args.newest.now.map) c.in_ok-at.ensures) i))) ∙ unknown_noted c.args.notes.now c.args.path _ c.requires.unknown) (c.take_back.ensures ∙ ap (map.remove c.note.new.self) c.in_ok-at.ensures)).0)
