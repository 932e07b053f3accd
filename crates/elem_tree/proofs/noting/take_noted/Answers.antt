use Rattle.std.proofs.Common.{sym, ap, subst, ◌∙◌}
use Rattle.std.specs.FinMap as map
use Rattle.layer_log.proofs.Looks.{gone_elsewhere}
use Rattle.elem_tree.specs.Inside.Slots.{IsReady, noted_at}
use Rattle.elem_tree.proofs.Slots.{note_ready}
use Rattle.elem_tree.proofs.noting.take_noted.Goals as goal

pub returns-clause-noted : goal.returns-clause-noted
returns-clause-noted c =
    (note_ready c.args.notes.now c.args.newest.now.map c.args.newest.now.room c.args.path.now c.requires.ready c.take.new.self.map c.note.new.self
    (c.in_ok-note.ensures.ok ∙ ap (noted_at c.args.notes.now c.args.path.now) (c.get.ensures ∙ ap (λ t. map.get t.map c.args.path.now) c.elements.ensures))
    (λ q h. ap (λ t. map.get t q) c.take.ensures.taken ∙ gone_elsewhere c.args.newest.now.map c.args.path.now q h)).1

pub returns-clause-ready : goal.returns-clause-ready
returns-clause-ready c =
    subst (IsReady c.note.new.self c.take.new.self.map) (sym c.take.ensures.room)
    (note_ready c.args.notes.now c.args.newest.now.map c.args.newest.now.room c.args.path.now c.requires.ready c.take.new.self.map c.note.new.self
    (c.in_ok-note.ensures.ok ∙ ap (noted_at c.args.notes.now c.args.path.now) (c.get.ensures ∙ ap (λ t. map.get t.map c.args.path.now) c.elements.ensures))
    (λ q h. ap (λ t. map.get t q) c.take.ensures.taken ∙ gone_elsewhere c.args.newest.now.map c.args.path.now q h)).0
