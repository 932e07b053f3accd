use Rattle.std.proofs.Common.{◌≡◌, ◌∷◌, ◌++◌, [], length, set, ap, ◌∙◌, arith}
use Rattle.std.specs.Vec.{with_item}
use Rattle.build_order.specs.declared.search.Mark.TheVariants.{Open}
use Rattle.build_order.specs.declared.search.Search.{Search}
use Rattle.build_order.proofs.Steps.{opened_on}
use Rattle.build_order.proofs.search.Search.open.Goals as goal

pub returns : goal.returns
returns c =
    let old = c.args.self.now in
    let new : Search = record { marks = with_item old.marks c.args.number (Open c.len.result); members = c.push-2.new.self; todo = c.extend_from_slice.new.self; frames = c.push.new.self } in
    let members : c.len.result ≡ length old.members.items = omega arith in
    let todo : c.len-2.result ≡ length old.todo.items = omega arith in
    let h = opened_on c.args.graph.now c.args.number old new c.requires.within c.requires.number c.requires.new c.requires.meets
    (ap (λ x. set old.marks.items c.args.number (Open x)) members)
    c.in_ok-push-2.ensures.items
    (c.in_ok-extend_from_slice.ensures.items ∙ ap (λ xs. old.todo.items ++ xs) c.at.ensures)
    (c.in_ok-push.ensures.items ∙ (λ i. old.frames.items ++ record { members = members i; todo = todo i } ∷ [])) in
    record { on = h.0; here = h.1; less = h.2 }
