use Rattle.std.proofs.Common.{refl, arith}
use Rattle.build_order.specs.declared.search.Search.{Search}
use Rattle.build_order.proofs.Steps.{top_within, next_meets}
use Rattle.build_order.proofs.search.Search.step.Goals as goal

pub close-requires-clause-bound : goal.close-requires-clause-bound
close-requires-clause-bound c = (top_within c.args.graph.now c.args.self.now c.args.frame c.requires.stands c.requires.top).0

pub returns-in_default-clause-less : goal.returns-in_default-clause-less
returns-in_default-clause-less c = absurd (omega (arith, (top_within c.args.graph.now c.args.self.now c.args.frame c.requires.stands c.requires.top).1, c.in_default.ensures.cases.0))

pub meet-requires-clause-number : goal.meet-requires-clause-number
meet-requires-clause-number c =
    let old = c.args.self.now in
    let new : Search = record { marks = old.marks; members = old.members; todo = c.pop.new.self; frames = old.frames } in
    (next_meets c.args.graph.now old new c.args.frame c.in-Some.number c.requires.stands c.requires.top (λ e. omega (arith, e)) refl refl c.in-Some.ensures.items refl).1

pub meet-requires-clause-meets : goal.meet-requires-clause-meets
meet-requires-clause-meets c =
    let old = c.args.self.now in
    let new : Search = record { marks = old.marks; members = old.members; todo = c.pop.new.self; frames = old.frames } in
    (next_meets c.args.graph.now old new c.args.frame c.in-Some.number c.requires.stands c.requires.top (λ e. omega (arith, e)) refl refl c.in-Some.ensures.items refl).0
