use Rattle.std.proofs.Common.{ap, subst, ◌∙◌, arith}
use Rattle.std.specs.List.{Contains}
use Rattle.build_order.specs.Inside.Searches.{mark_at}
use Rattle.build_order.specs.declared.search.Search.{Search}
use Rattle.build_order.proofs.Steps.{popped_front, joined_on, open_past, none_past}
use Rattle.build_order.proofs.search.Search.join.Goals as goal

pub loop-frame-preserved : goal.loop-frame-preserved
loop-frame-preserved c =
    let inv = c.loop-frame.invariant in
    let old = c.loop-frame.self in
    let new : Search = record { marks = old.marks; members = old.members; todo = old.todo; frames = c.pop.new.self } in
    let front = c.pop.ensures.rest ∙ popped_front old.frames.items c.in-Some.ensures.0 c.in-Some.frame old.frames.len c.in-Some.ensures.1 old.frames.ok.0 in
    record {
      marks = inv.marks;
      members = inv.members;
      todo = inv.todo;
      fewer = omega (arith, inv.fewer, c.pop.ensures.len, c.pop.new.self.ok.0, old.frames.ok.0);
      stands = λ g n m e. joined_on g n c.args.at old new c.in-Some.frame c.in-Some.ensures.0 (ap (λ v. mark_at v.items n) inv.marks ∙ e)
          (λ a i. m.leads a (subst (λ v. Contains v.items a) inv.members i)) c.in-Some.ensures.1 c.if-frame-at.false (λ i. old.marks.items) (λ i. old.members.items) (λ i. old.todo.items) front (inv.stands g n m e);
    }

pub returns-then-frame-at-clause-stands : goal.returns-then-frame-at-clause-stands
returns-then-frame-at-clause-stands c g n m e =
    let inv = c.loop-frame.invariant in
    open_past g n c.args.at c.loop-frame.self c.in-Some.frame (ap (λ v. mark_at v.items n) inv.marks ∙ e) c.in-Some.ensures c.if-frame-at.true (inv.stands g n m e)

pub returns-clause-stands : goal.returns-clause-stands
returns-clause-stands c g n m e =
    let inv = c.loop-frame.invariant in
    none_past g n c.args.at c.loop-frame.self (ap (λ v. mark_at v.items n) inv.marks ∙ e) c.in_default.ensures (inv.stands g n m e)
