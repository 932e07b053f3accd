use Rattle.std.proofs.Common.{◌≡◌, map, ap, ◌∙◌, subst, arith}
use Rattle.std.proofs.lemmas.Result.{IfOk-weaker}
use Rattle.build_order.specs.Inside.Graphs.{AreLeads}
use Rattle.build_order.specs.Inside.Searches.{IsFresh, lead_of}
use Rattle.build_order.proofs.Leading.{leads_told}
use Rattle.build_order.proofs.Steps.{fresh_stands}
use Rattle.build_order.proofs.search.leads_of.Goals as goal

pub loop-number-init : goal.loop-number-init
loop-number-init c = record {
  stands = fresh_stands c.args.graph.now c.in_ok-search.search (subst (λ n. IsFresh n c.in_ok-search.search) c.len.ensures c.in_ok-search.ensures);
  rests = c.in_ok-search.ensures.frames;
  known = λ a lt. absurd (omega (arith, lt));
}

pub returns : goal.returns
returns c =
    let inv = c.loop-number.invariant in
    IfOk-weaker c.leads.result (λ leads. leads.items ≡ map lead_of c.deref.result.now) (λ leads. AreLeads c.args.graph.now leads.items) (λ leads is.
    leads_told c.args.graph.now c.loop-number.search leads.items c.requires inv.stands inv.rests (λ a lt. inv.known a (omega (arith, lt))) (is ∙ ap (map lead_of) c.deref.ensures.value))
    c.leads.ensures
