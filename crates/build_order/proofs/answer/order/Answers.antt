use Rattle.std.proofs.Common.{◌<◌, length, subst, sym}
use Rattle.std.specs.List.{All}
use Rattle.std.proofs.lemmas.Result.{IfOk-weaker}
use Rattle.build_order.specs.Inside.Graphs.{AreLeads}
use Rattle.build_order.specs.Inside.Rows.{AreNames}
use Rattle.build_order.proofs.Grouping.{leads_within}
use Rattle.build_order.proofs.Ordered.{rows_within, told_places, told_members, told_order, both_ok}
use Rattle.build_order.proofs.Single.{only_order}
use Rattle.build_order.proofs.answer.order.Goals as goal

pub graph_of-requires : goal.graph_of-requires
graph_of-requires c = subst (AreNames _) (sym c.deref.ensures.value) c.in_ok-names.ensures

pub leads_of-requires : goal.leads_of-requires
leads_of-requires c = rows_within _ c.deref.result.now c.in_ok-graph.graph c.in_ok-graph.ensures

pub members_of-requires : goal.members_of-requires
members_of-requires c = subst (λ ls. All (λ l. l < length ls) ls) (sym c.deref-2.ensures.value) (leads_within c.in_ok-graph.graph c.in_ok-leads.leads.items c.in_ok-leads.ensures)

pub places_of-requires : goal.places_of-requires
places_of-requires c = record {
  within = rows_within _ c.deref.result.now c.in_ok-graph.graph c.in_ok-graph.ensures;
  leads = subst (AreLeads c.in_ok-graph.graph) (sym c.deref-3.ensures.value) c.in_ok-leads.ensures;
}

pub told-requires : goal.told-requires
told-requires c = record {
  places = told_places c.in_ok-graph.graph c.in_ok-leads.leads.items c.deref-2.result.now c.deref-3.result.now c.in_ok-members.members c.in_ok-places.places.items c.deref-5.result.now
      c.deref-2.ensures.value c.deref-3.ensures.value c.deref-5.ensures.value c.in_ok-leads.ensures c.in_ok-members.ensures c.in_ok-places.ensures;
  members = told_members _ c.in_ok-names.names.items c.deref.result.now c.deref-4.result.now c.in_ok-graph.graph c.in_ok-leads.leads.items c.deref-2.result.now c.in_ok-members.members
      c.deref.ensures.value c.deref-4.ensures.value c.deref-2.ensures.value c.in_ok-graph.ensures c.in_ok-leads.ensures c.in_ok-members.ensures;
}

pub returns-clause-right : goal.returns-clause-right
returns-clause-right c = both_ok c.told.result _ _ _ (λ o e k.
    told_order _ c.in_ok-names.names.items c.deref.result.now c.deref-4.result.now c.in_ok-graph.graph c.in_ok-leads.leads.items c.deref-2.result.now c.deref-3.result.now c.in_ok-members.members
    c.in_ok-places.places.items c.deref-5.result.now o.order o.knots c.deref.ensures.value c.deref-4.ensures.value c.deref-2.ensures.value c.deref-3.ensures.value c.deref-5.ensures.value
    c.in_ok-names.ensures c.in_ok-graph.ensures c.in_ok-leads.ensures c.in_ok-members.ensures c.in_ok-places.ensures e k)
    c.told.ensures.order c.told.ensures.knots

pub returns-clause-only : goal.returns-clause-only
returns-clause-only c = IfOk-weaker c.told.result _ _ (λ o right order knots other. only_order _ o.order order o.knots knots right other) (returns-clause-right c)
