use Rattle.std.proofs.Common.{◌≢◌, ◌+◌, drop, subst, sym, ◌∙◌}
use Rattle.build_order.specs.Inside.Graphs.{at}
use Rattle.build_order.specs.Inside.Placings.{Holds, leads_from}
use Rattle.build_order.proofs.Placing.{pending_is, pending_not}
use Rattle.build_order.proofs.places.Places.begin.Goals as goal

pub returns-then-lead_of-number : goal.returns-then-lead_of-number
returns-then-lead_of-number c g h =
    let ne : at c.args.leads.now c.args.number ≢ c.args.number = λ e. c.if-lead_of-number.true (c.lead_of.ensures ∙ e) in
    subst (λ xs. Holds g c.args.leads.now xs c.args.self.now) (pending_not c.args.leads.now c.args.number c.requires.number ne) h

pub look-requires : goal.look-requires
look-requires c =
    let e = pending_is c.args.leads.now c.args.number c.requires.number (sym c.lead_of.ensures ∙ c.if-lead_of-number.false) in
    (c.requires.holds.0, leads_from (c.args.number + 1) (drop (c.args.number + 1) c.args.leads.now), subst (λ xs. Holds c.requires.holds.0 c.args.leads.now xs c.args.self.now) e c.requires.holds.1)

pub returns : goal.returns
returns c g h =
    let e = pending_is c.args.leads.now c.args.number c.requires.number (sym c.lead_of.ensures ∙ c.if-lead_of-number.false) in
    c.in_ok-look.ensures.holds g (leads_from (c.args.number + 1) (drop (c.args.number + 1) c.args.leads.now)) (subst (λ xs. Holds g c.args.leads.now xs c.args.self.now) e h)
