use Rattle.std.proofs.Common.{◌≡◌, false, length, replicate, rules}
use Rattle.build_order.specs.declared.places.Places.{Places}
use Rattle.build_order.proofs.Placing.{begins}
use Rattle.build_order.proofs.places.Places.new.Goals as goal

pub returns : goal.returns
returns c =
    let p : Places = record { targets = c.in_ok-targets_of.field-0; parked = c.in_ok-empty.field-0; free = c.empty-2.result; is_placed = c.in_ok-vec.field-0; order = c.new.result } in
    let placed : c.in_ok-vec.field-0.items ≡ replicate (length c.args.leads.now) false = search rules in
    begins c.args.graph.now c.args.leads.now p c.requires.within c.requires.leads c.in_ok-targets_of.ensures c.in_ok-empty.ensures c.empty-2.ensures placed c.new.ensures.items
