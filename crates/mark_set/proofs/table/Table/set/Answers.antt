use Rattle.std.proofs.Common.{◌≡◌, ap, sym, ◌∙◌, refl, nat_cmp, nat_eq}
use Rattle.std.specs.Prelude.{Some, IsSome}
use Rattle.std.specs.Cmp.{nat_cmp_total}
use Rattle.std.specs.FinMap.{get, insert, from_entries, nat_cmp-IsAntisymmetric}
use Rattle.std.specs.Map.{lookup}
use Rattle.mark_set.specs.Attributes.{Attributes}
use Rattle.mark_set.specs.Markers.{IsMarker}
use Rattle.mark_set.specs.declared.marker.Marker.{Marker}
use Rattle.mark_set.proofs.Ids.{get_is, one_put, insert_same, there, onto_ok, onto_err}
use Rattle.mark_set.proofs.Maps.{all_put}
use Rattle.mark_set.proofs.Orders.{ids_changed}
use Rattle.mark_set.proofs.table.Table.set.Goals as goal

pub unreachable-requires : goal.unreachable-requires
unreachable-requires c = let known = rw (← c.self.view_is, get_is c.self.inside.markers.entries c.args.id, ← c.in-None.ensures.value) at c.requires.known in cc

pub invariant_of-self : goal.invariant_of-self
invariant_of-self c =
    let es = c.self.inside.markers.entries in
    let id = c.args.id in
    let old : Marker = c.in-Some.marker.now in
    let new : Marker = record old { attrs = c.put_attribute.new.attrs } in
    let here : get (from_entries {R = nat_cmp} es) id ≡ Some old = get_is es id ∙ sym c.in-Some.ensures.value in
    let some : IsSome (lookup (nat_eq id) es) = rw (← c.in-Some.ensures.value) refl in
    let was : IsMarker id old = there (from_entries es) id old here IsMarker c.self.invariant.0 in
    let is : IsMarker id new = record { own = was.own; named = was.named; attributes = c.put_attribute.ensures.form was.attributes } in
    rw (one_put es (c.get_mut.follows.lender new).entries id new ((c.get_mut.follows.holds new).3 some).0)
    (all_put nat_cmp_total nat_cmp-IsAntisymmetric IsMarker (from_entries es) id new c.self.invariant.0 is, ids_changed (from_entries c.self.inside.ids.entries) (from_entries es) id old new here c.self.invariant.1)

pub returns-clause-ok : goal.returns-clause-ok
returns-clause-ok c =
    let es = c.self.inside.markers.entries in
    let id = c.args.id in
    let old : Marker = c.in-Some.marker.now in
    let new : Marker = record old { attrs = c.put_attribute.new.attrs } in
    let here : get (from_entries {R = nat_cmp} es) id ≡ Some old = get_is es id ∙ sym c.in-Some.ensures.value in
    let some : IsSome (lookup (nat_eq id) es) = rw (← c.in-Some.ensures.value) refl in
    onto_ok c.put_attribute.result c.put_attribute.ensures.ok (λ e. rw (← c.self.view_is, here)
    (one_put es (c.get_mut.follows.lender new).entries id new ((c.get_mut.follows.holds new).3 some).0
    ∙ ap (λ (a : Attributes). insert (from_entries es) id (record old { attrs = a })) e))

pub returns-clause-err : goal.returns-clause-err
returns-clause-err c =
    let es = c.self.inside.markers.entries in
    let id = c.args.id in
    let old : Marker = c.in-Some.marker.now in
    let new : Marker = record old { attrs = c.put_attribute.new.attrs } in
    let here : get (from_entries {R = nat_cmp} es) id ≡ Some old = get_is es id ∙ sym c.in-Some.ensures.value in
    let some : IsSome (lookup (nat_eq id) es) = rw (← c.in-Some.ensures.value) refl in
    onto_err c.put_attribute.result c.put_attribute.ensures.err (λ e.
    one_put es (c.get_mut.follows.lender new).entries id new ((c.get_mut.follows.holds new).3 some).0
    ∙ ap (λ (a : Attributes). insert (from_entries es) id (record old { attrs = a })) e
    ∙ insert_same (from_entries es) id old here ∙ c.self.view_is)
