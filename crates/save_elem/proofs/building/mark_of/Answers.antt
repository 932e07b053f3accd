use Rattle.std.proofs.Common.{refl, sym, ◌∙◌}
use Rattle.save_elem.proofs.Items.{mark_told, never_saved}
use Rattle.save_elem.proofs.building.mark_of.Goals as goal

pub returns-then-is_transient : goal.returns-then-is_transient
returns-then-is_transient c =
    let named = rw c.in-Some.is at c.in_ok-mark_type.ensures in
    let attrs = rw c.in-Some-2.is at c.in_ok-attrs.ensures in
    let told = c.args.told.now in
    never_saved told (record { id = told.id; mark_type = c.in-Some.mark_type; attrs = c.in-Some-2.attrs })
    (mark_told told.id c.in-Some.mark_type c.in-Some-2.attrs told refl (named.0 ∙ c.bytes.ensures) (attrs.0 ∙ c.as_slice.ensures)) attrs.1 (sym c.is_transient.ensures ∙ c.if-is_transient.true)

pub returns : goal.returns
returns c =
    let named = rw c.in-Some.is at c.in_ok-mark_type.ensures in
    let attrs = rw c.in-Some-2.is at c.in_ok-attrs.ensures in
    let told = c.args.told.now in (
      mark_told told.id c.in-Some.mark_type c.in-Some-2.attrs told refl (named.0 ∙ c.bytes.ensures) (attrs.0 ∙ c.as_slice.ensures),
      record { own = refl; named = named.1; attributes = attrs.1; lasting = sym c.is_transient.ensures ∙ c.if-is_transient.false },
    )
