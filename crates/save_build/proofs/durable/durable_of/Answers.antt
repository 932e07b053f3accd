use Rattle.std.proofs.Common.{sym, subst}
use Rattle.std.specs.Prelude.{List, map, None}
use Rattle.ws_durable.specs.Saved.{saved, saved_built, saved_kept}
use Rattle.save_form.specs.Laws.{FitEach}
use Rattle.save_state.specs.declared.change.Change.{Change}
use Rattle.save_state.specs.declared.records.Built.{Built}
use Rattle.save_state.specs.declared.records.Kept.{Kept}
use Rattle.save_state.specs.Fits.{FitsBuilt, FitsKept}
use Rattle.save_build.specs.Told.{told_tree, Tells, AllTold, IsBuiltOf, IsKeptOf}
use Rattle.save_build.proofs.Whole.{built_fit, kept_fit, built_from, kept_from}
use Rattle.save_build.proofs.durable.durable_of.Goals as goal

pub returns-in_default-2 : goal.returns-in_default-2
returns-in_default-2 c d h =
    let never = rw c.in_default-2.is at c.in_ok-tree.ensures in
    never d.tree (subst (λ (cs : List Change). Tells c.args.base.now.map cs d.tree.map) (sym c.as_slice-2.ensures) h.tree_told.0, h.tree_told.1)

pub returns-in_default-3 : goal.returns-in_default-3
returns-in_default-3 c d h =
    let never = rw c.in_default-3.is at c.in_ok-shelf.ensures in
    never d.shelf (subst (λ (cs : List Change). Tells c.args.shelf.now.map cs d.shelf.map) (sym c.as_slice-3.ensures) h.shelf_told.0, h.shelf_told.1)

pub builds_of-requires-clause-told : goal.builds_of-requires-clause-told
builds_of-requires-clause-told c =
    let found = rw c.in-Some-2.is at c.in_ok-tree.ensures in
    let tells = subst (λ (cs : List Change). Tells c.args.base.now.map cs c.in-Some-2.tree.map) c.as_slice-2.ensures found.0 in
    subst (λ (bs : List Built). FitEach (FitsBuilt (told_tree c.in-Some-2.tree.map)) None bs) (sym c.as_slice-4.ensures)
    (built_fit c.args.base.now.map c.args.state.now.tree c.in-Some-2.tree.map tells c.args.state.now.built c.requires.state.built.1)

pub returns-in_default-4 : goal.returns-in_default-4
returns-in_default-4 c d h =
    let found = rw c.in-Some-2.is at c.in_ok-tree.ensures in
    let tells = subst (λ (cs : List Change). Tells c.args.base.now.map cs c.in-Some-2.tree.map) c.as_slice-2.ensures found.0 in
    let never = rw c.in_default-4.is at c.in_ok-built.ensures in
    never d.built (subst (λ (bs : List Built). AllTold (IsBuiltOf c.in-Some-2.tree.map) (map saved_built d.built) bs) (sym c.as_slice-4.ensures)
    (built_from c.args.base.now.map c.args.shelf.now.map c.args.state.now (saved d) h c.in-Some-2.tree.map (tells, found.1)))

pub keeps_of-requires-clause-told : goal.keeps_of-requires-clause-told
keeps_of-requires-clause-told c =
    let found = rw c.in-Some-2.is at c.in_ok-tree.ensures in
    let tells = subst (λ (cs : List Change). Tells c.args.base.now.map cs c.in-Some-2.tree.map) c.as_slice-2.ensures found.0 in
    subst (λ (ks : List Kept). FitEach (FitsKept (told_tree c.in-Some-2.tree.map)) None ks) (sym c.as_slice-5.ensures)
    (kept_fit c.args.base.now.map c.args.state.now.tree c.in-Some-2.tree.map tells c.args.state.now.kept c.requires.state.kept.1)

pub returns-in_default-5 : goal.returns-in_default-5
returns-in_default-5 c d h =
    let found = rw c.in-Some-2.is at c.in_ok-tree.ensures in
    let tells = subst (λ (cs : List Change). Tells c.args.base.now.map cs c.in-Some-2.tree.map) c.as_slice-2.ensures found.0 in
    let never = rw c.in_default-5.is at c.in_ok-kept.ensures in
    never d.kept (subst (λ (ks : List Kept). AllTold (IsKeptOf c.in-Some-2.tree.map) (map saved_kept d.kept) ks) (sym c.as_slice-5.ensures)
    (kept_from c.args.base.now.map c.args.shelf.now.map c.args.state.now (saved d) h c.in-Some-2.tree.map (tells, found.1)))
