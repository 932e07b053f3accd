use Rattle.std.proofs.Common.{sym, subst}
use Rattle.std.specs.Prelude.{List}
use Rattle.save_state.specs.declared.change.Change.{Change}
use Rattle.save_build.specs.Told.{Tells}
use Rattle.save_build.proofs.records.built_of.Goals as goal

pub returns-in_default-3 : goal.returns-in_default-3
returns-in_default-3 c b h =
    let never = rw c.in_default-3.is at c.in_ok-built.ensures in
    never b.tree (subst (λ (cs : List Change). Tells c.args.tree.now.map cs b.tree.map) (sym c.as_slice-2.ensures) h.changes, h.fit)
