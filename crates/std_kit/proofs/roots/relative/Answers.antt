use Rattle.std.proofs.Common.{◌≡◌, length, drop, sym, ◌∙◌}
use Rattle.std.proofs.lemmas.Result.{IfOk-weaker}
use Rattle.std_kit.specs.Roots.{relative}
use Rattle.std_kit.proofs.Parents.{parent_above, relative_itself}
use Rattle.std_kit.proofs.roots.relative.Goals as goal

pub below-requires-in-Some : goal.below-requires-in-Some
below-requires-in-Some c = parent_above c.args.path.now c.in-Some.parent (sym c.in-Some.is ∙ c.in_ok-parent.ensures)

pub returns-in-Some : goal.returns-in-Some
returns-in-Some c =
    IfOk-weaker c.below-in-Some.result (λ rest. rest ≡ drop (length c.in-Some.parent) c.args.path.now) (λ rest. rest ≡ relative c.args.root.now c.args.path.now)
    (λ rest is. is ∙ relative_itself c.args.root.now c.args.path.now c.in-Some.parent c.ne.result c.ne.ensures c.if-ne.false (sym c.in-Some.is ∙ c.in_ok-parent.ensures))
    c.below-in-Some.ensures
