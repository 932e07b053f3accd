use Rattle.std.proofs.Common.{◌≡◌, ◌||◌, sym, ap, ◌∙◌, arith}
use Rattle.std.proofs.lemmas.Result.{IfOk-weaker}
use Rattle.delta_kind.proofs.Above.{parent_shorter}
use Rattle.std_kit.specs.Inside.Walks.{has_above}
use Rattle.std_kit.proofs.Losses.{above_more}
use Rattle.std_kit.proofs.calm.+has_above.Goals as goal

pub returns-then-is_file_of : goal.returns-then-is_file_of
returns-then-is_file_of t c =
    sym (above_more c.args.root.now c.args.view.now c.args.path.now c.in-Some.parent (sym c.in_ok-parent.ensures ∙ c.in-Some.is)
    ∙ ap (λ b. b || has_above c.args.root.now c.args.view.now c.in-Some.parent) (sym c.is_file_of.ensures ∙ c.if-is_file_of.true))

pub has_above-requires : goal.has_above-requires
has_above-requires t c = (omega (arith, parent_shorter c.args.path.now c.in-Some.parent (sym c.in_ok-parent.ensures ∙ c.in-Some.is), c.decreases), tt)

pub returns : goal.returns
returns t c =
    IfOk-weaker c.has_above.result (λ has. has ≡ has_above c.args.root.now c.args.view.now c.in-Some.parent) (λ has. has ≡ has_above c.args.root.now c.args.view.now c.args.path.now)
    (λ has is. is ∙ sym (above_more c.args.root.now c.args.view.now c.args.path.now c.in-Some.parent (sym c.in_ok-parent.ensures ∙ c.in-Some.is)
    ∙ ap (λ b. b || has_above c.args.root.now c.args.view.now c.in-Some.parent) (sym c.is_file_of.ensures ∙ c.if-is_file_of.false)))
    c.has_above.ensures
