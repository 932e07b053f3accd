use Rattle.std.proofs.Common.{◌≡◌, Bor, refl, sym, ap, ◌∙◌}
use Rattle.std.specs.Prelude.{Option, Some, None}
use Rattle.std.specs.Option.{option_copied}
use Rattle.delta_kind.specs.declared.node.DeltaNode.{DeltaNode}
use Rattle.delta_kind.specs.Deltas.{node_with}
use Rattle.delta_kind.proofs.Found.{none_found}
use Rattle.delta_kind.proofs.delta.Delta.find.Goals as goal

none_copied : (x : Option (Bor DeltaNode)) → option_copied x ≡ None → x ≡ None
none_copied None h = refl
none_copied (Some node) h = cc

pub returns-clause-none : goal.returns-clause-none
returns-clause-none c =
    let all : option_copied c.node_with.result ≡ node_with c.args.path.now c.args.self.now = c.node_with.ensures ∙ ap (node_with c.args.path.now) (c.as_slice.ensures.value ∙ c.self.view_is) in
    let none = none_found c.args.path.now c.args.self.now in
    (λ h. none.0 (sym all ∙ ap option_copied h), λ h. none_copied c.node_with.result (all ∙ none.1 h))
