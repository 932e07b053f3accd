use Rattle.std.proofs.Common.{sym, subst, ap, ◌∙◌, arith}
use Rattle.std.specs.FinMap as map
use Rattle.std.specs.FinMap.{len-empty}
use Rattle.res_path.specs.Paths.{path_cmp}
use Rattle.layer_log.specs.declared.change.Change.{Change}
use Rattle.layer_log.specs.Records.{Records, Settled}
use Rattle.layer_log.specs.Inside.Compositions.{Composed}
use Rattle.layer_log.proofs.Composing.{empty_settled}
use Rattle.layer_log.proofs.changes.settled.Goals as goal

pub add_all-requires : goal.add_all-requires
add_all-requires c = subst Settled (sym c.empty-kept.ensures) empty_settled

pub returns-clause-composed : goal.returns-clause-composed
returns-clause-composed c = subst (λ (m : Records). Composed m c.args.log.now c.add_all.new.log) c.empty-kept.ensures c.in_ok-add_all.ensures.composed

pub returns-clause-most : goal.returns-clause-most
returns-clause-most c =
    let none = ap map.len c.empty-kept.ensures ∙ len-empty path_cmp Change in
    omega (arith, none, c.in_ok-add_all.ensures.most)
