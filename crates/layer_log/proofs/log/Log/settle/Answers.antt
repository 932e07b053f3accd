use Rattle.std.proofs.Common.{rules, subst, ap, sym, ◌∙◌, ◌≤◌, length}
use Rattle.std.specs.FinMap as map
use Rattle.res_path.specs.Paths.{path_cmp}
use Rattle.ws_elem.proofs.Ordered.{len_is}
use Rattle.layer_log.specs.Inside.Compositions.{Composed}
use Rattle.layer_log.proofs.Settling.{left_settled}
use Rattle.layer_log.proofs.log.Log.settle.Goals as goal

pub returns-clause-composed : goal.returns-clause-composed
returns-clause-composed c =
    subst (λ m. Composed map.empty m (map.from_entries {R = path_cmp} c.retain.new.self.entries)) c.self.view_is
    (left_settled _ _ (λ p r b s g call. search rules) c.self.inside.entries.entries c.retain.new.self.entries c.retain.ensures.was_ordered c.retain.ensures.filtered)

pub returns-clause-most : goal.returns-clause-most
returns-clause-most c =
    let was = sym (len_is c.self.inside.entries.entries c.retain.ensures.was_ordered) ∙ ap map.len c.self.view_is in
    subst (λ n. n ≤ map.len c.args.self.now) (sym (len_is c.retain.new.self.entries c.retain.ensures.ordered))
    (subst (λ n. length c.retain.new.self.entries ≤ n) was c.retain.ensures.bound)
