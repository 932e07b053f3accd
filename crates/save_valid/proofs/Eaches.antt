-- What holds of each element, by the list of entries.
use Rattle.std.proofs.Common.{◌↔◌}
use Rattle.std.specs.Prelude.{Bool, Result, Ok, Err, IfOk, IsTrue}
use Rattle.std.specs.declared.alloc.AllocError.{AllocError}
use Rattle.std.specs.List.{AllByRecursion}
use Rattle.std.specs.FinMap.{entries}
use Rattle.res_path.specs.Paths.{Names}
use Rattle.res_path.specs.PathLaws.{path_cmp_total}
use Rattle.res_path.proofs.Prefixes.{path_cmp_exact}
use Rattle.ws_elem.specs.declared.element.Element.{Element}
use Rattle.ws_elem.specs.Trees.{Tree}
use Rattle.save_elem.proofs.Orders.{to_all, from_all}
use Rattle.save_valid.specs.Rules.{Each}

each_entry : (is : Names → Element → Type 0) (t : Tree) → Each is t → AllByRecursion (λ e. is e.0 e.1) (entries t)
each_entry is t h = to_all path_cmp_total is t h

entry_each : (is : Names → Element → Type 0) (t : Tree) → AllByRecursion (λ e. is e.0 e.1) (entries t) → Each is t
entry_each is t h = from_all path_cmp_total path_cmp_exact is t h

-- the same of a call that decides it
pub of_each : (is : Names → Element → Type 0) (t : Tree) (r : Result Bool AllocError) → IfOk r (λ b. IsTrue b ↔ AllByRecursion (λ e. is e.0 e.1) (entries t)) → IfOk r (λ b. IsTrue b ↔ Each is t)
of_each is t (Ok b) h = (λ u. entry_each is t (h.0 u), λ u. h.1 (each_entry is t u))
of_each is t (Err e) h = tt
