use Rattle.std.proofs.Common.{sym, subst}
use Rattle.std.specs.List.{AllByRecursion}
use Rattle.include_lines.specs.Cutting.{AreParts}
use Rattle.std_expand.proofs.KeptFiles.{one_kept}
use Rattle.std_expand.proofs.kept.Kept.put.Goals as goal

pub invariant_of-self-2 : goal.invariant_of-self-2
invariant_of-self-2 c =
    subst (AllByRecursion (λ e. AreParts 1 e.0 e.1)) (sym c.in_ok-insert.ensures.entries) (one_kept (AreParts 1) c.self.inside.files.entries c.args.bytes c.args.cut c.self.invariant c.requires)
