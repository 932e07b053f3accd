use Rattle.std.proofs.Common.{drop}
use Rattle.std.specs.List.{AllByRecursion}
use Rattle.res_path.specs.Names.{IsName}
use Rattle.save_check.proofs.records.are_names_sayable.Given as goal

-- all are names where those that are left are
abbrev pub invariant-loop-name : goal.invariant-loop-name
invariant-loop-name l = AllByRecursion IsName (drop l.name-index l.names) → AllByRecursion IsName l.names
