use Rattle.std.proofs.Common.{◌≡◌, drop}
use Rattle.std.specs.List.{list_any}
use Rattle.res_path.specs.Paths.{is_prefix}
use Rattle.delta_kind.proofs.parts.is_under.Given as goal

-- the prefixes so far are above nothing of the path
abbrev pub invariant-loop-prefix : goal.invariant-loop-prefix
invariant-loop-prefix l = list_any (λ prefix. is_prefix prefix l.path) (drop l.prefix-index l.prefixes) ≡ list_any (λ prefix. is_prefix prefix l.path) l.prefixes
