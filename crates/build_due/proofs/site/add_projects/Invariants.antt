use Rattle.std.proofs.Common.{◌≡◌, [], ◌∷◌, ◌++◌, map, take}
use Rattle.build_due.proofs.site.add_projects.Given as goal

-- with those so far
abbrev pub invariant-loop-name : goal.invariant-loop-name
invariant-loop-name l = l.paths.items ≡ l.initial.paths.items ++ map (λ name. name ∷ []) (take l.name-index l.names)
