use Rattle.std.proofs.Common.{◌≡◌, drop}
use Rattle.std_kit.specs.Making.{nothing_made}
use Rattle.std_kit.specs.Roots.{rooted}
use Rattle.std_expand.specs.Expand.{with_roots}
use Rattle.std_expand.proofs.expanding.expand_roots.Given as goal

-- what is made so far, with what is made of the roots that are ahead
abbrev pub invariant-loop-root : goal.invariant-loop-root
invariant-loop-root l = with_roots l.made (rooted (drop l.root-index l.roots) l.view) ≡ with_roots nothing_made (rooted l.roots l.view)
