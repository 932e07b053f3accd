use Rattle.std.proofs.Common.{◌≡◌, [], drop}
use Rattle.ws_locked.proofs.Gathered.{gathered}
use Rattle.ws_locked.proofs.telling.told_from.Given as goal

-- what is left to gather leads to the same
abbrev pub invariant-loop-entry : goal.invariant-loop-entry
invariant-loop-entry l = gathered (l.told.items, l.skip) (drop l.entry-index l.entries) ≡ gathered ([], l.from) l.entries
