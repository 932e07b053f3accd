use Rattle.std.proofs.Common.{◌≡◌, ◌++◌, drop}
use Rattle.std_kit.specs.Inside.Walks.{edits_along}
use Rattle.std_kit.proofs.changes.compare_all.Given as goal

-- the edits so far, and those along the files that are ahead
abbrev pub invariant-loop-file : goal.invariant-loop-file
invariant-loop-file l = l.edits.items ++ edits_along l.output (drop l.file-index l.files) l.left ≡ l.fn.edits.items ++ edits_along l.output l.files l.fn.left
