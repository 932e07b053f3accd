use Rattle.std.proofs.Common.{◌≡◌, take}
use Rattle.std.specs.List.{fold}
use Rattle.std_copy.specs.Copied.{with_copy}
use Rattle.std_copy.proofs.copying.place_root.Given as goal

-- the files so far are placed
abbrev pub invariant-loop-file : goal.invariant-loop-file
invariant-loop-file l = l.making ≡ fold (with_copy l.root) l.fn.making (take l.file-index l.file-items)
