use Rattle.std.proofs.Common.{◌≡◌, ◌++◌, take}
use Rattle.std_concat.specs.Concat.{joined}
use Rattle.std_concat.proofs.joining.add_files.Given as goal

-- the bytes of the files so far
abbrev pub invariant-loop-file : goal.invariant-loop-file
invariant-loop-file l = l.bytes.items ≡ l.initial.bytes.items ++ joined (take l.file-index l.files)
