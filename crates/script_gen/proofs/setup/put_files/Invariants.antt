use Rattle.std.proofs.Common.{◌≡◌, ◌++◌, map}
use Rattle.std.specs.List.{range_with_len}
use Rattle.script_gen.specs.Draws.{behind}
use Rattle.script_gen.specs.Generated.{create_file}
use Rattle.script_gen.proofs.setup.put_files.Given as goal

-- the files so far are made
abbrev pub invariant-loop-file : goal.invariant-loop-file
invariant-loop-file l =
    (l.commands ≡ l.fn.commands ++ map (create_file l.fn.draws l.project) (range_with_len 0 l.file)) × (l.draws ≡ behind l.fn.draws l.file)
