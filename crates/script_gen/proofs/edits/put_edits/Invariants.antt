use Rattle.std.proofs.Common.{◌≡◌, ◌*◌, ◌++◌, map}
use Rattle.std.specs.List.{range_with_len}
use Rattle.script_gen.specs.Draws.{behind}
use Rattle.script_gen.specs.Generated.{write_file}
use Rattle.script_gen.proofs.edits.put_edits.Given as goal

-- the writes so far are there
abbrev pub invariant-loop : goal.invariant-loop
invariant-loop l =
    (l.commands ≡ l.fn.commands ++ map (write_file l.fn.draws l.project) (range_with_len 0 l.counter)) × (l.draws ≡ behind l.fn.draws (2 * l.counter))
