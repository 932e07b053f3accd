use Rattle.std.proofs.Common.{◌≡◌, ◌++◌, length}
use Rattle.std.specs.Prelude.{string_bytes}
use Rattle.include_lines.specs.Messages.{readable}
use Rattle.include_lines.proofs.message.push_readable.Given as goal

-- the text so far, and what is still to be added
abbrev pub invariant-loop-after : goal.invariant-loop-after
invariant-loop-after l = string_bytes l.text ++ readable l.rest ≡ string_bytes l.fn.text ++ readable l.fn.bytes

abbrev pub decreases-loop-after : goal.decreases-loop-after
decreases-loop-after l = length l.rest
