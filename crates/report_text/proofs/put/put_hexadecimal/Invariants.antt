use Rattle.std.proofs.Common.{◌≡◌, ◌++◌, take}
use Rattle.report_text.specs.Words.{hexadecimal}
use Rattle.report_text.proofs.put.put_hexadecimal.Given as goal

-- the digits of the bytes so far
abbrev pub invariant-loop-b : goal.invariant-loop-b
invariant-loop-b l = l.out.items ≡ l.fn.out.items ++ hexadecimal (take l.b-index l.bytes)
