use Rattle.std.proofs.Common.{◌≡◌, ◌++◌, take}
use Rattle.std.specs.List.{flat_map}
use Rattle.run_text.specs.Services.{member_text}
use Rattle.run_text.proofs.service_text.put_members.Given as goal

-- the projects so far
abbrev pub invariant-loop-name : goal.invariant-loop-name
invariant-loop-name l = l.out.items ≡ l.fn.out.items ++ flat_map member_text (take l.name-index l.names)
