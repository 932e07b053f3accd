use Rattle.std.proofs.Common.{sym}
use Rattle.std.proofs.lemmas.List.{take_all}
use Rattle.include_lines.proofs.message.front.Goals as goal

pub returns-then-bytes-le-LIMIT : goal.returns-then-bytes-le-LIMIT
returns-then-bytes-le-LIMIT c = sym (take_all 200 c.args.bytes.now c.if-bytes-le-LIMIT.true)
