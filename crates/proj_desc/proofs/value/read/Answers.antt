use Rattle.std.proofs.Common.{ap}
use Rattle.serde_json.specs.View.{view}
use Rattle.proj_desc.specs.Causes.{read_cause}
use Rattle.proj_desc.proofs.Values.{value_read, value_unread}
use Rattle.proj_desc.proofs.value.read.Goals as goal

pub returns-in-Ok-clause-ok : goal.returns-in-Ok-clause-ok
returns-in-Ok-clause-ok c = value_read c.args.text.now (view c.in-Ok.value) c.in-Ok.ensures.ok.0 c.in-Ok.ensures.ok.1

pub returns-in-Ok-clause-bad : goal.returns-in-Ok-clause-bad
returns-in-Ok-clause-bad c = tt

pub returns-in-Err-clause-ok : goal.returns-in-Err-clause-ok
returns-in-Err-clause-ok c = tt

pub returns-in-Err-clause-bad : goal.returns-in-Err-clause-bad
returns-in-Err-clause-bad c = λ project. tt

pub returns-in-Err-2-clause-ok : goal.returns-in-Err-2-clause-ok
returns-in-Err-2-clause-ok c = tt

pub returns-in-Err-2-clause-bad : goal.returns-in-Err-2-clause-bad
returns-in-Err-2-clause-bad c = λ project.
    ap (read_cause project) (value_unread c.args.text.now (c.in-Err.ensures.err (λ m. let never = c.if-is_memory.ensures.1 m in cc)))

pub returns-in-Err-2-clause-none : goal.returns-in-Err-2-clause-none
returns-in-Err-2-clause-none c = λ _. value_unread c.args.text.now (c.in-Err.ensures.err (λ m. let never = c.if-is_memory.ensures.1 m in cc))
