use Rattle.serde_json.specs.View.{view}
use Rattle.proj_desc.proofs.Values.{value_read}
use Rattle.built_read.proofs.values.value_of.Goals as goal

pub returns-in-Ok : goal.returns-in-Ok
returns-in-Ok c = value_read c.args.text.now (view c.in-Ok.value) c.in-Ok.ensures.ok.0 c.in-Ok.ensures.ok.1
