use Rattle.pass_history.proofs.Leaving.{first_there}
use Rattle.ws_shared.proofs.workspace.Workspace.over.Goals as goal

pub new-requires-clause-there : goal.new-requires-clause-there
new-requires-clause-there g c = first_there c.args.locked.opening.core.value.opened c.requires.first
