use Rattle.std.proofs.Common.{map}
use Rattle.ws_opening.proofs.Workspaces.{workspace_opened}
use Rattle.ws_opening.proofs.opened.workspace.Goals as goal

pub returns-clause-opened : goal.returns-clause-opened
returns-clause-opened g c = workspace_opened c.args.durable c.in_ok-names.names (map (λ b. g.B.Builder.tells b) c.args.builders.now) c.with_builders.result c.in_ok-names.ensures c.with_builders.ensures.kept c.with_builders.ensures.opened
