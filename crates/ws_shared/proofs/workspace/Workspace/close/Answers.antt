use Rattle.std.proofs.Common.{sym, subst}
use Rattle.pass_turns.specs.Turns.{base_of, CameTo, EndsWith, Pairs, knows}
use Rattle.ws_core.specs.Sessions.{Session}
use Rattle.ws_shared.specs.Calls.{legal_from, pass_of}
use Rattle.ws_shared.proofs.workspace.Workspace.close.Goals as goal

pub returns-in-Ok-clause-ok : goal.returns-in-Ok-clause-ok
returns-in-Ok-clause-ok g c =
    subst (λ (x : Session). EndsWith pass_of legal_from (base_of (λ l. l.opening) c.args.self.room) x.history (knows c.args.pass)) (sym c.into_home-core.ensures.core) c.in-Ok.ensures.ok

pub returns-in-Ok-clause-told : goal.returns-in-Ok-clause-told
returns-in-Ok-clause-told g c =
    subst (λ (x : Session). Pairs (λ p q. CameTo pass_of x.history (knows p) (knows q)) c.args.others.now.items c.close.new.others.items) (sym c.into_home-core.ensures.core) c.in-Ok.ensures.told
