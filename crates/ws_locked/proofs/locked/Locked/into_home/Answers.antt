use Rattle.std.proofs.Common.{sym, ap, ◌∙◌}
use Rattle.std.specs.Option.{option_map}
use Rattle.ws_locked.specs.Halls.{trio_of}
use Rattle.ws_locked.proofs.locked.Locked.into_home.Goals as goal

pub returns-clause-fits : goal.returns-clause-fits
returns-clause-fits g c = c.into_parts-core.ensures.hall.fit (trio_of c.in-Some.services) (sym c.into_parts-core.ensures.services ∙ ap (λ o. option_map trio_of o) c.in-Some.is)
