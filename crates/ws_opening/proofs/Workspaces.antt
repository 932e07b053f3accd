-- Workspaces over what was kept.
use Rattle.std.proofs.Common.{◌≡◌, List, map, Some, sym, ◌∙◌, ap}
use Rattle.std.specs.Prelude.{Result, Ok, Err, IfOk}
use Rattle.ws_durable.specs.declared.durable.Durable.{Durable}
use Rattle.ws_durable.specs.Saved.{saved}
use Rattle.builder_api.specs.Told.{Told}
use Rattle.res_path.specs.Paths.{Names}
use Rattle.ws_core.specs.Opened.{opened_of}
use Rattle.ws_opening.specs.declared.opened.Opened.{Opened}
use Rattle.ws_opening.specs.Opened.{opened_state}

-- a workspace over what was kept is opened in the state that is told
pub workspace_opened : {E : Type 0} (d : Durable) (names : Names) (told : List Told) (r : Result Opened E) → names ≡ map (λ b. b.named) told → IfOk r (λ o. o.kept ≡ Some d)
    → IfOk r (λ o. o.core.opened ≡ opened_of (saved d) names) → IfOk r (λ o. o.core.opened ≡ opened_state o.kept told)
workspace_opened d names told (Ok o) named kept opened = opened ∙ (ap (opened_of (saved d)) named ∙ ap (λ k. opened_state k told) (sym kept))
workspace_opened d names told (Err e) named kept opened = tt
