-- A law of floors.
use Rattle.std.proofs.Common.{◌≡◌, ℕ, List, Option}
use Rattle.builder_api.specs.declared.kind.BuildKind.{BuildKind}
use Rattle.core_event.specs.declared.entry.Entry.{Entry}
use Rattle.script_lang.specs.declared.script.Command.{Command}
use Rattle.run_order.specs.Fronts.{enters}
use Rattle.script_plan.specs.Plans.{Building, Made}
use Rattle.script_plan.proofs.Commands as plans

-- no command lets a pass in, where no build does
pub made_enters : (Builds : Building) → ((k : ℕ) (kind : BuildKind) (project : Option (List ℕ)) (h : List Entry) → Builds k kind project h → enters h ≡ 0)
    → (k : ℕ) (c : Command) (h : List Entry) → Made Builds k c h → enters h ≡ 0
made_enters Builds none k c h m = plans.made_enters Builds none k c h m
