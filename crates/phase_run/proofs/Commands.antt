-- What the commands of scripts ask of the worker.
use Rattle.std.proofs.Common.{ℕ, List, [], ◌∷◌}
use Rattle.builder_api.specs.declared.kind.BuildKind.{BuildKind}
use Rattle.builder_api.specs.Meanings.{Meanings}
use Rattle.core_event.specs.declared.entry.Entry.{Entry}
use Rattle.script_lang.specs.declared.script.Command.{Command}
use Rattle.std.specs.List.{AllByRecursion}
use Rattle.run_order.proofs.Alone.{MadeByOne, OnlyBy}
use Rattle.build_history.specs.Events.{IsOwn}
use Rattle.build_host.specs.Builds.{IsBuild}
use Rattle.build_host.proofs.Cutting.{some_build}
use Rattle.script_plan.proofs.Commands as plans
use Rattle.phase_run.specs.Plans.{Made}

-- each command has entries
pub some_made : (ms : Meanings) (c : Command) → (l : List Entry) × Made ms 1 c l
some_made ms = plans.some_made (IsBuild ms) 1 (some_build ms)

all_by : (k : ℕ) (h : List Entry) → AllByRecursion (IsOwn k) h → OnlyBy k h
all_by k [] all = tt
all_by k (x ∷ h) all = (all.0.pass, all_by k h all.1)

-- one pass makes all of them
pub made_by_one : (ms : Meanings) → MadeByOne (Made ms)
made_by_one ms = plans.made_by_one (IsBuild ms) (λ k kind project h p. all_by k h p.own)
