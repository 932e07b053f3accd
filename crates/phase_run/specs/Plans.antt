-- How the worker does the commands of a script.
use Rattle.builder_api.specs.Meanings.{Meanings}
use Rattle.script_lang.specs.declared.script.Command.{Command}
use Rattle.run_order.specs.Parts.{Making}
use Rattle.build_host.specs.Builds.{IsBuild}
use Rattle.script_plan.specs.Plans as plans

-- the entries that the worker makes of a command, where builders have these meanings
abbrev pub Made : Meanings → Making Command
Made ms = plans.Made (IsBuild ms)
