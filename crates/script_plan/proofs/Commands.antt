-- What the commands of scripts ask, whatever a pass makes of a build.
use Rattle.std.proofs.Common.{◌≡◌, ◌+◌, ℕ, List, [], ◌∷◌, Option, refl, sym, ap, ◌∙◌, subst}
use Rattle.builder_api.specs.declared.kind.BuildKind.{BuildKind}
use Rattle.core_event.specs.declared.entry.Entry.{Entry}
use Rattle.core_event.specs.declared.event.Event.{Event}
use Rattle.script_lang.specs.declared.script.Command.{Command}
use Rattle.script_lang.specs.declared.script.Command.TheVariants as commands
use Rattle.core_event.specs.declared.event.Event.TheVariants as events
use Rattle.run_order.specs.Alone.{IsCommand}
use Rattle.run_order.specs.Fronts.{enters, lets_in}
use Rattle.run_order.specs.Parts.{CommandEntries}
use Rattle.run_order.proofs.Alone.{MadeByOne, OnlyBy}
use Rattle.run_order.proofs.Parts.{event_some}
use Rattle.script_plan.specs.declared.plan.Asked.{Asked}
use Rattle.script_plan.specs.declared.plan.Asked.TheVariants.{One, Build, Save}
use Rattle.script_plan.specs.Plans.{asked_of, AskedEntries, Building, IsAskable, IsAsked, Made}
use Rattle.script_plan.proofs.Saves.{save_by, save_enters, some_save}

-- no command asks for an event of the jobs and passes themselves
pub askable : (c : Command) → IsAskable (asked_of c)
askable (commands.Operation op) = record { command = tt; schedules_none = refl }
askable commands.Batch = record { command = tt; schedules_none = refl }
askable commands.EndBatch = record { command = tt; schedules_none = refl }
askable commands.Checkpoint = record { command = tt; schedules_none = refl }
askable (commands.Begin rule) = record { command = tt; schedules_none = refl }
askable (commands.TryBegin rule) = record { command = tt; schedules_none = refl }
askable (commands.End rule) = record { command = tt; schedules_none = refl }
askable (commands.Sleep name) = record { command = tt; schedules_none = refl }
askable (commands.Wake name) = record { command = tt; schedules_none = refl }
askable (commands.Cancel name) = record { command = tt; schedules_none = refl }
askable (commands.Build kind project) = tt
askable (commands.Save kind) = tt

pub asked_one : (asked : Asked) (e : Event) → asked ≡ One e → IsAskable asked → IsAsked e
asked_one asked e is h = subst IsAskable is h

-- a command's event lets no pass in
asked_enters : (e : Event) → IsAsked e → lets_in e ≡ 0
asked_enters e asked = by e asked.command
  where
    by : (e : Event) → IsCommand e → lets_in e ≡ 0
    by events.Enter h = absurd h
    by e h = refl

module _ (Builds : Building) where
  -- each command has entries, where each build has some
  pub some_made : (k : ℕ) → ((kind : BuildKind) (project : Option (List ℕ)) → (l : List Entry) × Builds k kind project l) → (c : Command) → (l : List Entry) × Made Builds k c l
  some_made k some c = by (asked_of c)
    where
      by : (asked : Asked) → (l : List Entry) × AskedEntries Builds k asked l
      by (One event) = event_some (λ e. e) k event
      by (Build kind project) = some kind project
      by (Save kind) = some_save k kind

  -- one pass makes all of them, where it makes all of a build
  pub made_by_one : ((k : ℕ) (kind : BuildKind) (project : Option (List ℕ)) (h : List Entry) → Builds k kind project h → OnlyBy k h) → MadeByOne (Made Builds)
  made_by_one builds k c h p = by (asked_of c) p
    where
      by : (asked : Asked) → AskedEntries Builds k asked h → OnlyBy k h
      by (One event) p = subst (OnlyBy k) (sym p.1) (refl, tt)
      by (Build kind project) p = builds k kind project h p
      by (Save kind) p = save_by k kind h p

  -- none of them lets a pass in, where none of a build does
  pub made_enters : ((k : ℕ) (kind : BuildKind) (project : Option (List ℕ)) (h : List Entry) → Builds k kind project h → enters h ≡ 0) → (k : ℕ) (c : Command) (h : List Entry) → Made Builds k c h → enters h ≡ 0
  made_enters builds k c h p = by (asked_of c) (askable c) p
    where
      by : (asked : Asked) → IsAskable asked → AskedEntries Builds k asked h → enters h ≡ 0
      by (One event) asks p = ap enters p.1 ∙ ap (λ n. n + 0) (asked_enters event asks)
      by (Build kind project) asks p = builds k kind project h p
      by (Save kind) asks p = save_enters k kind h p
