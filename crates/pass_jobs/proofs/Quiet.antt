-- What a pass makes without a build.
use Rattle.std.proofs.Common.{◌≡◌, inl, inr, ℕ, true, false, List, [], ◌∷◌, Option, Some, None, refl, sym, ap, ◌∙◌, subst}
use Rattle.std.specs.Prelude.{Result, Ok, Err}
use Rattle.std.specs.declared.alloc.AllocError.{AllocError}
use Rattle.core_event.specs.declared.entry.Entry.{Entry}
use Rattle.core_event.specs.declared.event.Event.{Event}
use Rattle.core_event.specs.declared.event.Event.TheVariants as events
use Rattle.save_kind.specs.declared.kind.SaveKind.{SaveKind}
use Rattle.save_run.specs.declared.command.Saved.{Saved}
use Rattle.save_run.specs.declared.command.Saved.TheVariants.{Ended, Stopped}
use Rattle.save_history.specs.Saves.{IsSave, IsSaveOf}
use Rattle.build_history.specs.Events.{NoBuilds, is_of_build}
use Rattle.run_order.specs.Alone.{IsCommand}
use Rattle.run_order.specs.Parts.{CommandEntries}
use Rattle.pass_jobs.specs.Calls.{AllOrNone, TookOne, is_plain}

pub nothing_quiet : (h : List Entry) → h ≡ [] → NoBuilds h
nothing_quiet h e = subst NoBuilds (sym e) tt

plain_quiet : (e : Event) → is_plain e ≡ true → is_of_build e ≡ false
plain_quiet (events.Service x) h = cc
plain_quiet e h = refl

pub event_quiet : {A : Type 0} (k : ℕ) (e : Event) → is_plain e ≡ true → (r : Result A AllocError) (h : List Entry) → AllOrNone (CommandEntries k e) r h → NoBuilds h
event_quiet k e plain (Ok x) h m = subst NoBuilds (sym m.1) (plain_quiet e plain, tt)
event_quiet k e plain (Err x) h m = nothing_quiet h m

pub take_quiet : (k : ℕ) (r : Result (Option (List ℕ)) AllocError) (h : List Entry) → TookOne k r h → NoBuilds h
take_quiet k (Ok (Some name)) h m = subst NoBuilds (sym m.2) (refl, tt)
take_quiet k (Ok None) h m = nothing_quiet h m
take_quiet k (Err e) h m = nothing_quiet h m

asked_quiet : (k : ℕ) (kind : SaveKind) (s : Saved) (h : List Entry) → IsSaveOf k kind s h → NoBuilds h
asked_quiet k kind (Ended o) h (inl w) = subst NoBuilds (sym w.are) (ap is_of_build w.begins.event_is, (ap is_of_build w.ends.event_is, tt))
asked_quiet k kind (Ended o) h (inr w) = subst NoBuilds (sym w.are) (ap is_of_build w.begins.event_is, (ap is_of_build w.keeps.event_is, (ap is_of_build w.ends.event_is, tt)))
asked_quiet k kind (Stopped n) h w = subst NoBuilds (sym w.are) (ap is_of_build w.refused.event_is, tt)

pub save_quiet : {A : Type 0} (k : ℕ) (kind : SaveKind) (r : Result A AllocError) (h : List Entry) → AllOrNone (IsSave k kind) r h → NoBuilds h
save_quiet k kind (Ok x) h m = asked_quiet k kind m.0 h m.1
save_quiet k kind (Err e) h m = nothing_quiet h m

-- no command asks for a pass to enter or leave, or for the services
pub command_plain : (e : Event) → IsCommand e → is_plain e ≡ true
command_plain events.Enter h = absurd h
command_plain events.Leave h = absurd h
command_plain (events.Service x) h = absurd h
command_plain e h = refl
