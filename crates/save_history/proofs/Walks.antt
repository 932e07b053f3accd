-- Histories in two parts, and entries that make no step of a save.
use Rattle.std.proofs.Common.{◌≡◌, ◌+◌, Bool, true, false, List, [], ◌∷◌, ◌++◌, Option, None, refl, sym, ap, ◌∙◌, arith, append_assoc, if◌then◌else◌}
use Rattle.std.specs.List.{AllByRecursion}
use Rattle.std.specs.Option.{option_to_list}
use Rattle.core_event.specs.declared.entry.Entry.{Entry}
use Rattle.core_event.specs.declared.event.Event.{Event}
use Rattle.core_event.specs.declared.event.Event.TheVariants as events
use Rattle.core_event.specs.declared.reply.Answer.{Answer}
use Rattle.core_event.specs.Events.{service_of}
use Rattle.ws_core.specs.States.{Moment}
use Rattle.ws_core.specs.Histories.{after, replay}
use Rattle.ws_core.specs.Durables.{durable_of}
use Rattle.save_history.specs.Steps.{SaveStep, NoSaves, failures, step_in, step_of, steps_of, was_done}
use Rattle.save_history.specs.Points.{Points, points_from, with_step}
use Rattle.save_history.specs.Rounds.{Rounds, rounds_after, rounds_with}

-- a history in two parts leads where they lead
pub replay_append : (s : Moment) (g h : List Entry) → replay s (g ++ h) ≡ replay (replay s g) h
replay_append s [] h = refl
replay_append s (x ∷ g) h = replay_append (after s x) g h

pub points_append : (p : Points) (s : Moment) (g h : List Entry) → points_from p s (g ++ h) ≡ points_from (points_from p s g) (replay s g) h
points_append p s [] h = refl
points_append p s (x ∷ g) h = points_append (with_step (durable_of (after s x)) (step_of x.event x.reply.answer) p) (after s x) g h

pub steps_append : (g h : List Entry) → steps_of (g ++ h) ≡ steps_of g ++ steps_of h
steps_append [] h = refl
steps_append (x ∷ g) h =
    let here = option_to_list (step_of x.event x.reply.answer) in
    ap (λ xs. here ++ xs) (steps_append g h) ∙ sym (append_assoc here (steps_of g) (steps_of h))

pub rounds_append : (r : Rounds) (a b : List SaveStep) → rounds_after r (a ++ b) ≡ rounds_after (rounds_after r a) b
rounds_append r [] b = refl
rounds_append r (step ∷ a) b = rounds_append (rounds_with r step) a b

pub failures_append : (a b : List SaveStep) → failures (a ++ b) ≡ failures a + failures b
failures_append [] b = omega arith
failures_append (step ∷ a) b = let more = failures_append a b in omega (arith, more)

-- a list that went on, and then by one more
pub then_one : {A : Type 0} (h h' h'' l : List A) (x : A) → h' ≡ h ++ l → h'' ≡ h' ++ x ∷ [] → h'' ≡ h ++ (l ++ x ∷ [])
then_one h h' h'' l x one two = two ∙ ap (λ z. z ++ x ∷ []) one ∙ append_assoc h l (x ∷ [])

-- ---- entries that make no step

-- nothing is made of what isn't asked
pub none_made : (b : Bool) (o : Option SaveStep) → o ≡ None → (if b then o else None) ≡ None
none_made true o none = none
none_made false o none = refl

pub no_step : (e : Event) (a : Answer) → step_in e ≡ None → step_of e a ≡ None
no_step e a none = none_made (was_done a) (step_in e) none

pub no_steps : (h : List Entry) → NoSaves h → steps_of h ≡ []
no_steps [] all = refl
no_steps (x ∷ h) all = (λ i. option_to_list (no_step x.event x.reply.answer all.0 i) ++ no_steps h all.1 i)

pub no_points : (p : Points) (s : Moment) (h : List Entry) → NoSaves h → points_from p s h ≡ p
no_points p s [] all = refl
no_points p s (x ∷ h) all =
    ap (λ o. points_from (with_step (durable_of (after s x)) o p) (after s x) h) (no_step x.event x.reply.answer all.0)
    ∙ no_points p (after s x) h all.1

-- what doesn't concern the services asks no step
pub plain_step : (e : Event) → service_of e ≡ None → step_in e ≡ None
plain_step events.Enter none = refl
plain_step events.Leave none = refl
plain_step (events.Schedule name priority rule asleep) none = refl
plain_step (events.Sleep name) none = refl
plain_step (events.Wake name) none = refl
plain_step (events.Cancel name) none = refl
plain_step events.Take none = refl
plain_step events.Finish none = refl
plain_step (events.Begin rule) none = refl
plain_step (events.TryBegin rule) none = refl
plain_step (events.End rule) none = refl
plain_step (events.Transfer to) none = refl
plain_step events.Batch none = refl
plain_step events.EndBatch none = refl
plain_step events.Checkpoint none = refl
plain_step (events.Operation op) none = refl
plain_step (events.Service x) none = cc

pub plain_saves : (h : List Entry) → AllByRecursion (λ (x : Entry). service_of x.event ≡ None) h → NoSaves h
plain_saves [] all = tt
plain_saves (x ∷ h) all = (plain_step x.event all.0, plain_saves h all.1)

pub no_saves_append : (g h : List Entry) → NoSaves g → NoSaves h → NoSaves (g ++ h)
no_saves_append [] h one two = two
no_saves_append (x ∷ g) h one two = (one.0, no_saves_append g h one.1 two)
