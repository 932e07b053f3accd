-- What entries that make no step of a save leave.
use Rattle.std.proofs.Common.{◌≡◌, ℕ, Bool, true, false, if◌then◌else◌, List, [], ◌∷◌, ◌++◌, None, refl, sym, ap, ◌∙◌, append-nil}
use Rattle.std.specs.Prelude.{Result, Ok, Err, OnOk, OnErr}
use Rattle.std.specs.List.{AllByRecursion}
use Rattle.core_event.specs.declared.entry.Entry.{Entry}
use Rattle.core_event.specs.declared.event.Event.{Event}
use Rattle.core_event.specs.declared.event.Event.TheVariants.{Begin, Batch, EndBatch, End, Service}
use Rattle.core_event.specs.declared.service.Outcomes.TheVariants as outcomes
use Rattle.core_event.specs.declared.service.Purpose.TheVariants as purposes
use Rattle.core_event.specs.declared.service.ServiceEvent.{ServiceEvent}
use Rattle.core_event.specs.declared.service.ServiceEvent.TheVariants.{Checkout, CheckIn, Handed, Commit, Clean, Saving}
use Rattle.ws_core.specs.Histories.{only_tried, written}
use Rattle.ws_core.specs.Sessions.{Session}
use Rattle.build_history.specs.Events.{IsBuilding, IsOwn, is_for_build}
use Rattle.save_history.specs.Steps.{NoSaves, step_asked, step_in}

-- one session went on to another by entries that make none
pub record WentQuietly (a b : Session) : Type 0 where
  pub opened : b.opened ≡ a.opened
  pub entries : List Entry
  pub history : b.history ≡ a.history ++ entries
  pub none : NoSaves entries

-- an event that makes none was done, or memory wanted
pub grew_quietly : {X E : Type 0} (r : Result X E) (a b : Session) (x : Entry) → b.opened ≡ a.opened → step_in x.event ≡ None → OnOk r (b.history ≡ written a.history x) → OnErr r (b ≡ a) → WentQuietly a b
grew_quietly (Ok y) a b x opened plain ok err = by (only_tried x) ok
  where
    by : (tried : Bool) → b.history ≡ (if tried then a.history else a.history ++ x ∷ []) → WentQuietly a b
    by true e = record { opened = opened; entries = []; history = e ∙ sym (append-nil a.history); none = tt }
    by false e = record { opened = opened; entries = x ∷ []; history = e; none = (plain, tt) }
grew_quietly (Err e) a b x opened plain ok err = record { opened = opened; entries = []; history = ap (λ (s : Session). s.history) err ∙ sym (append-nil a.history); none = tt }

-- what is asked for a build makes none
asked_plainly : (x : ServiceEvent) → is_for_build x ≡ true → step_asked x ≡ None
asked_plainly (Checkout (purposes.Build kind scope)) is = refl
asked_plainly (Checkout (purposes.Save kind)) is = absurd (let no : false ≡ true = is in cc)
asked_plainly (CheckIn (outcomes.Build outcome)) is = refl
asked_plainly (CheckIn (outcomes.Save answer)) is = absurd (let no : false ≡ true = is in cc)
asked_plainly (Handed project index kind) is = refl
asked_plainly (Commit edits) is = refl
asked_plainly (Clean project index) is = refl
asked_plainly (Saving states) is = absurd (let no : false ≡ true = is in cc)

built_plainly : (e : Event) → IsBuilding e → step_in e ≡ None
built_plainly (Begin rule) is = refl
built_plainly Batch is = refl
built_plainly (Service x) is = asked_plainly x is
built_plainly EndBatch is = refl
built_plainly (End rule) is = refl
built_plainly e is = absurd is

-- and the entries of builds make none
pub own_plainly : (k : ℕ) (h : List Entry) → AllByRecursion (IsOwn k) h → NoSaves h
own_plainly k [] own = tt
own_plainly k (x ∷ h) own = (built_plainly x.event own.0.building, own_plainly k h own.1)
