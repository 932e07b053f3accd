-- How a build of the one worker ends, as its book has it.
use Rattle.std.proofs.Common.{◌≡◌, inl, inr, ℕ, true, List, [], ◌∷◌, ◌++◌, None, refl, ap, ◌∙◌, append_assoc}
use Rattle.std.specs.Prelude.{is_none}
use Rattle.builder_api.specs.declared.outcome.BuildOutcome.{BuildOutcome}
use Rattle.builder_api.specs.Told.{Told}
use Rattle.build_run.specs.Books as books
use Rattle.build_run.specs.Books.{at}
use Rattle.build_run.specs.Starts.{Closes, IsCut}
use Rattle.core_event.specs.declared.event.Event.{Event}
use Rattle.core_event.specs.declared.event.Event.TheVariants as events
use Rattle.core_event.specs.declared.event.Event.TheVariants.{Service}
use Rattle.core_event.specs.declared.service.Outcomes.TheVariants.{Build}
use Rattle.core_event.specs.declared.service.ServiceEvent.TheVariants.{CheckIn}
use Rattle.job_manager.specs.declared.manager.JobManager.{JobManager}
use Rattle.service_desk.specs.Refusals.{root_rule}
use Rattle.ws_core.specs.States.{Moment}
use Rattle.ws_core.specs.Sessions.{Session}
use Rattle.build_core.specs.States.{state_of}
use Rattle.build_core.specs.Histories.{book_of, may_build, Steps}
use Rattle.build_core.proofs.Leaves.{check_in_leaves}
use Rattle.build_host.proofs.Growing.{finds_itself, mine_grows}
use Rattle.build_host.proofs.Handing.{it_serves}
use Rattle.build_host.proofs.Begun.{mine, services, services_step}

abbrev pub check_in : BuildOutcome → Event
check_in o = Service (CheckIn (Build o))

-- no pass has the services then
come_home : (o : BuildOutcome) (x m : Session) → may_build x.state 1 ≡ true → Steps 1 (check_in o) x m → services m ≡ None
come_home o x m may steps = ap (λ (s : Moment). s.manager.passes.services) steps.state ∙ ap (λ (z : JobManager). z.passes.services) (check_in_leaves x.state 1 (Build o) (it_serves x.state 1 may)).manager

checked : (o : BuildOutcome) (x m : Session) → Steps 1 (check_in o) x m → mine m ≡ mine x ++ at (state_of x.state) (books.CheckIn o) ∷ []
checked o x m steps = mine_grows 1 (check_in o) (books.CheckIn o) x m steps refl

more : {X : Type 0} (a b c ds : List X) (d : X) → b ≡ a ++ ds → c ≡ b ++ d ∷ [] → c ≡ a ++ (ds ++ d ∷ [])
more a b c ds d p q = q ∙ ap (λ z. z ++ d ∷ []) p ∙ append_assoc a ds (d ∷ [])

batch_closed : (o : BuildOutcome) (x m n : Session) → Steps 1 (check_in o) x m → Steps 1 events.EndBatch m n → mine n ≡ mine x ++ (at (state_of x.state) (books.CheckIn o) ∷ at (state_of m.state) books.EndBatch ∷ [])
batch_closed o x m n a b = more (mine x) (mine m) (mine n) (at (state_of x.state) (books.CheckIn o) ∷ []) (at (state_of m.state) books.EndBatch) (checked o x m a) (mine_grows 1 events.EndBatch books.EndBatch m n b refl)

-- memory wanted after the outcome was checked in
pub cut_first : (i : ℕ) (c told : List Told) (o : BuildOutcome) (x m y : Session) → may_build x.state 1 ≡ true → Steps 1 (check_in o) x m → y ≡ m → IsCut (book_of x 1 i c told) o (book_of y 1 i c told)
cut_first i c told o x m y may steps same = inl (record {
  found = state_of x.state;
  finds = finds_itself (state_of x.state);
  mine = ap mine same ∙ checked o x m steps;
  told = refl;
  home = ap is_none (ap services same ∙ come_home o x m may steps);
})

-- and after the batch was ended
pub cut_second : (i : ℕ) (c told : List Told) (o : BuildOutcome) (x m n y : Session) → may_build x.state 1 ≡ true → Steps 1 (check_in o) x m → Steps 1 events.EndBatch m n → y ≡ n
    → IsCut (book_of x 1 i c told) o (book_of y 1 i c told)
cut_second i c told o x m n y may steps batch same = inr (
  state_of m.state,
  record {
    found = state_of x.state;
    finds = finds_itself (state_of x.state);
    mine = ap mine same ∙ batch_closed o x m n steps batch;
    told = refl;
    home = ap is_none (ap services same ∙ services_step events.EndBatch m n refl batch ∙ come_home o x m may steps);
  },
)

pub closes : (i : ℕ) (c told : List Told) (o : BuildOutcome) (x m n y : Session) → may_build x.state 1 ≡ true → Steps 1 (check_in o) x m → Steps 1 events.EndBatch m n → Steps 1 (events.End root_rule) n y
    → Closes (book_of x 1 i c told) o (book_of y 1 i c told)
closes i c told o x m n y may steps batch rule = record {
  first = state_of m.state;
  second = state_of n.state;
  checked = record {
    found = state_of x.state;
    finds = finds_itself (state_of x.state);
    mine = more (mine x) (mine n) (mine y) (at (state_of x.state) (books.CheckIn o) ∷ at (state_of m.state) books.EndBatch ∷ []) (at (state_of n.state) books.End) (batch_closed o x m n steps batch)
        (mine_grows 1 (events.End root_rule) books.End n y rule refl);
    told = refl;
    home = ap is_none (services_step (events.End root_rule) n y refl rule ∙ services_step events.EndBatch m n refl batch ∙ come_home o x m may steps);
  };
}
