-- Books that grow by a step.
use Rattle.std.proofs.Common.{◌≡◌, ℕ, ◌≤◌, suc, eq-eqb, List, [], ◌∷◌, ◌++◌, length, take, drop, Some, refl, sym, ap, ◌∙◌}
use Rattle.std.specs.Prelude.{is_none}
use Rattle.std.specs.List.{list_any}
use Rattle.std.specs.Option.{option_map}
use Rattle.std.specs.Str.{bytes_eq}
use Rattle.builder_api.specs.Told.{Told}
use Rattle.core_event.specs.declared.entry.Entry.{Entry}
use Rattle.core_event.specs.declared.event.Event.{Event}
use Rattle.core_event.specs.declared.reply.Answer.{Answer}
use Rattle.service_desk.specs.Desks.{site_of}
use Rattle.build_laws.specs.States.{State, Finds}
use Rattle.build_run.specs.Books as books
use Rattle.build_run.specs.Books.{Book, Deed, at}
use Rattle.ws_core.specs.States.{Moment}
use Rattle.ws_core.specs.Histories as core
use Rattle.ws_core.specs.Histories.{replay}
use Rattle.ws_core.specs.Sessions.{Session}
use Rattle.ws_core.specs.Steps.{step}
use Rattle.build_core.specs.States.{item_of, state_of}
use Rattle.build_core.specs.Histories.{book_of, deed_of, entries_of, entry_of, may_build, Steps}
use Rattle.build_core.proofs.Entered.{entries_more, own_adds}
use Rattle.build_core.proofs.Leaves.{Leaves}
use Rattle.build_host.proofs.Lists.{take_front, drop_front, replay_cut}

pub finds_itself : (s : State) → Finds s s
finds_itself s = record { alike = λ q. refl; records = refl; descs = refl }

-- the entry of the event, in its place
abbrev here : ℕ → Event → Session → Entry
here k e x = core.entry_of x.state k e

one_more : (k : ℕ) (e : Event) (deed : Deed) (x : Session) (s : Moment) → x.state ≡ s → deed_of e (step x.state k e).1.answer ≡ Some deed → entry_of k s (here k e x) ≡ at (state_of x.state) deed ∷ []
one_more k e deed x s is did = ap (λ t. entry_of k t (here k e x)) (sym is) ∙ own_adds k x.state (here k e x) deed (eq-eqb k k refl) did

-- the entries of the pass
pub mine_grows : (k : ℕ) (e : Event) (deed : Deed) (x y : Session) → Steps k e x y → deed_of e (step x.state k e).1.answer ≡ Some deed
    → entries_of k y.opened y.history ≡ entries_of k x.opened x.history ++ at (state_of x.state) deed ∷ []
mine_grows k e deed x y steps did =
    (λ i. entries_of k (steps.opened i) (steps.history i))
    ∙ entries_more k x.opened x.history (here k e x)
    ∙ ap (λ z. entries_of k x.opened x.history ++ z) (one_more k e deed x (replay x.opened x.history) steps.placed did)

-- and those since its build began
pub since_grows : (k start : ℕ) (e : Event) (deed : Deed) (x y : Session) → start ≤ length x.history → Steps k e x y → deed_of e (step x.state k e).1.answer ≡ Some deed
    → entries_of k (replay y.opened (take start y.history)) (drop start y.history) ≡ entries_of k (replay x.opened (take start x.history)) (drop start x.history) ++ at (state_of x.state) deed ∷ []
since_grows k start e deed x y le steps did =
    (λ i. entries_of k (replay (steps.opened i) (take start (steps.history i))) (drop start (steps.history i)))
    ∙ (λ i. entries_of k (replay x.opened (take_front start x.history (here k e x ∷ []) le i)) (drop_front start x.history (here k e x ∷ []) le i))
    ∙ entries_more k (replay x.opened (take start x.history)) (drop start x.history) (here k e x)
    ∙ ap (λ z. entries_of k (replay x.opened (take start x.history)) (drop start x.history) ++ z)
    (one_more k e deed x (replay (replay x.opened (take start x.history)) (drop start x.history)) (steps.placed ∙ sym (replay_cut start x.opened x.history)) did)

-- the book of a state, with these entries
abbrev pub booked : List books.Entry → List books.Entry → List Told → List Told → ℕ → Moment → Book
booked mine since began told k s = record {
  mine = mine;
  since = since;
  began = began;
  told = told;
  now = state_of s;
  serving = may_build s k;
  home = is_none s.manager.passes.services;
  has = λ name. list_any (bytes_eq name) s.desk.builders;
  under = option_map item_of (site_of s.resources.tree s.desk.under);
}

-- the book after a step, by what its event did
pub book_after : (k start : ℕ) (began told told' : List Told) (e : Event) (deed : Deed) (x y : Session) (done : Moment × Answer) → start ≤ length x.history → Steps k e x y
    → deed_of e (step x.state k e).1.answer ≡ Some deed → Leaves (step x.state k e) done
    → book_of y k start began told'
    ≡ booked ((book_of x k start began told).mine ++ at (state_of x.state) deed ∷ []) ((book_of x k start began told).since ++ at (state_of x.state) deed ∷ []) began told' k done.0
book_after k start began told told' e deed x y done le steps did leaves = λ i. record {
  mine = mine_grows k e deed x y steps did i;
  since = since_grows k start e deed x y le steps did i;
  began = began;
  told = told';
  now = (ap state_of steps.state ∙ leaves.state) i;
  serving = may_build (record done.0 { manager = manager i; desk = desk i }) k;
  home = is_none (manager i).passes.services;
  has = λ name. list_any (bytes_eq name) (desk i).builders;
  under = option_map item_of (site_of ((ap (λ (s : Moment). s.resources.tree) steps.state ∙ ap (λ r. r.tree) leaves.resources) i) (desk i).under);
}
  where
    manager : y.state.manager ≡ done.0.manager
    manager = ap (λ (s : Moment). s.manager) steps.state ∙ leaves.manager

    desk : y.state.desk ≡ done.0.desk
    desk = ap (λ (s : Moment). s.desk) steps.state ∙ leaves.desk

-- the history is longer by one
pub length_after : (k : ℕ) (e : Event) (x y : Session) → Steps k e x y → length y.history ≡ suc (length x.history)
length_after k e x y steps = ap length steps.history ∙ by x.history
  where
    by : (h : List Entry) → length (h ++ here k e x ∷ []) ≡ suc (length h)
    by [] = refl
    by (z ∷ h) = ap suc (by h)
