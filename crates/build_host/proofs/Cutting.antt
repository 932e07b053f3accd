-- A build of the one worker, whole or stopped where memory wanted, as entries of its pass.
use Rattle.std.proofs.Common.{◌≡◌, inl, inr, ℕ, true, false, List, [], ◌∷◌, ◌++◌, get_or, Option, Some, None, Result, Ok, Err, refl, sym, ap, ◌∙◌, append_assoc}
use Rattle.std.specs.Prelude.{is_none, IfOk, OnOk, OnErr}
use Rattle.std.specs.List.{AllByRecursion}
use Rattle.run_order.specs.Lists.{Cut, Grew}
use Rattle.builder_api.specs.declared.kind.BuildKind.{BuildKind}
use Rattle.builder_api.specs.declared.outcome.BuildOutcome.{BuildOutcome}
use Rattle.builder_api.specs.Meanings.{Meanings}
use Rattle.builder_api.specs.Told.{Told}
use Rattle.build_run.specs.declared.answers.BuildAnswer.{BuildAnswer}
use Rattle.build_run.specs.declared.answers.BuildAnswer.TheVariants.{Ended, Stopped}
use Rattle.build_run.specs.Books as books
use Rattle.build_run.specs.Books.{Book, at}
use Rattle.build_run.specs.Starts.{ChecksIn, Fails, IsStopped}
use Rattle.build_run.specs.Commands.{CameTo, IsAnswered, IsUnanswered}
use Rattle.build_laws.specs.States.{State}
use Rattle.core_event.specs.declared.entry.Entry.{Entry}
use Rattle.core_event.specs.declared.event.Event.{Event}
use Rattle.core_event.specs.declared.event.Event.TheVariants as events
use Rattle.core_event.specs.declared.reply.Answer.{Answer}
use Rattle.core_event.specs.declared.reply.Answer.TheVariants as answers
use Rattle.core_event.specs.declared.reply.Refusal.TheVariants.{NotContained}
use Rattle.service_desk.specs.Refusals.{root_rule}
use Rattle.ws_core.specs.States.{Moment}
use Rattle.ws_core.specs.Histories.{fresh, replay}
use Rattle.ws_core.specs.Sessions.{Session}
use Rattle.build_core.specs.States.{state_of}
use Rattle.build_core.specs.Histories.{book_of, entries_of}
use Rattle.build_core.proofs.Entered.{entries_append}
use Rattle.build_host.specs.Builds.{IsBuild}
use Rattle.build_history.specs.Events.{IsBuilding, IsOwn}
use Rattle.build_host.specs.Hosts.{Goes, checkout}
use Rattle.build_host.specs.Laws.{all_on}

-- ---- entries that end a build

abbrev made_by : Event → Answer → Entry
made_by e a = record { pass = 1; event = e; reply = record { answer = a; notice = None } }

abbrev not_begun : Entry
not_begun = made_by (events.Begin root_rule) (answers.Refused (NotContained []))

abbrev batch : Entry
batch = made_by events.Batch answers.Done

abbrev not_out : BuildKind → Option (List ℕ) → Entry
not_out kind project = made_by (checkout kind project) (answers.Refused (NotContained []))

abbrev end_batch : Entry
end_batch = made_by events.EndBatch answers.Done

abbrev end_rule : Entry
end_rule = made_by (events.End root_rule) answers.Done

own : (e : Event) (a : Answer) → IsBuilding e → IsOwn 1 (made_by e a)
own e a b = record { pass = refl; building = b }

-- the entries of a command that is refused, where these are the first of them
record Finishes (kind : BuildKind) (project : Option (List ℕ)) (s : Moment) (es : List books.Entry) : Type 0 where
  tail : List Entry
  number : ℕ
  stopped : IsStopped kind project number (es ++ entries_of 1 s tail)
  own : AllByRecursion (IsOwn 1) tail

at_once : (kind : BuildKind) (project : Option (List ℕ)) (s : Moment) → Finishes kind project s []
at_once kind project s = record { tail = not_begun ∷ []; number = 15; stopped = inl (state_of s, refl); own = (own (events.Begin root_rule) (answers.Refused (NotContained [])) tt, tt) }

-- an item of a list that is told whole
item : (i : ℕ) (d : books.Entry) (xs ys : List books.Entry) → xs ≡ ys → get_or xs i d ≡ get_or ys i d
item i d xs ys is = ap (λ l. get_or l i d) is

finishes : (kind : BuildKind) (project : Option (List ℕ)) (s : Moment) (number : ℕ) (es rest : List books.Entry) → IsStopped kind project number (es ++ rest) → Finishes kind project s es
finishes kind project s number [] rest h = at_once kind project s
finishes kind project s number (a ∷ []) rest (inl h) = record { tail = []; number = number; stopped = inl (h.0, ap (λ z. z ∷ []) (item 0 a (a ∷ rest) _ h.1)); own = tt }
finishes kind project s number (a ∷ b ∷ es) rest (inl h) = let is = h.1 in cc
finishes kind project s number (a ∷ []) rest (inr h) = record {
  tail = batch ∷ not_out kind project ∷ end_batch ∷ end_rule ∷ [];
  number = 15;
  stopped = inr (h.0, _, _, _, _, ap (λ z. z ∷ entries_of 1 s (batch ∷ not_out kind project ∷ end_batch ∷ end_rule ∷ [])) (item 0 a (a ∷ rest) _ h.5));
  own = (own events.Batch answers.Done tt, (own (checkout kind project) (answers.Refused (NotContained [])) refl, (own events.EndBatch answers.Done tt, (own (events.End root_rule) answers.Done tt, tt))));
}
finishes kind project s number (a ∷ b ∷ []) rest (inr h) = record {
  tail = not_out kind project ∷ end_batch ∷ end_rule ∷ [];
  number = 15;
  stopped = inr (h.0, h.1, _, _, _, (λ i. item 0 a (a ∷ b ∷ rest) _ h.5 i ∷ item 1 a (a ∷ b ∷ rest) _ h.5 i ∷ entries_of 1 s (not_out kind project ∷ end_batch ∷ end_rule ∷ [])));
  own = (own (checkout kind project) (answers.Refused (NotContained [])) refl, (own events.EndBatch answers.Done tt, (own (events.End root_rule) answers.Done tt, tt)));
}
finishes kind project s number (a ∷ b ∷ c ∷ []) rest (inr h) = record {
  tail = end_batch ∷ end_rule ∷ [];
  number = number;
  stopped = inr (h.0, h.1, h.2, _, _, (λ i. item 0 a (a ∷ b ∷ c ∷ rest) _ h.5 i ∷ item 1 a (a ∷ b ∷ c ∷ rest) _ h.5 i ∷ item 2 a (a ∷ b ∷ c ∷ rest) _ h.5 i ∷ entries_of 1 s (end_batch ∷ end_rule ∷ [])));
  own = (own events.EndBatch answers.Done tt, (own (events.End root_rule) answers.Done tt, tt));
}
finishes kind project s number (a ∷ b ∷ c ∷ d ∷ []) rest (inr h) = record {
  tail = end_rule ∷ [];
  number = number;
  stopped = inr (
    h.0,
    h.1,
    h.2,
    h.3,
    _,
    (λ i. item 0 a (a ∷ b ∷ c ∷ d ∷ rest) _ h.5 i ∷ item 1 a (a ∷ b ∷ c ∷ d ∷ rest) _ h.5 i ∷ item 2 a (a ∷ b ∷ c ∷ d ∷ rest) _ h.5 i
        ∷ item 3 a (a ∷ b ∷ c ∷ d ∷ rest) _ h.5 i ∷ entries_of 1 s (end_rule ∷ [])),
  );
  own = (own (events.End root_rule) answers.Done tt, tt);
}
finishes kind project s number (a ∷ b ∷ c ∷ d ∷ e ∷ []) rest (inr h) = record {
  tail = [];
  number = number;
  stopped = inr (
    h.0,
    h.1,
    h.2,
    h.3,
    h.4,
    (λ i. item 0 a (a ∷ b ∷ c ∷ d ∷ e ∷ rest) _ h.5 i ∷ item 1 a (a ∷ b ∷ c ∷ d ∷ e ∷ rest) _ h.5 i ∷ item 2 a (a ∷ b ∷ c ∷ d ∷ e ∷ rest) _ h.5 i
        ∷ item 3 a (a ∷ b ∷ c ∷ d ∷ e ∷ rest) _ h.5 i ∷ item 4 a (a ∷ b ∷ c ∷ d ∷ e ∷ rest) _ h.5 i ∷ []),
  );
  own = tt;
}
finishes kind project s number (a ∷ b ∷ c ∷ d ∷ e ∷ f ∷ es) rest (inr h) = let is = h.5 in cc

-- ---- the entries of a session that went on

same_rest : {X : Type 0} (a b c : List X) → a ++ b ≡ a ++ c → b ≡ c
same_rest [] b c h = h
same_rest (x ∷ a) b c h = same_rest a b c (let is = h in cc)

abbrev mine : Session → List books.Entry
mine x = entries_of 1 x.opened x.history

went : (x y : Session) (g : Goes x y) → x.state ≡ replay x.opened x.history → mine y ≡ mine x ++ entries_of 1 x.state g.entries
went x y g placed =
    (λ i. entries_of 1 (g.opened i) (g.history i))
    ∙ entries_append 1 x.opened x.history g.entries
    ∙ ap (λ s. mine x ++ entries_of 1 s g.entries) (sym placed)

module _ (ms : Meanings) (kind : BuildKind) (project : Option (List ℕ)) (x y : Session) (j i : ℕ) (c began told told' : List Told) (g : Goes x y) (placed : x.state ≡ replay x.opened x.history) where
  -- a build that was answered
  pub built : (a : BuildAnswer) → IsAnswered ms kind project (book_of x 1 j c told) a (book_of y 1 i began told') → IsBuild ms 1 kind project g.entries
  built a h = record { state = x.state; before = book_of x 1 j c told; answer = a; after = book_of y 1 i began told'; answered = h; mine = went x y g placed; own = g.own }

  -- no pass has the services afterwards
  pub at_home : (a : BuildAnswer) → IsAnswered ms kind project (book_of x 1 j c told) a (book_of y 1 i began told') → (book_of x 1 j c told).home ≡ true → (book_of y 1 i began told').home ≡ true
  at_home (Ended o) h home = h.2.checked.home
  at_home (Stopped n) h home = h.home ∙ home

  -- the entries after what was done
  grown : (t : List Entry) → entries_of 1 x.state (g.entries ++ t) ≡ entries_of 1 x.state g.entries ++ entries_of 1 (replay x.state g.entries) t
  grown t = entries_append 1 x.state g.entries t

  -- a beginning of one that is refused
  cut_refused : Fails kind project (book_of x 1 j c told) (book_of y 1 i began told') → (rest : List Entry) × IsBuild ms 1 kind project (g.entries ++ rest)
  cut_refused f =
      let same : entries_of 1 x.state g.entries ≡ f.entries = same_rest (mine x) (entries_of 1 x.state g.entries) f.entries (sym (went x y g placed) ∙ f.mine) in
      let e = finishes kind project (replay x.state g.entries) f.number f.entries f.rest f.stopped in
      let es : List books.Entry = f.entries ++ entries_of 1 (replay x.state g.entries) e.tail in (
        e.tail,
        record {
          state = x.state;
          before = book_of x 1 j c told;
          answer = Stopped e.number;
          after = record (book_of x 1 j c told) { mine = mine x ++ es };
          answered = record { entries = es; mine = refl; told = refl; home = refl; stopped = e.stopped };
          mine = ap (λ z. mine x ++ z) (sym (grown e.tail ∙ ap (λ z. z ++ entries_of 1 (replay x.state g.entries) e.tail) same));
          own = all_on g.entries e.tail g.own e.own;
        },
      )

  -- one whose outcome was checked in
  ended : (o : BuildOutcome) (last : Book) → CameTo ms kind project (book_of x 1 j c told) o last → (front : List books.Entry) (tail : List Entry)
      → ChecksIn last o front (book_of y 1 i began told') → (first second : State)
      → front ++ entries_of 1 (replay x.state g.entries) tail ≡ at first books.EndBatch ∷ at second books.End ∷ [] → AllByRecursion (IsOwn 1) tail → IsBuild ms 1 kind project (g.entries ++ tail)
  ended o last came front tail checks first second are owns =
      let es : List books.Entry = entries_of 1 (replay x.state g.entries) tail in
      let whole : mine y ++ es ≡ last.mine ++ (at checks.found (books.CheckIn o) ∷ at first books.EndBatch ∷ at second books.End ∷ []) =
      ap (λ z. z ++ es) checks.mine ∙ append_assoc last.mine (at checks.found (books.CheckIn o) ∷ front) es ∙ ap (λ z. last.mine ++ (at checks.found (books.CheckIn o) ∷ z)) are in
      record {
        state = x.state;
        before = book_of x 1 j c told;
        answer = Ended o;
        after = record (book_of y 1 i began told') { mine = mine y ++ es };
        answered = (last, came, record { first = first; second = second; checked = record { found = checks.found; finds = checks.finds; mine = whole; told = checks.told; home = checks.home } });
        mine = ap (λ z. z ++ es) (went x y g placed) ∙ append_assoc (mine x) (entries_of 1 x.state g.entries) es ∙ ap (λ z. mine x ++ z) (sym (grown tail));
        own = all_on g.entries tail g.own owns;
      }

  -- where memory wanted, they are the first entries of a build
  pub cut : IsUnanswered ms kind project (book_of x 1 j c told) (book_of y 1 i began told') → (rest : List Entry) × IsBuild ms 1 kind project (g.entries ++ rest)
  cut (inl f) = cut_refused f
  cut (inr (o, last, came, inl checks)) = (
    end_batch ∷ end_rule ∷ [],
    ended o last came [] (end_batch ∷ end_rule ∷ []) checks _ _ refl (own events.EndBatch answers.Done tt, (own (events.End root_rule) answers.Done tt, tt)),
  )
  cut (inr (o, last, came, inr (s, checks))) = (
    end_rule ∷ [],
    ended o last came (at s books.EndBatch ∷ []) (end_rule ∷ []) checks s _ refl (own (events.End root_rule) answers.Done tt, tt),
  )

none_out : (o : Option ℕ) → is_none o ≡ true → o ≡ None
none_out None h = refl
none_out (Some k) h = cc

-- what a build leaves, by what it answered
pub built_of : {E : Type 0} (r : Result BuildAnswer E) (ms : Meanings) (kind : BuildKind) (project : Option (List ℕ)) (x y : Session) (j : ℕ) (c told told' : List Told) (g : Goes x y)
    → x.state ≡ replay x.opened x.history
    → IfOk r (λ a. (i : ℕ) × (began : List Told) × IsAnswered ms kind project (book_of x 1 j c told) a (book_of y 1 i began told'))
    → OnOk r (Grew (IsBuild ms 1 kind project) x.history y.history)
built_of (Ok a) ms kind project x y j c told told' g placed h = (g.entries, g.history, built ms kind project x y j h.0 c h.1 told told' g placed a h.2)
built_of (Err e) ms kind project x y j c told told' g placed h = tt

pub cut_of : {E : Type 0} (r : Result BuildAnswer E) (ms : Meanings) (kind : BuildKind) (project : Option (List ℕ)) (x y : Session) (j : ℕ) (c told told' : List Told) (g : Goes x y)
    → x.state ≡ replay x.opened x.history
    → OnErr r ((i : ℕ) × (began : List Told) × IsUnanswered ms kind project (book_of x 1 j c told) (book_of y 1 i began told'))
    → OnErr r (Grew (Cut (IsBuild ms 1 kind project)) x.history y.history)
cut_of (Ok a) ms kind project x y j c told told' g placed h = tt
cut_of (Err e) ms kind project x y j c told told' g placed h = (g.entries, g.history, cut ms kind project x y j h.0 c h.1 told told' g placed h.2)

pub home_of : {E : Type 0} (r : Result BuildAnswer E) (ms : Meanings) (kind : BuildKind) (project : Option (List ℕ)) (x y : Session) (j : ℕ) (c told told' : List Told) (g : Goes x y)
    → x.state ≡ replay x.opened x.history
    → IfOk r (λ a. (i : ℕ) × (began : List Told) × IsAnswered ms kind project (book_of x 1 j c told) a (book_of y 1 i began told'))
    → OnOk r (x.state.manager.passes.services ≡ None → y.state.manager.passes.services ≡ None)
home_of (Ok a) ms kind project x y j c told told' g placed h =
    λ none. none_out y.state.manager.passes.services (at_home ms kind project x y j h.0 c h.1 told told' g placed a h.2 (ap is_none none))
home_of (Err e) ms kind project x y j c told told' g placed h = tt

-- ---- some build

abbrev nothing_known : Book
nothing_known = record {
  mine = [];
  since = [];
  began = [];
  told = [];
  now = state_of fresh;
  serving = false;
  home = true;
  has = λ name. false;
  under = None;
}

-- there is a build of each kind: one that is refused at once
pub some_build : (ms : Meanings) (kind : BuildKind) (project : Option (List ℕ)) → (l : List Entry) × IsBuild ms 1 kind project l
some_build ms kind project = (
  not_begun ∷ [],
  record {
    state = fresh;
    before = nothing_known;
    answer = Stopped 15;
    after = record nothing_known { mine = at (state_of fresh) (books.Begin (Some 15)) ∷ [] };
    answered = record { entries = at (state_of fresh) (books.Begin (Some 15)) ∷ []; mine = refl; told = refl; home = refl; stopped = inl (state_of fresh, refl) };
    mine = refl;
    own = (own (events.Begin root_rule) (answers.Refused (NotContained [])) tt, tt);
  },
)
