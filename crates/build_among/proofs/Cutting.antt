-- The first entries of a build that was stopped where memory wanted are the first of a whole one.
use Rattle.std.proofs.Common.{◌≡◌, inl, inr, ◌==◌, ℕ, true, false, List, [], ◌∷◌, ◌++◌, get_or, Option, Some, None, refl, sym, ap, ◌∙◌, subst, append_assoc, eq-eqb}
use Rattle.std.specs.List.{AllByRecursion}
use Rattle.run_order.specs.Lists.{own, Cut}
use Rattle.run_order.proofs.Lists.{own_append}
use Rattle.run_order.proofs.Alone.{OnlyBy, all_own}
use Rattle.builder_api.specs.declared.kind.BuildKind.{BuildKind}
use Rattle.builder_api.specs.declared.outcome.BuildOutcome.{BuildOutcome}
use Rattle.builder_api.specs.Meanings.{Meanings}
use Rattle.builder_api.specs.Told.{Told}
use Rattle.build_run.specs.declared.answers.BuildAnswer.TheVariants.{Ended, Stopped}
use Rattle.build_run.specs.declared.answers.Started.TheVariants as started
use Rattle.build_run.specs.Books as books
use Rattle.build_run.specs.Books.{Book, Deed, at}
use Rattle.build_run.specs.Starts.{ChecksIn, Fails, IsStopped}
use Rattle.build_run.specs.Commands.{CameTo, IsUnanswered}
use Rattle.build_laws.specs.States.{State}
use Rattle.core_event.specs.declared.entry.Entry.{Entry}
use Rattle.core_event.specs.declared.event.Event.{Event}
use Rattle.core_event.specs.declared.event.Event.TheVariants as events
use Rattle.core_event.specs.declared.reply.Answer.{Answer}
use Rattle.core_event.specs.declared.reply.Answer.TheVariants as answers
use Rattle.core_event.specs.declared.reply.Refusal.TheVariants.{NotContained}
use Rattle.service_desk.specs.Refusals.{root_rule}
use Rattle.ws_core.specs.States.{Moment}
use Rattle.ws_core.specs.Histories.{after, fresh, replay}
use Rattle.build_core.specs.States.{state_of}
use Rattle.build_core.specs.Histories.{deed_of, entries_of}
use Rattle.build_core.proofs.Entered.{entries_append, own_adds}
use Rattle.build_history.specs.Events.{IsBuilding, IsOwn}
use Rattle.build_host.specs.Hosts.{checkout}
use Rattle.build_beside.specs.Beside.{book_in}
use Rattle.build_among.specs.Among.{IsBuildAmong}

-- ---- entries that end a build

-- an event of a build with its answer, and what it is as builds tell it
record Act : Type 0 where
  event : Event
  answer : Answer
  deed : Deed
  told : deed_of event answer ≡ Some deed
  building : IsBuilding event

abbrev not_begun : Act
not_begun = record { event = events.Begin root_rule; answer = answers.Refused (NotContained []); deed = books.Begin (Some 15); told = refl; building = tt }

abbrev batch : Act
batch = record { event = events.Batch; answer = answers.Done; deed = books.Batch; told = refl; building = tt }

abbrev not_out : BuildKind → Option (List ℕ) → Act
not_out kind project = record { event = checkout kind project; answer = answers.Refused (NotContained []); deed = books.Checkout kind project (started.Refused 15); told = refl; building = refl }

abbrev end_batch : Act
end_batch = record { event = events.EndBatch; answer = answers.Done; deed = books.EndBatch; told = refl; building = tt }

abbrev end_rule : Act
end_rule = record { event = events.End root_rule; answer = answers.Done; deed = books.End; told = refl; building = tt }

-- such an entry of pass n
abbrev made_by : ℕ → Act → Entry
made_by n x = record { pass = n; event = x.event; reply = record { answer = x.answer; notice = None } }

abbrev made : ℕ → List Act → List Entry
made n [] = []
made n (x ∷ xs) = made_by n x ∷ made n xs

-- the same, as builds tell it
abbrev told : ℕ → Moment → List Act → List books.Entry
told n s [] = []
told n s (x ∷ xs) = at (state_of s) x.deed ∷ told n (after s (made_by n x)) xs

is_told : (n : ℕ) (s : Moment) (xs : List Act) → entries_of n s (made n xs) ≡ told n s xs
is_told n s [] = refl
is_told n s (x ∷ xs) =
    let same : (n == n) ≡ true = eq-eqb n n refl in
    ap (λ l. l ++ entries_of n (after s (made_by n x)) (made n xs)) (own_adds n s (made_by n x) x.deed same x.told) ∙ ap (λ l. at (state_of s) x.deed ∷ l) (is_told n (after s (made_by n x)) xs)

all_made : (n : ℕ) (xs : List Act) → AllByRecursion (IsOwn n) (made n xs)
all_made n [] = tt
all_made n (x ∷ xs) = (record { pass = refl; building = x.building }, all_made n xs)

only_made : (n : ℕ) (xs : List Act) → OnlyBy n (made n xs)
only_made n [] = tt
only_made n (x ∷ xs) = (refl, only_made n xs)

all_append : {A : Type 0} (P : A → Type 0) (xs ys : List A) → AllByRecursion P xs → AllByRecursion P ys → AllByRecursion P (xs ++ ys)
all_append P [] ys h g = g
all_append P (x ∷ xs) ys h g = (h.0, all_append P xs ys h.1 g)

-- the entries of a command that is refused, where these are the first of them
record Finishes (n : ℕ) (kind : BuildKind) (project : Option (List ℕ)) (s : Moment) (es : List books.Entry) : Type 0 where
  tail : List Act
  number : ℕ
  stopped : IsStopped kind project number (es ++ told n s tail)

-- an item of a list that is told whole
item : (i : ℕ) (d : books.Entry) (xs ys : List books.Entry) → xs ≡ ys → get_or xs i d ≡ get_or ys i d
item i d xs ys is = ap (λ l. get_or l i d) is

finishes : (n : ℕ) (kind : BuildKind) (project : Option (List ℕ)) (s : Moment) (number : ℕ) (es rest : List books.Entry) → IsStopped kind project number (es ++ rest) → Finishes n kind project s es
finishes n kind project s number [] rest h = record { tail = not_begun ∷ []; number = 15; stopped = inl (state_of s, refl) }
finishes n kind project s number (a ∷ []) rest (inl h) = record { tail = []; number = number; stopped = inl (h.0, ap (λ z. z ∷ []) (item 0 a (a ∷ rest) _ h.1)) }
finishes n kind project s number (a ∷ b ∷ es) rest (inl h) = let is = h.1 in cc
finishes n kind project s number (a ∷ []) rest (inr h) = record {
  tail = batch ∷ not_out kind project ∷ end_batch ∷ end_rule ∷ [];
  number = 15;
  stopped = inr (h.0, _, _, _, _, ap (λ z. z ∷ told n s (batch ∷ not_out kind project ∷ end_batch ∷ end_rule ∷ [])) (item 0 a (a ∷ rest) _ h.5));
}
finishes n kind project s number (a ∷ b ∷ []) rest (inr h) = record {
  tail = not_out kind project ∷ end_batch ∷ end_rule ∷ [];
  number = 15;
  stopped = inr (h.0, h.1, _, _, _, (λ i. item 0 a (a ∷ b ∷ rest) _ h.5 i ∷ item 1 a (a ∷ b ∷ rest) _ h.5 i ∷ told n s (not_out kind project ∷ end_batch ∷ end_rule ∷ [])));
}
finishes n kind project s number (a ∷ b ∷ c ∷ []) rest (inr h) = record {
  tail = end_batch ∷ end_rule ∷ [];
  number = number;
  stopped = inr (h.0, h.1, h.2, _, _, (λ i. item 0 a (a ∷ b ∷ c ∷ rest) _ h.5 i ∷ item 1 a (a ∷ b ∷ c ∷ rest) _ h.5 i ∷ item 2 a (a ∷ b ∷ c ∷ rest) _ h.5 i ∷ told n s (end_batch ∷ end_rule ∷ [])));
}
finishes n kind project s number (a ∷ b ∷ c ∷ d ∷ []) rest (inr h) = record {
  tail = end_rule ∷ [];
  number = number;
  stopped = inr (
    h.0,
    h.1,
    h.2,
    h.3,
    _,
    (λ i. item 0 a (a ∷ b ∷ c ∷ d ∷ rest) _ h.5 i ∷ item 1 a (a ∷ b ∷ c ∷ d ∷ rest) _ h.5 i ∷ item 2 a (a ∷ b ∷ c ∷ d ∷ rest) _ h.5 i
        ∷ item 3 a (a ∷ b ∷ c ∷ d ∷ rest) _ h.5 i ∷ told n s (end_rule ∷ [])),
  );
}
finishes n kind project s number (a ∷ b ∷ c ∷ d ∷ e ∷ []) rest (inr h) = record {
  tail = [];
  number = number;
  stopped = inr (
    h.0,
    h.1,
    h.2,
    h.3,
    h.4,
    (λ i. item 0 a (a ∷ b ∷ c ∷ d ∷ e ∷ rest) _ h.5 i ∷ item 1 a (a ∷ b ∷ c ∷ d ∷ e ∷ rest) _ h.5 i ∷ item 2 a (a ∷ b ∷ c ∷ d ∷ e ∷ rest) _ h.5 i
        ∷ item 3 a (a ∷ b ∷ c ∷ d ∷ e ∷ rest) _ h.5 i ∷ item 4 a (a ∷ b ∷ c ∷ d ∷ e ∷ rest) _ h.5 i ∷ []),
  );
}
finishes n kind project s number (a ∷ b ∷ c ∷ d ∷ e ∷ f ∷ es) rest (inr h) = let is = h.5 in cc

-- ---- a build that was stopped

same_rest : {X : Type 0} (a b c : List X) → a ++ b ≡ a ++ c → b ≡ c
same_rest [] b c h = h
same_rest (x ∷ a) b c h = same_rest a b c (let is = h in cc)

module _ (ms : Meanings) (n : ℕ) (kind : BuildKind) (project : Option (List ℕ)) (s : Moment) (g since : List Entry) (all : AllByRecursion (IsOwn n) (own n since)) where
  -- the pass's entries in a history that has these at its end
  abbrev its : List Act → List Entry
  its xs = since ++ made n xs

  own_its : (xs : List Act) → own n (its xs) ≡ own n since ++ made n xs
  own_its xs = own_append n since (made n xs) ∙ ap (λ l. own n since ++ l) (all_own n (made n xs) (only_made n xs))

  told_its : (xs : List Act) → entries_of n (replay s g) (its xs) ≡ entries_of n (replay s g) since ++ told n (replay (replay s g) since) xs
  told_its xs = entries_append n (replay s g) since (made n xs) ∙ ap (λ l. entries_of n (replay s g) since ++ l) (is_told n (replay (replay s g) since) xs)

  module _ (j : ℕ) (c before now began : List Told) where
    abbrev first : Book
    first = book_in s n 0 [] before g

    abbrev second : Book
    second = book_in s n j began now (g ++ since)

    went : second.mine ≡ first.mine ++ entries_of n (replay s g) since
    went = entries_append n s g since

    -- a beginning of one that is refused
    cut_refused : Fails kind project first second → Cut (IsBuildAmong ms n kind project) (own n since)
    cut_refused f =
        let same : entries_of n (replay s g) since ≡ f.entries = same_rest first.mine (entries_of n (replay s g) since) f.entries (sym went ∙ f.mine) in
        let e = finishes n kind project (replay (replay s g) since) f.number f.entries f.rest f.stopped in
        let es : List books.Entry = f.entries ++ told n (replay (replay s g) since) e.tail in (
          made n e.tail,
          record {
            state = replay s g;
            history = its e.tail;
            its = own_its e.tail;
            before = first;
            answer = Stopped e.number;
            after = record first { mine = first.mine ++ es };
            answered = record { entries = es; mine = refl; told = refl; home = refl; stopped = e.stopped };
            mine = ap (λ z. first.mine ++ z) (sym (told_its e.tail ∙ ap (λ z. z ++ told n (replay (replay s g) since) e.tail) same));
            building = all_append (IsOwn n) (own n since) (made n e.tail) all (all_made n e.tail);
          },
        )

    -- one whose outcome was checked in
    ended : (o : BuildOutcome) (last : Book) → CameTo ms kind project first o last → (front : List books.Entry) (tail : List Act)
        → ChecksIn last o front second → (x y : State)
        → front ++ told n (replay (replay s g) since) tail ≡ at x books.EndBatch ∷ at y books.End ∷ [] → Cut (IsBuildAmong ms n kind project) (own n since)
    ended o last came front tail checks x y are =
        let es : List books.Entry = told n (replay (replay s g) since) tail in
        let whole : second.mine ++ es ≡ last.mine ++ (at checks.found (books.CheckIn o) ∷ at x books.EndBatch ∷ at y books.End ∷ []) =
        ap (λ z. z ++ es) checks.mine ∙ append_assoc last.mine (at checks.found (books.CheckIn o) ∷ front) es ∙ ap (λ z. last.mine ++ (at checks.found (books.CheckIn o) ∷ z)) are in (
          made n tail,
          record {
            state = replay s g;
            history = its tail;
            its = own_its tail;
            before = first;
            answer = Ended o;
            after = record second { mine = second.mine ++ es };
            answered = (last, came, record { first = x; second = y; checked = record { found = checks.found; finds = checks.finds; mine = whole; told = checks.told; home = checks.home } });
            mine = ap (λ z. z ++ es) went ∙ append_assoc first.mine (entries_of n (replay s g) since) es ∙ ap (λ z. first.mine ++ z) (sym (told_its tail));
            building = all_append (IsOwn n) (own n since) (made n tail) all (all_made n tail);
          },
        )

    -- where memory wanted, they are the first entries of a build
    pub cut_among : IsUnanswered ms kind project first second → Cut (IsBuildAmong ms n kind project) (own n since)
    cut_among (inl f) = cut_refused f
    cut_among (inr (o, last, came, inl checks)) = ended o last came [] (end_batch ∷ end_rule ∷ []) checks _ _ refl
    cut_among (inr (o, last, came, inr (t, checks))) = ended o last came (at t books.EndBatch ∷ []) (end_rule ∷ []) checks t _ refl

-- ---- some build

abbrev nothing_known : Book
nothing_known = record {
  mine = [];
  since = [];
  began = [];
  told = [];
  now = state_of fresh;
  serving = false;
  home = true;
  has = λ name. false;
  under = None;
}

-- there is a build of each kind: one that is refused at once
pub some_among : (ms : Meanings) (n : ℕ) (kind : BuildKind) (project : Option (List ℕ)) → (l : List Entry) × IsBuildAmong ms n kind project l
some_among ms n kind project = (
  made n (not_begun ∷ []),
  record {
    state = fresh;
    history = made n (not_begun ∷ []);
    its = all_own n (made n (not_begun ∷ [])) (only_made n (not_begun ∷ []));
    before = nothing_known;
    answer = Stopped 15;
    after = record nothing_known { mine = at (state_of fresh) (books.Begin (Some 15)) ∷ [] };
    answered = record { entries = at (state_of fresh) (books.Begin (Some 15)) ∷ []; mine = refl; told = refl; home = refl; stopped = inl (state_of fresh, refl) };
    mine = sym (is_told n fresh (not_begun ∷ []));
    building = all_made n (not_begun ∷ []);
  },
)
