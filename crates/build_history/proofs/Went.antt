-- What a build command did of its commands.
use Rattle.std.proofs.Common.{◌≡◌, ◌⊎◌, inl, inr, ℕ, Bool, true, cond, ◌+◌, suc, List, [], ◌∷◌, ◌++◌, map, Option, Some, None, Err, refl, sym, ap, ◌∙◌, subst, append_assoc, append-nil, arith}
use Rattle.std.specs.Prelude.{IfSome, option_and_then, slice_get}
use Rattle.std.specs.List.{AllByRecursion, flat_map, list_any}
use Rattle.std.specs.Option.{IsSomeAnd, option_map, option_or}
use Rattle.std.specs.Str.{bytes_eq}
use Rattle.res_path.specs.Paths.{Names}
use Rattle.proj_desc.specs.declared.command.Command.{Command}
use Rattle.builder_api.specs.declared.builder.BuildFault.TheVariants as fault
use Rattle.builder_api.specs.declared.handed.Handed.{Handed}
use Rattle.builder_api.specs.declared.kind.BuildKind.{BuildKind}
use Rattle.builder_api.specs.declared.kind.BuildKind.TheVariants.{Full, Auto, Incremental, Clean}
use Rattle.builder_api.specs.declared.outcome.BuildOutcome.{BuildOutcome}
use Rattle.builder_api.specs.declared.outcome.BuildOutcome.TheVariants as outcome
use Rattle.builder_api.specs.declared.plan.Plan.{Plan}
use Rattle.builder_api.specs.Meanings.{Meanings}
use Rattle.builder_api.specs.Told.{Told, Built, Cleaned}
use Rattle.build_laws.specs.States.{Descs, Item, State, due, item}
use Rattle.build_laws.specs.Planned.{IsDescribed, IsPlanned}
use Rattle.build_laws.specs.Turns.{Turn, Skip, Make, after, AreTurns, IsTurn}
use Rattle.build_laws.specs.Builds.{Project, items_from, items_of, project_items, asked as turn_of, IsRound, later, Settles, Stirs, GroupBuilt, AllBuilt}
use Rattle.build_run.specs.Books as books
use Rattle.build_run.specs.Books.{Book, Entry, Did, Called, WereDone, Deed, Begin, Batch, Checkout, Commit, CleanUp, CheckIn, EndBatch, End, turn_entries, turn_calls, Adds, Ran}
use Rattle.build_run.specs.Ends.{Halts, RoundHalts, GroupHalts, AllCame, AllHalt, handing}
use Rattle.build_run.specs.Sweeps.{Sweep, Passed, Swept, swept_item, sweep_entries, sweep_calls, AreSweeps, WereSwept, SweptTo}
use Rattle.build_run.specs.Commands.{BuiltTo, WentTo}
use Rattle.build_run.proofs.Done.{done_append}
use Rattle.build_run.proofs.Runs.{ran_descs}
use Rattle.build_history.specs.Calls.{calls_for, command_at}
use Rattle.build_history.proofs.Lists.{all_append, all_back, all_front, flat_append, map_append}
use Rattle.build_history.specs.Handings.{Handing, HaveRisen, IsOf, IsRight, failure, handing_of}
use Rattle.build_history.proofs.Calls.{asked, call_of}
use Rattle.build_history.proofs.Counts.{done_names, done_risen, failed_risen, risen_after}
use Rattle.build_history.proofs.Handings.{AreGood, failed_in, good_append, last_append, last_of}

-- an entry of one of the commands
abbrev pub IsWork : Deed → Type 0
IsWork (books.Handing project index kind x) = Unit {0}
IsWork (Commit e x) = Unit {0}
IsWork (CleanUp project index x) = Unit {0}
IsWork (Begin x) = ⊥
IsWork Batch = ⊥
IsWork (Checkout kind project x) = ⊥
IsWork (CheckIn o) = ⊥
IsWork EndBatch = ⊥
IsWork End = ⊥

-- builders were called for exactly what entries ask
abbrev pub AreAsked : List Entry → List Did → Type 0
AreAsked es ds = flat_map asked es ≡ map call_of ds

pub asked_more : (es fs : List Entry) (ds cs : List Did) → AreAsked es ds → AreAsked fs cs → AreAsked (es ++ fs) (ds ++ cs)
asked_more es fs ds cs h g = flat_append asked es fs ∙ (λ i. h i ++ g i) ∙ sym (map_append call_of ds cs)

-- the builders of a book are those that it tells of
abbrev pub AreListed : Book → Type 0
AreListed b = b.has ≡ (λ name. list_any (bytes_eq name) (map (λ t. t.named) b.told))

-- entries of commands lead from one book to another, and the build may come to an outcome there
pub record Works (ms : Meanings) (o : BuildOutcome) (b b' : Book) : Type 0 where
  pub entries : List Entry
  pub done : List Did
  pub adds : Adds b b' entries done
  pub asked : AreAsked entries done
  pub work : AllByRecursion (λ x. IsWork x.deed) entries
  -- what they commit is right, and an outcome that tells of a builder that failed tells of the last that was called
  pub good : (last : Option Handing) → AreGood ms last entries
  pub told : (last : Option Handing) → IfSome (failed_in o) (λ at. IsSomeAnd (last_of last entries) (IsOf at))
  pub risen : AreListed b → (last : Option Handing) (name : List ℕ) → HaveRisen name (failure name (failed_in o) (last_of last entries)) b.told b'.told

-- where the outcome tells of no builder
module _ (ms : Meanings) (o : BuildOutcome) (none : failed_in o ≡ None) (b b' : Book) where
  works_of : (es : List Entry) (ds : List Did) → Adds b b' es ds → AreAsked es ds → AllByRecursion (λ (x : Entry). IsWork x.deed) es → ((last : Option Handing) → AreGood ms last es) → Works ms o b b'
  works_of es ds adds asked work good = record {
    entries = es;
    done = ds;
    adds = adds;
    asked = asked;
    work = work;
    good = good;
    told = λ last. subst (λ f. IfSome f (λ at. IsSomeAnd (last_of last es) (IsOf at))) (sym none) tt;
    risen = λ listed last name. subst (λ f. HaveRisen name (failure name f (last_of last es)) b.told b'.told) (sym none) (done_risen ds b.told b'.told name adds.done);
  }

  pub works_as : (p : BuildOutcome) → Works ms p b b' → Works ms o b b'
  works_as p w = works_of w.entries w.done w.adds w.asked w.work w.good

  works_none : b' ≡ b → Works ms o b b'
  works_none same = works_of [] []
      (subst (λ x. Adds b x [] []) (sym same) (record { mine = sym (append-nil b.mine); since = sym (append-nil b.since); began = refl; done = refl; serving = refl; has = refl })) refl tt (λ last. tt)

-- the builders of a book are still those that it tells of
listed_on : (a b : Book) (es : List Entry) (ds : List Did) → Adds a b es ds → AreListed a → AreListed b
listed_on a b es ds adds listed = adds.has ∙ listed ∙ ap (λ (names : Names). λ (name : List ℕ). list_any (bytes_eq name) names) (sym (done_names ds a.told b.told adds.done))

works_more : (ms : Meanings) (o : BuildOutcome) (a b c : Book) → Works ms outcome.Settled a b → Works ms o b c → Works ms o a c
works_more ms o a b c p q = record {
  entries = p.entries ++ q.entries;
  done = p.done ++ q.done;
  adds = record {
    mine = q.adds.mine ∙ ap (λ x. x ++ q.entries) p.adds.mine ∙ append_assoc a.mine p.entries q.entries;
    since = q.adds.since ∙ ap (λ x. x ++ q.entries) p.adds.since ∙ append_assoc a.since p.entries q.entries;
    began = q.adds.began ∙ p.adds.began;
    done = done_append p.done q.done a.told b.told c.told p.adds.done q.adds.done;
    serving = q.adds.serving ∙ p.adds.serving;
    has = q.adds.has ∙ p.adds.has;
  };
  asked = asked_more p.entries q.entries p.done q.done p.asked q.asked;
  work = all_append (λ x. IsWork x.deed) p.entries q.entries p.work q.work;
  good = λ last. good_append ms last p.entries q.entries (p.good last) (q.good (last_of last p.entries));
  told = λ last. subst (λ l. IfSome (failed_in o) (λ at. IsSomeAnd l (IsOf at))) (sym (last_append last p.entries q.entries)) (q.told (last_of last p.entries));
  risen = λ listed last name.
      subst (λ l. HaveRisen name (failure name (failed_in o) l) a.told c.told) (sym (last_append last p.entries q.entries))
      (risen_after name (failure name (failed_in o) (last_of (last_of last p.entries) q.entries)) a.told b.told c.told (done_names p.done a.told b.told p.adds.done)
      (done_risen p.done a.told b.told name p.adds.done) (q.risen (listed_on a b p.entries p.done p.adds listed) (last_of last p.entries) name));
}

-- ---- commands at their places

-- the descriptions have the command at its place
abbrev pub Stands : Descs → Item → Type 0
Stands descs i = command_at descs i.project i.index ≡ Some i.command

module _ (descs : Descs) (p : Project) (d : IsDescribed descs p) where
  one_stands : (n : ℕ) (c : Command) → slice_get p.1 n ≡ Some c → Stands descs (item p.0 n c)
  one_stands n c is = ap (option_and_then (λ e. slice_get e.commands n)) d.described ∙ ap (λ cs. slice_get cs n) d.commands ∙ is

  some_stand : (n : ℕ) (cs : List Command) → ((k : ℕ) → slice_get p.1 (n + k) ≡ slice_get cs k) → AllByRecursion (Stands descs) (items_from p.0 n cs)
  some_stand n [] from = tt
  some_stand n (c ∷ cs) from = (
    one_stands n c (ap (slice_get p.1) (let e : n ≡ n + 0 = omega arith in e) ∙ from 0),
    some_stand (suc n) cs (λ k. ap (slice_get p.1) (let e : suc n + k ≡ n + suc k = omega arith in e) ∙ from (suc k)),
  )

  project_stands : AllByRecursion (Stands descs) (project_items p)
  project_stands = some_stand 0 p.1 (λ k. ap (slice_get p.1) (let e : 0 + k ≡ k = omega arith in e))

pub items_stand : (descs : Descs) (ps : List Project) → AllByRecursion (IsDescribed descs) ps → AllByRecursion (Stands descs) (items_of ps)
items_stand descs [] h = tt
items_stand descs (p ∷ ps) h = all_append (Stands descs) (project_items p) (items_of ps) (project_stands descs p h.0) (items_stand descs ps h.1)

-- ---- the commands of turns

module _ (P : Item → Type 0) where
  abbrev OfAll : List Turn → Type 0
  OfAll xs = AllByRecursion (λ x. P (turn_of x).0) xs

  of_round : (kind : BuildKind) (is : List Item) (xs : List Turn) → IsRound kind is xs → AllByRecursion P is → OfAll xs
  of_round kind [] [] h all = tt
  of_round kind [] (x ∷ xs) h all = cc
  of_round kind (i ∷ is) [] h all = cc
  of_round kind (i ∷ is) (x ∷ xs) h all =
      let one : turn_of x ≡ (i, kind) = cc in
      (subst (λ (a : Item × BuildKind). P a.0) (sym one) all.0, of_round kind is xs (cc) all.1)

  of_settled : (kind : BuildKind) (is : List Item) (rs : List (List Turn)) → Settles kind is rs → AllByRecursion P is → OfAll (flat_map (λ r. r) rs)
  of_settled kind is [] h all = absurd h
  of_settled kind is (r ∷ []) h all = all_append (λ x. P (turn_of x).0) r [] (of_round kind is r h.0 all) tt
  of_settled kind is (r ∷ q ∷ rs) h all = all_append (λ x. P (turn_of x).0) r (flat_map (λ r. r) (q ∷ rs)) (of_round kind is r h.0 all) (of_settled (later kind) is (q ∷ rs) h.2 all)

  of_stirred : (kind : BuildKind) (is : List Item) (rs : List (List Turn)) → Stirs kind is rs → AllByRecursion P is → OfAll (flat_map (λ r. r) rs)
  of_stirred kind is [] h all = tt
  of_stirred kind is (r ∷ rs) h all = all_append (λ x. P (turn_of x).0) r (flat_map (λ r. r) rs) (of_round kind is r h.0 all) (of_stirred (later kind) is rs h.2 all)

  of_group : (kind : BuildKind) (g : List Project) (xs : List Turn) → GroupBuilt kind g xs → AllByRecursion P (items_of g) → OfAll xs
  of_group kind [] xs h all = absurd h
  of_group kind (p ∷ []) xs h all = of_round kind (items_of (p ∷ [])) xs h all
  of_group kind (p ∷ q ∷ ps) xs h all = subst OfAll (sym h.are) (of_settled kind (items_of (p ∷ q ∷ ps)) h.rounds h.settles all)

of_built : (descs : Descs) (kind : BuildKind) (gs : List (List Project)) (xs : List Turn) → AllBuilt kind gs xs → AllByRecursion (IsDescribed descs) (flat_map (λ g. g) gs) → OfAll (Stands descs) xs
of_built descs kind [] xs h all = subst (OfAll (Stands descs)) (sym h) tt
of_built descs kind (g ∷ gs) xs h all = subst (OfAll (Stands descs)) (sym h.2)
    (all_append (λ x. Stands descs (turn_of x).0) h.0 h.1 (of_group (Stands descs) kind g h.0 h.3 (items_stand descs g (all_front (IsDescribed descs) g (flat_map (λ g. g) gs) all)))
    (of_built descs kind gs h.1 h.4 (all_back (IsDescribed descs) g (flat_map (λ g. g) gs) all)))

-- ---- what turns ask

-- a call of a command that stands in a state's descriptions
due_asked : (descs found : Descs) (i : Item) → found ≡ descs → Stands descs i → command_at found i.project i.index ≡ Some i.command
due_asked descs found i same stands = ap (λ (d : Descs). command_at d i.project i.index) same ∙ stands

turn_asked : (ms : Meanings) (has : List ℕ → Bool) (descs : Descs) (s : State) (x : Turn) → s.descs ≡ descs → Stands descs (turn_of x).0 → IsTurn ms has s x → AreAsked (turn_entries x) (turn_calls x)
turn_asked ms has descs s (Skip kind i found) same stands h = refl
turn_asked ms has descs s (Make kind i w) same stands h = ap (λ (o : Option Command). (calls_for o (λ c. Built c w.handed) ++ [])) (due_asked descs w.first.descs i (h.found.descs ∙ same) stands)

turn_good : (ms : Meanings) (has : List ℕ → Bool) (descs : Descs) (s : State) (x : Turn) → s.descs ≡ descs → Stands descs (turn_of x).0 → IsTurn ms has s x → (last : Option Handing) → AreGood ms last (turn_entries x)
turn_good ms has descs s (Skip kind i found) same stands h last = (record { right = tt; told = tt }, tt)
turn_good ms has descs s (Make kind i w) same stands h last = (
  record { right = tt; told = tt },
  (
    record {
      right = subst (λ (o : Option Command). IsSomeAnd (option_or (option_map (handing_of i.project i.index w.handed) o) last) (IsRight ms w.then w.edits))
          (sym (due_asked descs w.first.descs i (h.found.descs ∙ same) stands)) h.right;
      told = tt;
    },
    tt,
  ),
)

turn_work : (x : Turn) → AllByRecursion (λ (e : Entry). IsWork e.deed) (turn_entries x)
turn_work (Skip kind i found) = (tt, tt)
turn_work (Make kind i w) = (tt, (tt, tt))

turn_descs : (ms : Meanings) (has : List ℕ → Bool) (s : State) (x : Turn) → IsTurn ms has s x → (after x).descs ≡ s.descs
turn_descs ms has s (Skip kind i found) h = h.1.descs
turn_descs ms has s (Make kind i w) h = h.committed.descs ∙ h.still.descs ∙ h.found.descs

turns_asked : (ms : Meanings) (has : List ℕ → Bool) (descs : Descs) (s : State) (xs : List Turn) → s.descs ≡ descs → OfAll (Stands descs) xs → AreTurns ms has s xs → AreAsked (flat_map turn_entries xs) (flat_map turn_calls xs)
turns_asked ms has descs s [] same stands h = refl
turns_asked ms has descs s (x ∷ xs) same stands h = asked_more (turn_entries x) (flat_map turn_entries xs) (turn_calls x) (flat_map turn_calls xs)
    (turn_asked ms has descs s x same stands.0 h.0) (turns_asked ms has descs (after x) xs (turn_descs ms has s x h.0 ∙ same) stands.1 h.1)

turns_good : (ms : Meanings) (has : List ℕ → Bool) (descs : Descs) (s : State) (xs : List Turn) → s.descs ≡ descs → OfAll (Stands descs) xs → AreTurns ms has s xs → (last : Option Handing) → AreGood ms last (flat_map turn_entries xs)
turns_good ms has descs s [] same stands h last = tt
turns_good ms has descs s (x ∷ xs) same stands h last = good_append ms last (turn_entries x) (flat_map turn_entries xs)
    (turn_good ms has descs s x same stands.0 h.0 last) (turns_good ms has descs (after x) xs (turn_descs ms has s x h.0 ∙ same) stands.1 h.1 (last_of last (turn_entries x)))

turns_work : (xs : List Turn) → AllByRecursion (λ (e : Entry). IsWork e.deed) (flat_map turn_entries xs)
turns_work [] = tt
turns_work (x ∷ xs) = all_append (λ (e : Entry). IsWork e.deed) (turn_entries x) (flat_map turn_entries xs) (turn_work x) (turns_work xs)

ran_works : (ms : Meanings) (descs : Descs) (b b' : Book) (xs : List Turn) → b.now.descs ≡ descs → OfAll (Stands descs) xs → Ran ms b b' xs → Works ms outcome.Settled b b'
ran_works ms descs b b' xs same stands ran = works_of ms outcome.Settled refl b b' (flat_map turn_entries xs) (flat_map turn_calls xs) ran.adds (turns_asked ms b.has descs b.now xs same stands ran.turns) (turns_work xs)
    (turns_good ms b.has descs b.now xs same stands ran.turns)

-- ---- halts

called_failed : (i : Item) (h : Handed) (a b : List Told) (name : List ℕ) → WereDone (Called i h (Err fault.Failed) ∷ []) a b → list_any (bytes_eq i.command.builder) (map (λ t. t.named) a) ≡ true
    → HaveRisen name (cond (bytes_eq i.command.builder name) 1 0) a b
called_failed i h a b name done there =
    subst (HaveRisen name (cond (bytes_eq i.command.builder name) 1 0) a) (sym done.2) (failed_risen i.command.builder (Built i.command h) a done.0 name done.1.0 (done.1.1 refl) there)

halt_works : (ms : Meanings) (descs : Descs) (b : Book) (i : Item) (kind : BuildKind) (o : BuildOutcome) (b' : Book) → b.now.descs ≡ descs → Stands descs i → Halts b i kind o b' → Works ms o b b'
halt_works ms descs b i kind (outcome.BuilderFailed p n) b' same stands h =
    let place : command_at h.0.descs i.project i.index ≡ Some i.command = due_asked descs h.0.descs i (h.1.descs ∙ same) stands in record {
      entries = handing h.0 i kind ∷ [];
      done = Called i (due h.0 i kind) (Err fault.Failed) ∷ [];
      adds = h.5;
      asked = ap (λ (o : Option Command). calls_for o (λ c. Built c (due h.0 i kind)) ++ []) place;
      work = (tt, tt);
      good = λ last. (record { right = tt; told = tt }, tt);
      told = λ last. subst (λ (o : Option Command). IsSomeAnd (option_or (option_map (handing_of i.project i.index (due h.0 i kind)) o) last) (IsOf (p, n))) (sym place) (sym h.3, sym h.4);
      risen = λ listed last name.
          subst (λ (o : Option Command). HaveRisen name (failure name (Some (p, n)) (option_or (option_map (handing_of i.project i.index (due h.0 i kind)) o) last)) b.told b'.told) (sym place)
          (called_failed i (due h.0 i kind) b.told b'.told name h.5.done (ap (λ (f : List ℕ → Bool). f i.command.builder) (sym listed) ∙ h.2));
    }
halt_works ms descs b i kind (outcome.Refused n) b' same stands h = works_of ms (outcome.Refused n) refl b b' _ _ h.6
    (ap (λ (o : Option Command). calls_for o (λ c. Built c (due h.0 i kind)) ++ []) (due_asked descs h.0.descs i (h.3.descs ∙ same) stands)) (tt, (tt, tt))
    (λ last. (record { right = tt; told = tt }, (record { right = tt; told = tt }, tt)))
halt_works ms descs b i kind outcome.NoMemory b' same stands h = works_of ms outcome.NoMemory refl b b' h.0 h.1 h.2
    (elim h.4 [
      | inl none ↦ ap (flat_map asked) none.0 ∙ sym (ap (map call_of) none.1)
      | inr one ↦ ap (flat_map asked) one.0
          ∙ ap (λ (o : Option Command). calls_for o (λ c. Built c (due b'.now i kind)) ++ []) (due_asked descs b'.now.descs i (h.3.descs ∙ same) stands)
          ∙ sym (ap (map call_of) one.1.1)
    ])
    (elim h.4 [
      | inl none ↦ subst (AllByRecursion (λ (e : Entry). IsWork e.deed)) (sym none.0) tt
      | inr one ↦ subst (AllByRecursion (λ (e : Entry). IsWork e.deed)) (sym one.0) (tt, tt)
    ])
    (λ last. elim h.4 [
      | inl none ↦ subst (AreGood ms last) (sym none.0) tt
      | inr one ↦ subst (AreGood ms last) (sym one.0) (record { right = tt; told = tt }, tt)
    ])
halt_works ms descs b i kind outcome.Settled b' same stands h = absurd h
halt_works ms descs b i kind (outcome.Unsettled names) b' same stands h = absurd h
halt_works ms descs b i kind outcome.Cleaned b' same stands h = absurd h

round_works : (ms : Meanings) (descs : Descs) (b : Book) (kind : BuildKind) (is : List Item) (o : BuildOutcome) (b' : Book) → b.now.descs ≡ descs → AllByRecursion (Stands descs) is → RoundHalts ms b kind is o b' → Works ms o b b'
round_works ms descs b kind is o b' same stands h =
    let all : AllByRecursion (Stands descs) (h.next.front ++ h.at ∷ h.next.rest) = subst (AllByRecursion (Stands descs)) h.next.are stands in
    works_more ms o b h.book b'
    (ran_works ms descs b h.book h.front same (of_round (Stands descs) kind h.next.front h.front h.next.round (all_front (Stands descs) h.next.front (h.at ∷ h.next.rest) all)) h.ran)
    (halt_works ms descs h.book h.at kind o b' (ran_descs ms b h.book h.front h.ran ∙ same) (all_back (Stands descs) h.next.front (h.at ∷ h.next.rest) all).0 h.halts)

no_failure : (o : BuildOutcome) (names : Names) → (o ≡ outcome.Unsettled names) ⊎ (o ≡ outcome.NoMemory) → failed_in o ≡ None
no_failure o names (inl is) = ap failed_in is
no_failure o names (inr is) = ap failed_in is

group_works : (ms : Meanings) (descs : Descs) (b : Book) (kind : BuildKind) (g : List Project) (o : BuildOutcome) (b' : Book) → b.now.descs ≡ descs → AllByRecursion (Stands descs) (items_of g) → GroupHalts ms b kind g o b' → Works ms o b b'
group_works ms descs b kind [] o b' same stands h = absurd h
group_works ms descs b kind (p ∷ []) o b' same stands h = round_works ms descs b kind (items_of (p ∷ [])) o b' same stands h
group_works ms descs b kind (p ∷ q ∷ ps) o b' same stands h =
    let mid : Works ms outcome.Settled b h.book = ran_works ms descs b h.book (flat_map (λ r. r) h.rounds) same (of_stirred (Stands descs) kind (items_of (p ∷ q ∷ ps)) h.rounds h.stirs stands) h.ran in
    elim h.ends [
      | inl part ↦ works_more ms o b h.book b' mid (round_works ms descs h.book _ (items_of (p ∷ q ∷ ps)) o b' (ran_descs ms b h.book (flat_map (λ r. r) h.rounds) h.ran ∙ same) stands part.1)
      | inr part ↦ works_more ms o b h.book b' mid (works_none ms o (no_failure o (map (λ x. x.0) (p ∷ q ∷ ps)) part.2) h.book b' part.1)
    ]

planned_groups : (descs : Descs) (order : List Project) (knots : List Names) (gs : List (List Project)) → IsPlanned descs order knots gs → AllByRecursion (IsDescribed descs) (flat_map (λ g. g) gs)
planned_groups descs order knots gs plan = subst (AllByRecursion (IsDescribed descs)) plan.ordered plan.described

came_works : (ms : Meanings) (b : Book) (kind : BuildKind) (order : List Project) (knots : List Names) (b' : Book) → AllCame ms b kind order knots b' → Works ms outcome.Settled b b'
came_works ms b kind order knots b' h = ran_works ms b.now.descs b b' h.turns refl (of_built b.now.descs kind h.groups h.turns h.built (planned_groups b.now.descs order knots h.groups h.planned)) h.ran

all_works : (ms : Meanings) (b : Book) (kind : BuildKind) (order : List Project) (knots : List Names) (o : BuildOutcome) (b' : Book) → AllHalt ms b kind order knots o b' → Works ms o b b'
all_works ms b kind order knots o b' h =
    works_more ms o b h.book b'
    (ran_works ms b.now.descs b h.book h.turns refl (of_built b.now.descs kind h.front h.turns h.built (all_front (IsDescribed b.now.descs) (flat_map (λ g. g) h.front) (flat_map (λ g. g) (h.group ∷ h.rest)) described)) h.ran)
    (group_works ms b.now.descs h.book kind h.group o b' (ran_descs ms b h.book h.turns h.ran)
    (items_stand b.now.descs h.group (all_front (IsDescribed b.now.descs) h.group (flat_map (λ g. g) h.rest) (all_back (IsDescribed b.now.descs) (flat_map (λ g. g) h.front) (flat_map (λ g. g) (h.group ∷ h.rest)) described))) h.halts)
  where
    described : AllByRecursion (IsDescribed b.now.descs) (flat_map (λ g. g) h.front ++ flat_map (λ g. g) (h.group ∷ h.rest))
    described = subst (AllByRecursion (IsDescribed b.now.descs)) (flat_append (λ g. g) h.front (h.group ∷ h.rest)) (planned_groups b.now.descs order knots (h.front ++ h.group ∷ h.rest) h.planned)

built_works : (ms : Meanings) (b : Book) (kind : BuildKind) (plan : Plan) (o : BuildOutcome) (b' : Book) → BuiltTo ms b kind plan o b' → Works ms o b b'
built_works ms b kind plan outcome.Settled b' h = came_works ms b kind plan.order plan.knots b' h
built_works ms b kind plan (outcome.Unsettled names) b' h = all_works ms b kind plan.order plan.knots _ b' h
built_works ms b kind plan (outcome.BuilderFailed p n) b' h = all_works ms b kind plan.order plan.knots _ b' h
built_works ms b kind plan (outcome.Refused n) b' h = all_works ms b kind plan.order plan.knots _ b' h
built_works ms b kind plan outcome.NoMemory b' h = all_works ms b kind plan.order plan.knots _ b' h
built_works ms b kind plan outcome.Cleaned b' h = absurd h

-- ---- a clean build

sweep_asked : (has : List ℕ → Bool) (descs : Descs) (s : State) (xs : List Sweep) → s.descs ≡ descs → AllByRecursion (Stands descs) (map swept_item xs) → AreSweeps has s xs
    → AreAsked (flat_map sweep_entries xs) (flat_map sweep_calls xs)
sweep_asked has descs s [] same stands h = refl
sweep_asked has descs s (Passed i found ∷ xs) same stands h = sweep_asked has descs found xs (h.0.1.descs ∙ same) stands.1 h.1
sweep_asked has descs s (Swept i found next ∷ xs) same stands h =
    asked_more (sweep_entries (Swept i found next)) (flat_map sweep_entries xs) (sweep_calls (Swept i found next)) (flat_map sweep_calls xs)
    (ap (λ (o : Option Command). calls_for o (λ c. Cleaned) ++ []) (due_asked descs found.descs i (h.0.1.descs ∙ same) stands.0))
    (sweep_asked has descs next xs (h.0.2.descs ∙ h.0.1.descs ∙ same) stands.1 h.1)

sweep_work : (xs : List Sweep) → AllByRecursion (λ (e : Entry). IsWork e.deed) (flat_map sweep_entries xs)
sweep_work [] = tt
sweep_work (Passed i found ∷ xs) = (tt, sweep_work xs)
sweep_work (Swept i found next ∷ xs) = (tt, sweep_work xs)

sweep_good : (ms : Meanings) (xs : List Sweep) (last : Option Handing) → AreGood ms last (flat_map sweep_entries xs)
sweep_good ms [] last = tt
sweep_good ms (Passed i found ∷ xs) last = (record { right = tt; told = tt }, sweep_good ms xs last)
sweep_good ms (Swept i found next ∷ xs) last = (record { right = tt; told = tt }, sweep_good ms xs last)

swept_works : (ms : Meanings) (o : BuildOutcome) → failed_in o ≡ None → (descs : Descs) (b b' : Book) (is : List Item) → b.now.descs ≡ descs → AllByRecursion (Stands descs) is → WereSwept b is b' → Works ms o b b'
swept_works ms o none descs b b' is same stands h = works_of ms o none b b' (flat_map sweep_entries h.sweeps) (flat_map sweep_calls h.sweeps) h.adds
    (sweep_asked b.has descs b.now h.sweeps same (subst (AllByRecursion (Stands descs)) (sym h.items) stands) h.are) (sweep_work h.sweeps) (sweep_good ms h.sweeps)

swept_to_works : (ms : Meanings) (b : Book) (order : List Project) (o : BuildOutcome) (b' : Book) → AllByRecursion (IsDescribed b.now.descs) order → SweptTo b order o b' → Works ms o b b'
swept_to_works ms b order outcome.Cleaned b' described h = swept_works ms outcome.Cleaned refl b.now.descs b b' (items_of order) refl (items_stand b.now.descs order described) h
swept_to_works ms b order outcome.NoMemory b' described h =
    swept_works ms outcome.NoMemory refl b.now.descs b b' h.front refl (all_front (Stands b.now.descs) h.front h.rest (subst (AllByRecursion (Stands b.now.descs)) h.all (items_stand b.now.descs order described))) h.swept
swept_to_works ms b order outcome.Settled b' described h = absurd h
swept_to_works ms b order (outcome.Unsettled names) b' described h = absurd h
swept_to_works ms b order (outcome.BuilderFailed p n) b' described h = absurd h
swept_to_works ms b order (outcome.Refused n) b' described h = absurd h

pub went_works : (ms : Meanings) (b : Book) (kind : BuildKind) (plan : Plan) (o : BuildOutcome) (b' : Book) → AllByRecursion (IsDescribed b.now.descs) plan.order → WentTo ms b kind plan o b' → Works ms o b b'
went_works ms b Full plan o b' described h = built_works ms b Full plan o b' h
went_works ms b Auto plan o b' described h = built_works ms b Auto plan o b' h
went_works ms b Incremental plan o b' described h = built_works ms b Incremental plan o b' h
went_works ms b Clean plan o b' described h = swept_to_works ms b plan.order o b' described h
