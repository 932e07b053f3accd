-- Along the turns of a build, what was built stays fresh.
use Rattle.std.proofs.Common.{◌≡◌, ℕ, Bool, true, false, List, [], ◌∷◌, ◌++◌, refl, sym, ap, ◌∙◌, subst}
use Rattle.std.specs.List.{AllByRecursion, flat_map}
use Rattle.std.specs.FinMap.{get}
use Rattle.res_path.specs.Paths.{overlap}
use Rattle.builder_api.specs.declared.kind.BuildKind.{BuildKind}
use Rattle.builder_api.specs.Files.{Files, files_of}
use Rattle.builder_api.specs.Tasks.{Task}
use Rattle.builder_api.specs.Meanings.{Meanings, Fresh}
use Rattle.build_laws.specs.States.{Item, task, State}
use Rattle.build_laws.specs.Records.{HasLawful, Sound}
use Rattle.build_laws.specs.Plans.{Unread, Before, IsPlan}
use Rattle.build_laws.specs.Turns.{Turn, Skip, Make, after, after_all, IsTurn, AreTurns}
use Rattle.build_laws.specs.Builds.{asked, touched_by, Untouched, IsRound, later, Settles, tasks_of, AreOwn, AllFresh}
use Rattle.build_laws.proofs.Trees.{fresh_found}
use Rattle.build_laws.proofs.Commits.{fresh_apart, fresh_kept}
use Rattle.build_laws.proofs.Sounds.{fresh_turn, sound_turn}
use Rattle.build_laws.proofs.Differing.{no_difference}

-- the task of a turn, and what holds of the task of each
abbrev pub task_in : Turn → Task
task_in x = task (asked x).0

abbrev pub AllOf : (Task → Type 0) → List Turn → Type 0
AllOf P xs = AllByRecursion (λ x. P (task_in x)) xs

-- ---- turns one after another

pub after_append : (s : State) (xs ys : List Turn) → after_all s (xs ++ ys) ≡ after_all (after_all s xs) ys
after_append s [] ys = refl
after_append s (x ∷ xs) ys = after_append (after x) xs ys

pub turns_front : (ms : Meanings) (has : List ℕ → Bool) (s : State) (xs ys : List Turn) → AreTurns ms has s (xs ++ ys) → AreTurns ms has s xs
turns_front ms has s [] ys h = tt
turns_front ms has s (x ∷ xs) ys h = (h.0, turns_front ms has (after x) xs ys h.1)

pub turns_back : (ms : Meanings) (has : List ℕ → Bool) (s : State) (xs ys : List Turn) → AreTurns ms has s (xs ++ ys) → AreTurns ms has (after_all s xs) ys
turns_back ms has s [] ys h = h
turns_back ms has s (x ∷ xs) ys h = turns_back ms has (after x) xs ys h.1

pub turns_append : (ms : Meanings) (has : List ℕ → Bool) (s : State) (xs ys : List Turn) → AreTurns ms has s xs → AreTurns ms has (after_all s xs) ys → AreTurns ms has s (xs ++ ys)
turns_append ms has s [] ys h g = g
turns_append ms has s (x ∷ xs) ys h g = (h.0, turns_append ms has (after x) xs ys h.1 g)

-- what descriptions say stays
pub descs_turns : (ms : Meanings) (has : List ℕ → Bool) (s : State) (xs : List Turn) → AreTurns ms has s xs → (after_all s xs).descs ≡ s.descs
descs_turns ms has s [] h = refl
descs_turns ms has s (Skip kind i found ∷ xs) h = descs_turns ms has found xs h.1 ∙ h.0.1.descs
descs_turns ms has s (Make kind i w ∷ xs) h = descs_turns ms has w.after xs h.1 ∙ h.0.committed.descs ∙ h.0.still.descs ∙ h.0.found.descs

-- ---- what holds of the commands holds of their turns

pub of_round : (P : Task → Type 0) (kind : BuildKind) (is : List Item) (xs : List Turn) → IsRound kind is xs → AllByRecursion P (tasks_of is) → AllOf P xs
of_round P kind [] [] h all = tt
of_round P kind [] (x ∷ xs) h all = cc
of_round P kind (i ∷ is) [] h all = cc
of_round P kind (i ∷ is) (x ∷ xs) h all =
    let one : asked x ≡ (i, kind) = cc in
    (subst (λ (a : Item × BuildKind). P (task a.0)) (sym one) all.0, of_round P kind is xs (cc) all.1)

pub of_append : (P : Task → Type 0) (xs ys : List Turn) → AllOf P xs → AllOf P ys → AllOf P (xs ++ ys)
of_append P [] ys h g = g
of_append P (x ∷ xs) ys h g = (h.0, of_append P xs ys h.1 g)

pub of_rounds : (P : Task → Type 0) (kind : BuildKind) (is : List Item) (rs : List (List Turn)) → Settles kind is rs → AllByRecursion P (tasks_of is) → AllOf P (flat_map (λ r. r) rs)
of_rounds P kind is [] h all = absurd h
of_rounds P kind is (r ∷ []) h all = of_append P r [] (of_round P kind is r h.0 all) tt
of_rounds P kind is (r ∷ q ∷ rs) h all = of_append P r (flat_map (λ r. r) (q ∷ rs)) (of_round P kind is r h.0 all) (of_rounds P (later kind) is (q ∷ rs) h.2 all)

-- ---- one turn

-- the turn of a command leaves it fresh, and the records sound
after_one : (ms : Meanings) (has : List ℕ → Bool) (s : State) (x : Turn) → Sound ms has s.records → Unread (task_in x) (task_in x).output → IsTurn ms has s x
    → HasLawful ms has (task_in x) → Fresh ms (task_in x) (after x).tree
after_one ms has s (Skip kind i found) sound own right there = let none : has i.command.builder ≡ false = right.0 in let some : has i.command.builder ≡ true = there.0 in absurd (cc)
after_one ms has s (Make kind i w) sound own right there = fresh_turn ms has s kind i w sound own right there

sound_one : (ms : Meanings) (has : List ℕ → Bool) (s : State) (x : Turn) → Sound ms has s.records → Unread (task_in x) (task_in x).output → IsTurn ms has s x → Sound ms has (after x).records
sound_one ms has s (Skip kind i found) sound own right = subst (Sound ms has) (sym right.1.records) sound
sound_one ms has s (Make kind i w) sound own right = sound_turn ms has s kind i w sound own right

-- a later one leaves it fresh
one_kept : (ms : Meanings) (has : List ℕ → Bool) (c : Task) (s : State) (x : Turn) → Before c (task_in x) → IsTurn ms has s x → Fresh ms c s.tree → Fresh ms c (after x).tree
one_kept ms has c s (Skip kind i found) before right was = fresh_found ms c s found right.1 was
one_kept ms has c s (Make kind i w) before right was = fresh_kept ms c w.then i w.edits w.touched w.problems w.after before right.committed
    (fresh_found ms c w.first w.then right.still (fresh_found ms c s w.first right.found was))

-- so does one that touches no file
one_still : (ms : Meanings) (has : List ℕ → Bool) (c : Task) (s : State) (x : Turn) → touched_by x ≡ 0 → overlap c.output (task_in x).output ≡ false → IsTurn ms has s x
    → Fresh ms c s.tree → Fresh ms c (after x).tree
one_still ms has c s (Skip kind i found) none apart right was = fresh_found ms c s found right.1 was
one_still ms has c s (Make kind i w) none apart right was = fresh_apart ms c w.then i w.edits w.touched w.problems w.after apart right.committed
    (λ q h. ap (λ (f : Files). get f q) (sym (no_difference (files_of w.then.tree) (files_of w.after.tree) (sym right.committed.counted ∙ none))))
    (fresh_found ms c w.first w.then right.still (fresh_found ms c s w.first right.found was))

-- ---- turns

pub kept_turns : (ms : Meanings) (has : List ℕ → Bool) (c : Task) (s : State) (xs : List Turn) → AllOf (Before c) xs → AreTurns ms has s xs → Fresh ms c s.tree → Fresh ms c (after_all s xs).tree
kept_turns ms has c s [] h right was = was
kept_turns ms has c s (x ∷ xs) h right was = kept_turns ms has c (after x) xs h.1 right.1 (one_kept ms has c s x h.0 right.0 was)

still_turns : (ms : Meanings) (has : List ℕ → Bool) (c : Task) (s : State) (xs : List Turn) → Untouched xs → AllOf (λ d. overlap c.output d.output ≡ false) xs → AreTurns ms has s xs
    → Fresh ms c s.tree → Fresh ms c (after_all s xs).tree
still_turns ms has c s [] none h right was = was
still_turns ms has c s (x ∷ xs) none h right was = still_turns ms has c (after x) xs none.1 h.1 right.1 (one_still ms has c s x none.0 h.0 right.0 was)

pub sound_turns : (ms : Meanings) (has : List ℕ → Bool) (s : State) (xs : List Turn) → Sound ms has s.records → AllOf (λ c. Unread c c.output) xs → AreTurns ms has s xs → Sound ms has (after_all s xs).records
sound_turns ms has s [] sound own right = sound
sound_turns ms has s (x ∷ xs) sound own right = sound_turns ms has (after x) xs (sound_one ms has s x sound own.0 right.0) own.1 right.1

pub all_kept : (ms : Meanings) (has : List ℕ → Bool) (cs : List Task) (s : State) (xs : List Turn) → AllByRecursion (λ c. AllOf (Before c) xs) cs → AreTurns ms has s xs → AllFresh ms has cs s.tree → AllFresh ms has cs (after_all s xs).tree
all_kept ms has [] s xs h right was = tt
all_kept ms has (c ∷ cs) s xs h right was = ((λ there. kept_turns ms has c s xs h.0 right (was.0 there)), all_kept ms has cs s xs h.1 right was.1)

-- ---- rounds

pub plan_own : (cs : List Task) → IsPlan cs → AllByRecursion (λ c. Unread c c.output) cs
plan_own [] h = tt
plan_own (c ∷ cs) h = (h.0, plan_own cs h.2)

pub own_own : (cs : List Task) → AreOwn cs → AllByRecursion (λ c. Unread c c.output) cs
own_own [] h = tt
own_own (c ∷ cs) h = (h.0, own_own cs h.2)

-- a round in order leaves each command fresh
pub plan_fresh : (ms : Meanings) (has : List ℕ → Bool) (kind : BuildKind) (is : List Item) (s : State) (xs : List Turn) → IsRound kind is xs → IsPlan (tasks_of is) → Sound ms has s.records → AreTurns ms has s xs
    → AllFresh ms has (tasks_of is) (after_all s xs).tree
plan_fresh ms has kind [] s xs h plan sound right = tt
plan_fresh ms has kind (i ∷ is) s [] h plan sound right = cc
plan_fresh ms has kind (i ∷ is) s (x ∷ xs) h plan sound right =
    let one : asked x ≡ (i, kind) = cc in
    let rest : IsRound kind is xs = cc in
    let its : task_in x ≡ task i = ap (λ (a : Item × BuildKind). task a.0) one in
    let own : Unread (task_in x) (task_in x).output = subst (λ (c : Task). Unread c c.output) (sym its) plan.0 in
    let fresh : HasLawful ms has (task i) → Fresh ms (task i) (after x).tree = subst (λ (c : Task). HasLawful ms has c → Fresh ms c (after x).tree) its (after_one ms has s x sound own right.0) in (
      (λ there. kept_turns ms has (task i) (after x) xs (of_round (Before (task i)) kind is xs rest plan.1) right.1 (fresh there)),
      plan_fresh ms has kind is (after x) xs rest plan.2 (sound_one ms has s x sound own right.0) right.1,
    )

-- so does one that touches no file, whatever the order
still_fresh : (ms : Meanings) (has : List ℕ → Bool) (kind : BuildKind) (is : List Item) (s : State) (xs : List Turn) → IsRound kind is xs → Untouched xs → AreOwn (tasks_of is)
    → Sound ms has s.records → AreTurns ms has s xs → AllFresh ms has (tasks_of is) (after_all s xs).tree
still_fresh ms has kind [] s xs h none own sound right = tt
still_fresh ms has kind (i ∷ is) s [] h none own sound right = cc
still_fresh ms has kind (i ∷ is) s (x ∷ xs) h none own sound right =
    let one : asked x ≡ (i, kind) = cc in
    let rest : IsRound kind is xs = cc in
    let its : task_in x ≡ task i = ap (λ (a : Item × BuildKind). task a.0) one in
    let mine : Unread (task_in x) (task_in x).output = subst (λ (c : Task). Unread c c.output) (sym its) own.0 in
    let fresh : HasLawful ms has (task i) → Fresh ms (task i) (after x).tree = subst (λ (c : Task). HasLawful ms has c → Fresh ms c (after x).tree) its (after_one ms has s x sound mine right.0) in (
      (λ there. still_turns ms has (task i) (after x) xs none.1 (of_round (λ d. overlap (task i).output d.output ≡ false) kind is xs rest own.1) right.1 (fresh there)),
      still_fresh ms has kind is (after x) xs rest none.1 own.2 (sound_one ms has s x sound mine right.0) right.1,
    )

-- so do rounds of which the last touches nothing
pub settles_fresh : (ms : Meanings) (has : List ℕ → Bool) (kind : BuildKind) (is : List Item) (s : State) (rs : List (List Turn)) → Settles kind is rs → AreOwn (tasks_of is)
    → Sound ms has s.records → AreTurns ms has s (flat_map (λ r. r) rs) → AllFresh ms has (tasks_of is) (after_all s (flat_map (λ r. r) rs)).tree
settles_fresh ms has kind is s [] h own sound right = absurd h
settles_fresh ms has kind is s (r ∷ []) h own sound right =
    subst (λ (x : State). AllFresh ms has (tasks_of is) x.tree) (sym (after_append s r []))
    (still_fresh ms has kind is s r h.0 h.1 own sound (turns_front ms has s r [] right))
settles_fresh ms has kind is s (r ∷ q ∷ rs) h own sound right =
    subst (λ (x : State). AllFresh ms has (tasks_of is) x.tree) (sym (after_append s r (flat_map (λ r. r) (q ∷ rs))))
    (settles_fresh ms has (later kind) is (after_all s r) (q ∷ rs) h.2 own
    (sound_turns ms has s r sound (of_round (λ c. Unread c c.output) kind is r h.0 (own_own (tasks_of is) own)) (turns_front ms has s r (flat_map (λ r. r) (q ∷ rs)) right))
    (turns_back ms has s r (flat_map (λ r. r) (q ∷ rs)) right))
