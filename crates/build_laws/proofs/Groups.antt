-- After a build that came through each command is fresh.
use Rattle.std.proofs.Common.{ℕ, Bool, List, [], ◌∷◌, ◌++◌, sym, ap, ◌∙◌, subst}
use Rattle.std.specs.List.{AllByRecursion}
use Rattle.ws_elem.specs.Trees.{Tree}
use Rattle.builder_api.specs.declared.kind.BuildKind.{BuildKind}
use Rattle.builder_api.specs.Tasks.{Task}
use Rattle.builder_api.specs.Meanings.{Meanings}
use Rattle.build_laws.specs.States.{State}
use Rattle.build_laws.specs.Records.{Sound}
use Rattle.build_laws.specs.Plans.{Unread, Before}
use Rattle.build_laws.specs.Turns.{Turn, after_all, AreTurns}
use Rattle.build_laws.specs.Builds.{Project, items_of, GroupBuilt, AllBuilt, tasks_of, all_tasks, IsGroup, IsOrdered, AllFresh}
use Rattle.build_laws.proofs.Walks.{AllOf, after_append, turns_front, turns_back, of_round, of_append, of_rounds, all_kept, sound_turns, plan_own, own_own, plan_fresh, settles_fresh}

of_group : (P : Task → Type 0) (kind : BuildKind) (g : List Project) (xs : List Turn) → GroupBuilt kind g xs → AllByRecursion P (tasks_of (items_of g)) → AllOf P xs
of_group P kind [] xs h all = absurd h
of_group P kind (p ∷ []) xs h all = of_round P kind (items_of (p ∷ [])) xs h all
of_group P kind (p ∷ q ∷ ps) xs h all = subst (AllOf P) (sym h.are) (of_rounds P kind (items_of (p ∷ q ∷ ps)) h.rounds h.settles all)

all_front : (P : Task → Type 0) (cs ds : List Task) → AllByRecursion P (cs ++ ds) → AllByRecursion P cs
all_front P [] ds h = tt
all_front P (c ∷ cs) ds h = (h.0, all_front P cs ds h.1)

all_back : (P : Task → Type 0) (cs ds : List Task) → AllByRecursion P (cs ++ ds) → AllByRecursion P ds
all_back P [] ds h = h
all_back P (c ∷ cs) ds h = all_back P cs ds h.1

of_built : (P : Task → Type 0) (kind : BuildKind) (gs : List (List Project)) (xs : List Turn) → AllBuilt kind gs xs → AllByRecursion P (all_tasks gs) → AllOf P xs
of_built P kind [] xs h all = subst (AllOf P) (sym h) tt
of_built P kind (g ∷ gs) xs h all = subst (AllOf P) (sym h.2)
    (of_append P h.0 h.1 (of_group P kind g h.0 h.3 (all_front P (tasks_of (items_of g)) (all_tasks gs) all)) (of_built P kind gs h.1 h.4 (all_back P (tasks_of (items_of g)) (all_tasks gs) all)))

group_own : (g : List Project) → IsGroup g → AllByRecursion (λ c. Unread c c.output) (tasks_of (items_of g))
group_own [] h = absurd h
group_own (p ∷ []) h = plan_own (tasks_of (items_of (p ∷ []))) h
group_own (p ∷ q ∷ ps) h = own_own (tasks_of (items_of (p ∷ q ∷ ps))) h

group_fresh : (ms : Meanings) (has : List ℕ → Bool) (kind : BuildKind) (g : List Project) (s : State) (xs : List Turn) → GroupBuilt kind g xs → IsGroup g
    → Sound ms has s.records → AreTurns ms has s xs → AllFresh ms has (tasks_of (items_of g)) (after_all s xs).tree
group_fresh ms has kind [] s xs h group sound right = absurd h
group_fresh ms has kind (p ∷ []) s xs h group sound right = plan_fresh ms has kind (items_of (p ∷ [])) s xs h group sound right
group_fresh ms has kind (p ∷ q ∷ ps) s xs h group sound right =
    subst (λ ys. AllFresh ms has (tasks_of (items_of (p ∷ q ∷ ps))) (after_all s ys).tree) (sym h.are)
    (settles_fresh ms has kind (items_of (p ∷ q ∷ ps)) s h.rounds h.settles group sound (subst (AreTurns ms has s) h.are right))

fresh_append : (ms : Meanings) (has : List ℕ → Bool) (cs ds : List Task) (t : Tree) → AllFresh ms has cs t → AllFresh ms has ds t → AllFresh ms has (cs ++ ds) t
fresh_append ms has [] ds t h g = g
fresh_append ms has (c ∷ cs) ds t h g = (h.0, fresh_append ms has cs ds t h.1 g)

each_before : (kind : BuildKind) (gs : List (List Project)) (cs : List Task) (xs : List Turn) → AllBuilt kind gs xs → AllByRecursion (λ c. AllByRecursion (Before c) (all_tasks gs)) cs → AllByRecursion (λ c. AllOf (Before c) xs) cs
each_before kind gs [] xs h all = tt
each_before kind gs (c ∷ cs) xs h all = (of_built (Before c) kind gs xs h all.0, each_before kind gs cs xs h all.1)

-- each command whose builder is there and tells its meaning is fresh, from sound records on
pub built_fresh : (ms : Meanings) (has : List ℕ → Bool) (kind : BuildKind) (gs : List (List Project)) (s : State) (xs : List Turn) → AllBuilt kind gs xs → IsOrdered gs → Sound ms has s.records → AreTurns ms has s xs
    → AllFresh ms has (all_tasks gs) (after_all s xs).tree
built_fresh ms has kind [] s xs h ordered sound right = tt
built_fresh ms has kind (g ∷ gs) s xs h ordered sound right =
    let all : AreTurns ms has s (h.0 ++ h.1) = subst (AreTurns ms has s) h.2 right in
    let front : AreTurns ms has s h.0 = turns_front ms has s h.0 h.1 all in
    let back : AreTurns ms has (after_all s h.0) h.1 = turns_back ms has s h.0 h.1 all in
    let own : AllOf (λ c. Unread c c.output) h.0 = of_group (λ c. Unread c c.output) kind g h.0 h.3 (group_own g ordered.0) in
    subst (λ (x : State). AllFresh ms has (all_tasks (g ∷ gs)) x.tree) (sym (ap (after_all s) h.2 ∙ after_append s h.0 h.1))
    (fresh_append ms has (tasks_of (items_of g)) (all_tasks gs) (after_all (after_all s h.0) h.1).tree
    (all_kept ms has (tasks_of (items_of g)) (after_all s h.0) h.1 (each_before kind gs (tasks_of (items_of g)) h.1 h.4 ordered.1) back
    (group_fresh ms has kind g s h.0 h.3 ordered.0 sound front))
    (built_fresh ms has kind gs (after_all s h.0) h.1 h.4 ordered.2 (sound_turns ms has s h.0 sound own front) back))

-- and the records are sound
pub built_sound : (ms : Meanings) (has : List ℕ → Bool) (kind : BuildKind) (gs : List (List Project)) (s : State) (xs : List Turn) → AllBuilt kind gs xs → IsOrdered gs → Sound ms has s.records → AreTurns ms has s xs
    → Sound ms has (after_all s xs).records
built_sound ms has kind gs s xs h ordered sound right = sound_turns ms has s xs sound (of_built (λ c. Unread c c.output) kind gs xs h (all_own gs ordered)) right
  where
    also : (P : Task → Type 0) (cs ds : List Task) → AllByRecursion P cs → AllByRecursion P ds → AllByRecursion P (cs ++ ds)
    also P [] ds h g = g
    also P (c ∷ cs) ds h g = (h.0, also P cs ds h.1 g)

    all_own : (gs : List (List Project)) → IsOrdered gs → AllByRecursion (λ c. Unread c c.output) (all_tasks gs)
    all_own [] h = tt
    all_own (g ∷ gs) h = also (λ c. Unread c c.output) (tasks_of (items_of g)) (all_tasks gs) (group_own g h.0) (all_own gs h.2)
