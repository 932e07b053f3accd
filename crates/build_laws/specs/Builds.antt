-- What a build is: which turns it makes.
use Rattle.std.specs.Prelude.{◌≡◌, ◌≤◌, ℕ, suc, Bool, false, true, List, [], ◌∷◌, ◌++◌, map, length, filter, IsSome}
use Rattle.std.specs.List.{AllByRecursion, flat_map}
use Rattle.res_path.specs.Paths.{Names, overlap}
use Rattle.ws_elem.specs.Trees.{Tree}
use Rattle.proj_desc.specs.declared.command.Command.{Command}
use Rattle.builder_api.specs.declared.kind.BuildKind.{BuildKind}
use Rattle.builder_api.specs.declared.kind.BuildKind.TheVariants.{Full, Auto, Incremental, Clean}
use Rattle.builder_api.specs.Tasks.{Task}
use Rattle.builder_api.specs.Meanings.{Meanings, Fresh}
use Rattle.build_laws.specs.States.{Item, item, task}
use Rattle.build_laws.specs.Records.{HasLawful}
use Rattle.build_laws.specs.Plans.{Unread, Before, IsPlan}
use Rattle.build_laws.specs.Turns.{Turn, Skip, Make}

-- a project of a plan: its name and its commands
abbrev pub Project : Type 0
Project = List ℕ × List Command

-- the commands with their numbers, from n on
abbrev pub items_from : List ℕ → ℕ → List Command → List Item
items_from project n [] = []
items_from project n (c ∷ cs) = item project n c ∷ items_from project (suc n) cs

abbrev pub project_items : Project → List Item
project_items p = items_from p.0 0 p.1

-- the commands of projects, one project after another
abbrev pub items_of : List Project → List Item
items_of ps = flat_map project_items ps

-- the command of which it is the turn, and the kind that is asked for
abbrev pub asked : Turn → Item × BuildKind
asked (Skip kind i s) = (i, kind)
asked (Make kind i w) = (i, kind)

-- how many files the turn touched
abbrev pub touched_by : Turn → ℕ
touched_by (Skip kind i s) = 0
touched_by (Make kind i w) = w.touched

-- no turn touched a file
abbrev pub Untouched : List Turn → Type 0
Untouched = AllByRecursion (λ x. touched_by x ≡ 0)

-- each command has its turn, in order
abbrev pub IsRound : BuildKind → List Item → List Turn → Type 0
IsRound kind is xs = map asked xs ≡ map (λ i. (i, kind)) is

-- what later rounds ask for
abbrev pub later : BuildKind → BuildKind
later Full = Incremental
later Auto = Auto
later Incremental = Incremental
later Clean = Clean

-- what a round asks for after these
abbrev pub kind_after : BuildKind → List (List Turn) → BuildKind
kind_after kind [] = kind
kind_after kind (r ∷ rs) = kind_after (later kind) rs

-- rounds of a knot, all but the last touching a file
abbrev pub Settles : BuildKind → List Item → List (List Turn) → Type 0
Settles kind is [] = ⊥
Settles kind is (r ∷ []) = IsRound kind is r × Untouched r
Settles kind is (r ∷ q ∷ rs) = IsRound kind is r × ¬ (Untouched r) × Settles (later kind) is (q ∷ rs)

-- rounds that each touched a file
abbrev pub Stirs : BuildKind → List Item → List (List Turn) → Type 0
Stirs kind is [] = Unit {0}
Stirs kind is (r ∷ rs) = IsRound kind is r × ¬ (Untouched r) × Stirs (later kind) is rs

-- the rounds of a knot, at most ten
pub record KnotBuilt (kind : BuildKind) (is : List Item) (xs : List Turn) : Type 0 where
  pub rounds : List (List Turn)
  pub are : xs ≡ flat_map (λ r. r) rounds
  pub few : length rounds ≤ 10
  pub settles : Settles kind is rounds

-- one project is built once, a knot of more until a round touches nothing
abbrev pub GroupBuilt : BuildKind → List Project → List Turn → Type 0
GroupBuilt kind [] xs = ⊥
GroupBuilt kind (p ∷ []) xs = IsRound kind (items_of (p ∷ [])) xs
GroupBuilt kind (p ∷ q ∷ ps) xs = KnotBuilt kind (items_of (p ∷ q ∷ ps)) xs

-- the groups are built one after another
abbrev pub AllBuilt : BuildKind → List (List Project) → List Turn → Type 0
AllBuilt kind [] xs = xs ≡ []
AllBuilt kind (g ∷ gs) xs = (ys : List Turn) × (zs : List Turn) × (xs ≡ ys ++ zs) × GroupBuilt kind g ys × AllBuilt kind gs zs

abbrev pub tasks_of : List Item → List Task
tasks_of is = map task is

-- all commands of the groups, at their places
abbrev pub all_tasks : List (List Project) → List Task
all_tasks gs = flat_map (λ g. tasks_of (items_of g)) gs

-- no two write one place, and none reads what it writes itself
abbrev pub AreOwn : List Task → Type 0
AreOwn [] = Unit {0}
AreOwn (c ∷ cs) = Unread c c.output × AllByRecursion (λ d. overlap c.output d.output ≡ false) cs × AreOwn cs

-- one project's commands are in order; a knot's are apart
abbrev pub IsGroup : List Project → Type 0
IsGroup [] = ⊥
IsGroup (p ∷ []) = IsPlan (tasks_of (items_of (p ∷ [])))
IsGroup (p ∷ q ∷ ps) = AreOwn (tasks_of (items_of (p ∷ q ∷ ps)))

-- and no group reads or writes what a later one writes
abbrev pub IsOrdered : List (List Project) → Type 0
IsOrdered [] = Unit {0}
IsOrdered (g ∷ gs) = IsGroup g × AllByRecursion (λ c. AllByRecursion (Before c) (all_tasks gs)) (tasks_of (items_of g)) × IsOrdered gs

-- each task whose builder is there, and tells a meaning, is fresh in the tree
abbrev pub AllFresh : Meanings → (List ℕ → Bool) → List Task → Tree → Type 0
AllFresh ms has cs t = AllByRecursion (λ c. HasLawful ms has c → Fresh ms c t) cs

-- each builder that is there tells a meaning
abbrev pub AllLawful : Meanings → (List ℕ → Bool) → Type 0
AllLawful ms has = (name : List ℕ) → has name ≡ true → IsSome (ms name)

-- the tasks whose builder is there
abbrev pub present : (List ℕ → Bool) → List Task → List Task
present has cs = filter (λ c. has c.builder) cs

-- the names of the groups of two or more
abbrev pub knots_of : List (List Project) → List Names
knots_of [] = []
knots_of ([] ∷ gs) = knots_of gs
knots_of ((p ∷ []) ∷ gs) = knots_of gs
knots_of ((p ∷ q ∷ ps) ∷ gs) = map (λ x. x.0) (p ∷ q ∷ ps) ∷ knots_of gs
