-- Plans of valid projects are in order.
use Rattle.std.proofs.Common.{◌≡◌, ◌≢◌, ℕ, zero, suc, ◌<◌, ◌≤◌, Bool, true, false, not, ◌&&◌, ◌||◌, List, [], ◌∷◌, ◌++◌, map, length, get_or, refl, sym, ap, ◌∙◌, subst, Option, Some, arith, append_assoc, append-nil}
use Rattle.std.specs.Prelude.{slice_get, unwrap_or, option_map}
use Rattle.std.specs.List.{AllByRecursion, AllPairs, list_any, flat_map}
use Rattle.std.specs.Str.{bytes_eq}
use Rattle.std.specs.Cmp.Lexicographic.{bytes_decides}
use Rattle.std.proofs.lemmas.List.Elements.{recursion_from_All}
use Rattle.std.proofs.lemmas.Option.{get_or_from_slice_get, slice_get_within}
use Rattle.res_path.specs.Paths.{Names, is_prefix, overlap}
use Rattle.proj_desc.specs.declared.input.Input.{Input}
use Rattle.proj_desc.specs.declared.input.Input.TheVariants.{Own, Other}
use Rattle.proj_desc.specs.declared.command.Command.{Command}
use Rattle.proj_desc.specs.declared.desc.Desc.{Desc}
use Rattle.proj_desc.specs.Causes.{is_foreign, lies_in_none, meets}
use Rattle.proj_desc.specs.Valid.{IsValid}
use Rattle.builder_api.specs.Tasks.{Task, input_path, placed}
use Rattle.builder_api.proofs.Places.{itself, neither}
use Rattle.build_laws.specs.States.{Item, task, Descs, IsItem, refers}
use Rattle.build_laws.specs.Plans.{Unread, Before, IsPlan}
use Rattle.build_laws.specs.Builds.{Project, items_from, items_of, tasks_of, all_tasks, AreOwn, IsGroup, IsOrdered}
use Rattle.build_laws.specs.Planned.{IsDescribed, ArePlaced, IsPlanned}
use Rattle.build_laws.proofs.Sounds.{all_at}

-- ---- paths of different projects are clear of each other

apart_names : (n m : List ℕ) → n ≢ m → bytes_eq n m ≡ false
apart_names n m h = by (bytes_eq n m) refl
  where
    by : (b : Bool) → bytes_eq n m ≡ b → b ≡ false
    by true e = absurd (h ((bytes_decides n m).0 e))
    by false e = refl

clear_names : (n m : List ℕ) (p q : Names) → n ≢ m → overlap (n ∷ p) (m ∷ q) ≡ false
clear_names n m p q h = λ i. (apart_names n m h i && is_prefix p q) || (apart_names m n (λ e. h (sym e)) i && is_prefix q p)

same_names : (n : List ℕ) (p q : Names) → overlap (n ∷ p) (n ∷ q) ≡ overlap p q
same_names n p q = λ i. (itself n i && is_prefix p q) || (itself n i && is_prefix q p)

not_true : (b : Bool) → not b ≡ false → b ≡ true
not_true true h = refl
not_true false h = cc

-- what holds of all names holds of one that is among them
of_among : (P : List ℕ → Type 0) (refs : Names) (n : List ℕ) → AllByRecursion P refs → list_any (bytes_eq n) refs ≡ true → P n
of_among P [] n all h = cc
of_among P (r ∷ refs) n all h = by (bytes_eq n r) refl h (of_among P refs n all.1)
  where
    by : (b : Bool) → bytes_eq n r ≡ b → (b || list_any (bytes_eq n) refs) ≡ true → (list_any (bytes_eq n) refs ≡ true → P n) → P n
    by true e h next = subst P (sym ((bytes_decides n r).0 e)) all.0
    by false e h next = next h

-- and a name that isn't among them is none of them
other_names : (refs : Names) (n : List ℕ) → list_any (bytes_eq n) refs ≡ false → AllByRecursion (λ r. r ≢ n) refs
other_names [] n h = tt
other_names (r ∷ refs) n h =
    let parts = neither (bytes_eq n r) (list_any (bytes_eq n) refs) h in
    ((λ e. let yes : bytes_eq n r ≡ true = (bytes_decides n r).1 (sym e) in let no : bytes_eq n r ≡ false = parts.0 in absurd (cc)), other_names refs n parts.1)

-- inputs elsewhere are clear of a project that isn't referred to
other_clear : (refs : Names) (n : List ℕ) (path o : Names) → AllByRecursion (λ r. r ≢ n) refs → lies_in_none refs path ≡ false → overlap path (n ∷ o) ≡ false
other_clear refs n [] o others h = cc
other_clear refs n (m ∷ path) o others h = clear_names m n path o (of_among (λ r. r ≢ n) refs m others (not_true (list_any (bytes_eq m) refs) h))

-- ---- one project's commands

inputs_own : (n : List ℕ) (refs : Names) (is : List Input) (o : Names) → AllByRecursion (λ r. r ≢ n) refs → list_any (is_foreign refs) is ≡ false → list_any (meets o) is ≡ false
    → AllByRecursion (λ p. overlap p (n ∷ o) ≡ false) (map (input_path n) is)
inputs_own n refs [] o others placed free = tt
inputs_own n refs (Own p ∷ is) o others placed free = (
  same_names n p o ∙ (neither (overlap p o) (list_any (meets o) is) free).0,
  inputs_own n refs is o others (neither (is_foreign refs (Own p)) (list_any (is_foreign refs) is) placed).1 (neither (overlap p o) (list_any (meets o) is) free).1,
)
inputs_own n refs (Other p ∷ is) o others placed free = (
  other_clear refs n p o others (neither (is_foreign refs (Other p)) (list_any (is_foreign refs) is) placed).0,
  inputs_own n refs is o others (neither (is_foreign refs (Other p)) (list_any (is_foreign refs) is) placed).1 (neither (meets o (Other p)) (list_any (meets o) is) free).1,
)

unread_at : (n : List ℕ) (d : Desc) → IsValid n d → (i j : ℕ) (c e : Command) → i ≤ j → slice_get d.commands i ≡ Some c → slice_get d.commands j ≡ Some e → Unread (placed n c) (placed n e).output
unread_at n d valid i j c e le at_i at_j =
    inputs_own n d.references c.inputs e.output (recursion_from_All _ d.references valid.others)
    (all_at (λ (c : Command). list_any (is_foreign d.references) c.inputs ≡ false) d.commands i c (recursion_from_All _ d.commands valid.referenced) at_i)
    (subst (λ (x : Command). list_any (meets e.output) x.inputs ≡ false) (get_or_from_slice_get d.commands i c c at_i)
    (subst (λ (x : Command). list_any (meets x.output) (get_or d.commands i c).inputs ≡ false) (get_or_from_slice_get d.commands j e c at_j)
    (valid.unread i j c le (slice_get_within d.commands j e at_j))))

apart_at : (n : List ℕ) (d : Desc) → IsValid n d → (i j : ℕ) (c e : Command) → i < j → slice_get d.commands i ≡ Some c → slice_get d.commands j ≡ Some e → overlap (placed n c).output (placed n e).output ≡ false
apart_at n d valid i j c e lt at_i at_j = same_names n c.output e.output
    ∙ subst (λ (x : Command). overlap x.output e.output ≡ false) (get_or_from_slice_get d.commands i c c at_i)
    (subst (λ (x : Command). overlap (get_or d.commands i c).output x.output ≡ false) (get_or_from_slice_get d.commands j e c at_j) (valid.apart i j c lt (slice_get_within d.commands j e at_j)))

-- no command of a valid description reads what it writes
pub item_own : (descs : Descs) (i : Item) → IsItem descs i → Unread (task i) (task i).output
item_own descs i it = unread_at i.project it.desc it.valid i.index i.index i.command i.command (omega arith) it.stands it.stands

all_from : {X : Type 0} (P : X → Type 0) (xs : List X) → ((i : ℕ) (x : X) → slice_get xs i ≡ Some x → P x) → AllByRecursion P xs
all_from P [] h = tt
all_from P (x ∷ xs) h = (h zero x refl, all_from P xs (λ i y e. h (suc i) y e))

all_map : {X : Type 0} (P : Task → Type 0) (f : X → Task) (xs : List X) → AllByRecursion (λ x. P (f x)) xs → AllByRecursion P (map f xs)
all_map P f [] h = tt
all_map P f (x ∷ xs) h = (h.0, all_map P f xs h.1)

plan_from : (n : List ℕ) (cs : List Command)
    → ((i j : ℕ) (c e : Command) → i ≤ j → slice_get cs i ≡ Some c → slice_get cs j ≡ Some e → Unread (placed n c) (placed n e).output)
    → ((i j : ℕ) (c e : Command) → i < j → slice_get cs i ≡ Some c → slice_get cs j ≡ Some e → overlap (placed n c).output (placed n e).output ≡ false)
    → IsPlan (map (placed n) cs)
plan_from n [] unread apart = tt
plan_from n (c ∷ cs) unread apart = (
  unread zero zero c c (omega arith) refl refl,
  all_map (Before (placed n c)) (placed n) cs (all_from (λ e. Before (placed n c) (placed n e)) cs
      (λ j e at_j. record { unread = unread zero (suc j) c e (omega arith) refl at_j; apart = apart zero (suc j) c e (omega arith) refl at_j })),
  plan_from n cs (λ i j d e le at_i at_j. unread (suc i) (suc j) d e (omega arith) at_i at_j) (λ i j d e lt at_i at_j. apart (suc i) (suc j) d e (omega arith) at_i at_j),
)

project_plan : (descs : Descs) (p : Project) → IsDescribed descs p → IsPlan (map (placed p.0) p.1)
project_plan descs p h = subst (λ cs. IsPlan (map (placed p.0) cs)) h.commands (plan_from p.0 h.desc.commands (unread_at p.0 h.desc h.valid) (apart_at p.0 h.desc h.valid))

-- ---- commands of several projects

abbrev commands_in : List Project → List Task
commands_in ps = flat_map (λ p. map (placed p.0) p.1) ps

tasks_from : (n : List ℕ) (k : ℕ) (cs : List Command) → tasks_of (items_from n k cs) ≡ map (placed n) cs
tasks_from n k [] = refl
tasks_from n k (c ∷ cs) = ap (λ ts. placed n c ∷ ts) (tasks_from n (suc k) cs)

map_append : {A B : Type 0} (f : A → B) (xs ys : List A) → map f (xs ++ ys) ≡ map f xs ++ map f ys
map_append f [] ys = refl
map_append f (x ∷ xs) ys = ap (λ zs. f x ∷ zs) (map_append f xs ys)

tasks_in : (ps : List Project) → tasks_of (items_of ps) ≡ commands_in ps
tasks_in [] = refl
tasks_in (p ∷ ps) = map_append task (items_from p.0 0 p.1) (items_of ps) ∙ (λ i. tasks_from p.0 0 p.1 i ++ tasks_in ps i)

all_append : {X : Type 0} (P : X → Type 0) (xs ys : List X) → AllByRecursion P xs → AllByRecursion P ys → AllByRecursion P (xs ++ ys)
all_append P [] ys h g = g
all_append P (x ∷ xs) ys h g = (h.0, all_append P xs ys h.1 g)

all_front : {X : Type 0} (P : X → Type 0) (xs ys : List X) → AllByRecursion P (xs ++ ys) → AllByRecursion P xs
all_front P [] ys h = tt
all_front P (x ∷ xs) ys h = (h.0, all_front P xs ys h.1)

all_back : {X : Type 0} (P : X → Type 0) (xs ys : List X) → AllByRecursion P (xs ++ ys) → AllByRecursion P ys
all_back P [] ys h = h
all_back P (x ∷ xs) ys h = all_back P xs ys h.1

-- names that differ, by recursion
abbrev pub AreOnce : List Project → Type 0
AreOnce [] = Unit {0}
AreOnce (p ∷ ps) = AllByRecursion (λ q. p.0 ≢ q.0) ps × AreOnce ps

all_index : {X : Type 0} (P : X → Type 0) (xs : List X) → ((i : ℕ) (d : X) → i < length xs → P (get_or xs i d)) → AllByRecursion P xs
all_index P [] h = tt
all_index P (x ∷ xs) h = (h zero x (omega arith), all_index P xs (λ i d lt. h (suc i) d (omega arith)))

pub once_by : (ps : List Project) → AllPairs (λ p q. p.0 ≢ q.0) ps → AreOnce ps
once_by [] h = tt
once_by (p ∷ ps) h = (all_index (λ q. p.0 ≢ q.0) ps (λ i d lt. h zero (suc i) d (omega arith) (omega arith)), once_by ps (λ i j d lt le. h (suc i) (suc j) d (omega arith) (omega arith)))

once_front : (ps qs : List Project) → AreOnce (ps ++ qs) → AreOnce ps
once_front [] qs h = tt
once_front (p ∷ ps) qs h = (all_front (λ q. p.0 ≢ q.0) ps qs h.0, once_front ps qs h.1)

once_back : (ps qs : List Project) → AreOnce (ps ++ qs) → AreOnce qs
once_back [] qs h = h
once_back (p ∷ ps) qs h = once_back ps qs h.1

-- outputs of different projects
outputs_apart : (p q : Project) (c : Command) (es : List Command) → p.0 ≢ q.0 → AllByRecursion (λ d. overlap (placed p.0 c).output d.output ≡ false) (map (placed q.0) es)
outputs_apart p q c [] h = tt
outputs_apart p q c (e ∷ es) h = (clear_names p.0 q.0 c.output e.output h, outputs_apart p q c es h)

all_apart : (p : Project) (c : Command) (qs : List Project) → AllByRecursion (λ q. p.0 ≢ q.0) qs → AllByRecursion (λ d. overlap (placed p.0 c).output d.output ≡ false) (commands_in qs)
all_apart p c [] h = tt
all_apart p c (q ∷ qs) h = all_append (λ (d : Task). overlap (placed p.0 c).output d.output ≡ false) (map (placed q.0) q.1) (commands_in qs) (outputs_apart p q c q.1 h.0) (all_apart p c qs h.1)

own_more : (p : Project) (cs : List Command) (qs : List Project) → IsPlan (map (placed p.0) cs) → AllByRecursion (λ q. p.0 ≢ q.0) qs → AreOwn (commands_in qs) → AreOwn (map (placed p.0) cs ++ commands_in qs)
own_more p [] qs plan others own = own
own_more p (c ∷ cs) qs plan others own = (
  plan.0,
  all_append (λ (d : Task). overlap (placed p.0 c).output d.output ≡ false) (map (placed p.0) cs) (commands_in qs) (apart (placed p.0 c) (map (placed p.0) cs) plan.1) (all_apart p c qs others),
  own_more p cs qs plan.2 others own,
)
  where
    apart : (c : Task) (ds : List Task) → AllByRecursion (Before c) ds → AllByRecursion (λ d. overlap c.output d.output ≡ false) ds
    apart c [] h = tt
    apart c (d ∷ ds) h = (h.0.apart, apart c ds h.1)

knot_own : (descs : Descs) (ps : List Project) → AllByRecursion (IsDescribed descs) ps → AreOnce ps → AreOwn (commands_in ps)
knot_own descs [] h once = tt
knot_own descs (p ∷ ps) h once = own_more p p.1 ps (project_plan descs p h.0) once.0 (knot_own descs ps h.1 once.1)

group_is : (descs : Descs) (g : List Project) → g ≢ [] → AllByRecursion (IsDescribed descs) g → AreOnce g → IsGroup g
group_is descs [] full h once = absurd (full refl)
group_is descs (p ∷ []) full h once = subst IsPlan (sym (tasks_in (p ∷ []) ∙ append-nil (map (placed p.0) p.1))) (project_plan descs p h.0)
group_is descs (p ∷ q ∷ ps) full h once = subst AreOwn (sym (tasks_in (p ∷ q ∷ ps))) (knot_own descs (p ∷ q ∷ ps) h once)

-- ---- no group reads or writes what a later one writes

inputs_before : (n m : List ℕ) (refs : Names) (is : List Input) (o : Names) → n ≢ m → AllByRecursion (λ r. r ≢ m) refs → list_any (is_foreign refs) is ≡ false
    → AllByRecursion (λ p. overlap p (m ∷ o) ≡ false) (map (input_path n) is)
inputs_before n m refs [] o h others placed = tt
inputs_before n m refs (Own p ∷ is) o h others placed = (clear_names n m p o h, inputs_before n m refs is o h others (neither (is_foreign refs (Own p)) (list_any (is_foreign refs) is) placed).1)
inputs_before n m refs (Other p ∷ is) o h others placed = (
  other_clear refs m p o others (neither (is_foreign refs (Other p)) (list_any (is_foreign refs) is) placed).0,
  inputs_before n m refs is o h others (neither (is_foreign refs (Other p)) (list_any (is_foreign refs) is) placed).1,
)

-- q is another project, to which the one of this description doesn't refer
pub record IsFree (d : Desc) (p q : Project) : Type 0 where
  pub apart : p.0 ≢ q.0
  pub others : AllByRecursion (λ r. r ≢ q.0) d.references

before_one : (d : Desc) (p q : Project) (c : Command) (es : List Command) → IsFree d p q → list_any (is_foreign d.references) c.inputs ≡ false → AllByRecursion (Before (placed p.0 c)) (map (placed q.0) es)
before_one d p q c [] free lies = tt
before_one d p q c (e ∷ es) free lies = (
  record { unread = inputs_before p.0 q.0 d.references c.inputs e.output free.apart free.others lies; apart = clear_names p.0 q.0 c.output e.output free.apart },
  before_one d p q c es free lies,
)

before_all : (d : Desc) (p : Project) (c : Command) (qs : List Project) → AllByRecursion (IsFree d p) qs → list_any (is_foreign d.references) c.inputs ≡ false → AllByRecursion (Before (placed p.0 c)) (commands_in qs)
before_all d p c [] free lies = tt
before_all d p c (q ∷ qs) free lies = all_append (Before (placed p.0 c)) (map (placed q.0) q.1) (commands_in qs) (before_one d p q c q.1 free.0 lies) (before_all d p c qs free.1 lies)

each_before : (d : Desc) (p : Project) (cs : List Command) (qs : List Project) → AllByRecursion (IsFree d p) qs → AllByRecursion (λ c. list_any (is_foreign d.references) c.inputs ≡ false) cs
    → AllByRecursion (λ c. AllByRecursion (Before c) (commands_in qs)) (map (placed p.0) cs)
each_before d p [] qs free placed = tt
each_before d p (c ∷ cs) qs free placed = (before_all d p c qs free placed.0, each_before d p cs qs free placed.1)

are_free : (d : Desc) (descs : Descs) (p : Project) (qs : List Project) → descs p.0 ≡ Some d → AllByRecursion (λ q. list_any (bytes_eq q.0) (refers descs p.0) ≡ false) qs → AllByRecursion (λ q. p.0 ≢ q.0) qs
    → AllByRecursion (IsFree d p) qs
are_free d descs p [] is free apart = tt
are_free d descs p (q ∷ qs) is free apart = (
  record {
    apart = apart.0;
    others = other_names d.references q.0 (subst (λ (o : Option Desc). list_any (bytes_eq q.0) (unwrap_or (option_map (λ d. d.references) o) []) ≡ false) is free.0);
  },
  are_free d descs p qs is free.1 apart.1,
)

group_before : (descs : Descs) (g later : List Project) → AllByRecursion (IsDescribed descs) g → AllByRecursion (λ p. AllByRecursion (λ q. list_any (bytes_eq q.0) (refers descs p.0) ≡ false) later) g
    → AreOnce (g ++ later) → AllByRecursion (λ c. AllByRecursion (Before c) (commands_in later)) (commands_in g)
group_before descs [] later h free once = tt
group_before descs (p ∷ g) later h free once =
    all_append (λ c. AllByRecursion (Before c) (commands_in later)) (map (placed p.0) p.1) (commands_in g)
    (each_before h.0.desc p p.1 later (are_free h.0.desc descs p later h.0.described free.0 (all_back (λ q. p.0 ≢ q.0) g later once.0))
    (subst (AllByRecursion (λ c. list_any (is_foreign h.0.desc.references) c.inputs ≡ false)) h.0.commands (recursion_from_All _ h.0.desc.commands h.0.valid.referenced)))
    (group_before descs g later h.1 free.1 once.1)

commands_append : (ps qs : List Project) → commands_in (ps ++ qs) ≡ commands_in ps ++ commands_in qs
commands_append [] qs = refl
commands_append (p ∷ ps) qs = ap (λ cs. map (placed p.0) p.1 ++ cs) (commands_append ps qs) ∙ sym (append_assoc (map (placed p.0) p.1) (commands_in ps) (commands_in qs))

tasks_all : (gs : List (List Project)) → all_tasks gs ≡ commands_in (flat_map (λ g. g) gs)
tasks_all [] = refl
tasks_all (g ∷ gs) = (λ i. tasks_in g i ++ tasks_all gs i) ∙ sym (commands_append g (flat_map (λ g. g) gs))

groups_ordered : (descs : Descs) (gs : List (List Project)) → AllByRecursion (λ g. g ≢ []) gs → AllByRecursion (IsDescribed descs) (flat_map (λ g. g) gs) → ArePlaced descs gs → AreOnce (flat_map (λ g. g) gs) → IsOrdered gs
groups_ordered descs [] full h placed once = tt
groups_ordered descs (g ∷ gs) full h placed once =
    let mine : AllByRecursion (IsDescribed descs) g = all_front (IsDescribed descs) g (flat_map (λ g. g) gs) h in (
      group_is descs g full.0 mine (once_front g (flat_map (λ g. g) gs) once),
      subst (λ ts. AllByRecursion (λ c. AllByRecursion (Before c) ts) (tasks_of (items_of g))) (sym (tasks_all gs))
          (subst (λ ts. AllByRecursion (λ c. AllByRecursion (Before c) (commands_in (flat_map (λ g. g) gs))) ts) (sym (tasks_in g)) (group_before descs g (flat_map (λ g. g) gs) mine placed.0 once)),
      groups_ordered descs gs full.1 (all_back (IsDescribed descs) g (flat_map (λ g. g) gs) h) placed.1 (once_back g (flat_map (λ g. g) gs) once),
    )

-- what is planned is in order
pub planned_ordered : (descs : Descs) (order : List Project) (knots : List Names) (gs : List (List Project)) → IsPlanned descs order knots gs → IsOrdered gs
planned_ordered descs order knots gs plan = groups_ordered descs gs plan.full (subst (AllByRecursion (IsDescribed descs)) plan.ordered plan.described) plan.placed (subst AreOnce plan.ordered (once_by order plan.once))

-- ---- a plan's commands

pub described_item : (descs : Descs) (p : Project) (i : ℕ) (c : Command) → IsDescribed descs p → slice_get p.1 i ≡ Some c → IsItem descs (record { project = p.0; index = i; command = c })
described_item descs p i c h at = record {
  desc = h.desc;
  described = h.described;
  valid = h.valid;
  stands = subst (λ cs. slice_get cs i ≡ Some c) (sym h.commands) at;
}

-- all commands of the groups are those of the plan, in its order
pub planned_tasks : (descs : Descs) (order : List Project) (knots : List Names) (gs : List (List Project)) → IsPlanned descs order knots gs → all_tasks gs ≡ tasks_of (items_of order)
planned_tasks descs order knots gs plan = tasks_all gs ∙ ap commands_in (sym plan.ordered) ∙ sym (tasks_in order)
