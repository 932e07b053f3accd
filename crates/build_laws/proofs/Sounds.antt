-- A right commit leaves its command fresh, and the records sound.
use Rattle.std.proofs.Common.{◌≡◌, ℕ, zero, suc, ◌==◌, Bool, true, false, cond, not, ◌&&◌, ◌||◌, List, [], ◌∷◌, map, refl, sym, ap, ◌∙◌, subst, Option, Some, None}
use Rattle.std.specs.Prelude.{IfSome, IsSome, option_map, unwrap_or, slice_get}
use Rattle.std.specs.List.{AllByRecursion, list_any}
use Rattle.std.specs.Str.{bytes_eq}
use Rattle.std.specs.Cmp.Lexicographic.{pointwise, pointwise_decides, bytes_decides}
use Rattle.std.proofs.lemmas.List.Elements.{recursion_from_All}
use Rattle.res_path.specs.Paths.{Names, path_eq, is_prefix}
use Rattle.ws_elem.specs.Trees.{Tree}
use Rattle.ws_elem.specs.Stamps.{AgreeByStamps}
use Rattle.delta_kind.specs.Deltas.{delta, cut}
use Rattle.proj_desc.specs.declared.input.Input.{Input}
use Rattle.proj_desc.specs.declared.input.Input.TheVariants.{Own, Other}
use Rattle.proj_desc.specs.declared.command.Command.{Command}
use Rattle.proj_desc.specs.declared.desc.Desc.{Desc}
use Rattle.proj_desc.specs.Causes.{is_foreign, lies_in_none}
use Rattle.builder_api.specs.declared.edits.Edits.{Edits}
use Rattle.builder_api.specs.declared.handed.Handed.{Handed}
use Rattle.builder_api.specs.declared.kind.BuildKind.{BuildKind}
use Rattle.builder_api.specs.Files.{Files, files_of, HasBelow}
use Rattle.builder_api.specs.Places.{is_within}
use Rattle.builder_api.specs.Tasks.{input_path, placed, inputs_of}
use Rattle.builder_api.specs.Meanings.{Meaning, Meanings, made_by, Fresh}
use Rattle.builder_api.specs.Lawful.{scope, IsHanded, IsOwed, Fulfils, Does, Right}
use Rattle.builder_api.proofs.Laws.{right_of}
use Rattle.builder_api.proofs.Places.{both, neither, or_true, itself}
use Rattle.build_laws.specs.States.{Item, task, Built, Records, State, IsItem, references, last_built, last_tree, same_input, same_command, is_whole, due_delta, due, Finds}
use Rattle.build_laws.specs.Commits.{with_record, built, IsCleaned}
use Rattle.build_laws.specs.Records.{HasLawful, Sound}
use Rattle.build_laws.specs.Plans.{Unread}
use Rattle.build_laws.specs.Turns.{IsStamped, Work, IsMade}
use Rattle.build_laws.proofs.Trees.{files_found}
use Rattle.build_laws.proofs.Commits.{fresh_made}

-- ---- commands that say the same are the same

paths_same : (p q : Names) → path_eq p q ≡ true → p ≡ q
paths_same p q h = (pointwise_decides bytes_decides p q).0 h

inputs_decide : (a b : Input) → (same_input a b ≡ true → a ≡ b) × (a ≡ b → same_input a b ≡ true)
inputs_decide (Own p) (Own q) = ((λ h. ap Own (paths_same p q h)), (λ e. (pointwise_decides bytes_decides p q).1 (cc)))
inputs_decide (Own p) (Other q) = ((λ h. cc), (λ e. cc))
inputs_decide (Other p) (Own q) = ((λ h. cc), (λ e. cc))
inputs_decide (Other p) (Other q) = ((λ h. ap Other (paths_same p q h)), (λ e. (pointwise_decides bytes_decides p q).1 (cc)))

pub same_commands : (c d : Command) → same_command c d ≡ true → c ≡ d
same_commands c d h =
    let parts = both (bytes_eq c.builder d.builder) (pointwise same_input c.inputs d.inputs && path_eq c.output d.output) h in
    let rest = both (pointwise same_input c.inputs d.inputs) (path_eq c.output d.output) parts.1 in
    let builder : c.builder ≡ d.builder = (bytes_decides c.builder d.builder).0 parts.0 in
    let inputs : c.inputs ≡ d.inputs = (pointwise_decides inputs_decide c.inputs d.inputs).0 rest.0 in
    let output : c.output ≡ d.output = paths_same c.output d.output rest.1 in
    λ i. record { builder = builder i; inputs = inputs i; output = output i }

-- ---- a command of a valid description reads and writes in its project and what that refers to

own_inside : (project : List ℕ) (refs q : Names) → is_within (scope project refs) (project ∷ q) ≡ true
own_inside project refs q = ap (λ b. (b && true) || list_any (λ p. is_prefix p (project ∷ q)) (map (λ name. name ∷ []) refs)) (itself project)

not_true : (b : Bool) → not b ≡ false → b ≡ true
not_true true h = refl
not_true false h = cc

turned : (n m : List ℕ) → bytes_eq n m ≡ true → bytes_eq m n ≡ true
turned n m h = (bytes_decides m n).1 (sym ((bytes_decides n m).0 h))

among : (refs : Names) (name : List ℕ) (path : Names) → list_any (bytes_eq name) refs ≡ true → list_any (λ p. is_prefix p (name ∷ path)) (map (λ n. n ∷ []) refs) ≡ true
among [] name path h = cc
among (r ∷ refs) name path h = by (bytes_eq name r) refl h (among refs name path)
  where
    by : (b : Bool) → bytes_eq name r ≡ b → (b || list_any (bytes_eq name) refs) ≡ true → (list_any (bytes_eq name) refs ≡ true → list_any (λ p. is_prefix p (name ∷ path)) (map (λ n. n ∷ []) refs) ≡ true)
        → ((bytes_eq r name && true) || list_any (λ p. is_prefix p (name ∷ path)) (map (λ n. n ∷ []) refs)) ≡ true
    by true e h next = ap (λ b. (b && true) || list_any (λ p. is_prefix p (name ∷ path)) (map (λ n. n ∷ []) refs)) (turned name r e)
    by false e h next = ap (λ b. (bytes_eq r name && true) || b) (next h) ∙ or_true (bytes_eq r name && true)

others_inside : (project : List ℕ) (refs path : Names) → lies_in_none refs path ≡ false → is_within (scope project refs) path ≡ true
others_inside project refs [] h = cc
others_inside project refs (name ∷ path) h = ap (λ b. (bytes_eq project name && true) || b) (among refs name path (not_true _ h)) ∙ or_true (bytes_eq project name && true)

inputs_inside : (project : List ℕ) (refs : Names) (is : List Input) → list_any (is_foreign refs) is ≡ false → AllByRecursion (λ p. is_within (scope project refs) p ≡ true) (map (input_path project) is)
inputs_inside project refs [] h = tt
inputs_inside project refs (Own p ∷ is) h = (own_inside project refs p, inputs_inside project refs is (neither (is_foreign refs (Own p)) (list_any (is_foreign refs) is) h).1)
inputs_inside project refs (Other p ∷ is) h = (others_inside project refs p (neither (is_foreign refs (Other p)) (list_any (is_foreign refs) is) h).0, inputs_inside project refs is (neither (is_foreign refs (Other p)) (list_any (is_foreign refs) is) h).1)

pub all_at : {X : Type 0} (P : X → Type 0) (xs : List X) (n : ℕ) (x : X) → AllByRecursion P xs → slice_get xs n ≡ Some x → P x
all_at P [] n x h e = cc
all_at P (y ∷ xs) zero x h e = subst P (cc) h.0
all_at P (y ∷ xs) (suc n) x h e = all_at P xs n x h.1 e

inside : (s : State) (i : Item) → IsItem s.descs i → AllByRecursion (λ p. is_within (scope i.project (references s i)) p ≡ true) ((task i).output ∷ (task i).inputs)
inside s i it =
    let refs : references s i ≡ it.desc.references = ap (λ (d : Option Desc). unwrap_or (option_map (λ d. d.references) d) []) it.described in
    subst (λ rs. AllByRecursion (λ p. is_within (scope i.project rs) p ≡ true) ((task i).output ∷ (task i).inputs)) (sym refs) (
      own_inside i.project it.desc.references i.command.output,
      inputs_inside i.project it.desc.references i.command.inputs
          (all_at (λ (c : Command). list_any (is_foreign it.desc.references) c.inputs ≡ false) it.desc.commands i.index i.command (recursion_from_All _ it.desc.commands it.valid.referenced) it.stands),
    )

-- ---- what is due is handed from the tree that was built last

handed_due : (i : Item) (refs : Names) (whole : Bool) (now : Tree) (b : Option Built) → AllByRecursion (λ p. is_within (scope i.project refs) p ≡ true) ((task i).output ∷ (task i).inputs)
    → IfSome b (λ b. AgreeByStamps (b.tree ∷ now ∷ [])) → IsHanded (task i) (due_delta b i refs whole now) (option_map (λ b. b.tree) b) now
handed_due i refs whole now None ins stamps = tt
handed_due i refs whole now (Some b) ins stamps = by (not whole && (same_command b.command i.command && path_eq b.references refs))
  where
    by : (t : Bool) → IsHanded (task i) (cond t (Some (cut (scope i.project refs) (delta b.tree now))) None) (Some b.tree) now
    by true = (stamps, record { project = i.project; references = refs; inside = ins; told = refl })
    by false = tt

-- what a lawful builder does with what is due is right
right_due : (ms : Meanings) (s : State) (i : Item) (kind : BuildKind) (e : Edits) → IsItem s.descs i → IsStamped s i
    → IfSome (ms i.command.builder) (λ m. Does m i.command (due s i kind) e) → Right ms (task i) (due s i kind).delta (last_tree s i) s.tree e
right_due ms s i kind e it stamps does = right_of ms i.command (due s i kind) (last_tree s i) s.tree e refl
    (handed_due i (references s i) (is_whole kind) s.tree (last_built s i) (inside s i it) stamps) does

-- also for the state that the commit finds
pub right_turn : (ms : Meanings) (s found : State) (i : Item) (kind : BuildKind) (h : Handed) (e : Edits) → IsItem s.descs i → IsStamped s i → h ≡ due s i kind → Finds s found
    → IfSome (ms i.command.builder) (λ m. Does m i.command h e) → Right ms (task i) h.delta (last_tree found i) found.tree e
right_turn ms s found i kind h e it stamps is still does =
    let one : Right ms (task i) (due s i kind).delta (last_tree s i) s.tree e
    = right_due ms s i kind e it stamps (subst (λ (h : Handed). IfSome (ms i.command.builder) (λ m. Does m i.command h e)) is does) in
    subst (λ (h : Handed). Right ms (task i) h.delta (last_tree found i) found.tree e) (sym is)
    (subst (λ (rs : Records). Right ms (task i) (due s i kind).delta (option_map (λ b. b.tree) (rs i.project i.index)) found.tree e) (sym still.records)
    (subst (λ (f : Files). IfSome (ms (task i).builder) (λ m. IsOwed m (task i) (due s i kind).delta (last_tree s i) → Fulfils m (task i) f e)) (sym (files_found s found still)) one))

-- ---- sound records

-- a delta is due only where the record is the command's own, so that it was fresh
owed : (ms : Meanings) (m : Meaning) (has : List ℕ → Bool) (i : Item) (refs : Names) (whole : Bool) (now : Tree) (b : Option Built) → ms i.command.builder ≡ Some m
    → IfSome b (λ b. HasLawful ms has (placed i.project b.command) → Fresh ms (placed i.project b.command) b.tree) → HasLawful ms has (task i)
    → IsOwed m (task i) (due_delta b i refs whole now) (option_map (λ b. b.tree) b)
owed ms m has i refs whole now None is sound there = tt
owed ms m has i refs whole now (Some b) is sound there = by (not whole && (same_command b.command i.command && path_eq b.references refs)) refl
  where
    by : (t : Bool) → (not whole && (same_command b.command i.command && path_eq b.references refs)) ≡ t → IsOwed m (task i) (cond t (Some (cut (scope i.project refs) (delta b.tree now))) None) (Some b.tree)
    by false e = tt
    by true e =
        let mine : b.command ≡ i.command = same_commands b.command i.command (both (same_command b.command i.command) (path_eq b.references refs) (both (not whole) _ e).1).0 in
        let fresh : Fresh ms (task i) b.tree = subst (λ (c : Command). HasLawful ms has (placed i.project c) → Fresh ms (placed i.project c) b.tree) mine sound there in
        subst (λ (o : Option Meaning). HasBelow (task i).output (files_of b.tree) (made_by o (task i) (inputs_of (task i) (files_of b.tree))).files) is fresh.files

-- a right commit leaves its command fresh
pub fresh_turn : (ms : Meanings) (has : List ℕ → Bool) (s : State) (kind : BuildKind) (i : Item) (w : Work) → Sound ms has s.records → Unread (task i) (task i).output
    → IsMade ms has s kind i w → HasLawful ms has (task i) → Fresh ms (task i) w.after.tree
fresh_turn ms has s kind i w sound unread made there = by (ms i.command.builder) refl there.1
  where
    records : w.then.records ≡ s.records
    records = made.still.records ∙ made.found.records

    by : (o : Option Meaning) → ms i.command.builder ≡ o → IsSome o → Fresh ms (task i) w.after.tree
    by None is lawful = cc
    by (Some m) is lawful =
        let right : IfSome (Some m) (λ m. IsOwed m (task i) w.handed.delta (last_tree w.then i) → Fulfils m (task i) (files_of w.then.tree) w.edits)
        = subst (λ (o : Option Meaning). IfSome o (λ m. IsOwed m (task i) w.handed.delta (last_tree w.then i) → Fulfils m (task i) (files_of w.then.tree) w.edits)) is made.right in
        let due_owed : IsOwed m (task i) (due w.first i kind).delta (last_tree w.first i)
        = owed ms m has i (references w.first i) (is_whole kind) w.first.tree (last_built w.first i) is
        (subst (λ (rs : Records). IfSome (rs i.project i.index) (λ b. HasLawful ms has (placed i.project b.command) → Fresh ms (placed i.project b.command) b.tree)) (sym made.found.records) (sound i.project i.index)) there in
        let is_owed : IsOwed m (task i) w.handed.delta (last_tree w.then i)
        = subst (λ (h : Handed). IsOwed m (task i) h.delta (last_tree w.then i)) (sym made.due)
        (subst (λ (rs : Records). IsOwed m (task i) (due w.first i kind).delta (option_map (λ b. b.tree) (rs i.project i.index))) (sym made.still.records) due_owed) in
        fresh_made ms m w.then i w.edits w.touched w.problems w.after is unread made.committed (right is_owed)

-- where the place is the item's own, the record is new; else it stays
sound_with : (ms : Meanings) (has : List ℕ → Bool) (rs : Records) (i : Item) (b : Option Built) → Sound ms has rs
    → IfSome b (λ b. HasLawful ms has (placed i.project b.command) → Fresh ms (placed i.project b.command) b.tree) → Sound ms has (with_record rs i b)
sound_with ms has rs i b sound fresh project index = by (bytes_eq i.project project && i.index == index) refl
  where
    by : (t : Bool) → (bytes_eq i.project project && i.index == index) ≡ t → IfSome (cond t b (rs project index)) (λ b. HasLawful ms has (placed project b.command) → Fresh ms (placed project b.command) b.tree)
    by true e = subst (λ p. IfSome b (λ b. HasLawful ms has (placed p b.command) → Fresh ms (placed p b.command) b.tree)) ((bytes_decides i.project project).0 (both (bytes_eq i.project project) _ e).0) fresh
    by false e = sound project index

-- a right commit leaves the records sound
pub sound_turn : (ms : Meanings) (has : List ℕ → Bool) (s : State) (kind : BuildKind) (i : Item) (w : Work) → Sound ms has s.records → Unread (task i) (task i).output
    → IsMade ms has s kind i w → Sound ms has w.after.records
sound_turn ms has s kind i w sound unread made =
    subst (Sound ms has) (sym (made.committed.records ∙ ap (λ (rs : Records). with_record rs i (Some (built w.then i w.after.tree))) (made.still.records ∙ made.found.records)))
    (sound_with ms has s.records i (Some (built w.then i w.after.tree)) sound (fresh_turn ms has s kind i w sound unread made))

-- so does a cleaning
pub sound_cleaned : (ms : Meanings) (has : List ℕ → Bool) (s next : State) (i : Item) → Sound ms has s.records → IsCleaned s i next → Sound ms has next.records
sound_cleaned ms has s next i sound clean = subst (Sound ms has) (sym clean.records) (sound_with ms has s.records i None sound tt)
