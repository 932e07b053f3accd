-- The rules that are held, with their holders, in the order in which they were begun.
use Rattle.std.specs.Prelude.{◌≡◌, ℕ, Bool, true, false, not, ◌||◌, ◌&&◌, ◌==◌, nat_lt, if◌then◌else◌, List, [], ◌∷◌, Option, Some, None, map}
use Rattle.std.specs.Option.{option_map}
use Rattle.std.specs.List.{list_any, filter, count_by}
use Rattle.sched_rules.specs.Rules.{Pairwise, rule_contains, rule_conflicts}
use Rattle.rule_table.specs.declared.held.Held.{Held}

abbrev pub is_null : {A : Type 0} → List A → Bool
is_null [] = true
is_null (atom ∷ atoms) = false

-- the later element where there is one, else this one where it passes
abbrev pub or_before : {T : Type 0} → (T → Bool) → T → Option T → Option T
or_before test x (Some later) = Some later
or_before test x None = if test x then Some x else None

-- the last element that passes
abbrev pub newest : {T : Type 0} → (T → Bool) → List T → Option T
newest test [] = None
newest test (x ∷ xs) = or_before test x (newest test xs)

abbrev pub is_of : {A : Type 0} → ℕ → Held A → Bool
is_of holder held = held.holder == holder

abbrev pub is_outer : {A : Type 0} → ℕ → Held A → Bool
is_outer holder held = held.holder == holder && not (is_null held.rule)

-- the rule that this holder began last
abbrev pub last_rule : {A : Type 0} → ℕ → List (Held A) → Option (List A)
last_rule holder all = option_map (λ held. held.rule) (newest (is_of holder) all)

-- the topmost rule of this holder that isn't null
abbrev pub outer_rule : {A : Type 0} → ℕ → List (Held A) → Option (List A)
outer_rule holder all = option_map (λ held. held.rule) (newest (is_outer holder) all)

-- how many rules this holder has
abbrev pub rules_held : {A : Type 0} → ℕ → List (Held A) → ℕ
rules_held holder all = count_by (is_of holder) all

-- no rule that is held conflicts with this one
abbrev pub is_free : {A : Type 0} → (A → A → Bool) → List (Held A) → List A → Bool
is_free conflicts all rule = not (list_any (λ held. rule_conflicts conflicts held.rule rule) all)

-- the later one where its holder is less
abbrev pub lower : {A : Type 0} → Held A → Option (Held A) → Option (Held A)
lower held None = Some held
lower held (Some later) = if nat_lt later.holder held.holder then Some later else Some held

-- the first of those with the least holder
abbrev pub lowest : {A : Type 0} → List (Held A) → Option (Held A)
lowest [] = None
lowest (held ∷ all) = lower held (lowest all)

-- of the held rules that conflict with this one, those of the least holder, the one that was begun first
abbrev pub first_conflict : {A : Type 0} → (A → A → Bool) → List (Held A) → List A → Option (Held A)
first_conflict conflicts all rule = lowest (filter (λ held. rule_conflicts conflicts held.rule rule) all)

abbrev pub admits_under : {A : Type 0} → (A → A → Bool) → (A → A → Bool) → List (Held A) → List A → Option (List A) → Bool
admits_under contains conflicts all rule (Some outer) = rule_contains contains outer rule
admits_under contains conflicts all rule None = is_free conflicts all rule

-- whether the holder may begin this rule: within its topmost rule that isn't null, else where the rule is free
abbrev pub admits : {A : Type 0} → (A → A → Bool) → (A → A → Bool) → List (Held A) → ℕ → List A → Bool
admits contains conflicts all holder rule = admits_under contains conflicts all rule (outer_rule holder all)

-- without the rule that this holder began last
abbrev pub without_last : {A : Type 0} → ℕ → List (Held A) → List (Held A)
without_last holder [] = []
without_last holder (held ∷ all) =
    if is_of holder held && not (list_any (is_of holder) all) then all else held ∷ without_last holder all

-- a rule, in the hands of another holder where the one has it
abbrev pub handed : {A : Type 0} → ℕ → ℕ → Held A → Held A
handed from to held = if held.holder == from then record held { holder = to } else held

-- with one holder's rules in the hands of another
abbrev pub moved : {A : Type 0} → ℕ → ℕ → List (Held A) → List (Held A)
moved from to all = map (handed from to) all

-- without this holder's rules
abbrev pub without : {A : Type 0} → ℕ → List (Held A) → List (Held A)
without holder all = filter (λ held. not (is_of holder held)) all

-- a rule beside one that was begun before it: where they have one holder, within it unless that one is null; where they
-- have two, in no conflict with it
abbrev pub fits : {A : Type 0} → (A → A → Bool) → (A → A → Bool) → Held A → Held A → Bool
fits contains conflicts earlier later =
    if earlier.holder == later.holder then is_null earlier.rule || rule_contains contains earlier.rule later.rule
    else not (rule_conflicts conflicts earlier.rule later.rule)

-- each rule is within each non-null one that its holder began before, and no rules of two holders conflict
abbrev pub IsApart : {A : Type 0} → (A → A → Bool) → (A → A → Bool) → List (Held A) → Type 0
IsApart contains conflicts all = Pairwise (λ earlier later. fits contains conflicts earlier later ≡ true) all
