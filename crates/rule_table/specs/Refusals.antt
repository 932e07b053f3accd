-- What each refusal says of the table and of what was asked.
use Rattle.std.specs.Prelude.{◌≡◌, ◌≢◌, ℕ, Bool, false, List, Some, None, IsSome, ⊤}
use Rattle.sched_rules.specs.Rules.{rule_contains}
use Rattle.rule_table.specs.declared.held.Held.{Held}
use Rattle.rule_table.specs.declared.error.BeginError.{BeginError}
use Rattle.rule_table.specs.declared.error.BeginError.TheVariants.{Conflict, NotContained, Memory}
use Rattle.rule_table.specs.declared.error.EndError.{EndError}
use Rattle.rule_table.specs.declared.error.EndError.TheVariants.{NotLast, HoldsNothing, TargetHolds}
use Rattle.rule_table.specs.Tables.{last_rule, outer_rule, rules_held, first_conflict}

-- a conflict comes only to a holder without a non-null rule, and is the first one; else the topmost non-null rule doesn't
-- contain the new one
abbrev pub RefusesBegin : {A : Type 0} → (A → A → Bool) → (A → A → Bool) → List (Held A) → ℕ → List A → BeginError A → Type 0
RefusesBegin contains conflicts all holder rule (Conflict other held) =
    (outer_rule holder all ≡ None) × (first_conflict conflicts all rule ≡ Some (record { holder = other; rule = held }))
RefusesBegin contains conflicts all holder rule (NotContained outer) =
    (outer_rule holder all ≡ Some outer) × (rule_contains contains outer rule ≡ false)
RefusesBegin contains conflicts all holder rule Memory = ⊤

-- the holder has no rule, or it began another one last and has so many
abbrev pub RefusesEnd : {A : Type 0} → List (Held A) → ℕ → List A → EndError → Type 0
RefusesEnd all holder rule HoldsNothing = last_rule holder all ≡ None
RefusesEnd all holder rule (NotLast held) =
    IsSome (last_rule holder all) × (last_rule holder all ≢ Some rule) × (held ≡ rules_held holder all)
RefusesEnd all holder rule TargetHolds = ⊥

-- the one holder has no rule, or it has and the other has too
abbrev pub RefusesTransfer : {A : Type 0} → List (Held A) → ℕ → ℕ → EndError → Type 0
RefusesTransfer all from to HoldsNothing = last_rule from all ≡ None
RefusesTransfer all from to TargetHolds = IsSome (last_rule from all) × IsSome (last_rule to all)
RefusesTransfer all from to (NotLast held) = ⊥
