-- Passes, and what each has.
use Rattle.std.specs.Prelude.{ℕ, Bool, not, ◌||◌, ◌==◌, List, [], Option, Some, None, is_some}
use Rattle.std.specs.FinMap.{FinMap, get, insert, empty, contains_key, entries}
use Rattle.std.specs.List.{list_any}
use Rattle.std.specs.Option.{option_eq}
use Rattle.std.specs.Ordering.{nat_cmp}
use Rattle.rule_table.specs.declared.held.Held.{Held}
use Rattle.rule_table.specs.Tables.{last_rule}
use Rattle.pass_table.specs.declared.pass.Pass.{Pass}

-- passes by their numbers
abbrev pub Table : Type 0
Table = FinMap nat_cmp Pass

pub record Passes (A : Type 0) : Type 0 where
  -- the number that the next pass gets
  pub next : ℕ
  -- those that have entered and haven't left
  pub there : Table
  -- the rules that they hold, in the order in which they were begun
  pub rules : List (Held A)
  -- the pass that has the services, if one has them
  pub services : Option ℕ

-- a pass without a job and an open batch
abbrev pub idle : Pass
idle = record { job = None; batches = 0 }

-- pass 0 alone
abbrev pub first_pass : {A : Type 0} → Passes A
first_pass = record { next = 1; there = insert empty 0 idle; rules = []; services = None }

abbrev pub has_pass : {A : Type 0} → Passes A → ℕ → Bool
has_pass p n = contains_key p.there n

abbrev pub job_in : Option Pass → Option (List ℕ)
job_in None = None
job_in (Some pass) = pass.job

abbrev pub batches_in : Option Pass → ℕ
batches_in None = 0
batches_in (Some pass) = pass.batches

-- the name of the job that the pass runs, if it runs one
abbrev pub job_of : {A : Type 0} → Passes A → ℕ → Option (List ℕ)
job_of p n = job_in (get p.there n)

-- how many batches the pass has open
abbrev pub batches_of : {A : Type 0} → Passes A → ℕ → ℕ
batches_of p n = batches_in (get p.there n)

-- the pass has the services
abbrev pub serves : {A : Type 0} → Passes A → ℕ → Bool
serves p n = option_eq (λ a b. a == b) p.services (Some n)

-- the pass has a rule, a job, an open batch or the services
abbrev pub is_busy : {A : Type 0} → Passes A → ℕ → Bool
is_busy p n = is_some (last_rule n p.rules) || is_some (job_of p n) || not (batches_of p n == 0) || serves p n

abbrev pub has_batch : Pass → Bool
has_batch pass = not (pass.batches == 0)

-- no pass has an open batch
abbrev pub is_quiet : {A : Type 0} → Passes A → Bool
is_quiet p = not (list_any (λ e. has_batch e.1) (entries p.there))
