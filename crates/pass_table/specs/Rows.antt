-- What becomes of the passes, event by event, where the event isn't refused; and what refuses a transfer.
use Rattle.std.specs.Prelude.{◌≡◌, ℕ, true, false, ◌+◌, ◌-◌, List, [], ◌∷◌, ◌++◌, Option, Some, None, IsSome}
use Rattle.std.specs.FinMap.{insert, remove}
use Rattle.rule_table.specs.Tables.{last_rule, without_last, moved, without}
use Rattle.job_queue.specs.Changed.{changed}
use Rattle.pass_table.specs.declared.pass.Pass.{Pass}
use Rattle.pass_table.specs.declared.error.TransferError.{TransferError}
use Rattle.pass_table.specs.declared.error.TransferError.TheVariants.{NoPass, HoldsNothing, TargetHolds}
use Rattle.pass_table.specs.Passes.{Passes, idle, has_pass}

abbrev pub with_batches : ℕ → Pass → Pass
with_batches batches pass = record pass { batches = batches }

abbrev pub with_job : Option (List ℕ) → Pass → Pass
with_job job pass = record pass { job = job }

-- Enter: one more pass, which has the next number
abbrev pub entered : {A : Type 0} → Passes A → Passes A
entered p = record p { next = p.next + 1; there = insert p.there p.next idle }

-- Leave: the pass is gone
abbrev pub left : {A : Type 0} → Passes A → ℕ → Passes A
left p n = record p { there = remove p.there n }

-- Begin: the pass has one more rule
abbrev pub begun : {A : Type 0} → Passes A → ℕ → List A → Passes A
begun p n rule = record p { rules = p.rules ++ record { holder = n; rule = rule } ∷ [] }

-- End: the pass has lost the rule that it began last
abbrev pub ended : {A : Type 0} → Passes A → ℕ → Passes A
ended p n = record p { rules = without_last n p.rules }

-- Transfer: all rules of the pass are the other's
abbrev pub transferred : {A : Type 0} → Passes A → ℕ → ℕ → Passes A
transferred p n to = record p { rules = moved n to p.rules }

-- Batch: the pass has one more open
abbrev pub in_batch : {A : Type 0} → Passes A → ℕ → Passes A
in_batch p n = record p { there = changed (λ pass. with_batches (pass.batches + 1) pass) n p.there }

-- EndBatch: the pass has one fewer open
abbrev pub out_of_batch : {A : Type 0} → Passes A → ℕ → Passes A
out_of_batch p n = record p { there = changed (λ pass. with_batches (pass.batches - 1) pass) n p.there }

-- Take: the pass runs the job, and holds its rule
abbrev pub running : {A : Type 0} → Passes A → ℕ → List ℕ → List A → Passes A
running p n name rule = record (begun p n rule) { there = changed (with_job (Some name)) n p.there }

-- Checkout: the pass has the services
abbrev pub checked_out : {A : Type 0} → Passes A → ℕ → Passes A
checked_out p n = record p { services = Some n }

-- CheckIn: no pass has them
abbrev pub checked_in : {A : Type 0} → Passes A → Passes A
checked_in p = record p { services = None }

-- Finish: the pass has neither a job nor a rule nor an open batch any more
abbrev pub finished : {A : Type 0} → Passes A → ℕ → Passes A
finished p n = record p { there = changed (λ _. idle) n p.there; rules = without n p.rules }

-- a transfer is refused: there is no such pass, or else the one has no rule, or else the other has one
abbrev pub RefusesTransfer : {A : Type 0} → Passes A → ℕ → ℕ → TransferError → Type 0
RefusesTransfer p n to NoPass = has_pass p to ≡ false
RefusesTransfer p n to HoldsNothing = (has_pass p to ≡ true) × (last_rule n p.rules ≡ None)
RefusesTransfer p n to TargetHolds = (has_pass p to ≡ true) × IsSome (last_rule n p.rules) × IsSome (last_rule to p.rules)
