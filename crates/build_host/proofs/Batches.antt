-- A pass that has begun a batch has one open.
use Rattle.std.proofs.Common.{◌≡◌, ℕ, ◌+◌, ◌==◌, true, false, Option, Some, None, refl, ap, ◌∙◌, rules}
use Rattle.std.specs.Prelude.{is_some}
use Rattle.std.specs.Option.{option_map}
use Rattle.std.specs.FinMap.{get}
use Rattle.pass_table.specs.declared.pass.Pass.{Pass}
use Rattle.pass_table.specs.Passes.{Passes, batches_in, batches_of, has_pass}
use Rattle.pass_table.specs.Rows.{in_batch, with_batches}
use Rattle.run_order.proofs.Single.{table_put}
use Rattle.sched_rules.specs.declared.ws_atom.WsAtom.{WsAtom}

-- the worker has one open after it began one
pub batch_open : (p : Passes WsAtom) → has_pass p 1 ≡ true → (batches_of (in_batch p 1) 1 == 0) ≡ false
batch_open p there = ap (λ o. batches_in o == 0) (table_put p.there (λ pass. with_batches (pass.batches + 1) pass) (get p.there 1) refl) ∙ by (get p.there 1) there
  where
    more : (n : ℕ) → (n + 1 == 0) ≡ false
    more n = search rules

    by : (o : Option Pass) → is_some o ≡ true → (batches_in (option_map (λ pass. with_batches (pass.batches + 1) pass) o) == 0) ≡ false
    by None h = cc
    by (Some pass) h = more pass.batches
