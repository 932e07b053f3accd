use Rattle.std.proofs.Common.{ℕ, drop}
use Rattle.ws_durable.specs.Saved.{Saved, saved}
use Rattle.save_format.specs.Valid.{Valid}
use Rattle.save_read.specs.declared.error.TextCause.{TextCause}
use Rattle.save_store.specs.States.{Lead}
use Rattle.save_store.specs.Damages.{BadRecord}
use Rattle.save_store.proofs.meaning.read_records.Given as goal

-- what is left decides
abbrev pub invariant-loop-body : goal.invariant-loop-body
invariant-loop-body l = record {
  valid : Valid (saved l.durable);
  leads : (end : Saved) → Lead (saved l.durable) (drop l.body-index l.records) end → Lead (saved l.fn.first) l.fn.records end;
  bad : (at : ℕ) (cause : TextCause) → BadRecord (saved l.durable) l.gate (drop l.body-index l.records) at cause → BadRecord (saved l.fn.first) l.fn.from l.fn.records at cause;
}
