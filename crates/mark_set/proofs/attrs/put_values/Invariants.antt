use Rattle.std.proofs.Common.{◌≡◌, length}
use Rattle.std.specs.Prelude.{None}
use Rattle.mark_set.specs.Attributes.{AreAttributes, with_values}
use Rattle.mark_set.specs.Causes.{attributes_cause}
use Rattle.mark_set.proofs.attrs.put_values.Given as goal

abbrev pub invariant-loop-first : goal.invariant-loop-first
invariant-loop-first l = record {
  sound : attributes_cause l.rest ≡ None;
  told : with_values l.attrs l.rest ≡ with_values l.fn.attrs l.fn.raw;
  form : AreAttributes l.fn.attrs → AreAttributes l.attrs;
}

abbrev pub decreases-loop-first : goal.decreases-loop-first
decreases-loop-first l = length l.rest
