-- A finite map of which one value is changed.
use Rattle.std.specs.Prelude.{Option, Some, None}
use Rattle.std.specs.declared.cmp.Ordering.{Ordering}
use Rattle.std.specs.FinMap.{FinMap, get, insert}
use Rattle.std.specs.Option.{option_map}

abbrev pub put_if : {K X : Type 0} {R : K → K → Ordering} → FinMap R X → K → Option X → FinMap R X
put_if m k None = m
put_if m k (Some x) = insert m k x

-- the value at the key is changed, if there is one
abbrev pub changed : {K X : Type 0} {R : K → K → Ordering} → (X → X) → K → FinMap R X → FinMap R X
changed change k m = put_if m k (option_map change (get m k))
