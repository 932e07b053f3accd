-- Causes in their order.
use Rattle.std.proofs.Common.{◌≡◌, List, [], ◌∷◌, ◌++◌, refl, ap, ◌∙◌}
use Rattle.std.specs.Prelude.{Option, Some, None, Result, Ok, Err, IsErrAnd}
use Rattle.op_kind.specs.declared.refusal.OpRefusal.{OpRefusal}
use Rattle.op_kind.specs.declared.refusal.OpError.{OpError}
use Rattle.op_kind.specs.declared.refusal.OpError.TheVariants.{Refused, Memory}
use Rattle.op_kind.specs.declared.op.Op.{Op}
use Rattle.op_plan.specs.declared.plan.Plan.{Plan}
use Rattle.op_plan.specs.Inside.Plans.{Plans}
use Rattle.op_kind.specs.Resources.{Resources}
use Rattle.op_kind.specs.Judging.{IfRefused, Judges}
use Rattle.proj_desc.specs.FirstCause.{first_cause}
use Rattle.op_kind.specs.Refusals.{refusal}

abbrev pub Causes : Type 0
Causes = List (Option OpRefusal)

-- the first of some causes is the first of more
pub stops : (xs ys : Causes) (x : OpRefusal) → first_cause xs ≡ Some x → first_cause (xs ++ ys) ≡ Some x
stops [] ys x h = absurd (let no : None ≡ Some x = h in cc)
stops (Some r ∷ xs) ys x h = h
stops (None ∷ xs) ys x h = stops xs ys x h

-- where there is none among some, the first of the others counts
pub goes_on : (xs ys : Causes) → first_cause xs ≡ None → first_cause (xs ++ ys) ≡ first_cause ys
goes_on [] ys h = refl
goes_on (Some r ∷ xs) ys h = absurd (let no : Some r ≡ None = h in cc)
goes_on (None ∷ xs) ys h = goes_on xs ys h

pub passes : (c : Option OpRefusal) (cs : Causes) → c ≡ None → first_cause (c ∷ cs) ≡ first_cause cs
passes None cs h = refl
passes (Some r) cs h = absurd (let no : Some r ≡ None = h in cc)

pub stops_first : (c : Option OpRefusal) (cs : Causes) (x : OpRefusal) → c ≡ Some x → first_cause (c ∷ cs) ≡ Some x
stops_first None cs x h = absurd (let no : None ≡ Some x = h in cc)
stops_first (Some r) cs x h = h

-- an error is handed on
pub handed_on : {A : Type 0} (f g : Option OpRefusal) (r : Result A OpError) (e : OpError) → IsErrAnd r (λ d. d ≡ e) → ((x : OpRefusal) → f ≡ Some x → g ≡ Some x)
    → IfRefused (λ x. f ≡ Some x) e → Judges g r
handed_on f g (Ok a) e h k i = absurd h
handed_on f g (Err Memory) e h k i = tt
handed_on f g (Err (Refused x)) Memory h k i = absurd (let no : Refused x ≡ Memory = h in cc)
handed_on f g (Err (Refused x)) (Refused y) h k i = let same : y ≡ x = cc in k x (i ∙ ap Some same)

-- an error is handed on where a plan was asked for
pub handed_plan : (f : Option OpRefusal) (r : Resources) (op : Op) (result : Result Plan OpError) (e : OpError) → IsErrAnd result (λ d. d ≡ e)
    → ((x : OpRefusal) → f ≡ Some x → refusal r op ≡ Some x) → IfRefused (λ x. f ≡ Some x) e → Plans r op result
handed_plan f r op (Ok a) e h k i = absurd h
handed_plan f r op (Err Memory) e h k i = tt
handed_plan f r op (Err (Refused x)) Memory h k i = absurd (let no : Refused x ≡ Memory = h in cc)
handed_plan f r op (Err (Refused x)) (Refused y) h k i = let same : y ≡ x = cc in k x (i ∙ ap Some same)

-- so is a refusal by a check that takes no memory
pub told_on : {A : Type 0} (f g : Option OpRefusal) (r : Result A OpError) (x : OpRefusal) → IsErrAnd r (λ e. e ≡ Refused x) → (f ≡ Some x → g ≡ Some x) → f ≡ Some x → Judges g r
told_on f g (Ok a) x h k i = absurd h
told_on f g (Err Memory) x h k i = absurd (let no : Memory ≡ Refused x = h in cc)
told_on f g (Err (Refused y)) x h k i = let same : x ≡ y = cc in k i ∙ ap Some same

-- where memory wants, nothing is judged
pub no_memory : {A : Type 0} (g : Option OpRefusal) (r : Result A OpError) → IsErrAnd r (λ e. e ≡ Memory) → Judges g r
no_memory g (Ok a) h = absurd h
no_memory g (Err Memory) h = tt
no_memory g (Err (Refused x)) h = absurd (let no : Refused x ≡ Memory = h in cc)

-- a plan that wasn't made
pub no_plan : (r : Resources) (op : Op) (result : Result Plan OpError) → IsErrAnd result (λ e. e ≡ Memory) → Plans r op result
no_plan r op (Ok a) h = absurd h
no_plan r op (Err Memory) h = tt
no_plan r op (Err (Refused x)) h = absurd (let no : Refused x ≡ Memory = h in cc)
