-- Why a rule isn't ended, from what the table says.
use Rattle.std.proofs.Common.{◌≡◌, ◌≢◌, ℕ, Bool, true, false, not, List, refl, sym, ap, ◌∙◌}
use Rattle.std.specs.Prelude.{Option, Some, None, IsSome, Result, Ok, Err, IfOk}
use Rattle.sched_rules.specs.AtomLaws.{atom_cmp_total, atom_cmp_exact}
use Rattle.sched_rules.specs.declared.ws_atom.WsAtom.{WsAtom}
use Rattle.sched_rules.proofs.RuleLaws.{same_rules}
use Rattle.proj_desc.specs.FirstCause.{when}
use Rattle.core_event.specs.declared.reply.Refusal.{Refusal}
use Rattle.core_event.specs.declared.reply.Refusal.TheVariants.{NotLast}
use Rattle.job_manager.specs.Refusals.{same_rule, end_refusal}

-- what holds where a call succeeds follows from what holds there
pub if_ok : {T E : Type 0} {P Q : T → Type 0} (r : Result T E) → ((x : T) → P x → Q x) → IfOk r P → IfOk r Q
if_ok (Ok x) f h = f x h
if_ok (Err e) f h = tt

-- the last rule is the one that is to be ended
pub is_last : (o : Option (List WsAtom)) (n : ℕ) (rule : List WsAtom) → o ≡ Some rule → end_refusal o n rule ≡ None
is_last o n rule h =
    ap (λ x. end_refusal x n rule) h ∙ ap (λ b. when (not b) (NotLast n)) ((same_rules atom_cmp_exact atom_cmp_total (λ x y. refl) rule rule).1 refl)

-- it is another
pub is_other : (o : Option (List WsAtom)) (n m : ℕ) (rule : List WsAtom) → IsSome o → o ≢ Some rule → n ≡ m → end_refusal o m rule ≡ Some (NotLast n)
is_other None n m rule h g same = absurd (never h)
  where
    never : false ≡ true → ⊥
    never e = cc
is_other (Some last) n m rule h g same = by (same_rule last rule) refl ∙ ap (λ x. Some (NotLast x)) (sym same)
  where
    by : (b : Bool) → same_rule last rule ≡ b → when (not (same_rule last rule)) (NotLast m) ≡ Some (NotLast m)
    by true e = absurd (g (ap Some ((same_rules atom_cmp_exact atom_cmp_total (λ x y. refl) last rule).0 e)))
    by false e = ap (λ b. when (not b) (NotLast m)) e
