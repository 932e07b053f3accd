-- Which pass has the services.
use Rattle.std.proofs.Common.{◌≡◌, ℕ, Bool, true, false, not, ◌&&◌, refl, ap, ◌∙◌, rules}
use Rattle.std.specs.Prelude.{◌==◌, Option, Some, None}
use Rattle.std.specs.Option.{option_eq}
use Rattle.proj_desc.specs.FirstCause.{when}
use Rattle.sched_rules.specs.declared.ws_atom.WsAtom.{WsAtom}
use Rattle.core_event.specs.declared.reply.Refusal.TheVariants.{NotServices}
use Rattle.pass_table.specs.Passes.{Passes, serves}
use Rattle.service_desk.specs.Refusals.{not_serving}

equal_itself : (n : ℕ) → (n == n) ≡ true
equal_itself n = search rules

same_number : (m n : ℕ) → (m == n) ≡ true → m ≡ n
same_number m n h = search (rules, h)

-- it is the one that the table names
pub serves_named : (p : Passes WsAtom) (k : ℕ) → p.services ≡ Some k → serves p k ≡ true
serves_named p k h = ap (λ o. option_eq (λ a b. a == b) o (Some k)) h ∙ equal_itself k

pub named_serves : (p : Passes WsAtom) (k : ℕ) → serves p k ≡ true → p.services ≡ Some k
named_serves p k h = by p.services h
  where
    by : (o : Option ℕ) → option_eq (λ a b. a == b) o (Some k) ≡ true → o ≡ Some k
    by None g = cc
    by (Some n) g = ap Some (same_number n k g)

-- then it isn't refused for that it hasn't them, where they are for what it asks
pub not_refused : (p : Passes WsAtom) (fits : Bool) (k : ℕ) → p.services ≡ Some k → fits ≡ true → not_serving p fits k ≡ None
not_refused p fits k h is = ap (λ b. when (not (b && fits)) (NotServices p.services)) (serves_named p k h) ∙ ap (λ b. when (not b) (NotServices p.services)) is

-- and where it isn't refused so, it is the one
pub serving_named : (p : Passes WsAtom) (fits : Bool) (k : ℕ) → not_serving p fits k ≡ None → p.services ≡ Some k
serving_named p fits k h = by (serves p k) (named_serves p k) h
  where
    by : (b : Bool) → (b ≡ true → p.services ≡ Some k) → when (not (b && fits)) (NotServices p.services) ≡ None → p.services ≡ Some k
    by true f g = f refl
    by false f g = cc

-- and they are for what it asks
pub serving_fits : (p : Passes WsAtom) (fits : Bool) (k : ℕ) → not_serving p fits k ≡ None → fits ≡ true
serving_fits p fits k h = by (serves p k) fits h
  where
    by : (b c : Bool) → when (not (b && c)) (NotServices p.services) ≡ None → c ≡ true
    by true true g = refl
    by true false g = cc
    by false c g = cc
