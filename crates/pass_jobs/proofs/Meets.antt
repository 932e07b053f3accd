-- Two passes meet.
use Rattle.std.proofs.Common.{◌≡◌, ◌∙◌, inl, inr, ℕ, Bool, true, false, List, [], ◌∷◌, ◌++◌, length, refl, sym, ap, subst, append-nil}
use Rattle.std.specs.Prelude.{◌⊎◌, nat_lt, if◌then◌else◌}
use Rattle.core_event.specs.declared.entry.Entry.{Entry}
use Rattle.ws_core.specs.States.{Moment}
use Rattle.ws_core.specs.Histories.{Legal}
use Rattle.run_order.specs.Lists.{Begins}
use Rattle.ws_turn.specs.Lists.{longer}
use Rattle.pass_turns.specs.Turns.{IsFaithful, Knows}
use Rattle.phase_pool.specs.Passes.{Meets}
use Rattle.pass_jobs.specs.Calls.{LookedOn, pass_of}
use Rattle.pass_jobs.specs.Inside.Floors.{IsHere, known}
use Rattle.pass_jobs.proofs.Went.{went_makes}

-- the longer of the two is one of them
longer_one : (a b : List Entry) → (longer a b ≡ a) ⊎ (longer a b ≡ b)
longer_one a b = elim (nat_lt (length a) (length b)) as (λ (c : Bool). ((if c then b else a) ≡ a) ⊎ ((if c then b else a) ≡ b)) [ true ↦ inr refl | false ↦ inl refl ]

module _ (s : Moment) (Good : ℕ → List Entry → Type 0) (k o j : Knows Entry) (is : j ≡ record k { seen = longer k.seen o.seen }) (begin : Begins k.seen j.seen × Begins o.seen j.seen) (faithful : IsFaithful pass_of j) where
  one_seen : (j.seen ≡ k.seen) ⊎ (j.seen ≡ o.seen)
  one_seen = by (longer_one k.seen o.seen)
    where
      by : (longer k.seen o.seen ≡ k.seen) ⊎ (longer k.seen o.seen ≡ o.seen) → (j.seen ≡ k.seen) ⊎ (j.seen ≡ o.seen)
      by (inl e) = inl (ap (λ (z : Knows Entry). z.seen) is ∙ e)
      by (inr e) = inr (ap (λ (z : Knows Entry). z.seen) is ∙ e)

  -- the pass looked on, where the other's history is legal
  pub met_looks : Legal s o.seen → LookedOn s k j
  met_looks other = record {
    begins = begin.0;
    number = ap (λ (z : Knows Entry). z.number) is;
    made = ([], ap (λ (z : Knows Entry). z.mine) is ∙ sym (append-nil k.mine), refl);
    legal = λ legal. by one_seen legal;
    faithful = faithful;
  }
    where
      by : (j.seen ≡ k.seen) ⊎ (j.seen ≡ o.seen) → Legal s k.seen → Legal s j.seen
      by (inl e) legal = subst (Legal s) (sym e) legal
      by (inr e) legal = subst (Legal s) (sym e) other

  pub met : IsHere s Good k → Legal s o.seen → Meets (known k) (known o) (known j)
  met here other = record { looks = went_makes s (λ h. h ≡ []) k j here.faithful (met_looks other); begins = begin.1; one = one_seen }
