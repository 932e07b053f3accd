-- What a phase makes lets nobody in.
use Rattle.std.proofs.Common.{◌≡◌, ◌+◌, ℕ, List, [], ◌∷◌, map, refl, ap, ◌∙◌, arith}
use Rattle.core_event.specs.declared.entry.Entry.{Entry}
use Rattle.core_event.specs.declared.event.Event.{Event}
use Rattle.core_event.specs.declared.event.Event.TheVariants.{Finish}
use Rattle.run_order.specs.Lists.{entry, acts, Cut}
use Rattle.run_order.specs.Plans.{Phase, commands_of}
use Rattle.run_order.specs.Parts.{Making, IsPart, Parts, OneEvent}
use Rattle.run_order.specs.Orders.{scheduled, cancelled}
use Rattle.run_order.specs.Fronts.{lets_in, enters}
use Rattle.run_order.proofs.Numbers.{enters_append, enters_turn, enters_cut}

-- no command lets a pass in
abbrev pub LetsNobodyIn : {C : Type 0} → Making C → Type 0
LetsNobodyIn Made = (k : ℕ) (c : _) (h : List Entry) → Made k c h → enters h ≡ 0

pub event_quiet : {C : Type 0} (event : C → Event) → ((c : C) → lets_in (event c) ≡ 0) → LetsNobodyIn (OneEvent event)
event_quiet event none k c h p = let z = none c in ap enters p.1 ∙ omega (arith, z)

module _ {C : Type 0} (Made : Making C) (quiet : LetsNobodyIn Made) where
  part_quiet : (k : ℕ) (commands : List C) (name : List ℕ) (h : List Entry) → IsPart Made k commands name h → enters h ≡ 0
  part_quiet k commands name h p =
      let b = enters_turn (Made k) (quiet k) commands p.body p.made in
      let c = enters_append p.body (entry k Finish p.finished ∷ []) in
      ap enters p.are ∙ omega (arith, b, c)

  pub parts_quiet : (jobs : Phase C) (k : ℕ) (h : List Entry) → Parts Made jobs k h → enters h ≡ 0
  parts_quiet jobs k h p = enters_turn (λ name. IsPart Made k (commands_of jobs name) name) (λ name a q. part_quiet k (commands_of jobs name) name a q) p.0 h p.1

  pub cut_parts_quiet : (jobs : Phase C) (k : ℕ) (h : List Entry) → Cut (Parts Made jobs k) h → enters h ≡ 0
  cut_parts_quiet jobs k h p = enters_cut (Parts Made jobs k) (parts_quiet jobs k) h p

-- ---- by who did what

abbrev enters_by : List (ℕ × Event) → ℕ
enters_by [] = 0
enters_by (x ∷ h) = lets_in x.1 + enters_by h

enters_acts : (l : List Entry) → enters l ≡ enters_by (acts l)
enters_acts [] = refl
enters_acts (x ∷ l) = ap (λ z. lets_in x.event + z) (enters_acts l)

module _ {C : Type 0} where
  none_scheduled : (jobs : Phase C) → enters_by (map scheduled jobs) ≡ 0
  none_scheduled [] = refl
  none_scheduled (j ∷ js) = let a = none_scheduled js in omega (arith, a)

  none_cancelled : (jobs : Phase C) → enters_by (map cancelled jobs) ≡ 0
  none_cancelled [] = refl
  none_cancelled (j ∷ js) = let a = none_cancelled js in omega (arith, a)

  pub scheduled_quiet : (jobs : Phase C) (l : List Entry) → acts l ≡ map scheduled jobs → enters l ≡ 0
  scheduled_quiet jobs l e = enters_acts l ∙ (ap enters_by e ∙ none_scheduled jobs)

  pub cancelled_quiet : (jobs : Phase C) (l : List Entry) → acts l ≡ map cancelled jobs → enters l ≡ 0
  cancelled_quiet jobs l e = enters_acts l ∙ (ap enters_by e ∙ none_cancelled jobs)
