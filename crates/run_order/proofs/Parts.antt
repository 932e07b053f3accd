-- How a worker's pass comes to whole parts, and to a cut one.
use Rattle.std.proofs.Common.{◌≡◌, ℕ, List, [], ◌∷◌, ◌++◌, refl, ap, sym, append_assoc}
use Rattle.core_event.specs.declared.entry.Entry.{Entry}
use Rattle.core_event.specs.declared.event.Event.{Event}
use Rattle.core_event.specs.declared.event.Event.TheVariants.{Take, Finish}
use Rattle.core_event.specs.declared.reply.Answer.TheVariants.{Job}
use Rattle.core_event.specs.declared.reply.Reply.{Reply}
use Rattle.run_order.specs.Lists.{entry, Cut, InTurn}
use Rattle.run_order.specs.Plans.{Phase, commands_of}
use Rattle.run_order.specs.Parts.{Making, IsPart, Parts, OneEvent}
use Rattle.run_order.proofs.Lists.{some_reply, cut_whole, cut_on, turn_append, turn_one}

-- each command that is one event has an entry
pub event_some : {C : Type 0} (event : C → Event) (k : ℕ) (c : C) → (l : List Entry) × OneEvent event k c l
event_some event k c = (entry k (event c) some_reply ∷ [], (some_reply, refl))

module _ {C : Type 0} (Made : Making C) where
  pub part_whole : (k : ℕ) (commands : List C) (name : List ℕ) (taken : Reply) (body : List Entry) (finished : Reply) → taken.answer ≡ Job name
      → InTurn (Made k) commands body → IsPart Made k commands name (entry k Take taken ∷ (body ++ entry k Finish finished ∷ []))
  part_whole k commands name taken body finished gives made = record { taken = taken; body = body; finished = finished; are = refl; gives = gives; made = made }

  -- the part of a job that was stopped among its commands
  pub part_cut : (k : ℕ) (commands : List C) (name : List ℕ) (taken : Reply) (body : List Entry) → taken.answer ≡ Job name
      → Cut (InTurn (Made k) commands) body → Cut (IsPart Made k commands name) (entry k Take taken ∷ body)
  part_cut k commands name taken body gives made = (
    made.0 ++ entry k Finish some_reply ∷ [],
    record {
      taken = taken;
      body = body ++ made.0;
      finished = some_reply;
      gives = gives;
      made = made.1;
      are = ap (λ l. entry k Take taken ∷ l) (sym (append_assoc body made.0 (entry k Finish some_reply ∷ [])));
    },
  )

  -- the part of a job that was stopped before Finish
  pub part_unfinished : (k : ℕ) (commands : List C) (name : List ℕ) (taken : Reply) (body : List Entry) → taken.answer ≡ Job name
      → InTurn (Made k) commands body → Cut (IsPart Made k commands name) (entry k Take taken ∷ body)
  part_unfinished k commands name taken body gives made = part_cut k commands name taken body gives (cut_whole (InTurn (Made k) commands) body made)

  pub parts_none : (jobs : Phase C) (k : ℕ) → Parts Made jobs k []
  parts_none jobs k = ([], refl)

  pub parts_append : (jobs : Phase C) (k : ℕ) (a b : List Entry) → Parts Made jobs k a → Parts Made jobs k b → Parts Made jobs k (a ++ b)
  parts_append jobs k a b p q = (p.0 ++ q.0, turn_append (λ name. IsPart Made k (commands_of jobs name) name) p.0 q.0 a b p.1 q.1)

  pub parts_one : (jobs : Phase C) (k : ℕ) (name : List ℕ) (a : List Entry) → IsPart Made k (commands_of jobs name) name a → Parts Made jobs k a
  parts_one jobs k name a p = (name ∷ [], turn_one (λ name. IsPart Made k (commands_of jobs name) name) name a p)

  -- one more part
  pub parts_more : (jobs : Phase C) (k : ℕ) (name : List ℕ) (a b : List Entry) → Parts Made jobs k a → IsPart Made k (commands_of jobs name) name b → Parts Made jobs k (a ++ b)
  parts_more jobs k name a b p q = parts_append jobs k a b p (parts_one jobs k name b q)

  -- and a cut one
  pub parts_cut : (jobs : Phase C) (k : ℕ) (name : List ℕ) (a b : List Entry) → Parts Made jobs k a → Cut (IsPart Made k (commands_of jobs name) name) b → Cut (Parts Made jobs k) (a ++ b)
  parts_cut jobs k name a b p q = cut_on (Parts Made jobs k) (IsPart Made k (commands_of jobs name) name) (Parts Made jobs k) (parts_more jobs k name) a b p q

  pub parts_whole : (jobs : Phase C) (k : ℕ) (a : List Entry) → Parts Made jobs k a → Cut (Parts Made jobs k) a
  parts_whole jobs k a p = cut_whole (Parts Made jobs k) a p
