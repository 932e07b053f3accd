-- The entries of saves.
use Rattle.std.proofs.Common.{◌≡◌, inl, inr, ℕ, List, [], ◌∷◌, ◌+◌, refl, sym, ap, subst, arith}
use Rattle.std.specs.Prelude.{None}
use Rattle.std.specs.List.{AllByRecursion}
use Rattle.save_kind.specs.declared.kind.SaveKind.{SaveKind}
use Rattle.save_run.specs.declared.command.Saved.{Saved}
use Rattle.save_run.specs.declared.command.Saved.TheVariants.{Ended, Stopped}
use Rattle.core_event.specs.declared.entry.Entry.{Entry}
use Rattle.core_event.specs.declared.event.Event.TheVariants.{Service}
use Rattle.core_event.specs.declared.reply.Answer.{Answer}
use Rattle.core_event.specs.declared.reply.Answer.TheVariants as answers
use Rattle.core_event.specs.declared.reply.Refusal.TheVariants as refusals
use Rattle.core_event.specs.declared.service.ServiceEvent.{ServiceEvent}
use Rattle.core_event.specs.declared.service.ServiceEvent.TheVariants.{Saving}
use Rattle.core_event.specs.Replies.{refusal_number}
use Rattle.run_order.proofs.Alone.{OnlyBy}
use Rattle.run_order.specs.Fronts.{enters, lets_in}
use Rattle.save_history.specs.Saves.{IsAnswered, IsSave, IsSaveOf, beginning, ending}

-- of each kind there is one: one that is refused at once
abbrev refused_save : ℕ → SaveKind → Entry
refused_save k kind = record { pass = k; event = Service (beginning kind); reply = record { answer = answers.Refused (refusals.ServicesOut 0); notice = None } }

pub some_save : (k : ℕ) (kind : SaveKind) → (l : List Entry) × IsSave k kind l
some_save k kind = (
  refused_save k kind ∷ [],
  (
    Stopped (refusal_number (refusals.ServicesOut 0)),
    record {
      refusal = refusals.ServicesOut 0;
      number = refl;
      entry = refused_save k kind;
      are = refl;
      refused = record { pass = refl; event_is = refl; answer_is = refl };
    },
  ),
)

module _ (P : Entry → Type 0) (k : ℕ) (kind : SaveKind) (each : (event : ServiceEvent) (a : Answer) (x : Entry) → IsAnswered k event a x → P x) where
  -- what holds of each entry that the pass asked of the services
  all_of : (s : Saved) (h : List Entry) → IsSaveOf k kind s h → AllByRecursion P h
  all_of (Ended o) h (inl w) = subst (AllByRecursion P) (sym w.are) (each (beginning kind) answers.Done w.first w.begins, (each (ending o) answers.Done w.last w.ends, tt))
  all_of (Ended o) h (inr w) = subst (AllByRecursion P) (sym w.are)
      (each (beginning kind) answers.Done w.first w.begins, (each (Saving w.states) answers.Done w.middle w.keeps, (each (ending o) answers.Done w.last w.ends, tt)))
  all_of (Stopped n) h w = subst (AllByRecursion P) (sym w.are) (each (beginning kind) (answers.Refused w.refusal) w.entry w.refused, tt)

only_by : (k : ℕ) (h : List Entry) → AllByRecursion (λ (x : Entry). x.pass ≡ k) h → OnlyBy k h
only_by k [] all = tt
only_by k (x ∷ h) all = (all.0, only_by k h all.1)

-- one pass makes all of them
pub save_by : (k : ℕ) (kind : SaveKind) (h : List Entry) → IsSave k kind h → OnlyBy k h
save_by k kind h s = only_by k h (all_of (λ x. x.pass ≡ k) k kind (λ event a x is. is.pass) s.0 h s.1)

none_in : (h : List Entry) → AllByRecursion (λ (x : Entry). lets_in x.event ≡ 0) h → enters h ≡ 0
none_in [] all = refl
none_in (x ∷ h) all = let first = all.0 in let rest = none_in h all.1 in omega (arith, first, rest)

-- none of them lets a pass in
pub save_enters : (k : ℕ) (kind : SaveKind) (h : List Entry) → IsSave k kind h → enters h ≡ 0
save_enters k kind h s = none_in h (all_of (λ x. lets_in x.event ≡ 0) k kind (λ event a x is. ap lets_in is.event_is) s.0 h s.1)
