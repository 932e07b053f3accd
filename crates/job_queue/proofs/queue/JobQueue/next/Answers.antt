use Rattle.std.proofs.Common.{◌≡◌, ℕ, List, Bor, false, refl, sym, ap, ◌∙◌, subst}
use Rattle.std.specs.Prelude.{Option, Some, None, IfNone, IfSome, option_copied}
use Rattle.std.specs.FinMap.{get}
use Rattle.job_queue.specs.declared.job.Job.{Job}
use Rattle.job_queue.specs.Queues.{Queue, may_start, next_name, ComesNext}
use Rattle.job_queue.proofs.Nexts.{next_is, no_next, some_next}
use Rattle.job_queue.proofs.queue.JobQueue.next.Goals as goal

if_none : (r : Option (Bor (List ℕ))) (P : Type 0) → (option_copied r ≡ None → P) → IfNone r P
if_none None P f = f refl
if_none (Some x) P f = tt

if_some : (r : Option (Bor (List ℕ))) (P : List ℕ → Type 0) → ((n : List ℕ) → option_copied r ≡ Some n → P n) → IfSome r (λ n. P n.now)
if_some None P f = tt
if_some (Some x) P f = f x.now refl

pub returns-clause-next : goal.returns-clause-next
returns-clause-next g c =
    c.first_free.ensures
    ∙ next_is g.A.Atom.conflicts c.args.held.now c.self.inside.jobs c.self.inside.turns c.self.inside.next_number c.self.inside.finished c.self.inside.live c.self.invariant
    ∙ ap (λ (q : Queue g.row.A.Denot). next_name g.A.Atom.conflicts c.args.held.now q) c.self.view_is

pub returns-clause-none : goal.returns-clause-none
returns-clause-none g c =
    if_none c.first_free.result _ (λ h. subst (λ (q : Queue g.row.A.Denot). (n : List ℕ) (job : Job g.row.A.Denot) → get q.jobs n ≡ Some job → may_start g.A.Atom.conflicts c.args.held.now job ≡ false) c.self.view_is
    (no_next g.A.Atom.conflicts c.args.held.now c.self.inside.jobs c.self.inside.turns c.self.inside.next_number c.self.inside.finished c.self.inside.live c.self.invariant (sym c.first_free.ensures ∙ h)))

pub returns-clause-first : goal.returns-clause-first
returns-clause-first g c =
    if_some c.first_free.result (λ n. ComesNext g.A.Atom.conflicts c.args.held.now c.args.self.now.jobs n) (λ n h. subst (λ (q : Queue g.row.A.Denot). ComesNext g.A.Atom.conflicts c.args.held.now q.jobs n) c.self.view_is
    (some_next g.A.Atom.conflicts c.args.held.now c.self.inside.jobs c.self.inside.turns c.self.inside.next_number c.self.inside.finished c.self.inside.live c.self.invariant n (sym c.first_free.ensures ∙ h)))
