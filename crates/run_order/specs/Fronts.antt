-- What is known of a history that all passes have seen, where they meet.
use Rattle.std.specs.Prelude.{◌≡◌, ◌<◌, ◌+◌, ℕ, List, [], ◌∷◌}
use Rattle.pass_table.specs.Passes.{first_pass}
use Rattle.core_event.specs.declared.entry.Entry.{Entry}
use Rattle.core_event.specs.declared.event.Event.{Event}
use Rattle.core_event.specs.declared.event.Event.TheVariants.{Enter}
use Rattle.ws_core.specs.States.{Moment}
use Rattle.ws_core.specs.Histories.{Legal}
use Rattle.run_order.specs.Lists.{own, Begins}

-- how many passes the event lets in
abbrev pub lets_in : Event → ℕ
lets_in Enter = 1
lets_in event = 0

-- how many passes the entries let in
abbrev pub enters : List Entry → ℕ
enters [] = 0
enters (x ∷ h) = lets_in x.event + enters h

-- pass 0, which was alone at first, let n passes in, and they let nobody in
pub record Front (n : ℕ) (s : Moment) (h : List Entry) : Type 0 where
  pub opened : s.manager.passes ≡ first_pass
  pub legal : Legal s h
  pub zeroth : enters (own 0 h) ≡ n
  pub workers : (i : ℕ) → i < n → enters (own (i + 1) h) ≡ 0

-- The histories at the meetings of a phase: where it begins, after the jobs are scheduled, after the workers are done, and
-- after the jobs that sleep are cancelled. Pass 0 looked for those, and whether all are done, at the one between.
pub record Met (n : ℕ) (s : Moment) (at_first with_jobs with_parts looked_at at_last : List Entry) : Type 0 where
  pub front : Front n s at_first
  -- each holds the one before
  pub to_jobs : Begins at_first with_jobs
  pub to_parts : Begins with_jobs with_parts
  pub to_looked : Begins with_parts looked_at
  pub to_last : Begins looked_at at_last
  pub legal_jobs : Legal s with_jobs
  pub legal_parts : Legal s with_parts
  pub legal_last : Legal s at_last
  -- the workers rest while pass 0 is at work, and pass 0 while they are
  pub rest_first : (i : ℕ) → i < n → own (i + 1) with_jobs ≡ own (i + 1) at_first
  pub rest_zeroth : own 0 with_parts ≡ own 0 with_jobs
  pub rest_last : (i : ℕ) → i < n → own (i + 1) at_last ≡ own (i + 1) with_parts
  -- and pass 0 looked before it cancelled
  pub rest_looked : own 0 looked_at ≡ own 0 with_parts
