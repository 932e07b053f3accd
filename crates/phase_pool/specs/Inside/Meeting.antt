-- How all passes meet.
use Rattle.std.specs.Prelude.{◌≡◌, ◌⊎◌, List, [], ◌∷◌}
use Rattle.std.specs.List.{AllByRecursion}
use Rattle.core_event.specs.declared.entry.Entry.{Entry}
use Rattle.job_pool.specs.Workers.{Pairs}
use Rattle.run_order.specs.Lists.{Begins}
use Rattle.phase_pool.specs.Passes.{Known, LooksOn}
use Rattle.phase_pool.specs.Workers.{Hand}

-- the history is what one of the workers has seen
abbrev pub IsOfOne : List Entry → List Hand → Type 0
IsOfOne h [] = ⊥
IsOfOne h (w ∷ ws) = (h ≡ w.known.seen) ⊎ IsOfOne h ws

-- pass 0 has seen what it and these workers had, which is what one of them had
pub record Collects (k : Known) (hands : List Hand) (k' : Known) : Type 0 where
  pub looks : LooksOn k k'
  pub begin : AllByRecursion (λ v. Begins v.known.seen k'.seen) hands
  pub one : (k'.seen ≡ k.seen) ⊎ IsOfOne k'.seen hands

-- the worker has seen this history, and nothing else of it is new
pub record HasSeen (h : List Entry) (v w : Hand) : Type 0 where
  pub looks : LooksOn v.known w.known
  pub seen : w.known.seen ≡ h
  pub stopped : w.stopped ≡ v.stopped

-- all have met: they have seen the same, which is what one of them had
pub record Gathers (k k' : Known) (hands hands' : List Hand) : Type 0 where
  pub looks : LooksOn k k'
  pub workers : Pairs (HasSeen k'.seen) hands hands'
  pub one : (k'.seen ≡ k.seen) ⊎ IsOfOne k'.seen hands
