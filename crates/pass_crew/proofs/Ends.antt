-- What is known of each pass where a run ended.
use Rattle.std.proofs.Common.{◌≡◌, ◌<◌, ◌≤◌, ℕ, zero, suc, true, List, [], ◌∷◌, length, map, sym, subst, arith}
use Rattle.std.specs.List.{AllByRecursion}
use Rattle.std.proofs.lemmas.List.{length-map}
use Rattle.core_event.specs.declared.entry.Entry.{Entry}
use Rattle.ws_core.specs.States.{Moment}
use Rattle.ws_core.specs.Histories.{has_entered, replay}
use Rattle.run_order.specs.Lists.{own}
use Rattle.run_order.specs.Fronts.{enters}
use Rattle.phase_pool.specs.Passes.{Known}
use Rattle.phase_pool.specs.Workers.{Hand, hand, worker_at}
use Rattle.phase_pool.specs.declared.worker.Worker.{Worker}
use Rattle.phase_pool.proofs.Runs.{each_seen}
use Rattle.pass_crew.specs.Ends.{OneIsThere}
use Rattle.pass_crew.specs.Told.{HasTold}
use Rattle.pass_crew.specs.Inside.Assembled.{Ended, IsKept}
use Rattle.pass_crew.proofs.Places.{all_images, all_mapped}

-- each worker's pass that is here is there
pub all_there : {P : Type 0} (knows : P → Known) (s : Moment) (Here : P → Type 0) → ((p : P) → Here p → has_entered (knows p).number (replay s (knows p).seen) ≡ true)
    → (ws : List (Worker P)) → AllByRecursion (λ w. Here w.pass) ws → AllByRecursion (λ w. has_entered (knows w.pass).number (replay s (knows w.pass).seen) ≡ true) ws
all_there knows s Here law [] all = tt
all_there knows s Here law (w ∷ ws) all = (law w.pass all.0, all_there knows s Here law ws all.1)

module _ {P : Type 0} (knows : P → Known) (Good : ℕ → List Entry → Type 0) (Tells : P → List Entry → Type 0) (s : Moment) (n : ℕ) (k : Known) (ws : List (Worker P))
    (e : Ended (IsKept Good knows Tells) n k (map (hand knows) ws)) where
  -- what holds of each worker's pass in what it has seen holds of it in what pass 0 has
  pub left_all : (Q : P → List Entry → Type 0) → AllByRecursion (λ w. Q w.pass (knows w.pass).seen) ws → (ps : List P) → ps ≡ map (λ (w : Worker P). w.pass) ws → AllByRecursion (λ p. Q p k.seen) ps
  left_all Q all ps is = subst (AllByRecursion (λ p. Q p k.seen)) (sym is)
      (all_mapped (λ (w : Worker P). w.pass) (λ p. Q p k.seen) ws (each_seen (λ (w : Worker P) h. Q w.pass h) (hand knows) k.seen ws e.seen all))

  -- where there is one, it is there
  pub one_is_there : 0 < length ws → AllByRecursion (λ w. has_entered (knows w.pass).number (replay s (knows w.pass).seen) ≡ true) ws → OneIsThere n s k.seen
  one_is_there some all =
      let lt : 0 < length (map (hand knows) ws) = subst (λ m. 0 < m) (sym (length-map ws (hand knows))) some in
      let there = all_images (hand knows) (λ (h : Hand). has_entered h.known.number (replay s h.known.seen) ≡ true) ws all 0 lt in
      let first = worker_at (map (hand knows) ws) 0 in
      (first.known.number, e.some 0 lt, e.few 0 lt, subst (λ h. has_entered first.known.number (replay s h) ≡ true) (e.seen 0 lt) there)

  pub all_good : Good k.number k.seen → (j : ℕ) → j ≤ enters (own 0 k.seen) → Good j k.seen
  all_good zeroth zero le = subst (λ m. Good m k.seen) e.zeroth zeroth
  all_good zeroth (suc j) le = (e.kept (suc j) (omega arith) le).0

  pub all_told : (j : ℕ) → 0 < j → j ≤ enters (own 0 k.seen) → HasTold knows Tells j k.seen
  all_told j some le = (e.kept j some le).1
