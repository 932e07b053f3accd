-- What is known of passes in what pass 0 has seen.
use Rattle.std.proofs.Common.{◌≡◌, ◌<◌, ◌∙◌, ℕ, List, [], ◌∷◌, length, map, refl, sym, append-nil}
use Rattle.std.specs.List.{AllByRecursion}
use Rattle.core_event.specs.declared.entry.Entry.{Entry}
use Rattle.core_event.specs.declared.event.Event.TheVariants.{Leave}
use Rattle.run_order.specs.Lists.{own, Begins, Grew}
use Rattle.run_order.proofs.Lists.{cut_none, cut_whole, some_acts}
use Rattle.phase_pool.specs.Passes.{Known}
use Rattle.phase_pool.specs.Workers.{Hand, hand, worker_at}
use Rattle.phase_pool.specs.declared.worker.Worker.{Worker}
use Rattle.pass_crew.specs.Passes.{Leaving}
use Rattle.pass_crew.specs.Inside.Assembled.{IsKept}
use Rattle.pass_crew.proofs.Places.{all_images}

module _ {P : Type 0} (Good : ℕ → List Entry → Type 0) (knows : P → Known) (Tells : P → List Entry → Type 0) where
  -- where the pass makes nothing
  pub kept_on : ((k : ℕ) (g h : List Entry) → Good k g → Begins g h → own k h ≡ own k g → Good k h)
      → (k : ℕ) (g h : List Entry) → IsKept Good knows Tells k g → Begins g h → own k h ≡ own k g → IsKept Good knows Tells k h
  kept_on stays k g h p b e = (
    stays k g h p.0 b e,
    record { pass = p.1.pass; number = p.1.number; told = p.1.told; rest = p.1.rest; are = e ∙ p.1.are; leaving = p.1.leaving; tells = p.1.tells },
  )

  -- while it is here
  pub kept_here : (p : P) → Good (knows p).number (knows p).seen → Tells p (own (knows p).number (knows p).seen) → IsKept Good knows Tells (knows p).number (knows p).seen
  kept_here p good tells = (
    good,
    record {
      pass = p;
      number = refl;
      told = own (knows p).number (knows p).seen;
      rest = [];
      are = sym (append-nil (own (knows p).number (knows p).seen));
      leaving = cut_none (Leaving (knows p).number) (some_acts (((knows p).number, Leave) ∷ []));
      tells = tells;
    },
  )

  -- once it has left
  pub kept_left : (p : P) (h : List Entry) → Good (knows p).number h → Grew (Leaving (knows p).number) (own (knows p).number (knows p).seen) (own (knows p).number h)
      → Tells p (own (knows p).number (knows p).seen) → IsKept Good knows Tells (knows p).number h
  kept_left p h good g tells = (
    good,
    record {
      pass = p;
      number = refl;
      told = own (knows p).number (knows p).seen;
      rest = g.0;
      are = g.1;
      leaving = cut_whole (Leaving (knows p).number) g.0 g.2;
      tells = tells;
    },
  )

  -- of each worker
  pub kept_hands : (ws : List (Worker P)) → AllByRecursion (λ w. IsKept Good knows Tells (knows w.pass).number (knows w.pass).seen) ws
      → (i : ℕ) → i < length (map (hand knows) ws) → IsKept Good knows Tells (worker_at (map (hand knows) ws) i).known.number (worker_at (map (hand knows) ws) i).known.seen
  kept_hands ws all = all_images (hand knows) (λ (h : Hand). IsKept Good knows Tells h.known.number h.known.seen) ws all
