-- How a phase comes to be whole, or cut.
use Rattle.std.proofs.Common.{◌≡◌, ◌∙◌, inl, ◌<◌, ◌+◌, ℕ, zero, suc, Bool, true, false, ◌||◌, true≢false, List, [], ◌∷◌, length, map, refl, sym, subst, arith}
use Rattle.std.specs.List.{list_any}
use Rattle.core_event.specs.declared.entry.Entry.{Entry}
use Rattle.job_queue.specs.Queues.{live}
use Rattle.job_pool.specs.Workers.{Pairs}
use Rattle.ws_core.specs.States.{Moment}
use Rattle.ws_core.specs.Histories.{replay, Legal}
use Rattle.run_order.specs.Lists.{acts, own, Cut, Grew}
use Rattle.run_order.specs.Plans.{Phase}
use Rattle.run_order.specs.Parts.{Making, Parts}
use Rattle.run_order.specs.Orders.{cancelled, scheduled, sleepers, IsCutPhase, IsPhase}
use Rattle.run_order.proofs.Lists.{cut_none, cut_whole, some_acts}
use Rattle.run_order.proofs.Parts.{parts_none}
use Rattle.run_order.proofs.Quiet.{LetsNobodyIn}
use Rattle.run_order.proofs.Meetings.{cut_phase_at, looked, phase_at}
use Rattle.phase_pool.specs.Passes.{Known, Makes, Finds}
use Rattle.phase_pool.specs.Workers.{AllGoOn, Hand, Together, nobody, worker_at}
use Rattle.phase_pool.specs.Phases.{Came}
use Rattle.phase_pool.specs.Inside.Going.{Went, Works}
use Rattle.phase_pool.specs.Inside.Laws.{makes_none}
use Rattle.phase_pool.specs.Inside.Meeting.{Gathers, HasSeen}
use Rattle.phase_pool.proofs.Pairs.{pairs_at, pairs_len}
use Rattle.phase_pool.proofs.Passes.{looks_same, makes_wider}
use Rattle.phase_pool.proofs.Stages.{Stages, grew_each, grew_first, grew_last, len_4, met, settled, together}

grew_wider : (P Q : List Entry → Type 0) (m m' : List Entry) → ((h : List Entry) → P h → Q h) → Grew P m m' → Grew Q m m'
grew_wider P Q m m' f g = (g.0, g.1, f g.0 g.2)

-- ---- who goes on

pub go_on_gathered : (k k' : Known) (vs ws : List Hand) → Gathers k k' vs ws → AllGoOn vs → AllGoOn ws
go_on_gathered k k' vs ws g all i lt =
    let there = subst (λ n. i < n) (pairs_len (HasSeen k'.seen) vs ws g.workers) lt in
    (pairs_at (HasSeen k'.seen) vs ws i nobody there g.workers).stopped ∙ all i there

neither : (a b : Bool) → (a || b) ≡ false → (a ≡ false) × (b ≡ false)
neither false b e = (refl, e)
neither true b e = absurd (true≢false e)

pub go_on_all : {W : Type 0} (f : W → Hand) (ws : List W) → list_any (λ w. (f w).stopped) ws ≡ false → AllGoOn (map f ws)
go_on_all f [] e i lt = absurd (omega (arith, lt))
go_on_all f (w ∷ ws) e zero lt = (neither (f w).stopped (list_any (λ w. (f w).stopped) ws) e).0
go_on_all f (w ∷ ws) e (suc i) lt = go_on_all f ws (neither (f w).stopped (list_any (λ w. (f w).stopped) ws) e).1 i (omega (arith, lt))

went_on_before : (k k' : Known) (vs ws : List Hand) → Gathers k k' vs ws → AllGoOn ws → AllGoOn vs
went_on_before k k' vs ws g all i lt =
    sym (pairs_at (HasSeen k'.seen) vs ws i nobody lt g.workers).stopped ∙ all i (subst (λ n. i < n) (sym (pairs_len (HasSeen k'.seen) vs ws g.workers)) lt)

-- ---- where nothing is new, all have met still

met_still : (h : List Entry) (vs ws : List Hand) → Pairs (HasSeen h) vs ws → Pairs (HasSeen h) ws ws
met_still h [] [] t = tt
met_still h [] (w ∷ ws) t = absurd t
met_still h (v ∷ vs) [] t = absurd t
met_still h (v ∷ vs) (w ∷ ws) t = (record { looks = looks_same w.known; seen = t.0.seen; stopped = refl }, met_still h vs ws t.1)

gathers_still : (k k' : Known) (vs ws : List Hand) → Gathers k k' vs ws → Gathers k' k' ws ws
gathers_still k k' vs ws g = record { looks = looks_same k'; workers = met_still k'.seen vs ws g.workers; one = inl refl }

module _ {C : Type 0} (Made : Making C) (quiet : LetsNobodyIn Made) (jobs : Phase C) (s : Moment) where
  abbrev pub Scheduling : List Entry → Type 0
  Scheduling h = acts h ≡ map scheduled jobs

  abbrev pub Cancelling : Moment → List Entry → Type 0
  Cancelling m h = acts h ≡ map cancelled (sleepers m jobs)

  abbrev pub Partly : ℕ → List Entry → Type 0
  Partly k h = Cut (Parts Made jobs k) h

  abbrev pub Uncancelled : Moment → List Entry → Type 0
  Uncancelled m h = Cut (Cancelling m) h

  -- ---- what each worker made

  went_some : (k : ℕ) (b : Bool) (h : List Entry) → Went Made jobs k false b h → Partly k h
  went_some k false h p = cut_whole (Parts Made jobs k) h p
  went_some k true h p = p

  worked_some : (ws xs : List Hand) → AllGoOn ws → Pairs (Works Made jobs s) ws xs
      → (i : ℕ) → i < length ws → Makes (Partly (worker_at ws i).known.number) (worker_at ws i).known (worker_at xs i).known
  worked_some ws xs all p i lt =
      let v = worker_at ws i in
      let w = worker_at xs i in
      makes_wider (Went Made jobs v.known.number false w.stopped) (Partly v.known.number) v.known w.known (went_some v.known.number w.stopped)
      (subst (λ b. Makes (Went Made jobs v.known.number b w.stopped) v.known w.known) (all i lt) (pairs_at (Works Made jobs s) ws xs i nobody lt p).went)

  worked_whole : (ws xs : List Hand) → AllGoOn ws → AllGoOn xs → Pairs (Works Made jobs s) ws xs
      → (i : ℕ) → i < length ws → Makes (Parts Made jobs (worker_at ws i).known.number) (worker_at ws i).known (worker_at xs i).known
  worked_whole ws xs all all' p i lt =
      let v = worker_at ws i in
      let w = worker_at xs i in
      subst (λ b. Makes (Went Made jobs v.known.number false b) v.known w.known) (all' i (subst (λ n. i < n) (sym (pairs_len (Works Made jobs s) ws xs p)) lt))
      (subst (λ b. Makes (Went Made jobs v.known.number b w.stopped) v.known w.known) (all i lt) (pairs_at (Works Made jobs s) ws xs i nobody lt p).went)

  worked_none : (ws : List Hand) (i : ℕ) → i < length ws → Makes (Partly (worker_at ws i).known.number) (worker_at ws i).known (worker_at ws i).known
  worked_none ws i lt = let k = (worker_at ws i).known in makes_none (Partly k.number) k (cut_whole (Parts Made jobs k.number) [] (parts_none Made jobs k.number))

  -- nothing was cancelled yet
  none_cancelled : (k : Known) → Finds s Uncancelled k k
  none_cancelled k = record { found = k; looked = looks_same k; made = makes_none (Uncancelled (replay s k.seen)) k (cut_none (Cancelling (replay s k.seen)) (some_acts (map cancelled (sleepers (replay s k.seen) jobs)))) }

  -- ---- by the stages

  module _ {k0 k5 : Known} {w0 w4 : List Hand} where
    cut_by : Stages s (Cut Scheduling) Partly Uncancelled k0 k5 w0 w4 → Came s (IsCutPhase Made (length w0) jobs (replay s k0.seen)) k0 w0 k5 w4
    cut_by x =
        let r = cut_phase_at Made quiet (length w0) jobs s k0.seen x.k2.seen x.k3.seen x.last.found.seen k5.seen (met x) (grew_first x) (grew_each x) (grew_last x) in
        record { len = len_4 x; together = together x r.0; grew = r.1 }

    whole_by : 0 < length w0 → (x : Stages s Scheduling (Parts Made jobs) Cancelling k0 k5 w0 w4)
        → ((i : ℕ) → i < length x.w2 → live (replay s (worker_at x.w2 i).known.seen).manager.jobs ≡ 0) → Came s (IsPhase Made (length w0) jobs (replay s k0.seen)) k0 w0 k5 w4
    whole_by any x over =
        let found = x.last.found.seen in
        let m = met x in
        let front = (cut_phase_at Made quiet (length w0) jobs s k0.seen x.k2.seen x.k3.seen found k5.seen m
        (grew_wider Scheduling (Cut Scheduling) (own 0 k0.seen) (own 0 x.k2.seen) (cut_whole Scheduling) (grew_first x))
        (λ i lt. grew_wider (Parts Made jobs (i + 1)) (Partly (i + 1)) (own (i + 1) x.k2.seen) (own (i + 1) x.k3.seen) (cut_whole (Parts Made jobs (i + 1))) (grew_each x i lt))
        (grew_wider (Cancelling (replay s found)) (Uncancelled (replay s found)) (own 0 x.k3.seen) (own 0 k5.seen) (cut_whole (Cancelling (replay s found))) (grew_last x))).0 in
        let is = looked (length w0) s x.k3.seen found k5.seen front m.to_looked m.to_last m.rest_looked m.rest_last in
        let r = phase_at Made quiet (length w0) jobs s k0.seen x.k2.seen x.k3.seen found k5.seen m (grew_first x) (grew_each x)
        (subst (λ h. live (replay s h).manager.jobs ≡ 0) (sym is) (settled x any over)) (grew_last x) in
        record { len = len_4 x; together = together x r.0; grew = r.1 }

  module _ (k0 k1 k2 : Known) (w0 w1 : List Hand) (t : Together s k0 w0) (met_1 : Gathers k1 k2 w0 w1) (legal_2 : Legal s k2.seen) where
    -- memory wanted as the jobs were scheduled
    pub cut_scheduling : Makes (Cut Scheduling) k0 k1 → Came s (IsCutPhase Made (length w0) jobs (replay s k0.seen)) k0 w0 k2 w1
    cut_scheduling first = let still = gathers_still k1 k2 w0 w1 met_1 in cut_by (record {
      k1 = k1;
      k2 = k2;
      k3 = k2;
      k4 = k2;
      w1 = w1;
      w2 = w1;
      w3 = w1;
      begun = t;
      first = first;
      met_1 = met_1;
      same = refl;
      worked = worked_none w1;
      met_2 = still;
      last = none_cancelled k2;
      met_3 = still;
      legal_2 = legal_2;
      legal_3 = legal_2;
      legal_5 = legal_2;
    })

    module _ (first : Makes Scheduling k0 k1) (all : AllGoOn w0) (k3 : Known) (w2 w3 : List Hand) (worked : Pairs (Works Made jobs s) w1 w2) (met_2 : Gathers k2 k3 w2 w3) (legal_3 : Legal s k3.seen) where
      all_1 : AllGoOn w1
      all_1 = go_on_gathered k1 k2 w0 w1 met_1 all

      cut_after : (k4 k5 : Known) (w4 : List Hand) → Finds s Uncancelled k3 k4 → Gathers k4 k5 w3 w4 → Legal s k5.seen → Stages s (Cut Scheduling) Partly Uncancelled k0 k5 w0 w4
      cut_after k4 k5 w4 last met_3 legal_5 = record {
        k1 = k1;
        k2 = k2;
        k3 = k3;
        k4 = k4;
        w1 = w1;
        w2 = w2;
        w3 = w3;
        begun = t;
        first = makes_wider Scheduling (Cut Scheduling) k0 k1 (cut_whole Scheduling) first;
        met_1 = met_1;
        same = pairs_len (Works Made jobs s) w1 w2 worked;
        worked = worked_some w1 w2 all_1 worked;
        met_2 = met_2;
        last = last;
        met_3 = met_3;
        legal_2 = legal_2;
        legal_3 = legal_3;
        legal_5 = legal_5;
      }

      -- it wanted for a worker
      pub cut_working : Came s (IsCutPhase Made (length w0) jobs (replay s k0.seen)) k0 w0 k3 w3
      cut_working = cut_by (cut_after k3 k3 w3 (none_cancelled k3) (gathers_still k2 k3 w2 w3 met_2) legal_3)

      module _ (k4 k5 : Known) (w4 : List Hand) (met_3 : Gathers k4 k5 w3 w4) (legal_5 : Legal s k5.seen) where
        -- it wanted as the jobs that sleep were cancelled
        pub cut_cancelling : Finds s (λ m. Cut (λ h. acts h ≡ map cancelled (sleepers m jobs))) k3 k4 → Came s (IsCutPhase Made (length w0) jobs (replay s k0.seen)) k0 w0 k5 w4
        cut_cancelling last = cut_by (cut_after k4 k5 w4 last met_3 legal_5)

        -- it didn't want
        pub whole : 0 < length w0 → AllGoOn w3 → Finds s (λ m h. acts h ≡ map cancelled (sleepers m jobs)) k3 k4 → Came s (IsPhase Made (length w0) jobs (replay s k0.seen)) k0 w0 k5 w4
        whole any all_3 last =
            let all_2 = went_on_before k2 k3 w2 w3 met_2 all_3 in
            let same = pairs_len (Works Made jobs s) w1 w2 worked in
            whole_by any (record {
              k1 = k1;
              k2 = k2;
              k3 = k3;
              k4 = k4;
              w1 = w1;
              w2 = w2;
              w3 = w3;
              begun = t;
              first = first;
              met_1 = met_1;
              same = same;
              worked = worked_whole w1 w2 all_1 all_2 worked;
              met_2 = met_2;
              last = last;
              met_3 = met_3;
              legal_2 = legal_2;
              legal_3 = legal_3;
              legal_5 = legal_5;
            })
            (λ i lt. (pairs_at (Works Made jobs s) w1 w2 i nobody (subst (λ n. i < n) same lt) worked).over (all_2 i lt))
