-- What performing a script leaves.
use Rattle.std.proofs.Common.{◌≡◌, ◌≢◌, ◌⊎◌, inl, inr, ℕ, zero, suc, List, [], ◌++◌, take, Option, Some, None, refl, sym, ap, ◌∙◌, subst, arith}
use Rattle.std.specs.Prelude.{Result, Ok, Err, IsSome, true, false}
use Rattle.ws_outside.specs.Faults.{Rose}
use Rattle.ws_outside.specs.Streams.{Gains, GainsFront}
use Rattle.sched_rules.specs.Atoms.{atom_contains, atom_conflicts}
use Rattle.rule_table.specs.Tables.{IsApart}
use Rattle.core_event.specs.declared.entry.Entry.{Entry}
use Rattle.save_round.specs.Told.{Told as PartTold}
use Rattle.save_round.specs.Restoring.{kept_for_each, names}
use Rattle.ws_top.proofs.KeptAlike.{kept_alike}
use Rattle.builder_api.specs.Told.{Told}
use Rattle.run_text.specs.declared.writing.Unwritten.{Unwritten}
use Rattle.run_text.specs.declared.writing.Unwritten.TheVariants.{Fault, Memory}
use Rattle.ws_durable.specs.declared.durable.Durable.{Durable}
use Rattle.ws_core.specs.States.{Moment}
use Rattle.ws_core.specs.Durables.{kept_since}
use Rattle.ws_core.specs.Histories.{replay}
use Rattle.phase_run.specs.Calm.{IsCalm}
use Rattle.ws_top.specs.Inside.Parts.{WritesRun, Nothing, Same, Performs}
use Rattle.ws_opening.specs.Opened.{opened_state}
use Rattle.ws_top.specs.Outcomes.{IsUnwritten, WasRun, TellsWriteFault, IsOneThread, DoesScript, WritesText, Writes}
use Rattle.ws_top.specs.declared.report.Telling.{Telling}
use Rattle.ws_top.specs.declared.report.Telling.TheVariants.{All, Summary}
use Rattle.ws_top.specs.Texts.{Report, report_of, restored_blocks, restored_text, done_from, text, cut_text, status_line}
use Rattle.ws_top.proofs.Fronts.{front_part, front_of_writes, all_is_front}
use Rattle.ws_top.proofs.Statuses.{run_of_unwritten, unrun, unwritten_other}

pub none_at : {A : Type 0} (n s t : ℕ) → n ≡ s → n ≡ t → s ≢ t → A
none_at n s t e f d = absurd (d (sym e ∙ f))

8≢0 : ◌≢◌ {A = ℕ} 8 0
8≢0 e = omega (arith, e)

8≢4 : ◌≢◌ {A = ℕ} 8 4
8≢4 e = omega (arith, e)

8≢5 : ◌≢◌ {A = ℕ} 8 5
8≢5 e = omega (arith, e)

4≢0 : ◌≢◌ {A = ℕ} 4 0
4≢0 e = omega (arith, e)

4≢5 : ◌≢◌ {A = ℕ} 4 5
4≢5 e = omega (arith, e)

4≢8 : ◌≢◌ {A = ℕ} 4 8
4≢8 e = omega (arith, e)

-- the status of a run that was written whole is not one of these
not_4 : {A : Type 0} (n s : ℕ) → n ≡ s → IsUnwritten s → n ≡ 4 → A
not_4 n s e u k = absurd (unwritten_other s 4 u (λ d. omega (arith, d)) (λ d. omega (arith, d)) (sym e ∙ k))

not_8 : {A : Type 0} (n s : ℕ) → n ≡ s → IsUnwritten s → n ≡ 8 → A
not_8 n s e u k = absurd (unwritten_other s 8 u (λ d. omega (arith, d)) (λ d. omega (arith, d)) (sym e ∙ k))

-- nothing was done from the opened state
pub thread_none : (kept : Option Durable) (told : List Told) (h : List Entry) → h ≡ [] → IsOneThread (opened_state kept told) h
thread_none kept told h e = subst (λ (k : List Entry). IsOneThread (opened_state kept told) k) (sym e) (record {
  legal = record { replies = refl; entered = refl; events = refl };
  told = refl;
  apart = λ n. subst (λ (l : List Entry). IsApart atom_contains atom_conflicts (replay (opened_state kept told) l).manager.passes.rules) (sym (take_nil n)) tt;
})
  where
    none : List Entry
    none = []

    take_nil : (n : ℕ) → take n none ≡ none
    take_nil zero = refl
    take_nil (suc n) = refl

-- no build wanted memory
pub calm_none : (h : List Entry) → h ≡ [] → IsCalm h
calm_none h e = subst IsCalm (sym e) tt

module _ (kept : Option Durable) (report : Report) (a b : Option (List ℕ)) (f g n : ℕ) where
  -- no script was run at 8
  not_run_at_8 : {A : Type 0} → n ≡ 8 → WasRun kept n → A
  not_run_at_8 e r = unrun kept n 8 e 8≢0 8≢4 8≢5 r

  -- the text of a want of memory, by some front of it
  text_at_8 : (opened : Moment) (h : List Entry) → n ≡ 8 → GainsFront a (cut_text kept report opened h) b → WritesText kept report opened a b n h
  text_at_8 opened h e w = record {
    all_at_0 = λ z. none_at n 8 0 e z 8≢0;
    all_at_5 = λ z some. none_at n 8 5 e z 8≢5;
    front_at_4 = λ z. none_at n 8 4 e z 8≢4;
    front_at_8 = λ _. w;
  }

  fault_at_8 : (W : Type 0) → n ≡ 8 → (g ≡ f) ⊎ W → TellsWriteFault kept f g n W
  fault_at_8 W e w = record {
    rose_at_4 = λ r. none_at n 8 4 e r 8≢4;
    calm_at_0 = λ z. none_at n 8 0 e z 8≢0;
    calm_at_5 = λ z some. none_at n 8 5 e z 8≢5;
    calm_or_later_at_8 = λ _. w;
  }

  done_at_8 : (Whole Front : List Entry → Type 0) (h : List Entry) → n ≡ 8 → (h ≡ []) ⊎ Front h → DoesScript Whole Front kept n h
  done_at_8 Whole Front h e d = record { all_if_run = λ r. not_run_at_8 e r; some_at_8 = λ _. d }

  -- memory wanted before anything was done
  pub performs_nothing : (told : List Told) (h : List Entry) → n ≡ 8 → h ≡ [] → kept ≡ None → Writes a b f g (status_line 8)
      → Performs Nothing Nothing Nothing kept report (opened_state kept told) a b f g n h
  performs_nothing told h e z none w = record {
    ends = inr e;
    fault = fault_at_8 ((h ≡ []) ⊎ Nothing h) e (inr (inl z));
    done = done_at_8 Nothing Nothing h e (inl z);
    thread = thread_none kept told h z;
    text = text_at_8 (opened_state kept told) h e (subst (λ k. GainsFront a (cut_text k report (opened_state kept told) h) b) (sym none) (front_of_writes a b f g (status_line 8) w));
    calm = λ no. absurd (no e);
  }

  -- the whole text was written
  pub performs_all : (s : ℕ) (opened : Moment) (d h : List Entry) → IsSome kept → IsUnwritten s → n ≡ s → h ≡ d → IsOneThread opened h → IsCalm d
      → Gains a (text report opened d s) b × (g ≡ f) → Performs (Same d) (Same d) Nothing kept report opened a b f g n h
  performs_all s opened d h some u e k t calm w = record {
    ends = inl (subst (WasRun kept) (sym e) (run_of_unwritten kept s some u));
    fault = record {
      rose_at_4 = λ z. not_4 n s e u z;
      calm_at_0 = λ _. w.1;
      calm_at_5 = λ _ _. w.1;
      calm_or_later_at_8 = λ z. not_8 n s e u z;
    };
    done = record { all_if_run = λ _. k; some_at_8 = λ z. not_8 n s e u z };
    thread = t;
    text = record {
      all_at_0 = λ z. whole 0 z;
      all_at_5 = λ z _. whole 5 z;
      front_at_4 = λ z. not_4 n s e u z;
      front_at_8 = λ z. not_8 n s e u z;
    };
    calm = λ _. subst IsCalm (sym k) calm;
  }
    where
      whole : (m : ℕ) → n ≡ m → Gains a (text report opened h m) b
      whole m z = subst (λ (x : List Entry). Gains a (text report opened x m) b) (sym k) (subst (λ (l : ℕ). Gains a (text report opened d l) b) (sym e ∙ z) w.0)

  -- a write of it failed
  pub performs_fault : (s : ℕ) (opened : Moment) (d h : List Entry) → IsUnwritten s → n ≡ 4 → h ≡ d → IsOneThread opened h → IsCalm d
      → GainsFront a (text report opened d s) b × Rose f g → Performs (Same d) (Same d) Nothing kept report opened a b f g n h
  performs_fault s opened d h u e k t calm w = record {
    ends = inl (inr (inl e));
    fault = record {
      rose_at_4 = λ _. w.1;
      calm_at_0 = λ z. none_at n 4 0 e z 4≢0;
      calm_at_5 = λ z some. none_at n 4 5 e z 4≢5;
      calm_or_later_at_8 = λ z. none_at n 4 8 e z 4≢8;
    };
    done = record { all_if_run = λ _. k; some_at_8 = λ z. none_at n 4 8 e z 4≢8 };
    thread = t;
    text = record {
      all_at_0 = λ z. none_at n 4 0 e z 4≢0;
      all_at_5 = λ z some. none_at n 4 5 e z 4≢5;
      front_at_4 = λ _. (s, u, subst (λ (x : List Entry). GainsFront a (text report opened x s) b) (sym k) w.0);
      front_at_8 = λ z. none_at n 4 8 e z 4≢8;
    };
    calm = λ _. subst IsCalm (sym k) calm;
  }

  some_cut : (opened : Moment) (h : List Entry) → IsSome kept → cut_text kept report opened h ≡ text report opened h 8
  some_cut opened h some = by kept some
    where
      by : (k : Option Durable) → IsSome k → cut_text k report opened h ≡ text report opened h 8
      by None e = let no : false ≡ true = e in cc
      by (Some d) e = refl

  cut_of : (opened : Moment) (d h : List Entry) → IsSome kept → h ≡ d → GainsFront a (text report opened d 8) b → GainsFront a (cut_text kept report opened h) b
  cut_of opened d h some k w = subst (λ (t : List ℕ). GainsFront a t b) (sym (some_cut opened h some)) (subst (λ (x : List Entry). GainsFront a (text report opened x 8) b) (sym k) w)

  -- memory wanted while it was printed
  pub performs_want : (opened : Moment) (d h : List Entry) → IsSome kept → n ≡ 8 → h ≡ d → IsOneThread opened h
      → GainsFront a (report opened d) b × (g ≡ f) → Performs (Same d) (Same d) Nothing kept report opened a b f g n h
  performs_want opened d h some e k t w = record {
    ends = inr e;
    fault = fault_at_8 ((h ≡ []) ⊎ Nothing h) e (inl w.1);
    done = done_at_8 (Same d) (Same d) h e (inr k);
    thread = t;
    text = text_at_8 opened h e (cut_of opened d h some k (front_part a b (report opened d) (status_line 8) w.0));
    calm = λ no. absurd (no e);
  }

  front_of_run : {T : Type 0} (opened : Moment) (d : List Entry) (m : ℕ) (r : Result T Unwritten) → WritesRun a b f g report opened d m r → GainsFront a (text report opened d m) b
  front_of_run opened d m (Ok x) w = all_is_front a b (text report opened d m) w.0
  front_of_run opened d m (Err Fault) w = w.0
  front_of_run opened d m (Err Memory) w = front_part a b (report opened d) (status_line m) w.0

  -- memory wanted before the script's end
  pub performs_cut : {T : Type 0} (opened : Moment) (d h : List Entry) (r : Result T Unwritten) → IsSome kept → n ≡ 8 → h ≡ d → IsOneThread opened h
      → WritesRun a b f g report opened d 8 r → Performs Nothing (Same d) (Same d) kept report opened a b f g n h
  performs_cut opened d h r some e k t w = record {
    ends = inr e;
    fault = fault_at_8 ((h ≡ []) ⊎ Same d h) e (inr (inr k));
    done = done_at_8 Nothing (Same d) h e (inr k);
    thread = t;
    text = text_at_8 opened h e (cut_of opened d h some k (front_of_run opened d 8 r w));
    calm = λ no. absurd (no e);
  }

pub right_of : {A B C : Type 0} → (B → C) → A ⊎ B → A ⊎ C
right_of m (inl x) = inl x
right_of m (inr y) = inr (m y)

module _ (A F S B G T : List Entry → Type 0) (kept : Option Durable) (report : Report) (opened : Moment) (a b : Option (List ℕ)) (f g n : ℕ) (h : List Entry) where
  -- the same, said of the histories in other words
  pub performs_as : (A h → B h) → (F h → G h) → (S h → T h) → Performs A F S kept report opened a b f g n h → Performs B G T kept report opened a b f g n h
  performs_as all some stopped p = record {
    ends = p.ends;
    fault = record {
      rose_at_4 = p.fault.rose_at_4;
      calm_at_0 = p.fault.calm_at_0;
      calm_at_5 = p.fault.calm_at_5;
      calm_or_later_at_8 = λ e. right_of (right_of stopped) (p.fault.calm_or_later_at_8 e);
    };
    done = record { all_if_run = λ r. all (p.done.all_if_run r); some_at_8 = λ e. right_of some (p.done.some_at_8 e) };
    thread = p.thread;
    text = p.text;
    calm = p.calm;
  }

-- nothing was done, said of other histories
pub performs_none : (A F S : List Entry → Type 0) (kept : Option Durable) (report : Report) (opened : Moment) (a b : Option (List ℕ)) (f g n : ℕ) (h : List Entry)
    → Performs Nothing Nothing Nothing kept report opened a b f g n h → Performs A F S kept report opened a b f g n h
performs_none A F S kept report opened a b f g n h p = performs_as Nothing Nothing Nothing A F S kept report opened a b f g n h (λ x. absurd x) (λ x. absurd x) (λ x. absurd x) p

-- ---- participants of the same names

restored_alike : (opened : Moment) (ps qs : List PartTold) → names qs ≡ names ps → restored_text opened qs ≡ restored_text opened ps
restored_alike opened ps qs e = ap restored_blocks (kept_alike (kept_since opened) ps qs e)

-- what is told is the same
pub report_alike : (how : Telling) (opened : Moment) (h : List Entry) (ps qs : List PartTold) → names qs ≡ names ps → report_of how qs opened h ≡ report_of how ps opened h
report_alike All opened h ps qs e = ap (λ r. r ++ done_from opened h) (restored_alike opened ps qs e)
report_alike Summary opened h ps qs e = refl

-- by another report that tells the same of this history
pub performs_for : (A F S : List Entry → Type 0) (kept : Option Durable) (r q : Report) (opened : Moment) (a b : Option (List ℕ)) (f g n : ℕ) (h : List Entry) → q opened h ≡ r opened h
    → Performs A F S kept q opened a b f g n h → Performs A F S kept r opened a b f g n h
performs_for A F S kept r q opened a b f g n h same p = record {
  ends = p.ends;
  fault = p.fault;
  done = p.done;
  thread = p.thread;
  text = record {
    all_at_0 = λ z. subst (λ t. Gains a (t ++ status_line 0) b) same (p.text.all_at_0 z);
    all_at_5 = λ z some. subst (λ t. Gains a (t ++ status_line 5) b) same (p.text.all_at_5 z some);
    front_at_4 = λ z. let t = p.text.front_at_4 z in (t.0, t.1, subst (λ u. GainsFront a (u ++ status_line t.0) b) same t.2);
    front_at_8 = λ z. by kept (p.text.front_at_8 z);
  };
  calm = p.calm;
}
  where
    by : (k : Option Durable) → GainsFront a (cut_text k q opened h) b → GainsFront a (cut_text k r opened h) b
    by None w = w
    by (Some d) w = subst (λ t. GainsFront a (t ++ status_line 8) b) same w
