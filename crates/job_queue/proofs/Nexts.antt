-- The job that comes next is the first in turn whose rule is free.
use Rattle.std.proofs.Common.{◌≡◌, ◌≢◌, ℕ, Bool, true, false, cond, ◌&&◌, List, [], ◌∷◌, refl, sym, ap, ◌∙◌, subst, ◌⊎◌, inl, inr}
use Rattle.std.specs.Prelude.{Option, Some, None, T, filter, find}
use Rattle.std.specs.Option.{IsSomeAnd, option_map}
use Rattle.std.specs.Ordering.{is_lt, ordering_reverse, eq_by_cmp}
use Rattle.std.specs.declared.cmp.Ordering.{Ordering}
use Rattle.std.specs.declared.cmp.Ordering.TheVariants.{Less, Equal, Greater}
use Rattle.std.specs.FinMap.{get, get-entries, entries, entries_sorted, find as look, is_sorted}
use Rattle.rule_table.specs.declared.held.Held.{Held}
use Rattle.job_queue.specs.declared.state.JobState.TheVariants.{Waiting}
use Rattle.job_queue.specs.declared.job.Job.{Job}
use Rattle.job_queue.specs.declared.job.Turn.{Turn}
use Rattle.job_queue.specs.States.{is_waiting}
use Rattle.job_queue.specs.Turns.{turn_cmp, turn_cmp_total, turn_cmp_exact}
use Rattle.job_queue.specs.Queues.{name_cmp, Jobs, Queue, may_start, earlier, earliest, next_name, ComesNext}
use Rattle.job_queue.specs.Inside.Kept.{Turns, IsKept, has_free}
use Rattle.job_queue.proofs.Named.{name_cmp_total, name_cmp_exact}
use Rattle.job_queue.proofs.Found.{second, differ, not_Some, same_Some, itself, apart_from, found_behind, found_first, by_place, find_none, find_some}
use Rattle.job_queue.proofs.Keeping.{waits}

left : (a b : Bool) → (a && b) ≡ true → a ≡ true
left true b h = refl
left false b h = h

right : (a b : Bool) → (a && b) ≡ true → b ≡ true
right true b h = h
right false b h = absurd (differ (sym h))

-- ---- the definition, on entries in the order of names

module _ {A : Type 0} (p : Job A → Bool) where
  abbrev Entry : Type 0
  Entry = List ℕ × Job A

  passing : List Entry → List Entry
  passing es = filter (λ e. p e.1) es

  pub none_earliest : (es : List Entry) → T (is_sorted name_cmp es) → ((n : List ℕ) (job : Job A) → look name_cmp n es ≡ Some job → p job ≡ false) → earliest (filter (λ e. p e.1) es) ≡ None
  none_earliest [] s h = refl
  none_earliest (e ∷ es) s h =
      ap (λ b. earliest (cond b (e ∷ filter (λ e. p e.1) es) (filter (λ e. p e.1) es))) (h e.0 e.1 (found_first name_cmp_total name_cmp_exact e es))
      ∙ none_earliest es (second _ _ s) (λ n job g. h n job (found_behind name_cmp_total name_cmp_exact e es s n job g))

  pub record IsOne (es : List Entry) (e : Entry) : Type 0 where
    pub there : look name_cmp e.0 es ≡ Some e.1
    pub passes : p e.1 ≡ true

  pub one_of : (es : List Entry) → T (is_sorted name_cmp es) → (e : Entry) → earliest (filter (λ e. p e.1) es) ≡ Some e → IsOne es e
  one_of [] s e h = absurd (not_Some e h)
  one_of (f ∷ es) s e h = by (p f.1) refl h (λ g. behind (one_of es (second _ _ s) e g))
    where
      behind : IsOne es e → IsOne (f ∷ es) e
      behind r = record { there = found_behind name_cmp_total name_cmp_exact f es s e.0 e.1 r.there; passes = r.passes }

      of_two : (o : Option Entry) → earliest (filter (λ e. p e.1) es) ≡ o → p f.1 ≡ true → earlier f o ≡ Some e → (earliest (filter (λ e. p e.1) es) ≡ Some e → IsOne (f ∷ es) e) → IsOne (f ∷ es) e
      of_two None i t g rest = subst (IsOne (f ∷ es)) (same_Some f e g) (record { there = found_first name_cmp_total name_cmp_exact f es; passes = t })
      of_two (Some x) i t g rest = of_test (is_lt (turn_cmp x.1.turn f.1.turn)) g
        where
          of_test : (b : Bool) → cond b (Some x) (Some f) ≡ Some e → IsOne (f ∷ es) e
          of_test true u = rest (i ∙ u)
          of_test false u = subst (IsOne (f ∷ es)) (same_Some f e u) (record { there = found_first name_cmp_total name_cmp_exact f es; passes = t })

      by : (b : Bool) → p f.1 ≡ b → earliest (cond b (f ∷ filter (λ e. p e.1) es) (filter (λ e. p e.1) es)) ≡ Some e → (earliest (filter (λ e. p e.1) es) ≡ Some e → IsOne (f ∷ es) e) → IsOne (f ∷ es) e
      by true t g rest = of_two (earliest (filter (λ e. p e.1) es)) refl t g rest
      by false t g rest = rest g

  abbrev IsLeast : List Entry → List ℕ → Job A → Type 0
  IsLeast es n job = (m : List ℕ) (other : Job A) → look name_cmp m es ≡ Some other → p other ≡ true → (m ≡ n) ⊎ (turn_cmp job.turn other.turn ≡ Less)

  pub earliest_is : (es : List Entry) → T (is_sorted name_cmp es) → (n : List ℕ) (job : Job A) → look name_cmp n es ≡ Some job → p job ≡ true → IsLeast es n job
      → earliest (filter (λ e. p e.1) es) ≡ Some (n, job)
  earliest_is [] s n job h t least = absurd (not_Some job h)
  earliest_is (f ∷ es) s n job h t least = by_place name_cmp_total name_cmp_exact f es n job h here (λ g. there g (earliest_is es (second _ _ s) n job g t (λ m other l u. least m other (behind m other l) u)))
    where
      behind : (m : List ℕ) (other : Job A) → look name_cmp m es ≡ Some other → look name_cmp m (f ∷ es) ≡ Some other
      behind m other l = found_behind name_cmp_total name_cmp_exact f es s m other l

      not_less : (a b : Turn) → turn_cmp a b ≡ Less → is_lt (turn_cmp b a) ≡ false
      not_less a b h = ap is_lt (turn_cmp_total.antisymm b a ∙ ap ordering_reverse h)

      is_less : (a b : Turn) → turn_cmp a b ≡ Less → is_lt (turn_cmp a b) ≡ true
      is_less a b h = ap is_lt h

      -- it is the first entry
      here : n ≡ f.0 → job ≡ f.1 → earliest (filter (λ e. p e.1) (f ∷ es)) ≡ Some (n, job)
      here a b = ap (λ c. earliest (cond c (f ∷ filter (λ e. p e.1) es) (filter (λ e. p e.1) es))) (ap p (sym b) ∙ t) ∙ by (earliest (filter (λ e. p e.1) es)) refl ∙ (λ i. Some (sym a i, sym b i))
        where
          by : (o : Option Entry) → earliest (filter (λ e. p e.1) es) ≡ o → earlier f o ≡ Some f
          by None i = refl
          by (Some x) i = of_one (one_of es (second _ _ s) x i)
            where
              of_one : IsOne es x → cond (is_lt (turn_cmp x.1.turn f.1.turn)) (Some x) (Some f) ≡ Some f
              of_one r = of_either (least x.0 x.1 (behind x.0 x.1 r.there) r.passes)
                where
                  of_either : (x.0 ≡ n) ⊎ (turn_cmp job.turn x.1.turn ≡ Less) → cond (is_lt (turn_cmp x.1.turn f.1.turn)) (Some x) (Some f) ≡ Some f
                  of_either (inl e) = absurd (differ (sym (itself name_cmp_total f.0) ∙ ap (λ k. eq_by_cmp name_cmp k f.0) (sym (e ∙ a)) ∙ apart_from name_cmp_total name_cmp_exact f es s x.0 x.1 r.there))
                  of_either (inr l) = ap (λ c. cond c (Some x) (Some f)) (not_less f.1.turn x.1.turn (ap (λ (j : Job A). turn_cmp j.turn x.1.turn) (sym b) ∙ l))

      -- it is behind
      there : look name_cmp n es ≡ Some job → earliest (filter (λ e. p e.1) es) ≡ Some (n, job) → earliest (filter (λ e. p e.1) (f ∷ es)) ≡ Some (n, job)
      there g rest = by (p f.1) refl
        where
          of_either : (f.0 ≡ n) ⊎ (turn_cmp job.turn f.1.turn ≡ Less) → earlier f (Some (n, job)) ≡ Some (n, job)
          of_either (inl e) = absurd (differ (sym (itself name_cmp_total f.0) ∙ ap (λ k. eq_by_cmp name_cmp k f.0) e ∙ apart_from name_cmp_total name_cmp_exact f es s n job g))
          of_either (inr l) = ap (λ c. cond c (Some (n, job)) (Some f)) (is_less job.turn f.1.turn l)

          by : (b : Bool) → p f.1 ≡ b → earliest (cond b (f ∷ filter (λ e. p e.1) es) (filter (λ e. p e.1) es)) ≡ Some (n, job)
          by true u = ap (earlier f) rest ∙ of_either (least f.0 f.1 (found_first name_cmp_total name_cmp_exact f es) u)
          by false u = rest

-- ---- the turns

module _ {A : Type 0} (conflicts : A → A → Bool) (held : List (Held A)) (jobs : Jobs A) (turns : Turns) (next done alive : ℕ) (k : IsKept jobs turns next done alive) where
  abbrev test : Turn × List ℕ → Bool
  test e = has_free conflicts held (get jobs e.1)

  abbrev name_found : Option (List ℕ)
  name_found = option_map (λ e. e.1) (find (λ (e : Turn × List ℕ). has_free conflicts held (get jobs e.1)) (entries turns))

  -- a job that may start has a turn, and is free
  turn_of : (n : List ℕ) (job : Job A) → get jobs n ≡ Some job → may_start conflicts held job ≡ true → look turn_cmp job.turn (entries turns) ≡ Some n
  turn_of n job h t = sym (get-entries turns job.turn) ∙ k.turn n job h (waits job.state (left _ _ t))

  free_of : (n : List ℕ) (job : Job A) → get jobs n ≡ Some job → may_start conflicts held job ≡ true → has_free conflicts held (get jobs n) ≡ true
  free_of n job h t = ap (has_free conflicts held) h ∙ right _ _ t

  none_may : find (λ (e : Turn × List ℕ). has_free conflicts held (get jobs e.1)) (entries turns) ≡ None → (n : List ℕ) (job : Job A) → get jobs n ≡ Some job → may_start conflicts held job ≡ false
  none_may none n job h = by (may_start conflicts held job) refl
    where
      by : (b : Bool) → may_start conflicts held job ≡ b → may_start conflicts held job ≡ false
      by true t = absurd (differ (sym (free_of n job h t) ∙ find_none turn_cmp_total turn_cmp_exact test (entries turns) none job.turn n (turn_of n job h t)))
      by false t = t

  comes_next : (e : Turn × List ℕ) → find (λ (e : Turn × List ℕ). has_free conflicts held (get jobs e.1)) (entries turns) ≡ Some e → ComesNext conflicts held jobs e.1
  comes_next e h =
      let r = find_some turn_cmp_total turn_cmp_exact test (entries turns) (entries_sorted turns) e h in
      by (get jobs e.1) refl (k.job e.0 e.1 (get-entries turns e.0 ∙ r.there)) r.passes (λ q x l t. r.least q x l t)
    where
      both_true : (a b : Bool) → a ≡ true → b ≡ true → (a && b) ≡ true
      both_true true b i j = j
      both_true false b i j = absurd (differ (sym i))

      by : (o : Option (Job A)) → get jobs e.1 ≡ o → IsSomeAnd o (λ job. (job.state ≡ Waiting) × (job.turn ≡ e.0)) → test e ≡ true
          → ((q : Turn) (x : List ℕ) → look turn_cmp q (entries turns) ≡ Some x → test (q, x) ≡ true → turn_cmp q e.0 ≢ Less) → ComesNext conflicts held jobs e.1
      by None g w passes least = absurd w
      by (Some job) g w passes least = record {
        job = job;
        there = g;
        may = both_true _ _ (ap is_waiting w.0) (ap (has_free conflicts held) (sym g) ∙ passes);
        first = λ n other l t u. least other.turn n (turn_of n other l t) (free_of n other l t) (ap (turn_cmp other.turn) (sym w.1) ∙ u);
      }

  -- of two jobs that may start the one that isn't later is the same or earlier
  not_later : (n m : List ℕ) (job other : Job A) → get jobs n ≡ Some job → get jobs m ≡ Some other → turn_cmp other.turn job.turn ≢ Less → (m ≡ n) ⊎ (turn_cmp job.turn other.turn ≡ Less)
  not_later n m job other h g l = by (turn_cmp other.turn job.turn) refl
    where
      by : (o : Ordering) → turn_cmp other.turn job.turn ≡ o → (m ≡ n) ⊎ (turn_cmp job.turn other.turn ≡ Less)
      by Less e = absurd (l e)
      by Equal e = inl (k.apart m n other job g h (ap (λ (t : Turn). t.number) (turn_cmp_exact other.turn job.turn e)))
      by Greater e = inr (turn_cmp_total.antisymm job.turn other.turn ∙ ap ordering_reverse e)

  next_entry : (n : List ℕ) → ComesNext conflicts held jobs n → option_map (λ e. e.0) (earliest (filter (λ e. may_start conflicts held e.1) (entries jobs))) ≡ Some n
  next_entry n c = ap (option_map (λ e. e.0)) (earliest_is (may_start conflicts held) (entries jobs) (entries_sorted jobs) n c.job (sym (get-entries jobs n) ∙ c.there) c.may
      (λ m other l t. not_later n m c.job other c.there (get-entries jobs m ∙ l) (c.first m other (get-entries jobs m ∙ l) t)))

  pub next_is : name_found ≡ option_map (λ e. e.0) (earliest (filter (λ e. may_start conflicts held e.1) (entries jobs)))
  next_is = by (find (λ (e : Turn × List ℕ). has_free conflicts held (get jobs e.1)) (entries turns)) refl
    where
      by : (o : Option (Turn × List ℕ)) → find (λ (e : Turn × List ℕ). has_free conflicts held (get jobs e.1)) (entries turns) ≡ o
          → option_map (λ e. e.1) o ≡ option_map (λ e. e.0) (earliest (filter (λ e. may_start conflicts held e.1) (entries jobs)))
      by None h = sym (ap (option_map (λ e. e.0)) (none_earliest (may_start conflicts held) (entries jobs) (entries_sorted jobs) (λ n job l. none_may h n job (get-entries jobs n ∙ l))))
      by (Some e) h = sym (next_entry e.1 (comes_next e h))

  pub no_next : name_found ≡ None → (n : List ℕ) (job : Job A) → get jobs n ≡ Some job → may_start conflicts held job ≡ false
  no_next h = by (find (λ (e : Turn × List ℕ). has_free conflicts held (get jobs e.1)) (entries turns)) refl h
    where
      by : (o : Option (Turn × List ℕ)) → find (λ (e : Turn × List ℕ). has_free conflicts held (get jobs e.1)) (entries turns) ≡ o → option_map (λ e. e.1) o ≡ None
          → (n : List ℕ) (job : Job A) → get jobs n ≡ Some job → may_start conflicts held job ≡ false
      by None i g = none_may i
      by (Some e) i g = absurd (not_Some e.1 (sym g))

  pub some_next : (n : List ℕ) → name_found ≡ Some n → ComesNext conflicts held jobs n
  some_next n h = by (find (λ (e : Turn × List ℕ). has_free conflicts held (get jobs e.1)) (entries turns)) refl h
    where
      by : (o : Option (Turn × List ℕ)) → find (λ (e : Turn × List ℕ). has_free conflicts held (get jobs e.1)) (entries turns) ≡ o → option_map (λ e. e.1) o ≡ Some n → ComesNext conflicts held jobs n
      by None i g = absurd (not_Some n g)
      by (Some e) i g = subst (ComesNext conflicts held jobs) (same_Some e.1 n g) (comes_next e i)

-- ---- the definition, of any queue

-- the job that comes next is there, and may be started
pub may_next : {A : Type 0} (conflicts : A → A → Bool) (held : List (Held A)) (q : Queue A) (n : List ℕ) → next_name conflicts held q ≡ Some n
    → (job : Job A) × (get q.jobs n ≡ Some job) × (may_start conflicts held job ≡ true)
may_next {A} conflicts held q n h = by (earliest (filter (λ e. may_start conflicts held e.1) (entries q.jobs))) refl h
  where
    by : (o : Option (List ℕ × Job A)) → earliest (filter (λ e. may_start conflicts held e.1) (entries q.jobs)) ≡ o → option_map (λ e. e.0) o ≡ Some n
        → (job : Job A) × (get q.jobs n ≡ Some job) × (may_start conflicts held job ≡ true)
    by None e g = cc
    by (Some x) e g =
        let one = one_of (may_start conflicts held) (entries q.jobs) (entries_sorted q.jobs) x e in
        (x.1, ap (get q.jobs) (sym (same_Some x.0 n g)) ∙ get-entries q.jobs x.0 ∙ one.there, one.passes)
