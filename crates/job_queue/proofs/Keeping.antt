-- A queue stays kept.
use Rattle.std.proofs.lemmas.Bool.Decides.{nat_tests}
use Rattle.std.proofs.Common.{◌≡◌, ◌≢◌, ℕ, ◌+◌, ◌-◌, ◌<◌, ◌≤◌, ◌^◌, nat_le, Bool, true, false, cond, not, List, length, refl, sym, ap, ◌∙◌, subst, arith, inl, inr}
use Rattle.std.specs.Prelude.{Option, Some, None, ◌⊎◌, filter}
use Rattle.std.specs.Option.{IsSomeAnd, unwrap_or, option_map}
use Rattle.std.specs.Ordering.{eq_by_cmp, is_eq}
use Rattle.std.specs.Cmp.{tied_itself}
use Rattle.std.specs.FinMap.{get, empty, insert, remove, entries, get-empty, get-insert, get-remove, same_map}
use Rattle.job_queue.specs.declared.state.JobState.{JobState}
use Rattle.job_queue.specs.declared.state.JobState.TheVariants.{Sleeping, Waiting, Running}
use Rattle.job_queue.specs.declared.state.JobState.TheVariants as state
use Rattle.job_queue.specs.declared.job.Job.{Job}
use Rattle.job_queue.specs.declared.job.Turn.{Turn}
use Rattle.job_queue.specs.States.{is_over, is_live, is_sleeping, is_waiting, is_running}
use Rattle.job_queue.specs.Turns.{turn_cmp, turn_cmp_total, turn_cmp_exact}
use Rattle.job_queue.specs.Changed.{changed, put_if}
use Rattle.job_queue.specs.Queues.{name_cmp, Jobs, in_state, over, schedule_refusal, number_refusal}
use Rattle.job_queue.specs.Inside.Kept.{Turns, number_kept, IsKept}
use Rattle.job_queue.proofs.Named.{name_cmp_total, name_cmp_exact}
use Rattle.job_queue.proofs.Tables.{entries-empty, tied}
use Rattle.job_queue.proofs.Counted.{bit, bit_at, count_insert, fewer_pass}

not_Some : {X : Type 0} (x : X) → None ≡ Some x → ⊥
not_Some x h = cc

same_Some : {X : Type 0} (x y : X) → Some x ≡ Some y → x ≡ y
same_Some x y h = ap (λ o. unwrap_or o x) h

differ : true ≡ false → ⊥
differ h = cc

pub waits : (s : JobState) → is_waiting s ≡ true → s ≡ Waiting
waits state.None h = cc
waits state.Sleeping h = cc
waits state.Waiting h = refl
waits state.Running h = cc

pub sleeps : (s : JobState) → is_sleeping s ≡ true → s ≡ Sleeping
sleeps state.None h = cc
sleeps state.Sleeping h = refl
sleeps state.Waiting h = cc
sleeps state.Running h = cc

pub runs : (s : JobState) → is_running s ≡ true → s ≡ Running
runs state.None h = cc
runs state.Sleeping h = cc
runs state.Waiting h = cc
runs state.Running h = refl

name_itself : (n : List ℕ) → eq_by_cmp name_cmp n n ≡ true
name_itself n = ap is_eq (tied_itself name_cmp_total n)

turn_itself : (t : Turn) → eq_by_cmp turn_cmp t t ≡ true
turn_itself t = ap is_eq (tied_itself turn_cmp_total t)

same_name : (n m : List ℕ) → eq_by_cmp name_cmp n m ≡ true → n ≡ m
same_name n m h = name_cmp_exact n m (tied (name_cmp n m) h)

same_turn : (t u : Turn) → eq_by_cmp turn_cmp t u ≡ true → t ≡ u
same_turn t u h = turn_cmp_exact t u (tied (turn_cmp t u) h)

-- ---- no jobs

pub empty_kept : {A : Type 0} → IsKept {A = A} empty empty 0 0 0
empty_kept {A} = record {
  turn = λ n job h w. absurd (not_Some job (sym (get-empty name_cmp n) ∙ h));
  job = λ t n h. absurd (not_Some n (sym (get-empty turn_cmp t) ∙ h));
  apart = λ n m one two h g e. absurd (not_Some one (sym (get-empty name_cmp n) ∙ h));
  below = λ n job h. absurd (not_Some job (sym (get-empty name_cmp n) ∙ h));
  drawn = omega arith;
  finished = subst (λ (es : List (List ℕ × Job A)). 0 + length (filter (λ e. not (is_over e.1.state)) es) ≤ 0) (sym (entries-empty name_cmp_total name_cmp_exact)) (omega arith);
  live = ap (λ (es : List (List ℕ × Job A)). length (filter (λ e. is_live e.1.state) es)) (sym (entries-empty name_cmp_total name_cmp_exact));
}

-- ---- one job is put

pub turn_if : Bool → List ℕ → Option (List ℕ)
turn_if true n = Some n
turn_if false n = None

module _ {A : Type 0} (jobs : Jobs A) (turns : Turns) (next done alive : ℕ) (k : IsKept jobs turns next done alive) (n : List ℕ) (new : Job A)
    (own : (m : List ℕ) (j : Job A) → get jobs m ≡ Some j → j.turn.number ≡ new.turn.number → m ≡ n)
    (gone : (j : Job A) → get jobs n ≡ Some j → j.state ≡ Waiting → j.turn ≡ new.turn) where
  after : Jobs A
  after = insert jobs n new

  IsOld : List ℕ → Job A → Type 0
  IsOld m j = (get jobs m ≡ Some j) × (m ≢ n)

  either : (m : List ℕ) (j : Job A) → get after m ≡ Some j → ((m ≡ n) × (j ≡ new)) ⊎ IsOld m j
  unfolding after IsOld
  either m j h = by (eq_by_cmp name_cmp m n) refl
    where
      by : (b : Bool) → eq_by_cmp name_cmp m n ≡ b → ((m ≡ n) × (j ≡ new)) ⊎ ((get jobs m ≡ Some j) × (m ≢ n))
      by true i = inl (same_name m n i, same_Some j new (sym h ∙ get-insert name_cmp_total jobs n new m ∙ ap (λ b. cond b (Some new) (get jobs m)) i))
      by false i = inr (
        ap (λ b. cond b (Some new) (get jobs m)) (sym i) ∙ sym (get-insert name_cmp_total jobs n new m) ∙ h,
        λ e. differ (sym (name_itself n) ∙ ap (λ x. eq_by_cmp name_cmp x n) (sym e) ∙ i),
      )

  at_new : get after n ≡ Some new
  unfolding after
  at_new = get-insert name_cmp_total jobs n new n ∙ ap (λ b. cond b (Some new) (get jobs n)) (name_itself n)

  pub no_turn : ((j : Job A) → get jobs n ≡ Some j → j.state ≢ Waiting) → get turns new.turn ≡ None
  no_turn rests = by (get turns new.turn) refl
    where
      found : (m : List ℕ) (o : Option (Job A)) → get jobs m ≡ o → IsSomeAnd o (λ job. (job.state ≡ Waiting) × (job.turn ≡ new.turn)) → ⊥
      found m None g p = p
      found m (Some j) g p = rests j (ap (get jobs) (sym (own m j g (ap (λ (t : Turn). t.number) p.1))) ∙ g) p.0

      by : (o : Option (List ℕ)) → get turns new.turn ≡ o → get turns new.turn ≡ None
      by None h = h
      by (Some m) h = absurd (found m (get jobs m) refl (k.job new.turn m h))

  pub kept_put : (now : Turns) (then done' alive' : ℕ)
      → ((t : Turn) → get now t ≡ cond (eq_by_cmp turn_cmp t new.turn) (turn_if (is_waiting new.state) n) (get turns t))
      → new.turn.number < then → next ≤ then → then < 2 ^ 63
      → done' + number_kept (insert jobs n new) ≤ then → alive' ≡ length (filter (λ e. is_live e.1.state) (entries (insert jobs n new)))
      → IsKept (insert jobs n new) now then done' alive'
  unfolding after IsOld turn_if
  kept_put now then done' alive' set under more drawn finished live = record {
    turn = λ m j h w. of_turn m j w (either m j h);
    job = λ t m h. of_job t m h (eq_by_cmp turn_cmp t new.turn) refl;
    apart = λ m l one two h g e. of_apart m l one two e (either m one h) (either l two g);
    below = λ m j h. of_below m j (either m j h);
    drawn = drawn;
    finished = finished;
    live = live;
  }
    where
      of_turn : (m : List ℕ) (j : Job A) → j.state ≡ Waiting → ((m ≡ n) × (j ≡ new)) ⊎ ((get jobs m ≡ Some j) × (m ≢ n)) → get now j.turn ≡ Some m
      of_turn m j w (inl (e, f)) =
          (λ i. get now (f i).turn) ∙ set new.turn ∙ ap (λ b. cond b (turn_if (is_waiting new.state) n) (get turns new.turn)) (turn_itself new.turn)
          ∙ ap (λ s. turn_if (is_waiting s) n) (ap (λ (x : Job A). x.state) (sym f) ∙ w) ∙ ap Some (sym e)
      of_turn m j w (inr (g, other)) = set j.turn ∙ by (eq_by_cmp turn_cmp j.turn new.turn) refl
        where
          by : (b : Bool) → eq_by_cmp turn_cmp j.turn new.turn ≡ b → cond b (turn_if (is_waiting new.state) n) (get turns j.turn) ≡ Some m
          by true i = absurd (other (own m j g (ap (λ (t : Turn). t.number) (same_turn j.turn new.turn i))))
          by false i = k.turn m j g w

      of_job : (t : Turn) (m : List ℕ) → get now t ≡ Some m → (b : Bool) → eq_by_cmp turn_cmp t new.turn ≡ b → IsSomeAnd (get (insert jobs n new) m) (λ job. (job.state ≡ Waiting) × (job.turn ≡ t))
      of_job t m h true i = by (is_waiting new.state) refl (ap (λ b. cond b (turn_if (is_waiting new.state) n) (get turns t)) (sym i) ∙ sym (set t) ∙ h)
        where
          by : (b : Bool) → is_waiting new.state ≡ b → turn_if (is_waiting new.state) n ≡ Some m → IsSomeAnd (get (insert jobs n new) m) (λ job. (job.state ≡ Waiting) × (job.turn ≡ t))
          by true w e =
              let name : n ≡ m = same_Some n m (ap (λ b. turn_if b n) (sym w) ∙ e) in
              subst (λ o. IsSomeAnd o (λ job. (job.state ≡ Waiting) × (job.turn ≡ t))) (sym at_new ∙ ap (get (insert jobs n new)) name) (waits new.state w, sym (same_turn t new.turn i))
          by false w e = absurd (not_Some m (ap (λ b. turn_if b n) (sym w) ∙ e))
      of_job t m h false i = by (eq_by_cmp name_cmp m n) refl
        where
          old : IsSomeAnd (get jobs m) (λ job. (job.state ≡ Waiting) × (job.turn ≡ t))
          old = k.job t m (ap (λ b. cond b (turn_if (is_waiting new.state) n) (get turns t)) (sym i) ∙ sym (set t) ∙ h)

          clash : (o : Option (Job A)) → get jobs n ≡ o → IsSomeAnd o (λ job. (job.state ≡ Waiting) × (job.turn ≡ t)) → ⊥
          clash None g p = p
          clash (Some j) g p = differ (sym (turn_itself new.turn) ∙ ap (λ x. eq_by_cmp turn_cmp x new.turn) (sym (gone j g p.0) ∙ p.1) ∙ i)

          by : (b : Bool) → eq_by_cmp name_cmp m n ≡ b → IsSomeAnd (get (insert jobs n new) m) (λ job. (job.state ≡ Waiting) × (job.turn ≡ t))
          by true e = absurd (clash (get jobs n) refl (subst (λ x. IsSomeAnd (get jobs x) (λ job. (job.state ≡ Waiting) × (job.turn ≡ t))) (same_name m n e) old))
          by false e = subst (λ o. IsSomeAnd o (λ job. (job.state ≡ Waiting) × (job.turn ≡ t))) (sym (get-insert name_cmp_total jobs n new m ∙ ap (λ b. cond b (Some new) (get jobs m)) e)) old

      of_apart : (m l : List ℕ) (one two : Job A) → one.turn.number ≡ two.turn.number
          → ((m ≡ n) × (one ≡ new)) ⊎ ((get jobs m ≡ Some one) × (m ≢ n)) → ((l ≡ n) × (two ≡ new)) ⊎ ((get jobs l ≡ Some two) × (l ≢ n)) → m ≡ l
      of_apart m l one two e (inl (a, b)) (inl (c, d)) = a ∙ sym c
      of_apart m l one two e (inl (a, b)) (inr (c, d)) = a ∙ sym (own l two c (sym e ∙ ap (λ (x : Job A). x.turn.number) b))
      of_apart m l one two e (inr (a, b)) (inl (c, d)) = own m one a (e ∙ ap (λ (x : Job A). x.turn.number) d) ∙ sym c
      of_apart m l one two e (inr (a, b)) (inr (c, d)) = k.apart m l one two a c e

      of_below : (m : List ℕ) (j : Job A) → ((m ≡ n) × (j ≡ new)) ⊎ ((get jobs m ≡ Some j) × (m ≢ n)) → j.turn.number < then
      of_below m j (inl (a, b)) = subst (λ (x : Job A). x.turn.number < then) (sym b) under
      of_below m j (inr (a, b)) = let old = k.below m j a in omega arith

-- ---- one job is changed; its turn stays

pub to_both : {A : Type 0} (jobs old : Jobs A) (turns before : Turns) (next done alive : ℕ) → jobs ≡ old → turns ≡ before → IsKept old before next done alive → IsKept jobs turns next done alive
to_both jobs old turns before next done alive e f h = subst (λ x. IsKept x turns next done alive) (sym e) (subst (λ y. IsKept old y next done alive) (sym f) h)

module _ {A : Type 0} (jobs : Jobs A) (turns : Turns) (next done alive : ℕ) (k : IsKept jobs turns next done alive) (n : List ℕ) (job : Job A) (there : get jobs n ≡ Some job) where
  own : (new : Job A) → new.turn ≡ job.turn → (m : List ℕ) (j : Job A) → get jobs m ≡ Some j → j.turn.number ≡ new.turn.number → m ≡ n
  own new e m j h g = k.apart m n j job h there (g ∙ ap (λ (t : Turn). t.number) e)

  gone : (new : Job A) → new.turn ≡ job.turn → (j : Job A) → get jobs n ≡ Some j → j.state ≡ Waiting → j.turn ≡ new.turn
  gone new e j h w = ap (λ (x : Job A). x.turn) (same_Some j job (sym h ∙ there)) ∙ sym e

  changed_is : (f : Job A → Job A) → changed f n jobs ≡ insert jobs n (f job)
  changed_is f = ap (λ o. put_if jobs n (option_map f o)) there

  count : (p : Job A → Bool) (new : Job A) → length (filter (λ e. p e.1) (entries (insert jobs n new))) + bit (p job) ≡ length (filter (λ e. p e.1) (entries jobs)) + bit (p new)
  count p new = ap (λ o. length (filter (λ e. p e.1) (entries (insert jobs n new))) + bit_at p o) (sym there) ∙ count_insert p name_cmp_total n new jobs

  counts_live : (new : Job A) → length (filter (λ e. is_live e.1.state) (entries (insert jobs n new))) + bit (is_live job.state) ≡ alive + bit (is_live new.state)
  counts_live new = count (λ j. is_live j.state) new ∙ ap (λ m. m + bit (is_live new.state)) (sym k.live)

  counts_kept : (new : Job A) → number_kept (insert jobs n new) + bit (not (is_over job.state)) ≡ number_kept jobs + bit (not (is_over new.state))
  counts_kept new = count (λ j. not (is_over j.state)) new

  -- a job that waits or is run is counted
  pub some_live : is_live job.state ≡ true → 1 ≤ alive
  some_live h = let at_rest = ap (λ b. length (filter (λ e. is_live e.1.state) (entries (insert jobs n (over job)))) + bit b) (sym h) ∙ counts_live (over job) in omega arith

  pub one_waits : is_waiting job.state ≡ true → 1 ≤ alive
  one_waits h = some_live (ap is_live (waits job.state h))

  pub one_runs : is_running job.state ≡ true → 1 ≤ alive
  one_runs h = some_live (ap is_live (runs job.state h))

  rested : (f : Job A → Job A) (left : Turns) (done' alive' : ℕ) → (f job).turn ≡ job.turn → is_waiting (f job).state ≡ false
      → ((t : Turn) → get left t ≡ cond (eq_by_cmp turn_cmp t job.turn) None (get turns t))
      → done' + number_kept (insert jobs n (f job)) ≤ next → alive' ≡ length (filter (λ e. is_live e.1.state) (entries (insert jobs n (f job))))
      → IsKept (changed f n jobs) left next done' alive'
  unfolding turn_if
  rested f left done' alive' same rests set finished live =
      subst (λ x. IsKept x left next done' alive') (sym (changed_is f))
      (kept_put jobs turns next done alive k n (f job) (own (f job) same) (gone (f job) same) left next done' alive'
      (λ t. set t ∙ (λ i. cond (eq_by_cmp turn_cmp t (sym same i)) (turn_if (sym rests i) n) (get turns t)))
      (subst (λ (t : Turn). t.number < next) (sym same) (k.below n job there)) (omega arith) k.drawn finished live)

  taken : (t : Turn) → get (remove turns job.turn) t ≡ cond (eq_by_cmp turn_cmp t job.turn) None (get turns t)
  taken t = get-remove turn_cmp_total turns job.turn t

  pub sleep_kept : (now : Jobs A) (left : Turns) → is_waiting job.state ≡ true → now ≡ changed (in_state Sleeping) n jobs → left ≡ remove turns job.turn → IsKept now left next done (alive - 1)
  sleep_kept now left is e f =
      let w = waits job.state is in
      let lives = ap (λ s. length (filter (λ e. is_live e.1.state) (entries (insert jobs n (in_state Sleeping job)))) + bit (is_live s)) (sym w) ∙ counts_live (in_state Sleeping job) in
      let stays = ap (λ s. number_kept (insert jobs n (in_state Sleeping job)) + bit (not (is_over s))) (sym w) ∙ counts_kept (in_state Sleeping job) in
      let before = k.finished in
      to_both now _ left _ next done (alive - 1) e f (rested (in_state Sleeping) (remove turns job.turn) done (alive - 1) refl refl taken (omega arith) (omega arith))

  pub start_kept : (now : Jobs A) (left : Turns) → is_waiting job.state ≡ true → now ≡ changed (in_state Running) n jobs → left ≡ remove turns job.turn → IsKept now left next done alive
  start_kept now left is e f =
      let w = waits job.state is in
      let lives = ap (λ s. length (filter (λ e. is_live e.1.state) (entries (insert jobs n (in_state Running job)))) + bit (is_live s)) (sym w) ∙ counts_live (in_state Running job) in
      let stays = ap (λ s. number_kept (insert jobs n (in_state Running job)) + bit (not (is_over s))) (sym w) ∙ counts_kept (in_state Running job) in
      let before = k.finished in
      to_both now _ left _ next done alive e f (rested (in_state Running) (remove turns job.turn) done alive refl refl taken (omega arith) (omega arith))

  pub cancel_kept : (now : Jobs A) (left : Turns) (l : ℕ) → l ≡ cond (is_live job.state) (alive - 1) alive → now ≡ changed over n jobs → left ≡ remove turns job.turn → IsKept now left next done l
  cancel_kept now left l h e f =
      let stays = counts_kept (over job) in
      let before = k.finished in
      to_both now _ left _ next done l e f (rested over (remove turns job.turn) done l refl refl taken (omega arith) (h ∙ by (is_live job.state) refl))
    where
      by : (b : Bool) → is_live job.state ≡ b → cond b (alive - 1) alive ≡ length (filter (λ e. is_live e.1.state) (entries (insert jobs n (over job))))
      by true i = let lives = ap (λ b. length (filter (λ e. is_live e.1.state) (entries (insert jobs n (over job)))) + bit b) (sym i) ∙ counts_live (over job) in omega arith
      by false i = let lives = ap (λ b. length (filter (λ e. is_live e.1.state) (entries (insert jobs n (over job)))) + bit b) (sym i) ∙ counts_live (over job) in omega arith

  pub finish_kept : (now : Jobs A) → is_running job.state ≡ true → now ≡ changed over n jobs → IsKept now turns next (done + 1) (alive - 1)
  finish_kept now is e =
      let lives = ap (λ s. length (filter (λ e. is_live e.1.state) (entries (insert jobs n (over job)))) + bit (is_live s)) (sym (runs job.state is)) ∙ counts_live (over job) in
      let stays = ap (λ s. number_kept (insert jobs n (over job)) + bit (not (is_over s))) (sym (runs job.state is)) ∙ counts_kept (over job) in
      let before = k.finished in
      to_both now _ turns turns next (done + 1) (alive - 1) e refl (rested over turns (done + 1) (alive - 1) refl refl (λ t. by t (eq_by_cmp turn_cmp t job.turn) refl) (omega arith) (omega arith))
    where
      apart : Running ≡ Waiting → ⊥
      apart h = cc

      none : get turns job.turn ≡ None
      none = no_turn jobs turns next done alive k n job (own job refl) (gone job refl) (λ j h g. apart (sym (runs job.state is) ∙ ap (λ (x : Job A). x.state) (same_Some job j (sym there ∙ h)) ∙ g))

      by : (t : Turn) (b : Bool) → eq_by_cmp turn_cmp t job.turn ≡ b → get turns t ≡ cond b None (get turns t)
      by t true i = ap (get turns) (same_turn t job.turn i) ∙ none
      by t false i = refl

  pub wake_kept : (now : Jobs A) (left : Turns) → is_sleeping job.state ≡ true → now ≡ changed (in_state Waiting) n jobs → left ≡ insert turns job.turn n → IsKept now left next done (alive + 1)
  unfolding turn_if
  wake_kept now left is e f =
      let w = sleeps job.state is in
      let lives = ap (λ s. length (filter (λ e. is_live e.1.state) (entries (insert jobs n (in_state Waiting job)))) + bit (is_live s)) (sym w) ∙ counts_live (in_state Waiting job) in
      let stays = ap (λ s. number_kept (insert jobs n (in_state Waiting job)) + bit (not (is_over s))) (sym w) ∙ counts_kept (in_state Waiting job) in
      let before = k.finished in
      to_both now _ left _ next done (alive + 1) (e ∙ changed_is (in_state Waiting)) f
      (kept_put jobs turns next done alive k n (in_state Waiting job) (own (in_state Waiting job) refl) (gone (in_state Waiting job) refl) (insert turns job.turn n) next done (alive + 1)
      (λ t. get-insert turn_cmp_total turns job.turn n t) (k.below n job there) (omega arith) k.drawn (omega arith) (omega arith))

-- ---- a job is scheduled

-- there is room for the count of one more
pub live_fits : {A : Type 0} (jobs : Jobs A) (turns : Turns) (next done alive : ℕ) → IsKept jobs turns next done alive → alive + 1 < 2 ^ 64
live_fits {A} jobs turns next done alive k =
    let few = fewer_pass (λ (j : Job A). is_live j.state) (λ j. not (is_over j.state)) (λ j. by j.state) (entries jobs) in
    let is = k.live in
    let before = k.finished in
    let drawn = k.drawn in
    omega arith
  where
    by : (s : JobState) → is_live s ≡ true → not (is_over s) ≡ true
    by state.None h = cc
    by state.Sleeping h = cc
    by state.Waiting h = refl
    by state.Running h = refl

below_max : (next : ℕ) → number_refusal next ≡ None → next + 1 < 2 ^ 63
below_max next h = by (nat_le (2 ^ 63 - 1) next) refl h
  where
    by : (b : Bool) → nat_le (2 ^ 63 - 1) next ≡ b → number_refusal next ≡ None → next + 1 < 2 ^ 63
    by true i g = cc
    by false i g = grind (arith, nat_tests)

module _ {A : Type 0} (jobs : Jobs A) (turns : Turns) (next done alive : ℕ) (k : IsKept jobs turns next done alive) (n : List ℕ)
    (allowed : schedule_refusal next (option_map (λ (j : Job A). j.state) (get jobs n)) ≡ None) (new : Job A) (number : new.turn.number ≡ next) where
  is_free : (j : Job A) → get jobs n ≡ Some j → schedule_refusal next (Some j.state) ≡ None
  is_free j h = ap (λ o. schedule_refusal next (option_map (λ (x : Job A). x.state) o)) (sym h) ∙ allowed

  not_waiting : (j : Job A) → get jobs n ≡ Some j → j.state ≢ Waiting
  not_waiting j h w = refused (ap (λ s. schedule_refusal next (Some s)) (sym w) ∙ is_free j h)
    where
      refused : schedule_refusal next (Some Waiting) ≡ None → ⊥
      refused g = cc

  new_own : (m : List ℕ) (j : Job A) → get jobs m ≡ Some j → j.turn.number ≡ new.turn.number → m ≡ n
  new_own m j h g = let under = k.below m j h in let is = g ∙ number in absurd (omega arith)

  new_gone : (j : Job A) → get jobs n ≡ Some j → j.state ≡ Waiting → j.turn ≡ new.turn
  new_gone j h w = absurd (not_waiting j h w)

  drawn : next + 1 < 2 ^ 63
  drawn = by (get jobs n) refl
    where
      of_state : (s : JobState) → schedule_refusal next (Some s) ≡ None → next + 1 < 2 ^ 63
      of_state state.None g = below_max next g
      of_state state.Sleeping g = cc
      of_state state.Waiting g = cc
      of_state state.Running g = cc

      by : (o : Option (Job A)) → get jobs n ≡ o → next + 1 < 2 ^ 63
      by None h = below_max next (ap (λ o. schedule_refusal next (option_map (λ (x : Job A). x.state) o)) (sym h) ∙ allowed)
      by (Some j) h = of_state j.state (is_free j h)

  none_live : bit_at (λ (j : Job A). is_live j.state) (get jobs n) ≡ 0
  none_live = by (get jobs n) refl
    where
      of_state : (s : JobState) → schedule_refusal next (Some s) ≡ None → bit (is_live s) ≡ 0
      of_state state.None g = refl
      of_state state.Sleeping g = cc
      of_state state.Waiting g = cc
      of_state state.Running g = cc

      by : (o : Option (Job A)) → get jobs n ≡ o → bit_at (λ (j : Job A). is_live j.state) o ≡ 0
      by None h = refl
      by (Some j) h = of_state j.state (is_free j h)

  one_more : length (filter (λ e. is_live e.1.state) (entries (insert jobs n new))) ≡ alive + bit (is_live new.state)
  one_more =
      let counted = count_insert (λ (j : Job A). is_live j.state) name_cmp_total n new jobs in
      let none = none_live in
      let is = k.live in
      omega arith

  one_kept : done + number_kept (insert jobs n new) ≤ next + 1
  one_kept =
      let counted = count_insert (λ (j : Job A). not (is_over j.state)) name_cmp_total n new jobs in
      let before = k.finished in
      by (not (is_over new.state)) counted before
    where
      by : (b : Bool) → number_kept (insert jobs n new) + bit_at (λ (j : Job A). not (is_over j.state)) (get jobs n) ≡ number_kept jobs + bit b → done + number_kept jobs ≤ next → done + number_kept (insert jobs n new) ≤ next + 1
      by true h g = omega arith
      by false h g = omega arith

  pub asleep_kept : (now : Jobs A) → is_waiting new.state ≡ false → is_live new.state ≡ false → now ≡ insert jobs n new → IsKept now turns (next + 1) done alive
  unfolding turn_if
  asleep_kept now rests dead e =
      to_both now _ turns turns (next + 1) done alive e refl
      (kept_put jobs turns next done alive k n new new_own new_gone turns (next + 1) done alive
      (λ t. by t (eq_by_cmp turn_cmp t new.turn) refl) (subst (λ m. m < next + 1) (sym number) (omega arith)) (omega arith) drawn one_kept
      (plain alive ∙ ap (λ b. alive + bit b) (sym dead) ∙ sym one_more))
    where
      plain : (m : ℕ) → m ≡ m + 0
      plain m = omega arith

      none : get turns new.turn ≡ None
      none = no_turn jobs turns next done alive k n new new_own new_gone not_waiting

      by : (t : Turn) (b : Bool) → eq_by_cmp turn_cmp t new.turn ≡ b → get turns t ≡ cond b (turn_if (is_waiting new.state) n) (get turns t)
      by t true i = ap (get turns) (same_turn t new.turn i) ∙ none ∙ ap (λ b. turn_if b n) (sym rests)
      by t false i = refl

  pub waiting_kept : (now : Jobs A) (left : Turns) → is_waiting new.state ≡ true → is_live new.state ≡ true → now ≡ insert jobs n new → left ≡ insert turns new.turn n → IsKept now left (next + 1) done (alive + 1)
  unfolding turn_if
  waiting_kept now left waits lives e f =
      to_both now _ left _ (next + 1) done (alive + 1) e f
      (kept_put jobs turns next done alive k n new new_own new_gone (insert turns new.turn n) (next + 1) done (alive + 1)
      (λ t. get-insert turn_cmp_total turns new.turn n t ∙ (λ i. cond (eq_by_cmp turn_cmp t new.turn) (turn_if (sym waits i) n) (get turns t)))
      (subst (λ m. m < next + 1) (sym number) (omega arith)) (omega arith) drawn one_kept
      (ap (λ b. alive + bit b) (sym lives) ∙ sym one_more))

  -- a turn that was added and taken again
  pub undone : remove (insert turns new.turn n) new.turn ≡ turns
  undone = same_map turn_cmp_total turn_cmp_exact _ _ (λ t. get-remove turn_cmp_total (insert turns new.turn n) new.turn t ∙ by t (eq_by_cmp turn_cmp t new.turn) refl)
    where
      by : (t : Turn) (b : Bool) → eq_by_cmp turn_cmp t new.turn ≡ b → cond b None (get (insert turns new.turn n) t) ≡ get turns t
      by t true i = sym (ap (get turns) (same_turn t new.turn i) ∙ no_turn jobs turns next done alive k n new new_own new_gone not_waiting)
      by t false i = get-insert turn_cmp_total turns new.turn n t ∙ ap (λ b. cond b (Some n) (get turns t)) i
