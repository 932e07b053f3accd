-- Passes stay kept.
use Rattle.std.proofs.Common.{◌≡◌, ◌≤◌, ◌<◌, ◌+◌, ◌-◌, ◌==◌, ◌^◌, ℕ, suc, arith, rules, Bool, true, false, cond, not, ◌||◌, if◌then◌else◌, List, [], ◌∷◌, length, refl, sym, ap, ◌∙◌, subst}
use Rattle.std.specs.Prelude.{Option, Some, None, IsSome, is_some, filter}
use Rattle.std.specs.List.{list_any}
use Rattle.std.specs.Ordering.{nat_cmp, eq_by_cmp}
use Rattle.std.specs.Option.{option_map}
use Rattle.std.specs.FinMap.{nat_cmp-IsAntisymmetric, get, insert, remove, empty, entries, len, len-entries, len-insert, len-remove, len-empty, get-insert, get-remove, get-empty, same_map}
use Rattle.std.proofs.lemmas.Bool.Decides.{nat_tests}
use Rattle.std.proofs.lemmas.Cmp.{nat_cmp_total}
use Rattle.job_queue.specs.Changed.{put_if, changed}
use Rattle.job_queue.proofs.Counted.{bit, bit_at, count_insert}
use Rattle.job_queue.proofs.Found.{differ, itself, same_key}
use Rattle.pass_table.specs.declared.pass.Pass.{Pass}
use Rattle.pass_table.specs.Passes.{Table, batches_in, has_batch, idle}
use Rattle.pass_table.specs.Rows.{with_batches, with_job}
use Rattle.pass_table.specs.Inside.Kept.{IsKept, number_in_batch}

-- ---- one entry

inserted_some : (t : Table) (n k : ℕ) (v : Pass) → IsSome (get (insert t n v) k) → (k ≡ n → ⊥) → IsSome (get t k)
inserted_some t n k v h other = by (eq_by_cmp nat_cmp k n) refl (subst IsSome (get-insert nat_cmp_total t n v k) h)
  where
    by : (b : Bool) → eq_by_cmp nat_cmp k n ≡ b → IsSome (cond b (Some v) (get t k)) → IsSome (get t k)
    by true e g = absurd (other (same_key nat_cmp-IsAntisymmetric k n e))
    by false e g = g

changed_is : (t : Table) (n : ℕ) (change : Pass → Pass) (pass : Pass) → get t n ≡ Some pass → changed change n t ≡ insert t n (change pass)
changed_is t n change pass is = ap (λ k. put_if t n (option_map change k)) is

-- as many have an open batch, but for what the pass had and has
number_changed : (t : Table) (n : ℕ) (change : Pass → Pass) (pass : Pass) → get t n ≡ Some pass
    → number_in_batch (changed change n t) + bit (has_batch pass) ≡ number_in_batch t + bit (has_batch (change pass))
number_changed t n change pass is =
    ap (λ u. number_in_batch u + bit (has_batch pass)) (changed_is t n change pass is)
    ∙ ap (λ k. number_in_batch (insert t n (change pass)) + bit_at has_batch k) (sym is)
    ∙ count_insert has_batch nat_cmp_total n (change pass) t

put_some : (k : Option Pass) (v : Pass) → k ≡ Some v → is_some k ≡ true
put_some k v is = ap is_some is

len_changed : (t : Table) (n : ℕ) (change : Pass → Pass) (pass : Pass) → get t n ≡ Some pass → len (changed change n t) ≡ len t
len_changed t n change pass is =
    ap len (changed_is t n change pass is) ∙ len-insert nat_cmp_total t n (change pass) ∙ ap (λ b. cond b (len t) (len t + 1)) (ap is_some is)

pub kept_changed : (t now : Table) (next m after n : ℕ) (change : Pass → Pass) (pass : Pass) → get t n ≡ Some pass → now ≡ changed change n t
    → after + bit (has_batch pass) ≡ m + bit (has_batch (change pass)) → IsKept t next m → IsKept now next after
kept_changed t now next m after n change pass is set bits kept = subst (λ u. IsKept u next after) (sym set) (record {
  below = λ k h. by k (eq_by_cmp nat_cmp k n) refl (subst (λ u. IsSome (get u k)) (changed_is t n change pass is) h);
  fits = let same = len_changed t n change pass is in omega (arith, same, kept.fits);
  drawn = kept.drawn;
  counted = let number = number_changed t n change pass is in omega (arith, number, bits, kept.counted);
})
  where
    by : (k : ℕ) (b : Bool) → eq_by_cmp nat_cmp k n ≡ b → IsSome (get (insert t n (change pass)) k) → k < next
    by k true e h = subst (λ x. x < next) (sym (same_key nat_cmp-IsAntisymmetric k n e)) (kept.below n (ap is_some is))
    by k false e h = kept.below k (inserted_some t n k (change pass) h (λ same. differ (sym (itself nat_cmp_total k) ∙ ap (eq_by_cmp nat_cmp k) same ∙ e)))

-- the pass has an open batch: so many do
pub some_in_batch : (t : Table) (next m n : ℕ) (pass : Pass) → get t n ≡ Some pass → has_batch pass ≡ true → IsKept t next m → 0 < m
some_in_batch t next m n pass is has kept =
    let number = number_changed t n (λ _. idle) pass is in
    let one = ap bit has in
    omega (arith, number, one, kept.counted)

-- ---- what changes for one that has so many batches

zero_or_not : (b : ℕ) → (b + 1 == 0) ≡ false
zero_or_not b = search rules

pub more_bit : (b m after : ℕ) → after ≡ (if b == 0 then m + 1 else m) → after + bit (not (b == 0)) ≡ m + bit (not (b + 1 == 0))
more_bit b m after is = by (b == 0) is ∙ ap (λ x. m + bit (not x)) (sym (zero_or_not b))
  where
    by : (e : Bool) → after ≡ (if e then m + 1 else m) → after + bit (not e) ≡ m + 1
    by true h = omega (arith, h)
    by false h = omega (arith, h)

one_less : (b : ℕ) → (b == 1) ≡ false → (b == 0) ≡ false → (b - 1 == 0) ≡ false
one_less b h g = search (rules, h, g)

is_one : (b : ℕ) → (b == 1) ≡ true → (b - 1 == 0) ≡ true
is_one b h = search (rules, h)

pub less_bit : (b m after : ℕ) → after ≡ (if b == 1 then m - 1 else m) → (b == 0) ≡ false → 0 < m → after + bit (not (b == 0)) ≡ m + bit (not (b - 1 == 0))
less_bit b m after is some lt = ap (λ x. after + bit (not x)) some ∙ by (b == 1) refl is
  where
    by : (e : Bool) → (b == 1) ≡ e → after ≡ (if e then m - 1 else m) → after + 1 ≡ m + bit (not (b - 1 == 0))
    by true e h = let last = ap (λ x. bit (not x)) (is_one b e) in omega (arith, h, lt, last)
    by false e h = let more = ap (λ x. bit (not x)) (one_less b e some) in omega (arith, h, more)

pub gone_bit : (b m after : ℕ) → after ≡ (if b == 0 then m else m - 1) → ((b == 0) ≡ false → 0 < m) → after + bit (not (b == 0)) ≡ m + 0
gone_bit b m after is lt = by (b == 0) refl is
  where
    by : (e : Bool) → (b == 0) ≡ e → after ≡ (if e then m else m - 1) → after + bit (not e) ≡ m + 0
    by true e h = omega (arith, h)
    by false e h = let some = lt e in omega (arith, h, some)

-- ---- passes come and go

none_there : (k : Option Pass) → (IsSome k → ⊥) → k ≡ None
none_there None h = refl
none_there (Some x) h = absurd (h refl)

pub none_next : (t : Table) (next m : ℕ) → IsKept t next m → get t next ≡ None
none_next t next m kept = none_there (get t next) (λ h. let lt = kept.below next h in omega (arith, lt))

pub entered_kept : (t now : Table) (next m : ℕ) → IsKept t next m → next < 2 ^ 63 → now ≡ insert t next idle → IsKept now (next + 1) m
entered_kept t now next m kept lt set = subst (λ u. IsKept u (next + 1) m) (sym set) (record {
  below = λ k h. by k (eq_by_cmp nat_cmp k next) refl h;
  fits = let more = len-insert nat_cmp_total t next idle ∙ ap (λ k. cond (is_some k) (len t) (len t + 1)) none in omega (arith, more, kept.fits);
  drawn = omega (arith, lt);
  counted = let number = ap (λ k. number_in_batch (insert t next idle) + bit_at has_batch k) (sym none) ∙ count_insert has_batch nat_cmp_total next idle t in omega (arith, number, kept.counted);
})
  where
    none : get t next ≡ None
    none = none_next t next m kept

    by : (k : ℕ) (b : Bool) → eq_by_cmp nat_cmp k next ≡ b → IsSome (get (insert t next idle) k) → k < next + 1
    by k true e h = let same = same_key nat_cmp-IsAntisymmetric k next e in omega (arith, same)
    by k false e h =
        let lt = kept.below k (inserted_some t next k idle h (λ same. differ (sym (itself nat_cmp_total k) ∙ ap (eq_by_cmp nat_cmp k) same ∙ e))) in omega (arith, lt)

pub first_kept : (t now : Table) → t ≡ empty → now ≡ insert t 0 idle → IsKept now 1 0
first_kept t now none set = entered_kept t now 0 0 (record {
  below = λ k h. absurd (no (sym (ap is_some (ap (λ u. get u k) none ∙ get-empty nat_cmp k)) ∙ h));
  fits = let zero = ap len none ∙ len-empty nat_cmp Pass in omega (arith, zero);
  drawn = omega arith;
  counted = sym (ap number_in_batch none ∙ nobody);
}) (omega arith) set
  where
    no : false ≡ true → ⊥
    no h = cc

    short : (es : List (ℕ × Pass)) → length es ≡ 0 → length (filter (λ e. has_batch e.1) es) ≡ 0
    short [] h = refl
    short (e ∷ es) h = cc

    nobody : number_in_batch empty ≡ 0
    nobody = short (entries empty) (sym (len-entries empty) ∙ len-empty nat_cmp Pass)

removed_some : (t : Table) (n k : ℕ) → IsSome (get (remove t n) k) → IsSome (get t k)
removed_some t n k h = by (eq_by_cmp nat_cmp k n) (subst IsSome (get-remove nat_cmp_total t n k) h)
  where
    by : (b : Bool) → IsSome (cond b None (get t k)) → IsSome (get t k)
    by true g = absurd (no g)
      where
        no : false ≡ true → ⊥
        no i = cc
    by false g = g

same_if_none : (t : Table) (n : ℕ) → get t n ≡ None → remove t n ≡ t
same_if_none t n none = same_map nat_cmp_total nat_cmp-IsAntisymmetric _ _ (λ k. get-remove nat_cmp_total t n k ∙ by k (eq_by_cmp nat_cmp k n) refl)
  where
    by : (k : ℕ) (b : Bool) → eq_by_cmp nat_cmp k n ≡ b → cond b None (get t k) ≡ get t k
    by k true e = sym (ap (get t) (same_key nat_cmp-IsAntisymmetric k n e) ∙ none)
    by k false e = refl

put_again : (t : Table) (n : ℕ) (pass : Pass) → get t n ≡ Some pass → insert (remove t n) n pass ≡ t
put_again t n pass is = same_map nat_cmp_total nat_cmp-IsAntisymmetric _ _ (λ k.
    get-insert nat_cmp_total (remove t n) n pass k ∙ ap (cond (eq_by_cmp nat_cmp k n) (Some pass)) (get-remove nat_cmp_total t n k) ∙ by k (eq_by_cmp nat_cmp k n) refl)
  where
    by : (k : ℕ) (b : Bool) → eq_by_cmp nat_cmp k n ≡ b → cond b (Some pass) (cond b None (get t k)) ≡ get t k
    by k true e = sym (ap (get t) (same_key nat_cmp-IsAntisymmetric k n e) ∙ is)
    by k false e = refl

gone_there : (t : Table) (n : ℕ) → get (remove t n) n ≡ None
gone_there t n = get-remove nat_cmp_total t n n ∙ ap (λ b. cond b None (get t n)) (itself nat_cmp_total n)

number_removed : (t : Table) (n : ℕ) (k : Option Pass) → get t n ≡ k → bit_at has_batch k ≡ 0 → number_in_batch (remove t n) ≡ number_in_batch t
number_removed t n None is nought = ap number_in_batch (same_if_none t n is)
number_removed t n (Some pass) is nought =
    let back = ap (λ k. number_in_batch (insert (remove t n) n pass) + bit_at has_batch k) (sym (gone_there t n)) ∙ count_insert has_batch nat_cmp_total n pass (remove t n) in
    let same = ap number_in_batch (put_again t n pass is) in
    omega (arith, back, same, nought)

pub left_kept : (t now : Table) (next m n : ℕ) → IsKept t next m → bit_at has_batch (get t n) ≡ 0 → now ≡ remove t n → IsKept now next m
left_kept t now next m n kept idle set = subst (λ u. IsKept u next m) (sym set) (record {
  below = λ k h. kept.below k (removed_some t n k h);
  fits = let fewer = len-remove nat_cmp_total t n in by (is_some (get t n)) fewer;
  drawn = kept.drawn;
  counted = kept.counted ∙ sym (number_removed t n (get t n) refl idle);
})
  where
    by : (b : Bool) → len (remove t n) ≡ cond b (len t - 1) (len t) → len (remove t n) ≤ next
    by true h = omega (arith, h, kept.fits)
    by false h = omega (arith, h, kept.fits)

-- ---- how many at most, and none

filter_most : (es : List (ℕ × Pass)) → length (filter (λ e. has_batch e.1) es) ≤ length es
filter_most [] = omega arith
filter_most (e ∷ es) = by (has_batch e.1) (filter_most es)
  where
    by : (b : Bool) → length (filter (λ e. has_batch e.1) es) ≤ length es → length (cond b (e ∷ filter (λ e. has_batch e.1) es) (filter (λ e. has_batch e.1) es)) ≤ length (e ∷ es)
    by true h = omega (arith, h)
    by false h = omega (arith, h)

pub at_most : (t : Table) (next m : ℕ) → IsKept t next m → m < 2 ^ 63 + 1
at_most t next m kept =
    let most = filter_most (entries t) in
    let all = len-entries t in
    omega (arith, most, all, kept.counted, kept.fits, kept.drawn)

none_pass : (es : List (ℕ × Pass)) → (length (filter (λ e. has_batch e.1) es) == 0) ≡ not (list_any (λ e. has_batch e.1) es)
none_pass [] = refl
none_pass (e ∷ es) = by (has_batch e.1) (none_pass es)
  where
    more : (n : ℕ) → (suc n == 0) ≡ false
    more n = search rules

    by : (b : Bool) → (length (filter (λ e. has_batch e.1) es) == 0) ≡ not (list_any (λ e. has_batch e.1) es)
        → (length (cond b (e ∷ filter (λ e. has_batch e.1) es) (filter (λ e. has_batch e.1) es)) == 0) ≡ not (b || list_any (λ e. has_batch e.1) es)
    by true h = more (length (filter (λ e. has_batch e.1) es))
    by false h = h

pub quiet : (t : Table) (next m : ℕ) → IsKept t next m → (m == 0) ≡ not (list_any (λ e. has_batch e.1) (entries t))
quiet t next m kept = ap (λ n. n == 0) kept.counted ∙ none_pass (entries t)

-- ---- what each call leaves

no_batches : (x y z : Bool) → (x || y || z) ≡ false → z ≡ false
no_batches x y false h = refl
no_batches true y true h = cc
no_batches false true true h = cc
no_batches false false true h = cc

-- what holds of one of two that both fail
pub neither : (x y : Bool) → (x || y) ≡ false → x ≡ false
neither false y h = refl
neither true y h = cc

pub idle_bit : (x y : Bool) (k : Option Pass) → (x || y || not (batches_in k == 0)) ≡ false → bit_at has_batch k ≡ 0
idle_bit x y None h = refl
idle_bit x y (Some pass) h = ap bit (no_batches x y (not (pass.batches == 0)) h)

pub batch_begun : (t now : Table) (next m after n b more : ℕ) → IsSome (get t n) → b ≡ batches_in (get t n) → more ≡ b + 1 → after ≡ (if b == 0 then m + 1 else m)
    → now ≡ changed (with_batches more) n t → IsKept t next m → IsKept now next after
batch_begun t now next m after n b more some is one count set kept = by (get t n) refl some is
  where
    by : (k : Option Pass) → get t n ≡ k → IsSome k → b ≡ batches_in k → IsKept now next after
    by None e h i = absurd (no h)
      where
        no : false ≡ true → ⊥
        no j = cc
    by (Some pass) e h i =
        kept_changed t now next m after n (with_batches more) pass e set
        (ap (λ x. after + bit (not (x == 0))) (sym i) ∙ more_bit b m after count ∙ ap (λ x. m + bit (not (x == 0))) (sym one)) kept

pub some_open : (t : Table) (next m n b : ℕ) → b ≡ batches_in (get t n) → (b ≡ 0 → ⊥) → IsKept t next m → 0 < m
some_open t next m n b is some kept = by (get t n) refl is
  where
    by : (k : Option Pass) → get t n ≡ k → b ≡ batches_in k → 0 < m
    by None e i = absurd (some i)
    by (Some pass) e i = some_in_batch t next m n pass e (ap not (unlike pass.batches (λ z. some (i ∙ z)))) kept
      where
        unlike : (x : ℕ) → (x ≡ 0 → ⊥) → (x == 0) ≡ false
        unlike x h = search (rules, h)

pub batch_ended : (t now : Table) (next m after n b less : ℕ) → b ≡ batches_in (get t n) → (b ≡ 0 → ⊥) → less ≡ b - 1 → after ≡ (if b == 1 then m - 1 else m)
    → now ≡ changed (with_batches less) n t → IsKept t next m → IsKept now next after
batch_ended t now next m after n b less is some one count set kept = by (get t n) refl is
  where
    unlike : (x : ℕ) → (x ≡ 0 → ⊥) → (x == 0) ≡ false
    unlike x h = search (rules, h)

    by : (k : Option Pass) → get t n ≡ k → b ≡ batches_in k → IsKept now next after
    by None e i = absurd (some i)
    by (Some pass) e i =
        kept_changed t now next m after n (with_batches less) pass e set
        (ap (λ x. after + bit (not (x == 0))) (sym i) ∙ less_bit b m after count (unlike b some) (some_open t next m n b is some kept) ∙ ap (λ x. m + bit (not (x == 0))) (sym one)) kept

pub all_ended : (t now : Table) (next m after n : ℕ) (pass : Pass) → get t n ≡ Some pass → after ≡ (if pass.batches == 0 then m else m - 1)
    → now ≡ changed (λ _. idle) n t → IsKept t next m → IsKept now next after
all_ended t now next m after n pass is count set kept =
    kept_changed t now next m after n (λ _. idle) pass is set
    (gone_bit pass.batches m after count (λ h. some_in_batch t next m n pass is (ap not h) kept)) kept

pub job_begun : (t now : Table) (next m n : ℕ) (job : Option (List ℕ)) → IsSome (get t n) → now ≡ changed (with_job job) n t → IsKept t next m → IsKept now next m
job_begun t now next m n job some set kept = by (get t n) refl some
  where
    by : (k : Option Pass) → get t n ≡ k → IsSome k → IsKept now next m
    by None e h = absurd (no h)
      where
        no : false ≡ true → ⊥
        no j = cc
    by (Some pass) e h = kept_changed t now next m m n (with_job job) pass e set refl kept

-- ---- whether a batch is open

-- where a pass has one, some are open
pub batches_within : (t : Table) (next m n b : ℕ) → IsKept t next m → b ≡ batches_in (get t n) → (b == 0) ≡ false → 0 < m
batches_within t next m n b kept is h = some_open t next m n b is (λ e. differ_zero b h e) kept
  where
    differ_zero : (x : ℕ) → (x == 0) ≡ false → x ≡ 0 → ⊥
    differ_zero x g e = no (sym (ap (λ y. y == 0) e) ∙ g)
      where
        no : true ≡ false → ⊥
        no i = cc

-- once a pass has one more, some are open
pub one_open : (t : Table) (next m after n b : ℕ) → IsKept t next m → b ≡ batches_in (get t n) → after ≡ (if b == 0 then m + 1 else m) → (after == 0) ≡ false
one_open t next m after n b kept is count = by (b == 0) refl count
  where
    not_zero : (x : ℕ) → 0 < x → (x == 0) ≡ false
    not_zero x h = grind (arith, nat_tests)

    by : (e : Bool) → (b == 0) ≡ e → after ≡ (if e then m + 1 else m) → (after == 0) ≡ false
    by true e h = not_zero after (omega (arith, h))
    by false e h = not_zero after (let some = batches_within t next m n b kept is e in omega (arith, h, some))

-- what is left once a pass has none any more
pub quiet_beside : (t : Table) (next m after n b : ℕ) → IsKept t next m → b ≡ batches_in (get t n) → after ≡ (if b == 0 then m else m - 1)
    → (after == 0) ≡ not (list_any (λ e. has_batch e.1) (entries (changed (λ _. idle) n t)))
quiet_beside t next m after n b kept is count = by (get t n) refl
  where
    by : (k : Option Pass) → get t n ≡ k → (after == 0) ≡ not (list_any (λ e. has_batch e.1) (entries (changed (λ _. idle) n t)))
    by None e =
        let none : b ≡ 0 = is ∙ ap batches_in e in
        let same : after ≡ m = count ∙ ap (λ x. if x == 0 then m else m - 1) none in
        ap (λ x. x == 0) same ∙ quiet t next m kept ∙ ap (λ k. not (list_any (λ e. has_batch e.1) (entries (put_if t n (option_map (λ _. idle) k))))) (sym e)
    by (Some pass) e =
        let same : after ≡ (if pass.batches == 0 then m else m - 1) = count ∙ ap (λ x. if x == 0 then m else m - 1) (is ∙ ap batches_in e) in
        quiet (changed (λ _. idle) n t) next after (all_ended t (changed (λ _. idle) n t) next m after n pass e same refl kept)

-- the pass's own count is the one that is known
pub one_fewer : (t : Table) (n b : ℕ) → b ≡ batches_in (get t n) → changed (λ (pass : Pass). with_batches (pass.batches - 1) pass) n t ≡ changed (with_batches (b - 1)) n t
one_fewer t n b is = by (get t n) is
  where
    by : (k : Option Pass) → b ≡ batches_in k → put_if t n (option_map (λ (pass : Pass). with_batches (pass.batches - 1) pass) k) ≡ put_if t n (option_map (with_batches (b - 1)) k)
    by None h = refl
    by (Some pass) h = ap (λ x. insert t n (with_batches (x - 1) pass)) (sym h)
