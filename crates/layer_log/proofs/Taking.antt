-- Changes that are taken in one after another.
use Rattle.std.proofs.Common.{◌≡◌, ◌≢◌, ◌↔◌, ℕ, ◌+◌, ◌-◌, ◌≤◌, arith, cond, Bool, true, false, List, ◌∷◌, [], T, refl, sym, ap, ◌∙◌, subst}
use Rattle.std.specs.Prelude.{Option, Some, None, IfSome}
use Rattle.std.specs.FinMap.{get, insert, remove, entries, entries_sorted, get-entries, find, is_sorted, len, len-insert, len-remove, contains_key}
use Rattle.res_path.specs.Paths.{Names, path_cmp}
use Rattle.res_path.specs.PathLaws.{path_cmp_total}
use Rattle.layer_log.specs.declared.change.Change.{Change}
use Rattle.layer_log.specs.Records.{Records, Settled}
use Rattle.layer_log.specs.Inside.Compositions.{one_of, Kept, Joined, Composed}
use Rattle.layer_log.proofs.Looks.{put_here, put_elsewhere, gone_here, gone_elsewhere, path_cases, find_first, find_later, sorted_tail, none_after}

-- what is to be said of one path while changes are left
abbrev pub At : Option Change → Option Change → Option Change → Option Change → Type 0
At None x y z = Joined x y z
At (Some s) x y z = (y ≡ Some s) × (z ≡ x)

-- the changes that are left are still to be taken in, and all others are
pub record Taking (a next : Records) (rest : List (Names × Change)) (now : Records) : Type 0 where
  pub sorted : T (is_sorted path_cmp rest)
  pub each : (q : Names) → At (find path_cmp q rest) (get a q) (get next q) (get now q)

-- a settled change is kept
alone : (x : Option Change) → IfSome x (λ r. r.before ≢ r.after) → Joined x None x
alone None h = refl
alone (Some r) h = (refl, h)

begins : (x y : Option Change) → IfSome x (λ r. r.before ≢ r.after) → At y x y x
begins x None h = alone x h
begins x (Some s) h = (refl, refl)

pub taking_begins : (a next : Records) → Settled a → Taking a next (entries next) a
taking_begins a next h = record {
  sorted = entries_sorted next;
  each = λ q. subst (λ y. At y (get a q) (get next q) (get a q)) (get-entries next q) (begins (get a q) (get next q) (h q));
}

pub taking_steps : (a next now later : Records) (e : Names × Change) (rest : List (Names × Change)) → Taking a next (e ∷ rest) now
    → Joined (get now e.0) (Some e.1) (get later e.0) → ((q : Names) → q ≢ e.0 → get later q ≡ get now q) → Taking a next rest later
taking_steps a next now later e rest t here others = record {
  sorted = sorted_tail e rest t.sorted;
  each = λ q. path_cases q e.0
      (λ is. subst (λ x. At (find path_cmp x rest) (get a x) (get next x) (get later x)) (sym is)
      (let was : (get next e.0 ≡ Some e.1) × (get now e.0 ≡ get a e.0) = subst (λ y. At y (get a e.0) (get next e.0) (get now e.0)) (find_first e rest) (t.each e.0) in
      subst (λ y. At y (get a e.0) (get next e.0) (get later e.0)) (sym (none_after e rest t.sorted))
      (subst (λ y. Joined (get a e.0) y (get later e.0)) (sym was.0)
      (subst (λ x. Joined x (Some e.1) (get later e.0)) was.1 here))))
      (λ other. subst (λ z. At (find path_cmp q rest) (get a q) (get next q) z) (sym (others q other))
      (subst (λ y. At y (get a q) (get next q) (get now q)) (find_later q e rest other) (t.each q)));
}

pub taking_ends : (a next now : Records) → Taking a next [] now → Composed a next now
taking_ends a next now t = t.each

-- the answer of a test that found no equal entries
pub no_idle : {P : Type 0} (b : Bool) → b ≡ false → (b ≡ true) ↔ P → P → ⊥
no_idle true e i = cc
no_idle false e i = λ p. never (i.1 p)
  where
    never : false ≡ true → ⊥
    never h = cc

-- one change is taken in: what the path had is taken out, and the change that both come to is put in, or isn't
module _ (old taken : Records) (p : Names) (next : Change) (was : Option Change) (change : Change) (is_was : was ≡ get old p) (is_taken : taken ≡ remove old p) (is_change : change ≡ one_of was next) where
  same_change : change ≡ one_of (get old p) next
  same_change = is_change ∙ ap (λ w. one_of w next) is_was

  pub kept_put : (now : Records) (path : Names) → path ≡ p → now ≡ insert taken path change → change.before ≢ change.after → Kept (one_of (get old p) next) (get now p)
  kept_put now path is_path is_now h =
      subst (Kept (one_of (get old p) next)) (sym (ap (λ m. get m p) (is_now ∙ ap (λ q. insert taken q change) is_path) ∙ put_here taken p change)) (same_change, subst (λ c. c.before ≢ c.after) same_change h)

  pub others_put : (now : Records) (path : Names) → path ≡ p → now ≡ insert taken path change → (q : Names) → q ≢ p → get now q ≡ get old q
  others_put now path is_path is_now q h = ap (λ m. get m q) (is_now ∙ ap (λ r. insert taken r change) is_path) ∙ put_elsewhere taken p q change h ∙ ap (λ m. get m q) is_taken ∙ gone_elsewhere old p q h

  pub kept_gone : change.before ≡ change.after → Kept (one_of (get old p) next) (get taken p)
  kept_gone h = subst (Kept (one_of (get old p) next)) (sym (ap (λ m. get m p) is_taken ∙ gone_here old p)) (subst (λ c. c.before ≡ c.after) same_change h)

  pub others_gone : (q : Names) → q ≢ p → get taken q ≡ get old q
  others_gone q h = ap (λ m. get m q) is_taken ∙ gone_elsewhere old p q h

-- ---- how many there are then

fewer : (b : Bool) (n : ℕ) → cond b (n - 1) n ≤ n
fewer true n = omega arith
fewer false n = omega arith

one_more : (b : Bool) (n : ℕ) → cond b n (n + 1) ≤ n + 1
one_more true n = omega arith
one_more false n = omega arith

taken_fewer : (old taken : Records) (p : Names) → taken ≡ remove old p → len taken ≤ len old
taken_fewer old taken p is = subst (λ n. n ≤ len old) (sym (ap len is ∙ len-remove path_cmp_total old p)) (fewer (contains_key old p) (len old))

pub most_put : (old taken now : Records) (p q : Names) (change : Change) → taken ≡ remove old p → now ≡ insert taken q change → len now ≤ len old + 1
most_put old taken now p q change is_taken is_now =
    let gone = taken_fewer old taken p is_taken in
    let put = subst (λ n. n ≤ len taken + 1) (sym (ap len is_now ∙ len-insert path_cmp_total taken q change)) (one_more (contains_key taken q) (len taken)) in
    omega (arith, gone, put)

pub most_gone : (old taken : Records) (p : Names) → taken ≡ remove old p → len taken ≤ len old + 1
most_gone old taken p is =
    let gone = taken_fewer old taken p is in
    omega (arith, gone)
