-- What tests of lists say of what the lists contain.
use Rattle.std.proofs.Common.{◌≡◌, inl, inr, ℕ, suc, ◌<◌, ◌≤◌, Bool, true, false, cond, List, [], ◌∷◌, ◌++◌, map, length, Some, None, refl, sym, ap, ◌∙◌, subst, arith}
use Rattle.std.specs.List.{AllByRecursion, Contains, filter, find, list_all, list_any, flat_map}
use Rattle.std.specs.Str.{bytes_eq}
use Rattle.std.specs.Cmp.Lexicographic.{bytes_decides}
use Rattle.std.proofs.lemmas.Bool.{or_cases, or_left, or_right, and_from, and_parts, and_cases}
use Rattle.std.proofs.lemmas.List.Elements.{Contains-append_cases}
use Rattle.res_path.specs.Paths.{Names}
use Rattle.build_order.proofs.Members.{none, cons_cases, at_front, behind}
use Rattle.build_plan.specs.Ordered.{is_among}

module _ {X : Type 0} where
  pub any_has : (p : X → Bool) (xs : List X) (x : X) → Contains xs x → p x ≡ true → list_any p xs ≡ true
  any_has p [] x i h = absurd (none x i)
  any_has p (y ∷ ys) x i h = elim (cons_cases y ys x i) [
    | inl same ↦ or_left (p y) (list_any p ys) (ap p same ∙ h)
    | inr later ↦ or_right (p y) (list_any p ys) (any_has p ys x later h)
  ]

  pub has_any : (p : X → Bool) (xs : List X) → list_any p xs ≡ true → (x : X) × Contains xs x × (p x ≡ true)
  has_any p [] h = cc
  has_any p (y ∷ ys) h = elim (or_cases (p y) (list_any p ys) h) [
    | inl here ↦ (y, at_front y ys, here)
    | inr later ↦ let r = has_any p ys later in (r.0, behind y ys r.0 r.1, r.2)
  ]

  pub all_has : (p : X → Bool) (xs : List X) (x : X) → list_all p xs ≡ true → Contains xs x → p x ≡ true
  all_has p [] x h i = absurd (none x i)
  all_has p (y ∷ ys) x h i =
      let parts = and_parts (p y) (list_all p ys) h in
      elim (cons_cases y ys x i) [ inl same ↦ sym (ap p same) ∙ parts.0 | inr later ↦ all_has p ys x parts.1 later ]

  pub all_from : (p : X → Bool) (xs : List X) → ((x : X) → Contains xs x → p x ≡ true) → list_all p xs ≡ true
  all_from p [] h = refl
  all_from p (y ∷ ys) h = and_from (p y) (list_all p ys) (h y (at_front y ys)) (all_from p ys (λ x i. h x (behind y ys x i)))

  pub all_fails : (p : X → Bool) (xs : List X) → list_all p xs ≡ false → (x : X) × Contains xs x × (p x ≡ false)
  all_fails p [] h = cc
  all_fails p (y ∷ ys) h = elim (and_cases (p y) (list_all p ys) h) [
    | inl here ↦ (y, at_front y ys, here)
    | inr later ↦ let r = all_fails p ys later in (r.0, behind y ys r.0 r.1, r.2)
  ]

  pub filter_has : (p : X → Bool) (xs : List X) (x : X) → Contains xs x → p x ≡ true → Contains (filter p xs) x
  filter_has p [] x i h = absurd (none x i)
  filter_has p (y ∷ ys) x i h = by (p y) refl (λ j. filter_has p ys x j h)
    where
      by : (b : Bool) → p y ≡ b → (Contains ys x → Contains (filter p ys) x) → Contains (cond b (y ∷ filter p ys) (filter p ys)) x
      by true e go = elim (cons_cases y ys x i) [
        | inl same ↦ subst (Contains (y ∷ filter p ys)) same (at_front y (filter p ys))
        | inr later ↦ behind y (filter p ys) x (go later)
      ]
      by false e go = elim (cons_cases y ys x i) [
        | inl same ↦ absurd (let no : true ≡ false = sym h ∙ sym (ap p same) ∙ e in cc)
        | inr later ↦ go later
      ]

  pub has_filter : (p : X → Bool) (xs : List X) (x : X) → Contains (filter p xs) x → Contains xs x × (p x ≡ true)
  has_filter p [] x i = absurd (none x i)
  has_filter p (y ∷ ys) x i = by (p y) refl i (has_filter p ys x)
    where
      by : (b : Bool) → p y ≡ b → Contains (cond b (y ∷ filter p ys) (filter p ys)) x → (Contains (filter p ys) x → Contains ys x × (p x ≡ true)) → Contains (y ∷ ys) x × (p x ≡ true)
      by true e j go = elim (cons_cases y (filter p ys) x j) [
        | inl same ↦ (subst (Contains (y ∷ ys)) same (at_front y ys), sym (ap p same) ∙ e)
        | inr later ↦ let r = go later in (behind y ys x r.0, r.1)
      ]
      by false e j go = let r = go j in (behind y ys x r.0, r.1)

  -- a test that passes more keeps more
  pub filter_most : (p : X → Bool) (xs : List X) → length (filter p xs) ≤ length xs
  filter_most p [] = omega arith
  filter_most p (y ∷ ys) = by (p y) (filter_most p ys)
    where
      by : (b : Bool) → length (filter p ys) ≤ length ys → length (cond b (y ∷ filter p ys) (filter p ys)) ≤ suc (length ys)
      by true h = omega arith
      by false h = omega arith

  pub filter_more : (p q : X → Bool) → ((x : X) → p x ≡ true → q x ≡ true) → (xs : List X) → length (filter p xs) ≤ length (filter q xs)
  filter_more p q on [] = omega arith
  filter_more p q on (y ∷ ys) = by (p y) (q y) (on y) (filter_more p q on ys)
    where
      by : (b c : Bool) → (b ≡ true → c ≡ true) → length (filter p ys) ≤ length (filter q ys) → length (cond b (y ∷ filter p ys) (filter p ys)) ≤ length (cond c (y ∷ filter q ys) (filter q ys))
      by true true on h = omega arith
      by true false on h = absurd (let no : false ≡ true = on refl in cc)
      by false true on h = omega arith
      by false false on h = h

  pub filter_fewer : (p q : X → Bool) → ((x : X) → p x ≡ true → q x ≡ true) → (xs : List X) (x : X) → Contains xs x → p x ≡ false → q x ≡ true → length (filter p xs) < length (filter q xs)
  filter_fewer p q on [] x i not_p is_q = absurd (none x i)
  filter_fewer p q on (y ∷ ys) x i not_p is_q = elim (cons_cases y ys x i) [
    | inl same ↦ here (p y) (q y) (ap p same ∙ not_p) (ap q same ∙ is_q)
    | inr later ↦ there (p y) (q y) (on y) (filter_fewer p q on ys x later not_p is_q)
  ]
    where
      here : (b c : Bool) → b ≡ false → c ≡ true → length (cond b (y ∷ filter p ys) (filter p ys)) < length (cond c (y ∷ filter q ys) (filter q ys))
      here true c e f = absurd (let no : true ≡ false = e in cc)
      here false true e f = let more = filter_more p q on ys in omega arith
      here false false e f = absurd (let no : false ≡ true = f in cc)

      there : (b c : Bool) → (b ≡ true → c ≡ true) → length (filter p ys) < length (filter q ys) → length (cond b (y ∷ filter p ys) (filter p ys)) < length (cond c (y ∷ filter q ys) (filter q ys))
      there true true on h = omega arith
      there true false on h = absurd (let no : false ≡ true = on refl in cc)
      there false true on h = omega arith
      there false false on h = h

  -- what is found stands behind what doesn't pass
  pub record IsFirst (p : X → Bool) (xs : List X) (x : X) : Type 0 where
    pub front : List X
    pub back : List X
    pub is : xs ≡ front ++ x ∷ back
    pub before : AllByRecursion (λ y. p y ≡ false) front
    pub passes : p x ≡ true

  pub found : (p : X → Bool) (xs : List X) (x : X) → find p xs ≡ Some x → IsFirst p xs x
  found p [] x h = absurd (let no : None ≡ Some x = h in cc)
  found p (y ∷ ys) x h = by (p y) refl h (found p ys x)
    where
      by : (b : Bool) → p y ≡ b → cond b (Some y) (find p ys) ≡ Some x → (find p ys ≡ Some x → IsFirst p ys x) → IsFirst p (y ∷ ys) x
      by true e g go = let same : y ≡ x = cc in record { front = []; back = ys; is = ap (λ z. z ∷ ys) same; before = tt; passes = sym (ap p same) ∙ e }
      by false e g go = let r = go g in record { front = y ∷ r.front; back = r.back; is = ap (λ zs. y ∷ zs) r.is; before = (e, r.before); passes = r.passes }

  pub found_none : (p : X → Bool) (xs : List X) → find p xs ≡ None → (x : X) → Contains xs x → p x ≡ false
  found_none p [] h x i = absurd (none x i)
  found_none p (y ∷ ys) h x i = by (p y) refl h (λ g. found_none p ys g x)
    where
      by : (b : Bool) → p y ≡ b → cond b (Some y) (find p ys) ≡ None → (find p ys ≡ None → Contains ys x → p x ≡ false) → p x ≡ false
      by true e g go = absurd (let no : Some y ≡ None = g in cc)
      by false e g go = elim (cons_cases y ys x i) [ inl same ↦ sym (ap p same) ∙ e | inr later ↦ go g later ]

  pub all_at : (P : X → Type 0) (xs : List X) (x : X) → AllByRecursion P xs → Contains xs x → P x
  all_at P [] x h i = absurd (none x i)
  all_at P (y ∷ ys) x h i = elim (cons_cases y ys x i) [ inl same ↦ subst P same h.0 | inr later ↦ all_at P ys x h.1 later ]

  pub each : (P : X → Type 0) (xs : List X) → ((x : X) → Contains xs x → P x) → AllByRecursion P xs
  each P [] h = tt
  each P (y ∷ ys) h = (h y (at_front y ys), each P ys (λ x i. h x (behind y ys x i)))

  pub filter_none : (p : X → Bool) (xs : List X) → AllByRecursion (λ x. p x ≡ false) xs → filter p xs ≡ []
  filter_none p [] h = refl
  filter_none p (x ∷ xs) h = ap (λ b. cond b (x ∷ filter p xs) (filter p xs)) h.0 ∙ filter_none p xs h.1

pub has_map : {X Y : Type 0} (f : X → Y) (xs : List X) (x : X) → Contains xs x → Contains (map f xs) (f x)
has_map f [] x i = absurd (none x i)
has_map f (y ∷ ys) x i = elim (cons_cases y ys x i) [
  | inl same ↦ subst (λ z. Contains (f y ∷ map f ys) (f z)) same (at_front (f y) (map f ys))
  | inr later ↦ behind (f y) (map f ys) (f x) (has_map f ys x later)
]

pub map_has : {X Y : Type 0} (f : X → Y) (xs : List X) (y : Y) → Contains (map f xs) y → (x : X) × Contains xs x × (f x ≡ y)
map_has f [] y i = absurd (none y i)
map_has f (x ∷ xs) y i = elim (cons_cases (f x) (map f xs) y i) [
  | inl same ↦ (x, at_front x xs, same)
  | inr later ↦ let r = map_has f xs y later in (r.0, behind x xs r.0 r.1, r.2)
]

pub flat_has : {X Y : Type 0} (f : X → List Y) (xs : List X) (y : Y) → Contains (flat_map f xs) y → (x : X) × Contains xs x × Contains (f x) y
flat_has f [] y i = absurd (none y i)
flat_has f (x ∷ xs) y i = elim (Contains-append_cases (f x) (flat_map f xs) y i) [
  | inl here ↦ (x, at_front x xs, here)
  | inr later ↦ let r = flat_has f xs y later in (r.0, behind x xs r.0 r.1, r.2)
]

-- ---- names

pub is_one : (names : Names) (n : List ℕ) → is_among names n ≡ true → Contains names n
is_one names n h = let r = has_any (bytes_eq n) names h in subst (Contains names) (sym ((bytes_decides n r.0).0 r.2)) r.1

pub one_is : (names : Names) (n : List ℕ) → Contains names n → is_among names n ≡ true
one_is names n i = any_has (bytes_eq n) names n i ((bytes_decides n n).1 refl)
