-- Workers by their places.
use Rattle.std.proofs.Common.{◌≡◌, ◌∙◌, ◌<◌, ◌+◌, ℕ, zero, suc, List, [], ◌∷◌, ◌++◌, length, map, take, drop, refl, sym, ap, subst, arith, length-append}
use Rattle.std.specs.Prelude.{slice_index_or}
use Rattle.std.specs.List.{AllByRecursion}
use Rattle.phase_pool.specs.Workers.{Hand, worker_at}

-- ---- one more at the end

pub at_front : (vs : List Hand) (w : Hand) (i : ℕ) → i < length vs → worker_at (vs ++ w ∷ []) i ≡ worker_at vs i
at_front [] w i lt = absurd (omega (arith, lt))
at_front (v ∷ vs) w zero lt = refl
at_front (v ∷ vs) w (suc i) lt = at_front vs w i (omega (arith, lt))

pub at_last : (vs : List Hand) (w : Hand) → worker_at (vs ++ w ∷ []) (length vs) ≡ w
at_last [] w = refl
at_last (v ∷ vs) w = at_last vs w

pub map_more : {W X : Type 0} (f : W → X) (xs : List W) (y : W) → map f (xs ++ y ∷ []) ≡ map f xs ++ f y ∷ []
map_more f [] y = refl
map_more f (x ∷ xs) y = ap (λ l. f x ∷ l) (map_more f xs y)

pub all_more : {W : Type 0} (P : W → Type 0) (xs : List W) (y : W) → AllByRecursion P xs → P y → AllByRecursion P (xs ++ y ∷ [])
all_more P [] y all p = (p, tt)
all_more P (x ∷ xs) y all p = (all.0, all_more P xs y all.1 p)

-- what holds at each place but the last, and there
pub each_more : (Q : Hand → ℕ → Type 0) (vs : List Hand) (w : Hand) → ((i : ℕ) → i < length vs → Q (worker_at vs i) i) → Q w (length vs) → (i : ℕ) → i < length (vs ++ w ∷ []) → Q (worker_at (vs ++ w ∷ []) i) i
each_more Q [] w f p zero lt = p
each_more Q [] w f p (suc i) lt = absurd (omega (arith, lt))
each_more Q (v ∷ vs) w f p zero lt = f 0 (omega arith)
each_more Q (v ∷ vs) w f p (suc i) lt = each_more (λ h j. Q h (suc j)) vs w (λ j lt. f (suc j) (omega (arith, lt))) p i (omega (arith, lt))

-- ---- the first one taken away

pub first_and_rest : {W : Type 0} (xs ys : List W) (x : W) → 0 < length xs → x ≡ slice_index_or xs 0 x → ys ≡ take 0 xs ++ drop 1 xs → xs ≡ x ∷ ys
first_and_rest [] ys x some is rest = absurd (omega (arith, some))
first_and_rest (z ∷ zs) ys x some is rest = ap (λ y. y ∷ zs) (sym is) ∙ ap (λ l. x ∷ l) (sym rest)

-- ---- what holds of all workers

pub all_images : {W : Type 0} (f : W → Hand) (P : Hand → Type 0) (ws : List W) → AllByRecursion (λ w. P (f w)) ws → (i : ℕ) → i < length (map f ws) → P (worker_at (map f ws) i)
all_images f P [] all i lt = absurd (omega (arith, lt))
all_images f P (w ∷ ws) all zero lt = all.0
all_images f P (w ∷ ws) all (suc i) lt = all_images f P ws all.1 i (omega (arith, lt))

pub all_from : {W : Type 0} (f : W → Hand) (P : Hand → Type 0) (ws : List W) → ((i : ℕ) → i < length (map f ws) → P (worker_at (map f ws) i)) → AllByRecursion (λ w. P (f w)) ws
all_from f P [] g = tt
all_from f P (w ∷ ws) g = (g 0 (omega arith), all_from f P ws (λ i lt. g (suc i) (omega (arith, lt))))

pub all_both : {W : Type 0} (P Q R : W → Type 0) → ((w : W) → P w → Q w → R w) → (ws : List W) → AllByRecursion P ws → AllByRecursion Q ws → AllByRecursion R ws
all_both P Q R f [] p q = tt
all_both P Q R f (w ∷ ws) p q = (f w p.0 q.0, all_both P Q R f ws p.1 q.1)

pub all_mapped : {W X : Type 0} (f : W → X) (P : X → Type 0) (ws : List W) → AllByRecursion (λ w. P (f w)) ws → AllByRecursion P (map f ws)
all_mapped f P [] all = tt
all_mapped f P (w ∷ ws) all = (all.0, all_mapped f P ws all.1)

-- ---- one that is pushed

pub pushed : {W X : Type 0} (f : W → X) (xs ys zs : List W) (y : W) → ys ≡ xs → zs ≡ ys ++ y ∷ [] → map f zs ≡ map f xs ++ f y ∷ []
pushed f xs ys zs y d e = ap (map f) (e ∙ ap (λ l. l ++ y ∷ []) d) ∙ map_more f xs y

pub all_pushed : {W : Type 0} (P : W → Type 0) (xs ys zs : List W) (y : W) → ys ≡ xs → zs ≡ ys ++ y ∷ [] → AllByRecursion P xs → P y → AllByRecursion P zs
all_pushed P xs ys zs y d e all p = subst (AllByRecursion P) (sym (e ∙ ap (λ l. l ++ y ∷ []) d)) (all_more P xs y all p)

pub pushed_len : {W : Type 0} (xs ys zs : List W) (y : W) → ys ≡ xs → zs ≡ ys ++ y ∷ [] → length zs ≡ length xs + 1
pushed_len xs ys zs y d e = ap length (e ∙ ap (λ l. l ++ y ∷ []) d) ∙ length-append xs (y ∷ [])
