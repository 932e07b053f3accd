-- What a search has still to do.
use Rattle.std.proofs.Common.{◌≡◌, ℕ, zero, suc, ◌+◌, ◌<◌, ◌≤◌, List, [], ◌∷◌, length, get_or, set, refl, ap, arith}
use Rattle.build_order.specs.declared.search.Mark.{Mark}
use Rattle.build_order.specs.declared.search.Mark.TheVariants.{New, Open, Closed}
use Rattle.build_order.specs.Inside.Graphs.{Graph}
use Rattle.build_order.specs.Inside.Searches.{mark_at, cost, cost_of}

-- opening a number takes its references and two from the cost
pub cost_opened : (marks : List Mark) (g : Graph) (n p : ℕ) → length marks ≡ length g → n < length g → mark_at marks n ≡ New
    → cost_of (set marks n (Open p)) g + (length (get_or g n []) + 2) ≡ cost_of marks g
cost_opened [] [] n p e lt is = absurd (omega arith)
cost_opened [] (row ∷ g) n p e lt is = absurd (omega arith)
cost_opened (m ∷ marks) [] n p e lt is = absurd (omega arith)
cost_opened (m ∷ marks) (row ∷ g) zero p e lt is = let c : cost m row ≡ length row + 2 = ap (λ x. cost x row) is in omega (arith, c)
cost_opened (m ∷ marks) (row ∷ g) (suc n) p e lt is =
    let c : cost_of (set marks n (Open p)) g + (length (get_or g n []) + 2) ≡ cost_of marks g = cost_opened marks g n p (omega (arith, e)) (omega (arith, lt)) is in omega (arith, c)

cost_one : (m k : Mark) (row : List ℕ) → (m ≡ New → k ≡ New) → cost m row ≤ cost k row
cost_one New k row f = let c : cost k row ≡ length row + 2 = ap (λ x. cost x row) (f refl) in omega (arith, c)
cost_one (Open p) k row f = omega arith
cost_one (Closed l) k row f = omega arith

-- where no number is new that wasn't, the cost hasn't grown
pub cost_kept : (marks new : List Mark) (g : Graph) → length new ≡ length marks → ((n : ℕ) → mark_at new n ≡ New → mark_at marks n ≡ New) → cost_of new g ≤ cost_of marks g
cost_kept marks [] g e f = omega arith
cost_kept [] (m ∷ new) g e f = absurd (omega (arith, e))
cost_kept (k ∷ marks) (m ∷ new) [] e f = omega arith
cost_kept (k ∷ marks) (m ∷ new) (row ∷ g) e f =
    let first : cost m row ≤ cost k row = cost_one m k row (f 0) in
    let others : cost_of new g ≤ cost_of marks g = cost_kept marks new g (omega (arith, e)) (λ n. f (suc n)) in
    omega (arith, first, others)
