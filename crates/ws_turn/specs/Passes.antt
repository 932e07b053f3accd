-- What contracts see of a pass and of a lock.
use Rattle.std.specs.Prelude.{Bool, ◌≡◌, ◌≢◌, ◌⊎◌, ℕ, List, [], ◌∷◌, ◌++◌, true, false, is_some, Option, Some}
use Rattle.ws_turn.specs.declared.logged.Logged.{Ghosts}
use Rattle.ws_turn.specs.declared.pass.Pass.{Pass}
use Rattle.ws_turn.specs.declared.shared.Shared.{Shared}
use Rattle.ws_turn.specs.Lists.{of, has, given, HasNoneOf}

-- A pass: its number, the entries that it has seen, those of its own number, the numbers that it gave in vain,
-- the numbers of the passes that were joined to it since it took the value, and whether it holds the value
pub record Known (E : Type 0) : Type 0 where
  pub number : ℕ
  pub seen : List E
  pub mine : List E
  pub lost : List ℕ
  pub joined : List ℕ
  pub holds : Bool

-- the base of the value that the lock was made with
abbrev pub base_of : {S E B : Type 0} → (S → B) → Shared S E B → B
base_of base s = base s.table.shared.key.value

module _ {S E B : Type 0} {T : Ghosts S E B} where
  abbrev pub known : Pass S E B T → Known E
  known p = record { number = p.number; seen = p.seat.me.0.seen; mine = p.seat.me.0.mine; lost = p.seat.me.0.lost; joined = p.seat.me.0.joined; holds = is_some p.seat.me.0.held }

  -- the base that the pass knows, that of its lock
  abbrev pub base_in : Pass S E B T → Option B
  base_in p = p.seat.me.0.base

  -- the pass is one of this lock's
  abbrev pub IsOf : Shared S E B → Pass S E B T → Type 0
  IsOf s p = (p.seat.table_id ≡ s.table.shared.table_id) × (p.seat.me.0.base ≡ Some (base_of T.base s))

-- What the pass has seen has just those entries of its number that it knows as its own, and none of a number that it gave in vain.
-- No pass that was joined to it had its number
abbrev pub IsFaithful : {E : Type 0} → (E → ℕ) → Known E → Type 0
IsFaithful by p = (of by p.number p.seen ≡ p.mine) × HasNoneOf by p.lost p.seen × (has p.number p.joined ≡ false)

module _ {E : Type 0} (by : E → ℕ) (gives : E → Option ℕ) where
  -- the entry is of the pass's number, or of one that was joined to it since it took the value
  abbrev pub IsOwn : Known E → E → Type 0
  IsOwn p e = (by e ≡ p.number) ⊎ (has (by e) p.joined ≡ true)

  -- where the entry gives a number, it is new
  abbrev pub GivesNew : Known E → E → Type 0
  GivesNew p e = (m : ℕ) → gives e ≡ Some m → (m ≢ 0) × (given gives m p.seen ≡ false)

  -- the list is what the pass has seen, or has one entry more
  abbrev pub IsNext : Known E → List E → Type 0
  IsNext p xs = (xs ≡ p.seen) ⊎ ((e : E) × (xs ≡ p.seen ++ e ∷ []) × IsOwn p e × GivesNew p e)

  -- the list has one entry more than the pass has seen, of the pass's own number, which gives the new number m
  abbrev pub Enters : Known E → List E → ℕ → Type 0
  Enters p xs m = (e : E) × (xs ≡ p.seen ++ e ∷ []) × (by e ≡ p.number) × (gives e ≡ Some m) × (m ≢ 0) × (given gives m p.seen ≡ false)
