-- What contracts see of passes and of their turns.
use Rattle.std.specs.Prelude.{◌≡◌, ◌≢◌, ◌⊎◌, ℕ, List, [], ◌∷◌, ◌++◌, false, Option, Some}
use Rattle.ws_turn.specs.Lists.{StartsWith, of, given, numbers, HasNoneOf}
use Rattle.ws_turn.specs.Passes as tokens
use Rattle.ws_turn.specs.declared.logged.Logged.{Ghosts as Logged}
use Rattle.pass_turns.specs.declared.machine.Machine.{Ghosts as Machine}
use Rattle.pass_turns.specs.Adds.{AddsUpToOne, WasRefused}
use Rattle.pass_turns.specs.declared.machine.LeaveError.{LeaveError}
use Rattle.pass_turns.specs.declared.pass.Pass.{Pass}
use Rattle.pass_turns.specs.declared.room.Room.{Room}

-- a pass: its number, the entries that it has seen, those of its own number, and the numbers that it gave in vain
pub record Knows (E : Type 0) : Type 0 where
  pub number : ℕ
  pub seen : List E
  pub mine : List E
  pub lost : List ℕ

-- the same of the lock's token
abbrev pub shown : {E : Type 0} → tokens.Known E → Knows E
shown k = record { number = k.number; seen = k.seen; mine = k.mine; lost = k.lost }

-- what the pass has seen has just those entries of its number that it knows as its own, and none of a number that it gave in vain
pub record IsFaithful {E : Type 0} (by : E → ℕ) (k : Knows E) : Type 0 where
  pub own : of by k.number k.seen ≡ k.mine
  pub silent : HasNoneOf by k.lost k.seen

-- a pass took a turn: it found a history that begins with what it had seen, and added entries of its own
pub record TookTurn {E B A : Type 0} (by : E → ℕ) (legal : B → List E → Type 0) (did : B → ℕ → List E → List E → A → Type 0) (b : B) (answer : A) (k k' : Knows E) : Type 0 where
  pub found : List E
  pub added : List E
  pub begins : StartsWith found k.seen
  pub own_found : of by k.number found ≡ k.mine
  pub legal_found : legal b found
  pub did_it : did b k.number found added answer
  -- what the pass has seen then
  pub number : k'.number ≡ k.number
  pub seen : k'.seen ≡ found ++ added
  pub mine : k'.mine ≡ k.mine ++ added
  pub lost : k'.lost ≡ k.lost
  pub legal_seen : legal b k'.seen
  pub faithful : IsFaithful by k'

-- a pass looked on: it has seen a history that begins with what it had seen, and added nothing
pub record LookedOn {E : Type 0} (by : E → ℕ) (k k' : Knows E) : Type 0 where
  pub begins : StartsWith k'.seen k.seen
  pub number : k'.number ≡ k.number
  pub mine : k'.mine ≡ k.mine
  pub lost : k'.lost ≡ k.lost
  pub faithful : IsFaithful by k'

-- A pass let another in: it found a history that begins with what it had seen, and added the entry that gives the other's
-- number, which no entry had given
pub record LetIn {E B : Type 0} (by : E → ℕ) (gives : E → Option ℕ) (lets_in : E → Type 0) (legal : B → List E → Type 0) (b : B) (k k' new : Knows E) : Type 0 where
  pub found : List E
  pub entry : E
  pub begins : StartsWith found k.seen
  pub by_it : by entry ≡ k.number
  pub lets : lets_in entry
  pub gives_number : gives entry ≡ Some new.number
  pub not_first : new.number ≢ 0
  pub not_given : given gives new.number found ≡ false
  -- what the pass has seen then
  pub number : k'.number ≡ k.number
  pub seen : k'.seen ≡ found ++ entry ∷ []
  pub mine : k'.mine ≡ k.mine ++ entry ∷ []
  pub lost : k'.lost ≡ k.lost
  pub legal_seen : legal b k'.seen
  pub faithful : IsFaithful by k'
  -- and the new one, which has done nothing
  pub new_seen : new.seen ≡ k'.seen
  pub new_mine : new.mine ≡ []
  pub new_lost : new.lost ≡ []
  pub new_faithful : IsFaithful by new

-- A pass let none in for want of memory: it found a history that begins with what it had seen, to which it added nothing, or
-- the entry that gives the number, which is lost then
pub record LetNobodyIn {E B : Type 0} (by : E → ℕ) (gives : E → Option ℕ) (lets_in : E → Type 0) (legal : B → List E → Type 0) (b : B) (k k' : Knows E) : Type 0 where
  pub found : List E
  pub added : List E
  pub begins : StartsWith found k.seen
  pub at_most_one : (added ≡ []) ⊎ ((entry : E) × (added ≡ entry ∷ []) × (by entry ≡ k.number) × lets_in entry)
  pub number : k'.number ≡ k.number
  pub seen : k'.seen ≡ found ++ added
  pub mine : k'.mine ≡ k.mine ++ added
  pub lost : k'.lost ≡ k.lost ++ numbers gives added
  pub legal_seen : legal b k'.seen
  pub faithful : IsFaithful by k'

-- A pass took another in: that one found a history that begins with what each of the two had seen, and its last entry is
-- that by which it left
pub record TookIn {E B : Type 0} (by : E → ℕ) (left : E → Type 0) (legal : B → List E → Type 0) (b : B) (k other k' : Knows E) : Type 0 where
  pub found : List E
  pub entry : E
  pub begins : StartsWith found k.seen
  pub other_begins : StartsWith found other.seen
  pub by_it : by entry ≡ other.number
  pub leaves : left entry
  pub number : k'.number ≡ k.number
  pub seen : k'.seen ≡ found ++ entry ∷ []
  pub mine : k'.mine ≡ k.mine
  pub lost : k'.lost ≡ k.lost ++ other.lost
  -- the entries of the other's number are those that it had made, and then that one
  pub theirs : of by other.number k'.seen ≡ other.mine ++ entry ∷ []
  pub legal_seen : legal b k'.seen
  pub faithful : IsFaithful by k'

-- a pass that asked to leave stays: it found a history that begins with what it had seen, and added at most that it asked
pub record StaysThere {E B : Type 0} (by : E → ℕ) (gives : E → Option ℕ) (asked : E → Type 0) (legal : B → List E → Type 0) (b : B) (error : LeaveError) (k k' : Knows E) : Type 0 where
  pub found : List E
  pub added : List E
  pub begins : StartsWith found k.seen
  pub adds : AddsUpToOne by gives k.number added
  pub refused : WasRefused asked error added
  pub number : k'.number ≡ k.number
  pub seen : k'.seen ≡ found ++ added
  pub mine : k'.mine ≡ k.mine ++ added
  pub lost : k'.lost ≡ k.lost
  pub legal_seen : legal b k'.seen
  pub faithful : IsFaithful by k'

-- A pass came to see the history h, which begins with what it had seen, has just those entries of its number that it knows
-- as its own, and none of a number that it gave in vain. All else of the pass stays
pub record CameTo {E : Type 0} (by : E → ℕ) (h : List E) (k k' : Knows E) : Type 0 where
  pub begins : StartsWith h k.seen
  pub own : of by k.number h ≡ k.mine
  pub silent : HasNoneOf by k.lost h
  pub now : k' ≡ record k { seen = h }

-- the machine was closed with the history h, of which the pass had seen a beginning, and which has just those entries of its
-- number that it knows as its own, and none of a number that it gave in vain
pub record EndsWith {E B : Type 0} (by : E → ℕ) (legal : B → List E → Type 0) (b : B) (h : List E) (k : Knows E) : Type 0 where
  pub legal_then : legal b h
  pub begins : StartsWith h k.seen
  pub own : of by k.number h ≡ k.mine
  pub silent : HasNoneOf by k.lost h

-- the two lists are as long, and what stands at one place in both is so related
abbrev pub Pairs : {A : Type 0} → (A → A → Type 0) → List A → List A → Type 0
Pairs R [] [] = Unit {0}
Pairs R [] (y ∷ ys) = ⊥
Pairs R (x ∷ xs) [] = ⊥
Pairs R (x ∷ xs) (y ∷ ys) = R x y × Pairs R xs ys

-- the base of the machine that the room was made with
abbrev pub base_of : {S E B : Type 0} → (S → B) → Room S E B → B
base_of base r = tokens.base_of base r.lock

module _ {S E B : Type 0} {M : Machine S E B} {L : Logged S E B} where
  abbrev pub knows : Pass S E B M L → Knows E
  knows p = shown (tokens.known p.token)

  -- the pass is one of this room's
  abbrev pub IsOf : Room S E B → Pass S E B M L → Type 0
  IsOf r p = tokens.IsOf r.lock p.token
