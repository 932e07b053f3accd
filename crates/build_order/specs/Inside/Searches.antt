-- A search for the components of a graph.
use Rattle.std.specs.Prelude.{◌≡◌, ◌≢◌, ◌⊎◌, ℕ, ◌+◌, ◌<◌, ◌≤◌, List, [], ◌∷◌, ◌++◌, length, get_or, replicate}
use Rattle.std.specs.List.{Contains}
use Rattle.build_order.specs.declared.search.Mark.{Mark}
use Rattle.build_order.specs.declared.search.Mark.TheVariants.{New, Open, Closed}
use Rattle.build_order.specs.declared.search.Frame.{Frame}
use Rattle.build_order.specs.declared.search.Search.{Search}
use Rattle.build_order.specs.Orders.{Leads}
use Rattle.build_order.specs.Inside.Graphs.{Graph, Refers}

-- what a frame has: its open numbers, and those that it has still to meet
pub record Part : Type 0 where
  pub members : List ℕ
  pub todo : List ℕ

-- the parts of a search, the top one first, as they lie one on another
abbrev pub members_of : List Part → List ℕ
members_of [] = []
members_of (p ∷ below) = members_of below ++ p.members

abbrev pub todo_of : List Part → List ℕ
todo_of [] = []
todo_of (p ∷ below) = todo_of below ++ p.todo

abbrev pub frames_of : List Part → List Frame
frames_of [] = []
frames_of (p ∷ below) = frames_of below ++ record { members = length (members_of below); todo = length (todo_of below) } ∷ []

abbrev pub mark_at : List Mark → ℕ → Mark
mark_at marks n = get_or marks n New

abbrev pub IsKnown : List Mark → ℕ → Type 0
IsKnown marks n = mark_at marks n ≢ New

-- closed, or open at this place or a later one
pub record IsPast (marks : List Mark) (start n : ℕ) : Type 0 where
  pub known : IsKnown marks n
  pub from : (p : ℕ) → mark_at marks n ≡ Open p → start ≤ p

-- what holds of a part that lies on the open numbers `lower`; `owed` are to be met at once
pub record IsPart (g : Graph) (marks : List Mark) (owed lower : List ℕ) (part : Part) : Type 0 where
  pub some : (a : ℕ) × Contains part.members a
  pub together : (a b : ℕ) → Contains part.members a → Contains part.members b → Leads (Refers g) a b
  pub after : (a b : ℕ) → Contains lower a → Contains part.members b → Leads (Refers g) a b
  pub ahead : (a b : ℕ) → Contains part.members a → Contains part.todo b → Leads (Refers g) a b
  pub edges : (a b : ℕ) → Contains part.members a → Refers g a b → Contains part.todo b ⊎ Contains owed b ⊎ IsPast marks (length lower) b

abbrev pub AreParts : Graph → List Mark → List ℕ → List Part → Type 0
AreParts g marks owed [] = Unit {0}
AreParts g marks owed (p ∷ below) = IsPart g marks owed (members_of below) p × AreParts g marks owed below

-- the open numbers are marked with their places, and no others are
pub record AreOpen (marks : List Mark) (members : List ℕ) : Type 0 where
  pub here : (p : ℕ) → p < length members → mark_at marks (get_or members p 0) ≡ Open p
  pub there : (n p : ℕ) → mark_at marks n ≡ Open p → (p < length members) × (get_or members p 0 ≡ n)

-- the closed numbers are components, and refer to closed numbers alone
pub record AreClosed (g : Graph) (marks : List Mark) : Type 0 where
  pub rank : ℕ → ℕ
  pub top : ℕ
  pub least : (a l : ℕ) → mark_at marks a ≡ Closed l → l ≤ a
  pub lead : (a l : ℕ) → mark_at marks a ≡ Closed l → mark_at marks l ≡ Closed l
  pub below : (a l : ℕ) → mark_at marks a ≡ Closed l → rank l < top
  pub together : (a b l : ℕ) → mark_at marks a ≡ Closed l → mark_at marks b ≡ Closed l → Leads (Refers g) a b
  pub down : (a b l : ℕ) → mark_at marks a ≡ Closed l → Refers g a b → (k : ℕ) × (mark_at marks b ≡ Closed k) × ((k ≡ l) ⊎ (rank k < rank l))

pub record IsUnderWay (g : Graph) (marks : List Mark) (owed : List ℕ) (parts : List Part) : Type 0 where
  pub as_long : length marks ≡ length g
  pub within : (n : ℕ) → Contains (todo_of parts) n → n < length g
  pub are_open : AreOpen marks (members_of parts)
  pub are_parts : AreParts g marks owed parts
  pub are_closed : AreClosed g marks

-- the members got the mark, and no others
abbrev pub AreMarked : List ℕ → Mark → List Mark → List Mark → Type 0
AreMarked members mark marks new =
    (n : ℕ) → (Contains members n × (mark_at new n ≡ mark)) ⊎ ((Contains members n → ⊥) × (mark_at new n ≡ mark_at marks n))

-- the search stands at these parts
pub record Stands (g : Graph) (owed : List ℕ) (s : Search) : Type 0 where
  pub parts : List Part
  pub members : s.members.items ≡ members_of parts
  pub todo : s.todo.items ≡ todo_of parts
  pub frames : s.frames.items ≡ frames_of parts
  pub under_way : IsUnderWay g s.marks.items owed parts

-- the number n is to be met, and all open numbers lead to it
pub record Meets (g : Graph) (n : ℕ) (s : Search) : Type 0 where
  pub stands : Stands g (n ∷ []) s
  pub leads : (a : ℕ) → Contains s.members.items a → Leads (Refers g) a n

abbrev pub IsTop : List Frame → Frame → Type 0
IsTop frames frame = (front : List Frame) × (frames ≡ front ++ frame ∷ [])

-- the search has gone on, and what was known stays known
pub record GoesOn (g : Graph) (old new : Search) : Type 0 where
  pub stands : Stands g [] new
  pub kept : (n : ℕ) → IsKnown old.marks.items n → IsKnown new.marks.items n

-- what is still to do: the new numbers with all to which they refer, what is to meet, and the frames to close
abbrev pub cost : Mark → List ℕ → ℕ
cost New row = length row + 2
cost (Open p) row = 0
cost (Closed l) row = 0

abbrev pub cost_of : List Mark → Graph → ℕ
cost_of [] g = 0
cost_of (m ∷ marks) [] = 0
cost_of (m ∷ marks) (row ∷ g) = cost m row + cost_of marks g

abbrev pub work : Graph → Search → ℕ
work g s = cost_of s.marks.items g + length s.todo.items + length s.frames.items

-- nothing is known of any number
pub record IsFresh (count : ℕ) (s : Search) : Type 0 where
  pub marks : s.marks.items ≡ replicate count New
  pub members : s.members.items ≡ []
  pub todo : s.todo.items ≡ []
  pub frames : s.frames.items ≡ []

abbrev pub lead_of : Mark → ℕ
lead_of New = 0
lead_of (Open p) = 0
lead_of (Closed l) = l

-- frames were joined, so that a number that is open at the place is met
pub record Joins (place : ℕ) (old new : Search) : Type 0 where
  pub marks : new.marks ≡ old.marks
  pub members : new.members ≡ old.members
  pub todo : new.todo ≡ old.todo
  pub fewer : length new.frames.items ≤ length old.frames.items
  pub stands : (g : Graph) (n : ℕ) → Meets g n old → mark_at old.marks.items n ≡ Open place → Stands g (n ∷ []) new
