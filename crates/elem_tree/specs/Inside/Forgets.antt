-- Layers, one of which is joined to the one before it.
use Rattle.std.specs.Prelude.{◌≡◌, ◌<◌, ⊤, ℕ, zero, suc, nat_eq, false, List, [], ◌∷◌}
use Rattle.std.specs.FinMap.{empty}
use Rattle.std.specs.List.{AllByRecursion}
use Rattle.ws_elem.specs.Rooms.{Room}
use Rattle.ws_elem.specs.Trees.{Tree}
use Rattle.elem_tree.specs.Layers.{without_mark}
use Rattle.elem_tree.specs.declared.layer.Layer.{Layer}
use Rattle.elem_tree.specs.Inside.Joins.{IsJoined, IsSpared}
use Rattle.elem_tree.specs.Inside.Shown.{AllBelow, EndedButLast, Rising, shown_all}
use Rattle.elem_tree.specs.Inside.Slots.{Slots, IsReady}

-- what both kept, as one layer that begins with the first
pub record IsJoinedLayer (earlier later both : Layer) : Type 0 where
  pub mark : both.mark ≡ earlier.mark
  pub notes : IsJoined earlier.notes later.notes both.notes

-- the layer at the place after the first is joined to the one before it
abbrev pub JoinsAt : ℕ → List Layer → List Layer → Type 0
JoinsAt n [] after = after ≡ []
JoinsAt n (k ∷ []) after = after ≡ k ∷ []
JoinsAt zero (k ∷ l ∷ ls) after = (both : Layer) × IsJoinedLayer k l both × (after ≡ both ∷ ls)
JoinsAt (suc n) (k ∷ l ∷ ls) after = (rest : List Layer) × (after ≡ k ∷ rest) × JoinsAt n (l ∷ ls) rest

-- the layers keep what they kept, and may have spare slots beside
abbrev pub AreSpared : List Layer → List Layer → Type 0
AreSpared [] after = after ≡ []
AreSpared (l ∷ ls) after = (k : Layer) × (rest : List Layer) × (after ≡ k ∷ rest) × (k.mark ≡ l.mark) × IsSpared l.notes k.notes × AreSpared ls rest

-- the notes of the layer at the place
abbrev pub notes_at : List Layer → ℕ → Slots
notes_at [] n = empty
notes_at (l ∷ ls) zero = l.notes
notes_at (l ∷ ls) (suc n) = notes_at ls n

-- the layers with these notes at the place
abbrev pub with_notes : List Layer → ℕ → Slots → List Layer
with_notes [] n notes = []
with_notes (l ∷ ls) zero notes = record l { notes = notes } ∷ ls
with_notes (l ∷ ls) (suc n) notes = l ∷ with_notes ls n notes

-- the layer at the place is the mark's own, and those before it are of earlier marks
abbrev pub MarkAt : ℕ → ℕ → List Layer → Type 0
MarkAt m n [] = ⊥
MarkAt m zero (l ∷ ls) = l.mark ≡ m
MarkAt m (suc n) (l ∷ ls) = (l.mark < m) × MarkAt m n ls

-- no layer is the mark's own
abbrev pub NoMark : ℕ → List Layer → Type 0
NoMark m = AllByRecursion (λ l. nat_eq m l.mark ≡ false)

-- what is ready in the last layer is the newest tree's
abbrev pub LastReady : List Layer → Tree → Room → Type 0
LastReady [] t room = ⊤
LastReady (l ∷ []) t room = IsReady l.notes t room
LastReady (l ∷ k ∷ ls) t room = LastReady (k ∷ ls) t room

-- what holds of the layers of a tree holds of those after it
pub record StayKept (before after : List Layer) : Type 0 where
  pub rising : Rising after
  pub ended : EndedButLast after
  pub below : (n : ℕ) → AllBelow n before → AllBelow n after
  pub ready : (t : Tree) (room : Room) → LastReady before t room → LastReady after t room

-- the mark is forgotten
pub record Forgets (m : ℕ) (before after : List Layer) : Type 0 where
  pub shown : shown_all after ≡ without_mark m (shown_all before)
  pub gone : NoMark m after
  pub kept : StayKept before after
