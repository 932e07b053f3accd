-- Layers as they are kept, and as contracts see them.
use Rattle.std.specs.Prelude.{◌≡◌, ◌<◌, ◌≤◌, ◌++◌, ⊤, ℕ, List, [], ◌∷◌, map, Option, Some, None, IfSome}
use Rattle.std.specs.List.{AllByRecursion}
use Rattle.res_path.specs.Paths.{Names}
use Rattle.ws_elem.specs.Rooms.{Room}
use Rattle.ws_elem.specs.Trees.{Tree}
use Rattle.elem_tree.specs.Layers as seen
use Rattle.elem_tree.specs.declared.layer.Layer.{Layer}
use Rattle.elem_tree.specs.Inside.Slots.{befores_of, IsReady, NoneReady, closed_all}

abbrev pub shown : Layer → seen.Layer
shown l = record { mark = l.mark; befores = befores_of l.notes }

-- the layers that ended, and the current one
abbrev pub with_current : List Layer → Option Layer → List Layer
with_current ls None = ls
with_current ls (Some l) = ls ++ l ∷ []

-- a layer that ended: the entries that were ready went
abbrev pub closed_layer : List Names → Option Layer → Option Layer
closed_layer roomy None = None
closed_layer roomy (Some l) = Some (record l { notes = closed_all l.notes roomy })

abbrev pub shown_all : List Layer → List seen.Layer
shown_all = map shown

abbrev pub AllBelow : ℕ → List Layer → Type 0
AllBelow m = AllByRecursion (λ l. l.mark < m)

abbrev pub NoneBelow : ℕ → List Layer → Type 0
NoneBelow m = AllByRecursion (λ l. m ≤ l.mark)

-- each mark is below those after it
abbrev pub Rising : List Layer → Type 0
Rising [] = ⊤
Rising (l ∷ ls) = AllByRecursion (λ k. l.mark < k.mark) ls × Rising ls

-- in no layer but the last an entry is ready
abbrev pub EndedButLast : List Layer → Type 0
EndedButLast [] = ⊤
EndedButLast (l ∷ []) = ⊤
EndedButLast (l ∷ k ∷ ls) = NoneReady l.notes × EndedButLast (k ∷ ls)

-- the layers below the mark are left out
abbrev pub IsCut : ℕ → List Layer → List Layer → Type 0
IsCut m ls rest = (front : List Layer) × (ls ≡ front ++ rest) × AllBelow m front × NoneBelow m rest

-- how a tree with marks is kept
pub record IsKept (layers : List Layer) (current : Option Layer) (next : ℕ) (t : Tree) (room : Room) : Type 0 where
  pub first : current ≡ None → layers ≡ []
  pub ready : IfSome current (λ l. IsReady l.notes t room)
  pub ended : EndedButLast (with_current layers current)
  pub rising : Rising (with_current layers current)
  pub below : AllBelow next (with_current layers current)
