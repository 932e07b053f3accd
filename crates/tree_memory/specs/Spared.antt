-- A tree to which memories were given up.
use Rattle.std.specs.Prelude.{ℕ, nat_eq, if◌then◌else◌, List, Option, None}
use Rattle.std.specs.List.{list_any}
use Rattle.ws_elem.specs.Trees.{Tree}

-- the tree that is remembered under each number, if there is one
abbrev pub Remembered : Type 0
Remembered = ℕ → Option Tree

-- a tree, the numbers that were given up and that it still remembers, and how many more can be given up without memory
pub record SparedTree (T : Type 0) : Type 0 where
  pub tree : T
  pub spent : List ℕ
  pub places : ℕ

-- what was given up isn't remembered any more
abbrev pub without : Remembered → List ℕ → Remembered
without remembered spent k = if list_any (nat_eq k) spent then None else remembered k

-- what is remembered and wasn't given up
abbrev pub left : {T : Type 0} → (T → Remembered) → SparedTree T → Remembered
left remembered s = without (remembered s.tree) s.spent
