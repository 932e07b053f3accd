-- What was built last, and what follows of it.
use Rattle.std.specs.Prelude.{◌≡◌, ℕ, Bool, true, List, IfSome}
use Rattle.builder_api.specs.Tasks.{Task, placed}
use Rattle.builder_api.specs.Meanings.{Meanings, IsLawful, Fresh}
use Rattle.build_laws.specs.States.{Records}

-- the task's builder is there, and tells its meaning
abbrev pub HasLawful : Meanings → (List ℕ → Bool) → Task → Type 0
HasLawful ms has c = (has c.builder ≡ true) × IsLawful ms c

-- each command that was built, and has such a builder, was fresh in the tree after that
abbrev pub Sound : Meanings → (List ℕ → Bool) → Records → Type 0
Sound ms has rs = (project : List ℕ) (index : ℕ)
    → IfSome (rs project index) (λ b. HasLawful ms has (placed project b.command) → Fresh ms (placed project b.command) b.tree)
