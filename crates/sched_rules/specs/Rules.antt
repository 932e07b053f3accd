-- Rules, as lists of atoms.
use Rattle.std.specs.Prelude.{◌≡◌, Bool, false, not, ◌&&◌, List, [], ◌∷◌, ◌++◌, ⊤}
use Rattle.std.specs.declared.cmp.Ordering.{Ordering}
use Rattle.std.specs.declared.cmp.Ordering.TheVariants.{Less, Equal, Greater}
use Rattle.std.specs.List.{AllByRecursion, list_any, list_all, filter}

-- each element is so related to each later one
abbrev pub Pairwise : {A : Type 0} → (A → A → Type 0) → List A → Type 0
Pairwise R [] = ⊤
Pairwise R (x ∷ xs) = AllByRecursion (R x) xs × Pairwise R xs

-- atoms in their order, each once
abbrev pub IsRising : {A : Type 0} → (A → A → Ordering) → List A → Type 0
IsRising cmp atoms = Pairwise (λ a b. cmp a b ≡ Less) atoms

-- an atom stands before another in the order, and neither contains the other
pub record StandsBefore {A : Type 0} (cmp : A → A → Ordering) (contains : A → A → Bool) (a b : A) : Type 0 where
  pub below : cmp a b ≡ Less
  pub inside : contains a b ≡ false
  pub outside : contains b a ≡ false

-- atoms in their order, of which none contains another
abbrev pub IsRule : {A : Type 0} → (A → A → Ordering) → (A → A → Bool) → List A → Type 0
IsRule cmp contains atoms = Pairwise (StandsBefore cmp contains) atoms

-- some atom of the rule contains this one
abbrev pub covers : {A : Type 0} → (A → A → Bool) → List A → A → Bool
covers contains rule atom = list_any (λ outer. contains outer atom) rule

-- each atom of the other rule is contained in one of this
abbrev pub rule_contains : {A : Type 0} → (A → A → Bool) → List A → List A → Bool
rule_contains contains rule other = list_all (λ atom. covers contains rule atom) other

-- some atom of the rule conflicts with this one
abbrev pub meets : {A : Type 0} → (A → A → Bool) → List A → A → Bool
meets conflicts rule atom = list_any (λ one. conflicts one atom) rule

-- some atom of one rule conflicts with some atom of the other
abbrev pub rule_conflicts : {A : Type 0} → (A → A → Bool) → List A → List A → Bool
rule_conflicts conflicts rule other = list_any (λ atom. meets conflicts rule atom) other

-- some atom of these contains this one and is another
abbrev pub has_wider : {A : Type 0} → (A → A → Bool) → List A → A → Bool
has_wider contains atoms atom = list_any (λ outer. contains outer atom && not (contains atom outer)) atoms

abbrev pub by_order : {T : Type 0} → Ordering → T → T → T → T
by_order Less below same above = below
by_order Equal below same above = same
by_order Greater below same above = above

-- an atom at its place among atoms in their order, where it stands once
abbrev pub placed : {A : Type 0} → (A → A → Ordering) → A → List A → List A
placed cmp atom [] = atom ∷ []
placed cmp atom (other ∷ atoms) = by_order (cmp atom other) (atom ∷ other ∷ atoms) (other ∷ atoms) (other ∷ placed cmp atom atoms)

-- each atom of the first list at its place among those of the second
abbrev pub all_placed : {A : Type 0} → (A → A → Ordering) → List A → List A → List A
all_placed cmp [] atoms = atoms
all_placed cmp (atom ∷ more) atoms = all_placed cmp more (placed cmp atom atoms)

-- the rule of these atoms: those of them that no other contains, in their order, each once
abbrev pub rule_of : {A : Type 0} → (A → A → Ordering) → (A → A → Bool) → List A → List A
rule_of cmp contains atoms = all_placed cmp (filter (λ atom. not (has_wider contains atoms atom)) atoms) []

-- the atoms of both rules that no other atom of them contains
abbrev pub combined : {A : Type 0} → (A → A → Ordering) → (A → A → Bool) → List A → List A → List A
combined cmp contains one two = rule_of cmp contains (one ++ two)
