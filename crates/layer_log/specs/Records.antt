-- Recorded changes, as a finite map from path to change.
use Rattle.std.specs.Prelude.{◌≡◌, ◌≢◌, Option, Some, None, IfSome}
use Rattle.std.specs.FinMap.{FinMap, get, insert}
use Rattle.res_path.specs.Paths.{Names, path_cmp}
use Rattle.ws_elem.specs.Trees.{Tree, set_at}
use Rattle.ws_elem.specs.declared.element.Element.{Element}
use Rattle.layer_log.specs.declared.change.Change.{Change}

abbrev pub Records : Type 0
Records = FinMap path_cmp Change

-- what was x is y afterwards: the change is from x to y, and where there is none x stays
abbrev pub Turns : Option Element → Option Change → Option Element → Type 0
Turns x None y = x ≡ y
Turns x (Some r) y = (r.before ≡ x) × (r.after ≡ y)

-- the changes lead from a to b
abbrev pub Leads : Tree → Records → Tree → Type 0
Leads a c b = (p : Names) → Turns (get a p) (get c p) (get b p)

-- the entries of each path in the changes differ
abbrev pub Settled : Records → Type 0
Settled c = (p : Names) → IfSome (get c p) (λ r. r.before ≢ r.after)

-- the changes lead from a to b, and have exactly the paths whose entries differ
abbrev pub Net : Tree → Tree → Records → Type 0
Net a b c = Leads a c b × Settled c

-- each path in both begins in the second as it ends in the first
abbrev pub Meets : Records → Records → Type 0
Meets first second = (p : Names) → IfSome (get first p) (λ r. IfSome (get second p) (λ s. r.after ≡ s.before))

-- the entry with which a path's changes begin: that of its change, or x where it has none
abbrev pub first_entry : Option Change → Option Element → Option Element
first_entry None x = x
first_entry (Some r) x = r.before

-- the changes, and one more, from x to y at p
abbrev pub recorded : Records → Names → Option Element → Option Element → Records
recorded c p x y = insert c p (record { before = first_entry (get c p) x; after = y })

-- where c leads to a tree with x at p, d leads on to the same tree with y there
abbrev pub LeadsOn : Records → Records → Names → Option Element → Option Element → Type 0
LeadsOn c d p x y = (a b : Tree) → Leads a c b → get b p ≡ x → Leads a d (set_at b p y)

-- c is the net change of the first and then the second, between all trees between which they lead
abbrev pub IsNetOf : Records → Records → Records → Type 0
IsNetOf first second c = (a b d : Tree) → Leads a first b → Leads b second d → Net a d c
