-- Contents that are known, by stamp.
use Rattle.std.specs.Prelude.{◌≡◌, ℕ, Bool, true, false, List, [], ◌∷◌, ◌++◌, Option, Some, None, IfSome}
use Rattle.std.specs.FinMap.{FinMap, get, insert, values}
use Rattle.std.specs.Ordering.{nat_cmp}
use Rattle.ws_elem.specs.declared.element.Element.{Element}
use Rattle.ws_elem.specs.declared.kind.Kind.TheVariants.{File}
use Rattle.ws_elem.specs.Kinds.{is_file}
use Rattle.ws_elem.specs.Trees.{Tree}

abbrev pub Known : Type 0
Known = FinMap nat_cmp (List ℕ)

-- a file has the contents that are known of its stamp, if any are
abbrev pub AgreesWith : Known → Element → Type 0
AgreesWith m e = e.kind ≡ File → IfSome (get m e.stamp) (λ bytes. bytes ≡ e.bytes)

abbrev pub kept_file : Known → Element → Option (List ℕ) → Known
kept_file m e None = insert m e.stamp e.bytes
kept_file m e (Some bytes) = m

abbrev pub kept_if : Known → Element → Bool → Known
kept_if m e true = kept_file m e (get m e.stamp)
kept_if m e false = m

-- the contents of a file are known afterwards
abbrev pub kept : Known → Element → Known
kept m e = kept_if m e (is_file e.kind)

-- each agrees with what is known, what stands before it included
abbrev pub Agree : Known → List Element → Type 0
Agree m [] = Unit {0}
Agree m (e ∷ es) = AgreesWith m e × Agree (kept m e) es

abbrev pub kept_all : Known → List Element → Known
kept_all m [] = m
kept_all m (e ∷ es) = kept_all (kept m e) es

-- the elements of some trees
abbrev pub all_elements : List Tree → List Element
all_elements [] = []
all_elements (t ∷ ts) = values t ++ all_elements ts
