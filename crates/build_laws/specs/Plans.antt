-- Commands in the order of a build, and a build from scratch.
use Rattle.std.specs.Prelude.{◌≡◌, ℕ, false, not, List, [], ◌∷◌, ◌++◌, map}
use Rattle.std.specs.List.{AllByRecursion, list_any}
use Rattle.std.specs.FinMap.{entries, from_entries, retain_keys}
use Rattle.res_path.specs.Paths.{Names, overlap}
use Rattle.builder_api.specs.Places.{is_below}
use Rattle.builder_api.specs.Files.{Files}
use Rattle.builder_api.specs.Tasks.{Task}
use Rattle.builder_api.specs.Meanings.{Meanings, full}

-- nothing that c reads lies in o, above it or below it
abbrev pub Unread : Task → Names → Type 0
Unread c o = AllByRecursion (λ p. overlap p o ≡ false) c.inputs

-- a later task writes nothing that c reads or writes
pub record Before (c later : Task) : Type 0 where
  pub unread : Unread c later.output
  pub apart : overlap c.output later.output ≡ false

-- no task reads what it or a later one writes, and no two write one place
abbrev pub IsPlan : List Task → Type 0
IsPlan [] = Unit {0}
IsPlan (c ∷ cs) = Unread c c.output × AllByRecursion (Before c) cs × IsPlan cs

-- the entries with their paths from o
abbrev pub placed_at : Names → List (Names × List ℕ) → List (Names × List ℕ)
placed_at o es = map (λ e. (o ++ e.0, e.1)) es

-- f with the files of m below o, over its own
abbrev pub with_files : Names → Files → Files → Files
with_files o m f = from_entries (placed_at o (entries m) ++ entries f)

-- the files without those below the outputs
abbrev pub cleared : List Task → Files → Files
cleared cs f = retain_keys f (λ q. not (list_any (λ c. is_below c.output q) cs))

-- each task in turn makes its files of the files as they now are
abbrev pub made_in_turn : Meanings → List Task → Files → Files
made_in_turn ms [] f = f
made_in_turn ms (c ∷ cs) f = made_in_turn ms cs (with_files c.output (full ms c f).files f)

-- what a build from scratch makes of the files
abbrev pub scratch : Meanings → List Task → Files → Files
scratch ms cs f = made_in_turn ms cs (cleared cs f)
