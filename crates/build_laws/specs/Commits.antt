-- What a commit and a cleaning leave.
use Rattle.std.specs.Prelude.{◌≡◌, ℕ, ◌==◌, true, false, not, ◌&&◌, if◌then◌else◌, List, ◌++◌, length, filter, Option, Some, None}
use Rattle.std.specs.Option.{option_eq}
use Rattle.std.specs.FinMap.{get, entries, from_entries, keys}
use Rattle.std.specs.Str.{bytes_eq}
use Rattle.res_path.specs.Paths.{Names, overlap}
use Rattle.ws_elem.specs.Trees.{Tree}
use Rattle.builder_api.specs.declared.edits.Edits.{Edits}
use Rattle.builder_api.specs.Places.{is_below}
use Rattle.builder_api.specs.Files.{Files, files_of, HasNoEmptyFolder}
use Rattle.builder_api.specs.Edits.{committed}
use Rattle.build_laws.specs.States.{Item, task, Built, Records, State, references, IsAlikeAt}

-- the paths at which the files differ: one came, went or has other contents
abbrev pub differing : Files → Files → List Names
differing a b = let both : Files = from_entries (entries a ++ entries b) in filter (λ q. not (option_eq bytes_eq (get a q) (get b q))) (keys both)

-- the records with this for the command, or without one
abbrev pub with_record : Records → Item → Option Built → Records
with_record rs i b project index = if bytes_eq i.project project && i.index == index then b else rs project index

-- the command as it stands, with the tree
abbrev pub built : State → Item → Tree → Built
built s i t = record { command = i.command; references = references s i; tree = t }

-- a commit of edits below the command's output
pub record IsCommitted (s : State) (i : Item) (e : Edits) (touched problems : ℕ) (after : State) : Type 0 where
  pub files : files_of after.tree ≡ committed (task i).output (files_of s.tree) e.files
  pub filled : HasNoEmptyFolder (task i).output after.tree
  -- what is neither below the output nor above it stays
  pub others : (q : Names) → overlap q (task i).output ≡ false → get after.tree q ≡ get s.tree q
  -- the tree is the one that was built last
  pub records : after.records ≡ with_record s.records i (Some (built s i after.tree))
  pub descs : after.descs ≡ s.descs
  -- how many files it touched, and the problems there are
  pub counted : touched ≡ length (differing (files_of s.tree) (files_of after.tree))
  pub told : problems ≡ length e.problems

-- all below the command's output goes, and its record
pub record IsCleaned (s : State) (i : Item) (after : State) : Type 0 where
  pub gone : (q : Names) → is_below (task i).output q ≡ true → get after.tree q ≡ None
  pub others : (q : Names) → is_below (task i).output q ≡ false → IsAlikeAt s.tree after.tree q
  pub records : after.records ≡ with_record s.records i None
  pub descs : after.descs ≡ s.descs
