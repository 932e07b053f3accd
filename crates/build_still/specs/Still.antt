-- What stands still while a command is under way.
use Rattle.std.specs.Prelude.{◌≡◌, ℕ, List, [], ◌∷◌, ◌++◌, Some}
use Rattle.res_path.specs.Paths.{Names}
use Rattle.build_due.specs.declared.site.Site.{Site}
use Rattle.build_due.specs.Sights.{seen}
use Rattle.build_laws.specs.States.{IsAlikeAt}
use Rattle.builder_api.specs.declared.handed.Handed.{Handed}
use Rattle.builder_api.specs.declared.kind.BuildKind.{BuildKind}
use Rattle.builder_api.specs.Files.{files_of}
use Rattle.core_event.specs.declared.entry.Entry.{Entry}
use Rattle.core_event.specs.declared.event.Event.TheVariants.{Service}
use Rattle.core_event.specs.declared.reply.Answer.TheVariants as answers
use Rattle.core_event.specs.declared.service.ServiceEvent.TheVariants as services
use Rattle.ws_core.specs.Histories.{replay}
use Rattle.ws_core.specs.Refusals.{current}
use Rattle.ws_core.specs.States.{Moment}
use Rattle.ws_turn.specs.Lists.{of}

-- by the entry pass n was handed this for a command, which is under way from then on
pub record WasHanded (n : ℕ) (handed : Handed) (x : Entry) : Type 0 where
  pub by_it : x.pass ≡ n
  pub project : List ℕ
  pub index : ℕ
  pub kind : BuildKind
  pub asked : x.event ≡ Service (services.Handed project index kind)
  pub answered : x.reply.answer ≡ answers.Handed handed

-- from one moment to another
pub record StoodStill (before now : Moment) : Type 0 where
  -- nothing but markers changed, at any path of the tree
  pub alike : (q : Names) → IsAlikeAt before.resources.tree now.resources.tree q
  -- so the same files are there
  pub files : files_of now.resources.tree ≡ files_of before.resources.tree
  -- and the same command is under way, as its project's description has it
  pub under : current now ≡ current before

-- what was handed for a command is so now
pub record IsStillSo (handed : Handed) (now : Moment) : Type 0 where
  -- the command is under way, with these inputs and this output
  pub site : Site
  pub under : current now ≡ Some site
  pub inputs : handed.inputs ≡ site.inputs
  pub output : handed.output ≡ site.output
  -- at or below its inputs and below its output lie exactly the files that were handed
  pub view : handed.view ≡ seen handed.inputs handed.output (files_of now.resources.tree)

-- In a history that was found the last entry of pass n is x, by which it was handed this: others alone did what came after,
-- meanwhile all stood still, and what was handed is so at the end
pub record FoundStill (s : Moment) (n : ℕ) (handed : Handed) (x : Entry) (found : List Entry) : Type 0 where
  pub front : List Entry
  pub between : List Entry
  pub are : found ≡ front ++ x ∷ between
  pub others : of (λ (e : Entry). e.pass) n between ≡ []
  pub still : StoodStill (replay s (front ++ x ∷ [])) (replay s found)
  pub so : IsStillSo handed (replay s found)

-- where the last entry of pass n is one by which it was handed something for a command, that is so
abbrev pub FindsStill : Moment → ℕ → List Entry → Type 0
FindsStill s n found = (mine : List Entry) (x : Entry) (handed : Handed) → of (λ (e : Entry). e.pass) n found ≡ mine ++ x ∷ [] → WasHanded n handed x → FoundStill s n handed x found

-- In a history y is the next entry of pass n after x, by which it was handed this, as where it commits: what y found stood still
pub record KeptStill (s : Moment) (n : ℕ) (handed : Handed) (x y : Entry) (h : List Entry) : Type 0 where
  pub found : List Entry
  pub rest : List Entry
  pub are : h ≡ found ++ y ∷ rest
  pub still : FoundStill s n handed x found
