-- What a commit leaves.
use Rattle.std.proofs.Common.{◌≡◌, ℕ, true, false, ◌∷◌, ◌++◌, sym, ap, ◌∙◌, Option, Some}
use Rattle.std.specs.Prelude.{option_map}
use Rattle.std.specs.FinMap.{get}
use Rattle.res_path.specs.Paths.{Names, overlap}
use Rattle.ws_elem.specs.Elements.{file_bytes}
use Rattle.builder_api.specs.declared.edits.Edits.{Edits}
use Rattle.builder_api.specs.Places.{is_within}
use Rattle.builder_api.specs.Files.{files_of}
use Rattle.builder_api.specs.Tasks.{Task, inputs_of}
use Rattle.builder_api.specs.Meanings.{Meaning, Meanings, made_by, full, Fresh}
use Rattle.builder_api.specs.Lawful.{Fulfils}
use Rattle.builder_api.proofs.Places.{clear_within, clear_output}
use Rattle.builder_api.proofs.Trees.{get-files_of}
use Rattle.builder_api.proofs.Commits.{same_made}
use Rattle.build_laws.specs.States.{Item, task, State, unmarked}
use Rattle.build_laws.specs.Commits.{IsCommitted}
use Rattle.build_laws.specs.Plans.{Unread, Before}
use Rattle.build_laws.proofs.Trees.{fresh_still}

-- a commit changes no file that is clear of the output
file_other : (s : State) (i : Item) (e : Edits) (touched problems : ℕ) (next : State) → IsCommitted s i e touched problems next
    → (q : Names) → overlap q (task i).output ≡ false → get (files_of next.tree) q ≡ get (files_of s.tree) q
file_other s i e touched problems next done q h = get-files_of next.tree q ∙ ap file_bytes (done.others q h) ∙ sym (get-files_of s.tree q)

-- a commit of edits that make what the task makes of its inputs leaves it fresh
pub fresh_made : (ms : Meanings) (m : Meaning) (s : State) (i : Item) (e : Edits) (touched problems : ℕ) (next : State) → ms (task i).builder ≡ Some m
    → Unread (task i) (task i).output → IsCommitted s i e touched problems next → Fulfils m (task i) (files_of s.tree) e → Fresh ms (task i) next.tree
fresh_made ms m s i e touched problems next is unread done made = record {
  files = record { at = λ n r. ap (λ f. get f ((task i).output ++ n ∷ r)) done.files ∙ made.files.at n r ∙ ap (λ f. get f (n ∷ r)) same };
  folders = done.filled;
}
  where
    told : (m (task i) (inputs_of (task i) (files_of s.tree))).files ≡ (full ms (task i) (files_of s.tree)).files
    told = ap (λ (o : Option Meaning). (made_by o (task i) (inputs_of (task i) (files_of s.tree))).files) (sym is)

    same : (m (task i) (inputs_of (task i) (files_of s.tree))).files ≡ (full ms (task i) (files_of next.tree)).files
    same = told ∙ same_made ms (task i) (files_of s.tree) (files_of next.tree)
        (λ q h. sym (file_other s i e touched problems next done q (clear_within (task i).inputs q (task i).output unread h)))

-- a commit below another output leaves alone what lies below its own
pub fresh_apart : (ms : Meanings) (c : Task) (s : State) (i : Item) (e : Edits) (touched problems : ℕ) (next : State) → overlap c.output (task i).output ≡ false
    → IsCommitted s i e touched problems next → ((q : Names) → is_within c.inputs q ≡ true → get (files_of next.tree) q ≡ get (files_of s.tree) q) → Fresh ms c s.tree → Fresh ms c next.tree
fresh_apart ms c s i e touched problems next apart done ins was = fresh_still ms c s.tree next.tree ins
    (λ q h. ap (option_map unmarked) (done.others q (clear_output c.output q (task i).output apart h))) was

-- a commit of a later task leaves it fresh
pub fresh_kept : (ms : Meanings) (c : Task) (s : State) (i : Item) (e : Edits) (touched problems : ℕ) (next : State) → Before c (task i)
    → IsCommitted s i e touched problems next → Fresh ms c s.tree → Fresh ms c next.tree
fresh_kept ms c s i e touched problems next before done was = fresh_apart ms c s i e touched problems next before.apart done
    (λ q h. file_other s i e touched problems next done q (clear_within c.inputs q (task i).output before.unread h)) was
