-- A commit that isn't refused leaves what builds owe, and so does a cleaning.
use Rattle.std.proofs.Common.{◌≡◌, ◌≢◌, ℕ, Bool, true, false, length, refl, sym, ap, ◌∙◌, subst}
use Rattle.std.specs.Prelude.{Option, Some, None, option_map}
use Rattle.std.specs.FinMap.{get}
use Rattle.res_path.specs.Paths.{Names, overlap}
use Rattle.ws_elem.specs.Trees.{Tree}
use Rattle.ws_elem.specs.declared.element.Element.{Element}
use Rattle.ws_elem.proofs.Cuts.{same_at}
use Rattle.op_kind.specs.Places.{project_of}
use Rattle.op_kind.specs.Resources.{Resources}
use Rattle.op_kind.specs.Sound.{IsConsistent}
use Rattle.op_kind.proofs.Looks.{is_at, not_at}
use Rattle.builder_api.specs.declared.edits.Edits.{Edits}
use Rattle.builder_api.specs.Edits.{committed as committed_files}
use Rattle.builder_api.specs.Files.{files_of, HasNoEmptyFolder}
use Rattle.builder_api.specs.Places.{is_below}
use Rattle.build_laws.specs.States.{Item, task, State, unmarked, IsAlikeAt}
use Rattle.build_laws.specs.Commits.{differing, with_record, built, IsCommitted, IsCleaned}
use Rattle.output_edits.specs.Wanted.{wanted}
use Rattle.output_commit.specs.Committed.{IsOpenOutput, files_after, committed, cleaned, refusal}
use Rattle.output_commit.specs.Touched.{touched}
use Rattle.output_commit.proofs.AllFiles.{files_are}
use Rattle.output_commit.proofs.Apart.{stays}
use Rattle.output_commit.proofs.Cleaned.{untold, cleaned_gone, cleaned_project, cleaned_others}
use Rattle.output_commit.proofs.Filled.{filled}
use Rattle.output_commit.proofs.Left.{unrefused}
use Rattle.output_commit.proofs.Reasons.{project_unwanted}
use Rattle.build_meets.proofs.Counted.{counted}

-- how many files a commit of these edits touches
abbrev pub touched_by : Resources → Names → Edits → ℕ
touched_by r o e = touched r.tree o (wanted o (files_after r o e))

-- the resources and what builds see of them, before and after
pub commit_meets : (r : Resources) (s after : State) (i : Item) (e : Edits)
    → IsOpenOutput r.tree (task i).output → IsConsistent r → refusal r (task i).output i.index e ≡ None
    → s.tree ≡ r.tree → after.tree ≡ (committed r (task i).output i.index e).tree
    → after.records ≡ with_record s.records i (Some (built s i after.tree)) → after.descs ≡ s.descs
    → IsCommitted s i e (touched_by r (task i).output e) (length e.problems) after
commit_meets r s after i e out x allowed before later records descs = record {
  files = ap files_of later ∙ files_are r o i.index e x.tree out.long allowed ∙ ap (λ t. committed_files o (files_of t) e.files) (sym before);
  filled = subst (HasNoEmptyFolder o) (sym later) (filled r o i.index e out.long (unrefused r o i.index e allowed));
  others = λ q clear. ap (λ t. get t q) later ∙ stays r o (files_after r o e) i.index e.problems q clear ∙ ap (λ t. get t q) (sym before);
  records = records;
  descs = descs;
  counted = counted r o (wanted o (files_after r o e)) i.index e.problems (project_unwanted o (files_after r o e) out.long)
      ∙ (λ j. length (differing (files_of (sym before j)) (files_of (sym later j))));
  told = refl;
}
  where
    o : Names
    o = (task i).output

same_but_marks : (index : ℕ) (x : Option Element) → option_map unmarked (option_map (untold index) x) ≡ option_map unmarked x
same_but_marks index None = refl
same_but_marks index (Some e) = refl

pub clean_meets : (r : Resources) (s after : State) (i : Item)
    → s.tree ≡ r.tree → after.tree ≡ (cleaned r (task i).output i.index).tree
    → after.records ≡ with_record s.records i None → after.descs ≡ s.descs
    → IsCleaned s i after
clean_meets r s after i before later records descs = record {
  gone = λ q under. ap (λ t. get t q) later ∙ cleaned_gone r o i.index q under;
  others = λ q away. ap (λ t. option_map unmarked (get t q)) later ∙ by q away (is_at q (project_of o)) refl ∙ ap (λ t. option_map unmarked (get t q)) (sym before);
  records = records;
  descs = descs;
}
  where
    o : Names
    o = (task i).output

    by : (q : Names) → is_below o q ≡ false → (b : Bool) → is_at q (project_of o) ≡ b → option_map unmarked (get (cleaned r o i.index).tree q) ≡ option_map unmarked (get r.tree q)
    by q away false other = ap (option_map unmarked) (cleaned_others r o i.index q away (not_at q (project_of o) other))
    by q away true at = subst (λ p. option_map unmarked (get (cleaned r o i.index).tree p) ≡ option_map unmarked (get r.tree p)) (sym (same_at q (project_of o) at))
        (ap (option_map unmarked) (cleaned_project r o i.index) ∙ same_but_marks i.index (get r.tree (project_of o)))
