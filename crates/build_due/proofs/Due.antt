-- What is handed is what is due.
use Rattle.std.proofs.Common.{◌≡◌, Bool, true, false, cond, not, ◌&&◌, List, sym, ap, ◌∙◌}
use Rattle.std.specs.Prelude.{Option, Some, None}
use Rattle.res_path.specs.Paths.{Names, path_eq}
use Rattle.ws_elem.specs.Trees.{Tree}
use Rattle.delta_kind.specs.declared.node.DeltaNode.{DeltaNode}
use Rattle.delta_kind.specs.Deltas.{delta, cut}
use Rattle.builder_api.specs.declared.kind.BuildKind.{BuildKind}
use Rattle.builder_api.specs.Files.{Files, files_of}
use Rattle.builder_api.specs.Lawful.{scope}
use Rattle.build_laws.specs.States.{State, Item, Built, references, last_built, same_command, is_whole, due_delta, due}
use Rattle.build_due.specs.declared.site.Site.{Site}
use Rattle.build_due.specs.Sites.{site, handed}
use Rattle.build_due.specs.Sights.{seen}

-- for the command at its place, of the delta that is due and the files that it sees
pub due_is : (s : State) (i : Item) (kind : BuildKind) (p : Site) (d : Option (List DeltaNode)) (v : Files) → p ≡ site i (references s i)
    → d ≡ due_delta (last_built s i) i (references s i) (is_whole kind) s.tree → v ≡ seen p.inputs p.output (files_of s.tree) → handed p kind d v ≡ due s i kind
due_is s i kind p d v at told view =
    ap (λ x. handed p kind d x) view
    ∙ ap (λ x. handed x kind d (seen x.inputs x.output (files_of s.tree))) at
    ∙ ap (λ x. handed (site i (references s i)) kind x (seen (site i (references s i)).inputs (site i (references s i)).output (files_of s.tree))) told

module _ (b : Built) (i : Item) (refs : Names) (p : Site) (at : p ≡ site i refs) where
  is_same : Site → Bool
  is_same x = same_command b.command x.command && path_eq b.references x.references

  -- the delta that is due where not all is built anew, and the command and the references are those that were built last
  pub delta_since : (whole same : Bool) (paths : List Names) (nodes : List DeltaNode) (now : Tree) → same ≡ (same_command b.command p.command && path_eq b.references p.references)
      → (not whole && same) ≡ true → paths ≡ scope p.project p.references → nodes ≡ cut paths (delta b.tree now) → Some nodes ≡ due_delta (Some b) i refs whole now
  unfolding is_same
  delta_since whole same paths nodes now is so all told =
      ap (λ x. Some x) (told ∙ ap (λ ps. cut ps (delta b.tree now)) all ∙ ap (λ x. cut (scope x.project x.references) (delta b.tree now)) at)
      ∙ sym (ap (λ c. cond c (Some (cut (scope i.project refs) (delta b.tree now))) None) (ap (λ x. not whole && is_same x) (sym at) ∙ ap (λ c. not whole && c) (sym is) ∙ so))

  -- and none otherwise
  pub delta_anew : (whole same : Bool) (now : Tree) → same ≡ (same_command b.command p.command && path_eq b.references p.references)
      → (not whole && same) ≡ false → None ≡ due_delta (Some b) i refs whole now
  unfolding is_same
  delta_anew whole same now is so =
      sym (ap (λ c. cond c (Some (cut (scope i.project refs) (delta b.tree now))) None) (ap (λ x. not whole && is_same x) (sym at) ∙ ap (λ c. not whole && c) (sym is) ∙ so))
