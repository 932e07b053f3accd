-- A commit and a cleaning leave what builds owe.
use Rattle.std.proofs.Common.{◌≡◌, ℕ, true, false, not, [], ◌∷◌, length, Option, Some, None, refl, sym, ap, ◌∙◌, subst}
use Rattle.std.specs.Option.{option_map, option_or}
use Rattle.proj_desc.specs.FirstCause.{first_cause, when}
use Rattle.op_kind.specs.Sound as ops
use Rattle.builder_api.specs.declared.edits.Edits.{Edits}
use Rattle.build_laws.specs.States.{Item, IsItem, task}
use Rattle.build_laws.specs.Commits.{IsCommitted, IsCleaned}
use Rattle.build_plan.specs.Descriptions.{desc_at}
use Rattle.build_meets.proofs.Meets.{clean_meets, commit_meets, touched_by}
use Rattle.output_edits.specs.declared.refusal.EditRefusal.{EditRefusal}
use Rattle.output_commit.specs.Committed as outputs
use Rattle.core_event.specs.declared.event.Event.TheVariants.{Service}
use Rattle.core_event.specs.declared.reply.Answer.TheVariants as answers
use Rattle.core_event.specs.declared.reply.Refusal.TheVariants.{NoBuilder}
use Rattle.core_event.specs.declared.reply.Reply.{Reply}
use Rattle.core_event.specs.declared.service.ServiceEvent.TheVariants.{Clean, Commit}
use Rattle.service_desk.specs.Desks.{idle, is_building}
use Rattle.service_desk.specs.Refusals.{not_serving, unrooted}
use Rattle.ws_content.specs.Deeds.{clean, commit, edit_refusal, record_of}
use Rattle.ws_core.specs.States.{Moment, contents_of}
use Rattle.ws_core.specs.Refusals.{current, edit_cause, no_build, service_causes}
use Rattle.ws_core.specs.Effects.{changed, clean_for, commit_for}
use Rattle.ws_core.specs.Sessions.{IsConsistent}
use Rattle.ws_core.specs.Steps.{step}
use Rattle.ws_core.proofs.OpenOutput.{open_output}
use Rattle.build_core.specs.States.{site_of_item, state_of}
use Rattle.build_core.proofs.Kept.{clean_descs, commit_descs, records_inserted, records_removed}
use Rattle.build_core.proofs.Leaves.{Leaves, refused, served}
use Rattle.build_core.proofs.Sites.{has_builder, item_site, site_refusal}

-- the output of a command lies below its project
pub item_output : (s : Moment) (i : Item) → IsItem (desc_at s.resources.tree) i → outputs.IsOpenOutput s.resources.tree (task i).output
item_output s i h = open_output s.resources.tree i.project i.index (site_of_item s.resources.tree i) (item_site s.resources.tree i h)

-- ---- commits

-- what the edits of the command leave
abbrev pub committed_to : Moment → Item → Edits → Moment
committed_to s i e = changed s (commit (contents_of s) (site_of_item s.resources.tree i) e)

-- it is what a commit owes
pub committed_meets : (s : Moment) (i : Item) (e : Edits) → ops.IsConsistent s.resources → IsItem (desc_at s.resources.tree) i → outputs.refusal s.resources (task i).output i.index e ≡ None
    → IsCommitted (state_of s) i e (touched_by s.resources (task i).output e) (length e.problems) (state_of (committed_to s i e))
committed_meets s i e sound h allowed =
    commit_meets s.resources (state_of s) (state_of (committed_to s i e)) i e (item_output s i h) sound allowed refl refl
    (records_inserted s.remembered.built i (record_of (site_of_item s.resources.tree i) (outputs.committed s.resources (task i).output i.index e).tree))
    (commit_descs s.resources (task i).output i.index e (item_output s i h))

-- a commit was refused for its edits, or has made them
pub data Commits (s : Moment) (i : Item) (e : Edits) (next : Moment × Reply) : Type 0 where
  AreRefused : (r : EditRefusal) → Leaves next (s, answers.Refused (edit_refusal r)) → Commits s i e next
  AreMade : Leaves next (committed_to s i e, answers.Committed (touched_by s.resources (task i).output e) (length e.problems))
      → IsCommitted (state_of s) i e (touched_by s.resources (task i).output e) (length e.problems) (state_of next.0) → Commits s i e next

-- one of both it is for the command under way, of the pass that has the services for a build and the rule of the root
pub commits : (s : Moment) (k : ℕ) (i : Item) (e : Edits) → IsConsistent s → IsItem (desc_at s.resources.tree) i → current s ≡ Some (site_of_item s.resources.tree i)
    → not_serving s.manager.passes (is_building s.desk.serving) k ≡ None → unrooted s.manager.passes.rules k ≡ None → Commits s i e (step s k (Service (Commit e)))
commits s k i e x h at serving rooted = by (outputs.refusal s.resources (task i).output i.index e) refl
  where
    causes : (o : Option EditRefusal) → outputs.refusal s.resources (task i).output i.index e ≡ o → first_cause (service_causes s k (Commit e)) ≡ option_or (option_map edit_refusal o) None
    causes o is =
        (λ j. first_cause (serving j ∷ no_build (at j) ∷ rooted j ∷ edit_cause s.resources e (at j) ∷ []))
        ∙ ap (λ y. option_or (option_map edit_refusal y) None) is

    by : (o : Option EditRefusal) → outputs.refusal s.resources (task i).output i.index e ≡ o → Commits s i e (step s k (Service (Commit e)))
    by (Some r) is = AreRefused r (refused s k (Commit e) (edit_refusal r) (causes (Some r) is))
    by None is =
        let left : Leaves (step s k (Service (Commit e))) (commit_for s (Some (site_of_item s.resources.tree i)) e) =
        subst (Leaves (step s k (Service (Commit e)))) (ap (λ o. commit_for s o e) at) (served s k (Commit e) (causes None is)) in
        AreMade left (subst (IsCommitted (state_of s) i e (touched_by s.resources (task i).output e) (length e.problems)) (sym left.state) (committed_meets s i e x.resources h is))

-- ---- cleanings

-- what a cleaning of the command leaves
abbrev pub cleaned_to : Moment → Item → Moment
cleaned_to s i = record (changed s (clean (contents_of s) (site_of_item s.resources.tree i))) { desk = idle s.desk }

-- it is what a cleaning owes
pub cleaned_meets : (s : Moment) (i : Item) → IsItem (desc_at s.resources.tree) i → IsCleaned (state_of s) i (state_of (cleaned_to s i))
cleaned_meets s i h =
    clean_meets s.resources (state_of s) (state_of (cleaned_to s i)) i refl refl
    (records_removed s.remembered.built i) (clean_descs s.resources (task i).output i.index (item_output s i h))

-- a cleaning that has cleaned
pub record Cleans (s : Moment) (i : Item) (next : Moment × Reply) : Type 0 where
  pub leaves : Leaves next (cleaned_to s i, answers.Done)
  pub cleaned : IsCleaned (state_of s) i (state_of next.0)

-- so does each that isn't refused
pub cleans : (s : Moment) (k : ℕ) (i : Item) → IsItem (desc_at s.resources.tree) i → first_cause (service_causes s k (Clean i.project i.index)) ≡ None
    → Cleans s i (step s k (Service (Clean i.project i.index)))
cleans s k i h none =
    let left : Leaves (step s k (Service (Clean i.project i.index))) (cleaned_to s i, answers.Done) =
    subst (Leaves (step s k (Service (Clean i.project i.index)))) (ap (clean_for s) (item_site s.resources.tree i h)) (served s k (Clean i.project i.index) none) in
    record { leaves = left; cleaned = subst (IsCleaned (state_of s) i) (sym left.state) (cleaned_meets s i h) }

-- the pass that has the services for a build and the rule of the root cleans where there is a builder
pub cleans_present : (s : Moment) (k : ℕ) (i : Item) → IsItem (desc_at s.resources.tree) i → not_serving s.manager.passes (is_building s.desk.serving) k ≡ None → unrooted s.manager.passes.rules k ≡ None
    → has_builder s.desk.builders i ≡ true → Cleans s i (step s k (Service (Clean i.project i.index)))
cleans_present s k i h serving rooted there = cleans s k i h
    (site_refusal s.manager.passes s.resources.tree s.desk k i h serving rooted ∙ ap (λ b. when (not b) (NoBuilder i.command.builder)) there)

-- and is refused it where there is none
pub cleans_missing : (s : Moment) (k : ℕ) (i : Item) → IsItem (desc_at s.resources.tree) i → not_serving s.manager.passes (is_building s.desk.serving) k ≡ None → unrooted s.manager.passes.rules k ≡ None
    → has_builder s.desk.builders i ≡ false → Leaves (step s k (Service (Clean i.project i.index))) (s, answers.Refused (NoBuilder i.command.builder))
cleans_missing s k i h serving rooted away = refused s k (Clean i.project i.index) (NoBuilder i.command.builder)
    (site_refusal s.manager.passes s.resources.tree s.desk k i h serving rooted ∙ ap (λ b. when (not b) (NoBuilder i.command.builder)) away)
