-- A command that is handed something is handed what is due.
use Rattle.std.proofs.Common.{◌≡◌, ℕ, true, false, not, List, Some, None, refl, ap, ◌∙◌, subst}
use Rattle.std.specs.Option.{option_map}
use Rattle.std.specs.FinMap.{get}
use Rattle.proj_desc.specs.FirstCause.{first_cause, when}
use Rattle.builder_api.specs.declared.kind.BuildKind.{BuildKind}
use Rattle.builder_api.specs.Files.{files_of}
use Rattle.build_laws.specs.States.{Item, IsItem, due, due_delta, is_whole, references}
use Rattle.build_plan.specs.Descriptions.{desc_at}
use Rattle.build_due.specs.declared.site.Site.{Site}
use Rattle.build_due.specs.Sights.{seen}
use Rattle.build_due.proofs.Due.{due_is}
use Rattle.core_event.specs.declared.event.Event.TheVariants.{Service}
use Rattle.core_event.specs.declared.reply.Answer.{Answer}
use Rattle.core_event.specs.declared.reply.Answer.TheVariants as answers
use Rattle.core_event.specs.declared.reply.Refusal.TheVariants.{NoBuilder}
use Rattle.core_event.specs.declared.service.ServiceEvent.TheVariants.{Handed}
use Rattle.service_desk.specs.Desks.{is_building, under_way}
use Rattle.service_desk.specs.Refusals.{not_serving, unrooted}
use Rattle.service_desk.specs.Sites.{site_in}
use Rattle.ws_content.specs.Handing.{built_of, handing}
use Rattle.ws_core.specs.States.{Moment, contents_of}
use Rattle.ws_core.specs.Refusals.{service_causes}
use Rattle.ws_core.specs.Effects.{hand}
use Rattle.ws_core.specs.Steps.{step}
use Rattle.build_core.specs.States.{site_of_item, state_of}
use Rattle.build_core.proofs.Leaves.{Leaves, served, refused}
use Rattle.build_core.proofs.Sites.{site_item, item_site, has_builder, site_refusal}

-- of a command at its place what is due is handed
pub item_due : (s : Moment) (i : Item) (kind : BuildKind) → handing (contents_of s) (site_of_item s.resources.tree i) kind ≡ due (state_of s) i kind
item_due s i kind = due_is (state_of s) i kind (site_of_item s.resources.tree i)
    (due_delta (option_map built_of (get s.remembered.built (i.project, i.index))) i (references (state_of s) i) (is_whole kind) s.resources.tree)
    (seen (site_of_item s.resources.tree i).inputs (site_of_item s.resources.tree i).output (files_of s.resources.tree))
    refl refl refl

-- so it is of what is found at a place
pub handing_due : (s : Moment) (project : List ℕ) (index : ℕ) (site : Site) (kind : BuildKind) → site_in s.resources.tree project index ≡ Some site
    → handing (contents_of s) site kind ≡ due (state_of s) (record { project = project; index = index; command = site.command }) kind
handing_due s project index site kind h =
    ap (λ x. handing (contents_of s) x kind) (site_item s.resources.tree project index site h).at
    ∙ item_due s (record { project = project; index = index; command = site.command }) kind

-- what is due is handed, and the command is under way
abbrev pub handed_to : Moment → Item → BuildKind → Moment × Answer
handed_to s i kind = (record s { desk = under_way s.desk i.project i.index }, answers.Handed (due (state_of s) i kind))

handed_is : (s : Moment) (i : Item) (kind : BuildKind) → IsItem (desc_at s.resources.tree) i → hand s (site_in s.resources.tree i.project i.index) kind ≡ handed_to s i kind
handed_is s i kind h = ap (λ o. hand s o kind) (item_site s.resources.tree i h)
    ∙ (λ k. (record s { desk = under_way s.desk i.project i.index }, answers.Handed (item_due s i kind k)))

-- a handing that isn't refused hands what is due
pub handed_leaves : (s : Moment) (k : ℕ) (i : Item) (kind : BuildKind) → IsItem (desc_at s.resources.tree) i → first_cause (service_causes s k (Handed i.project i.index kind)) ≡ None
    → Leaves (step s k (Service (Handed i.project i.index kind))) (handed_to s i kind)
handed_leaves s k i kind h none = subst (Leaves (step s k (Service (Handed i.project i.index kind)))) (handed_is s i kind h) (served s k (Handed i.project i.index kind) none)

-- the pass that has the services for a build and the rule of the root is handed what is due where there is a builder
pub handed_present : (s : Moment) (k : ℕ) (i : Item) (kind : BuildKind) → IsItem (desc_at s.resources.tree) i → not_serving s.manager.passes (is_building s.desk.serving) k ≡ None → unrooted s.manager.passes.rules k ≡ None
    → has_builder s.desk.builders i ≡ true → Leaves (step s k (Service (Handed i.project i.index kind))) (handed_to s i kind)
handed_present s k i kind h serving rooted there = handed_leaves s k i kind h
    (site_refusal s.manager.passes s.resources.tree s.desk k i h serving rooted ∙ ap (λ b. when (not b) (NoBuilder i.command.builder)) there)

-- and is refused it where there is none
pub handed_missing : (s : Moment) (k : ℕ) (i : Item) (kind : BuildKind) → IsItem (desc_at s.resources.tree) i → not_serving s.manager.passes (is_building s.desk.serving) k ≡ None → unrooted s.manager.passes.rules k ≡ None
    → has_builder s.desk.builders i ≡ false → Leaves (step s k (Service (Handed i.project i.index kind))) (s, answers.Refused (NoBuilder i.command.builder))
handed_missing s k i kind h serving rooted away = refused s k (Handed i.project i.index kind) (NoBuilder i.command.builder)
    (site_refusal s.manager.passes s.resources.tree s.desk k i h serving rooted ∙ ap (λ b. when (not b) (NoBuilder i.command.builder)) away)
