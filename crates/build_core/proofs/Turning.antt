-- The entries of a build, as its book has them.
use Rattle.std.proofs.Common.{◌≡◌, ℕ, true, false, Some, None, ap}
use Rattle.core_event.specs.declared.event.Event.TheVariants.{Service}
use Rattle.core_event.specs.declared.service.ServiceEvent.TheVariants as services
use Rattle.builder_api.specs.declared.kind.BuildKind.{BuildKind}
use Rattle.build_laws.specs.States.{Item, IsItem, due}
use Rattle.build_plan.specs.Descriptions.{desc_at}
use Rattle.build_run.specs.declared.answers.Given.TheVariants as given
use Rattle.build_run.specs.Books.{CleanUp, Handing}
use Rattle.service_desk.specs.Desks.{is_building}
use Rattle.service_desk.specs.Refusals.{not_serving, unrooted}
use Rattle.ws_core.specs.States.{Moment}
use Rattle.ws_core.specs.Steps.{step}
use Rattle.build_core.specs.States.{state_of}
use Rattle.build_core.specs.Histories.{deed_of}
use Rattle.build_core.proofs.Commits.{cleans_missing, cleans_present}
use Rattle.build_core.proofs.Handings.{handed_missing, handed_present}
use Rattle.build_core.proofs.Sites.{has_builder}

-- where there is a builder, what is due is handed
pub handed_deed : (s : Moment) (k : ℕ) (i : Item) (kind : BuildKind) → IsItem (desc_at s.resources.tree) i → not_serving s.manager.passes (is_building s.desk.serving) k ≡ None → unrooted s.manager.passes.rules k ≡ None
    → has_builder s.desk.builders i ≡ true
    → deed_of (Service (services.Handed i.project i.index kind)) (step s k (Service (services.Handed i.project i.index kind))).1.answer ≡ Some (Handing i.project i.index kind (given.Due (due (state_of s) i kind)))
handed_deed s k i kind h serving rooted there = ap (deed_of (Service (services.Handed i.project i.index kind))) (handed_present s k i kind h serving rooted there).answer

-- and where there is none, the number is 35
pub missing_deed : (s : Moment) (k : ℕ) (i : Item) (kind : BuildKind) → IsItem (desc_at s.resources.tree) i → not_serving s.manager.passes (is_building s.desk.serving) k ≡ None → unrooted s.manager.passes.rules k ≡ None
    → has_builder s.desk.builders i ≡ false
    → deed_of (Service (services.Handed i.project i.index kind)) (step s k (Service (services.Handed i.project i.index kind))).1.answer ≡ Some (Handing i.project i.index kind (given.Refused 35))
missing_deed s k i kind h serving rooted away = ap (deed_of (Service (services.Handed i.project i.index kind))) (handed_missing s k i kind h serving rooted away).answer

pub cleaned_deed : (s : Moment) (k : ℕ) (i : Item) → IsItem (desc_at s.resources.tree) i → not_serving s.manager.passes (is_building s.desk.serving) k ≡ None → unrooted s.manager.passes.rules k ≡ None
    → has_builder s.desk.builders i ≡ true
    → deed_of (Service (services.Clean i.project i.index)) (step s k (Service (services.Clean i.project i.index))).1.answer ≡ Some (CleanUp i.project i.index None)
cleaned_deed s k i h serving rooted there = ap (deed_of (Service (services.Clean i.project i.index))) (cleans_present s k i h serving rooted there).leaves.answer

pub uncleaned_deed : (s : Moment) (k : ℕ) (i : Item) → IsItem (desc_at s.resources.tree) i → not_serving s.manager.passes (is_building s.desk.serving) k ≡ None → unrooted s.manager.passes.rules k ≡ None
    → has_builder s.desk.builders i ≡ false
    → deed_of (Service (services.Clean i.project i.index)) (step s k (Service (services.Clean i.project i.index))).1.answer ≡ Some (CleanUp i.project i.index (Some 35))
uncleaned_deed s k i h serving rooted away = ap (deed_of (Service (services.Clean i.project i.index))) (cleans_missing s k i h serving rooted away).answer
