-- What is handed is due, as the book of the build has it.
use Rattle.std.proofs.Common.{◌≡◌, ℕ, ◌≤◌, Bool, true, false, not, ◌==◌, ◌&&◌, List, [], ◌∷◌, ◌++◌, length, Option, Some, None, refl, sym, ap, ◌∙◌, subst}
use Rattle.std.specs.Prelude.{is_none}
use Rattle.std.specs.Option.{option_map}
use Rattle.job_queue.proofs.Found.{same_Some}
use Rattle.builder_api.specs.declared.kind.BuildKind.{BuildKind}
use Rattle.builder_api.specs.Told.{Told}
use Rattle.build_laws.specs.States.{Item, IsItem, due}
use Rattle.build_plan.specs.Descriptions.{desc_at}
use Rattle.build_run.specs.declared.answers.Given.{Given}
use Rattle.build_run.specs.declared.answers.Given.TheVariants as given
use Rattle.build_run.specs.Books.{Handing, Hands, at}
use Rattle.core_event.specs.declared.event.Event.TheVariants.{Service}
use Rattle.core_event.specs.declared.reply.Answer.{Answer}
use Rattle.core_event.specs.declared.reply.Answer.TheVariants as answers
use Rattle.core_event.specs.declared.reply.Refusal.{Refusal}
use Rattle.core_event.specs.declared.reply.Refusal.TheVariants.{NoBuilder}
use Rattle.core_event.specs.declared.service.ServiceEvent.TheVariants as services
use Rattle.pass_table.specs.Passes.{batches_of}
use Rattle.service_desk.specs.Desks.{is_building}
use Rattle.service_desk.specs.Refusals.{not_serving, unrooted}
use Rattle.ws_core.specs.States.{Moment}
use Rattle.ws_core.specs.Sessions.{Session}
use Rattle.ws_core.specs.Steps.{step}
use Rattle.build_core.specs.States.{item_of, state_of}
use Rattle.build_core.specs.Histories.{book_of, given_of, may_build, Steps}
use Rattle.build_core.proofs.Handings.{handed_missing, handed_present, handed_to}
use Rattle.build_core.proofs.Sites.{has_builder, item_site}
use Rattle.build_core.proofs.Stamps.{stamped}
use Rattle.build_core.proofs.Turning.{handed_deed, missing_deed}
use Rattle.build_host.proofs.Growing.{book_after, finds_itself}

-- ---- a pass that may build

none_is : (o : Option Refusal) → is_none o ≡ true → o ≡ None
none_is None h = refl
none_is (Some r) h = cc

first_so : (a b : Bool) → (a && b) ≡ true → a ≡ true
first_so true b h = refl
first_so false b h = cc

second_so : (a b : Bool) → (a && b) ≡ true → b ≡ true
second_so true b h = h
second_so false b h = cc

-- it has the services for a build
abbrev pub Serving : Moment → ℕ → Type 0
Serving s k = not_serving s.manager.passes (is_building s.desk.serving) k ≡ None

pub it_serves : (s : Moment) (k : ℕ) → may_build s k ≡ true → Serving s k
it_serves s k may = none_is (not_serving s.manager.passes (is_building s.desk.serving) k) (first_so _ _ (first_so _ (not (batches_of s.manager.passes k == 0)) may))

pub is_rooted : (s : Moment) (k : ℕ) → may_build s k ≡ true → unrooted s.manager.passes.rules k ≡ None
is_rooted s k may = none_is (unrooted s.manager.passes.rules k) (second_so (is_none (not_serving s.manager.passes (is_building s.desk.serving) k)) _ (first_so _ (not (batches_of s.manager.passes k == 0)) may))

-- ---- what is handed

abbrev handing_at : Moment → ℕ → Item → BuildKind → Answer
handing_at s k i kind = (step s k (Service (services.Handed i.project i.index kind))).1.answer

pub hands : (k start : ℕ) (began told : List Told) (i : Item) (kind : BuildKind) (g : Given) (x y : Session) → start ≤ length x.history → may_build x.state k ≡ true
    → IsItem (desc_at x.state.resources.tree) i → Steps k (Service (services.Handed i.project i.index kind)) x y → given_of (handing_at x.state k i kind) ≡ Some g
    → Hands (book_of x k start began told) i kind g (book_of y k start began told)
hands k start began told i kind g x y le may it steps is = by (has_builder x.state.desk.builders i) refl
  where
    s : Moment
    s = x.state

    serving : Serving s k
    serving = it_serves s k may

    rooted : unrooted s.manager.passes.rules k ≡ None
    rooted = is_rooted s k may

    by : (b : Bool) → has_builder s.desk.builders i ≡ b → Hands (book_of x k start began told) i kind g (book_of y k start began told)
    by true there =
        let leaves = handed_present s k i kind it serving rooted there in
        let same : given.Due (due (state_of s) i kind) ≡ g = same_Some _ g (sym (ap given_of leaves.answer) ∙ is) in
        subst (λ z. Hands (book_of x k start began told) i kind z (book_of y k start began told)) same (record {
          found = state_of s;
          finds = finds_itself (state_of s);
          given = (there, refl, stamped s i steps.sound);
          book = book_after k start began told told (Service (services.Handed i.project i.index kind)) (Handing i.project i.index kind (given.Due (due (state_of s) i kind))) x y (handed_to s i kind) le steps
              (handed_deed s k i kind it serving rooted there) leaves
              ∙ ap (λ u. record (book_of x k start began told) {
                mine = (book_of x k start began told).mine ++ at (state_of s) (Handing i.project i.index kind (given.Due (due (state_of s) i kind))) ∷ [];
                since = (book_of x k start began told).since ++ at (state_of s) (Handing i.project i.index kind (given.Due (due (state_of s) i kind))) ∷ [];
                under = option_map item_of u;
              }) (item_site s.resources.tree i it);
        })
    by false away =
        let leaves = handed_missing s k i kind it serving rooted away in
        let same : given.Refused 35 ≡ g = same_Some _ g (sym (ap given_of leaves.answer) ∙ is) in
        subst (λ z. Hands (book_of x k start began told) i kind z (book_of y k start began told)) same (record {
          found = state_of s;
          finds = finds_itself (state_of s);
          given = (away, refl);
          book = book_after k start began told told (Service (services.Handed i.project i.index kind)) (Handing i.project i.index kind (given.Refused 35)) x y (s, answers.Refused (NoBuilder i.command.builder)) le steps
              (missing_deed s k i kind it serving rooted away) leaves;
        })
