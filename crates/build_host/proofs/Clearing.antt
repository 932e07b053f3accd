-- What is cleaned, as the book of the build has it.
use Rattle.std.proofs.Common.{◌≡◌, ℕ, ◌≤◌, Bool, true, false, List, [], ◌∷◌, ◌++◌, length, Option, Some, None, refl, sym, ap, ◌∙◌, subst}
use Rattle.builder_api.specs.Told.{Told}
use Rattle.build_laws.specs.States.{Item, IsItem}
use Rattle.build_laws.specs.Commits.{IsCleaned}
use Rattle.build_plan.specs.Descriptions.{desc_at}
use Rattle.build_run.specs.Books.{CleanUp, Cleans, Cleared, WasDone, at}
use Rattle.core_event.specs.declared.event.Event.TheVariants.{Service}
use Rattle.core_event.specs.declared.reply.Answer.TheVariants as answers
use Rattle.core_event.specs.declared.reply.Refusal.TheVariants.{NoBuilder}
use Rattle.core_event.specs.declared.service.ServiceEvent.TheVariants as services
use Rattle.service_desk.specs.Refusals.{unrooted}
use Rattle.ws_core.specs.States.{Moment}
use Rattle.ws_core.specs.Sessions.{Session}
use Rattle.ws_core.specs.Steps.{step}
use Rattle.build_core.specs.States.{state_of}
use Rattle.build_core.specs.Histories.{book_of, may_build, number_of, Steps}
use Rattle.build_core.proofs.Commits.{cleans_missing, cleans_present, cleaned_to}
use Rattle.build_core.proofs.Sites.{has_builder}
use Rattle.build_core.proofs.Turning.{cleaned_deed, uncleaned_deed}
use Rattle.build_host.proofs.Growing.{book_after, finds_itself}
use Rattle.build_host.proofs.Handing.{Serving, is_rooted, it_serves}

-- whether the command is refused, and what it leaves: nothing was told, or that the builder was to clean
pub clears : (k start : ℕ) (began told told' : List Told) (i : Item) (n : Option ℕ) (x y : Session) → start ≤ length x.history → may_build x.state k ≡ true
    → IsItem (desc_at x.state.resources.tree) i → Steps k (Service (services.Clean i.project i.index)) x y → number_of (step x.state k (Service (services.Clean i.project i.index))).1.answer ≡ n
    → (n ≡ None → WasDone (Cleared i) told told') → ((m : ℕ) → n ≡ Some m → told' ≡ told)
    → Cleans (book_of x k start began told) i n (book_of y k start began told')
clears k start began told told' i n x y le may it steps is called quiet = by (has_builder x.state.desk.builders i) refl
  where
    s : Moment
    s = x.state

    serving : Serving s k
    serving = it_serves s k may

    rooted : unrooted s.manager.passes.rules k ≡ None
    rooted = is_rooted s k may

    by : (b : Bool) → has_builder s.desk.builders i ≡ b → Cleans (book_of x k start began told) i n (book_of y k start began told')
    by true there =
        let swept = cleans_present s k i it serving rooted there in
        let same : n ≡ None = sym is ∙ ap number_of swept.leaves.answer in
        let cleaned : IsCleaned (state_of s) i (state_of (cleaned_to s i)) = subst (IsCleaned (state_of s) i) swept.leaves.state swept.cleaned in
        subst (λ z. Cleans (book_of x k start began told) i z (book_of y k start began told')) (sym same) (
          state_of s,
          state_of (cleaned_to s i),
          finds_itself (state_of s),
          there,
          cleaned,
          called same,
          book_after k start began told told' (Service (services.Clean i.project i.index)) (CleanUp i.project i.index None) x y (cleaned_to s i, answers.Done) le steps
              (cleaned_deed s k i it serving rooted there) swept.leaves,
        )
    by false away =
        let leaves = cleans_missing s k i it serving rooted away in
        let same : n ≡ Some 35 = sym is ∙ ap number_of leaves.answer in
        subst (λ z. Cleans (book_of x k start began told) i z (book_of y k start began told')) (sym same) (
          state_of s,
          finds_itself (state_of s),
          away,
          refl,
          subst (λ z. book_of y k start began z ≡ record (book_of x k start began told) {
            mine = (book_of x k start began told).mine ++ at (state_of s) (CleanUp i.project i.index (Some 35)) ∷ [];
            since = (book_of x k start began told).since ++ at (state_of s) (CleanUp i.project i.index (Some 35)) ∷ [];
          }) (sym (quiet 35 same))
              (book_after k start began told told (Service (services.Clean i.project i.index)) (CleanUp i.project i.index (Some 35)) x y (s, answers.Refused (NoBuilder i.command.builder)) le steps
              (uncleaned_deed s k i it serving rooted away) leaves),
        )
