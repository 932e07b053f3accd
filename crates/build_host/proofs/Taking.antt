-- What is committed, as the book of the build has it.
use Rattle.std.proofs.Common.{◌≡◌, ℕ, ◌≤◌, true, List, [], ◌∷◌, ◌++◌, length, Option, Some, None, IfSome, refl, sym, ap, ◌∙◌, subst}
use Rattle.std.specs.Option.{option_map}
use Rattle.job_queue.proofs.Found.{same_Some}
use Rattle.builder_api.specs.declared.edits.Edits.{Edits}
use Rattle.builder_api.specs.Told.{Told}
use Rattle.build_due.specs.declared.site.Site.{Site}
use Rattle.build_laws.specs.States.{Item, IsItem, item, task}
use Rattle.build_laws.specs.Commits.{IsCommitted}
use Rattle.build_meets.proofs.Meets.{touched_by}
use Rattle.build_plan.specs.Descriptions.{desc_at}
use Rattle.build_run.specs.declared.answers.Taken.{Taken}
use Rattle.build_run.specs.declared.answers.Taken.TheVariants as taken
use Rattle.build_run.specs.Books.{Commit, Takes, at}
use Rattle.core_event.specs.declared.event.Event.TheVariants.{Service}
use Rattle.core_event.specs.declared.reply.Answer.TheVariants as answers
use Rattle.core_event.specs.declared.service.ServiceEvent.TheVariants as services
use Rattle.core_event.specs.Replies.{refusal_number}
use Rattle.service_desk.specs.declared.desk.UnderWay.{UnderWay}
use Rattle.service_desk.specs.Desks.{site_of}
use Rattle.ws_content.specs.Deeds.{edit_refusal}
use Rattle.ws_core.specs.States.{Moment}
use Rattle.ws_core.specs.Refusals.{current}
use Rattle.ws_core.specs.Sessions.{Session}
use Rattle.ws_core.specs.Steps.{step}
use Rattle.build_core.specs.States.{item_of, site_of_item, state_of}
use Rattle.build_core.specs.Histories.{book_of, deed_of, may_build, taken_of, Steps}
use Rattle.build_core.proofs.Commits.{AreMade, AreRefused, Commits, commits, committed_to}
use Rattle.build_core.proofs.Sites.{site_item, under_site}
use Rattle.build_host.proofs.Growing.{book_after, finds_itself}
use Rattle.build_host.proofs.Handing.{is_rooted, it_serves}

-- the command that is under way
record Going (s : Moment) (i : Item) : Type 0 where
  under : s.desk.under ≡ Some (record { project = i.project; index = i.index })
  listed : IsItem (desc_at s.resources.tree) i
  at : current s ≡ Some (site_of_item s.resources.tree i)

going : (s : Moment) (site : Site) → current s ≡ Some site → (i : Item) × (item_of site ≡ i) × Going s i
going s site is = by s.desk.under refl is
  where
    by : (u : Option UnderWay) → s.desk.under ≡ u → site_of s.resources.tree u ≡ Some site → (i : Item) × (item_of site ≡ i) × Going s i
    by None w h = cc
    by (Some u) w h =
        let it = site_item s.resources.tree u.project u.index site h in
        (item u.project u.index site.command, ap item_of it.at, record { under = w; listed = it.listed; at = is ∙ ap (λ z. Some z) it.at })

takes_item : (k start : ℕ) (began told : List Told) (e : Edits) (t : Taken) (x y : Session) (i : Item) → start ≤ length x.history → may_build x.state k ≡ true → Going x.state i
    → Steps k (Service (services.Commit e)) x y → taken_of (step x.state k (Service (services.Commit e))).1.answer ≡ Some t → Takes (book_of x k start began told) i e t (book_of y k start began told)
takes_item k start began told e t x y i le may it steps is =
    by (commits s k i e steps.sound it.listed it.at (it_serves s k may) (is_rooted s k may))
  where
    s : Moment
    s = x.state

    same_under : (done : Moment) → done.desk.under ≡ s.desk.under → IsItem (desc_at done.resources.tree) i → option_map item_of (site_of done.resources.tree done.desk.under) ≡ option_map item_of (current s)
    same_under done desk listed =
        ap (option_map item_of) (under_site done.resources.tree done.desk.under i (desk ∙ it.under) listed)
        ∙ sym (ap (option_map item_of) it.at)

    by : Commits s i e (step s k (Service (services.Commit e))) → Takes (book_of x k start began told) i e t (book_of y k start began told)
    by (AreRefused r leaves) =
        let same : taken.Refused (refusal_number (edit_refusal r)) ≡ t = same_Some _ t (sym (ap taken_of leaves.answer) ∙ is) in
        subst (λ z. Takes (book_of x k start began told) i e z (book_of y k start began told)) same (
          state_of s,
          finds_itself (state_of s),
          book_after k start began told told (Service (services.Commit e)) (Commit e (taken.Refused (refusal_number (edit_refusal r)))) x y (s, answers.Refused (edit_refusal r)) le steps
              (ap (deed_of (Service (services.Commit e))) leaves.answer) leaves,
        )
    by (AreMade leaves committed) =
        let n = touched_by s.resources (task i).output e in
        let m = length e.problems in
        let same : taken.Committed n m ≡ t = same_Some _ t (sym (ap taken_of leaves.answer) ∙ is) in
        let made : IsCommitted (state_of s) i e n m (state_of (committed_to s i e)) = subst (IsCommitted (state_of s) i e n m) leaves.state committed in
        subst (λ z. Takes (book_of x k start began told) i e z (book_of y k start began told)) same (
          state_of s,
          state_of (committed_to s i e),
          finds_itself (state_of s),
          made,
          book_after k start began told told (Service (services.Commit e)) (Commit e (taken.Committed n m)) x y (committed_to s i e, answers.Committed n m) le steps
              (ap (deed_of (Service (services.Commit e))) leaves.answer) leaves
              ∙ ap (λ u. record (book_of x k start began told) {
                mine = (book_of x k start began told).mine ++ at (state_of s) (Commit e (taken.Committed n m)) ∷ [];
                since = (book_of x k start began told).since ++ at (state_of s) (Commit e (taken.Committed n m)) ∷ [];
                now = state_of (committed_to s i e);
                under = u;
              }) (same_under (committed_to s i e) refl (subst (λ d. IsItem d i) (sym made.descs) it.listed)),
        )

-- for the command under way, if there is one
pub takes : (k start : ℕ) (began told : List Told) (e : Edits) (t : Taken) (x y : Session) → start ≤ length x.history → may_build x.state k ≡ true
    → Steps k (Service (services.Commit e)) x y → taken_of (step x.state k (Service (services.Commit e))).1.answer ≡ Some t
    → IfSome (book_of x k start began told).under (λ i. Takes (book_of x k start began told) i e t (book_of y k start began told))
takes k start began told e t x y le may steps is = by (current x.state) refl
  where
    Is : Option Site → Type 0
    Is o = IfSome (option_map item_of o) (λ i. Takes (book_of x k start began told) i e t (book_of y k start began told))

    by : (o : Option Site) → current x.state ≡ o → Is (current x.state)
    by None w = subst Is (sym w) tt
    by (Some site) w =
        let it = going x.state site w in
        subst Is (sym w) (subst (λ z. Takes (book_of x k start began told) z e t (book_of y k start began told)) (sym it.1) (takes_item k start began told e t x y it.0 le may it.2 steps is))
