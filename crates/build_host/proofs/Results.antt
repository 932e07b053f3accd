-- What calls of the host leave, by what they answered.
use Rattle.std.proofs.Common.{◌≡◌, ◌⊎◌, inl, inr, ℕ, ◌≤◌, Bool, true, false, List, length, Option, Some, None, Result, Ok, Err, refl, sym, ap, ◌∙◌, subst, arith, length-append}
use Rattle.std.specs.Prelude.{is_some, IfOk, IfSome, OnOk, OnErr}
use Rattle.builder_api.specs.declared.edits.Edits.{Edits}
use Rattle.builder_api.specs.declared.kind.BuildKind.{BuildKind}
use Rattle.builder_api.specs.declared.outcome.BuildOutcome.{BuildOutcome}
use Rattle.builder_api.specs.Told.{Told}
use Rattle.build_laws.specs.States.{Item, IsItem}
use Rattle.build_plan.specs.Descriptions.{desc_at}
use Rattle.build_run.specs.declared.answers.Started.{Started}
use Rattle.build_run.specs.declared.answers.Taken.{Taken}
use Rattle.build_run.specs.Books.{Takes}
use Rattle.build_run.specs.Starts.{Closes, IsCut, Opens}
use Rattle.core_event.specs.declared.event.Event.TheVariants as events
use Rattle.core_event.specs.declared.event.Event.TheVariants.{Service}
use Rattle.core_event.specs.declared.service.ServiceEvent.TheVariants as services
use Rattle.service_desk.specs.Refusals.{root_rule}
use Rattle.ws_core.specs.States.{Moment}
use Rattle.ws_core.specs.Sessions.{Session}
use Rattle.ws_core.specs.Steps.{step}
use Rattle.build_core.specs.Histories.{book_of, given_of, may_build, Steps}
use Rattle.build_core.proofs.Handings.{handed_missing, handed_present}
use Rattle.build_core.proofs.Sites.{has_builder}
use Rattle.builder_api.specs.Meanings.{Meanings}
use Rattle.build_run.specs.declared.answers.BuildAnswer.{BuildAnswer}
use Rattle.build_run.specs.Commands.{IsAnswered, IsUnanswered}
use Rattle.build_host.specs.Hosts.{Goes}
use Rattle.build_host.proofs.Closing.{check_in, closes, cut_first, cut_second}
use Rattle.build_host.proofs.Handing.{is_rooted, it_serves}

pub err_holds : {A E P : Type 0} (r : Result A E) → P → OnErr r P
err_holds (Ok x) p = tt
err_holds (Err e) p = p

-- ---- at the books of the host

pub taken_at : {E : Type 0} (r : Result Taken E) (x y : Session) (edits : Edits) (first : ℕ) (began told : List Told) → first ≤ length x.history
    → IfOk r (λ t. (n : ℕ) (c d : List Told) → n ≤ length x.history → IfSome (book_of x 1 n c d).under (λ i. Takes (book_of x 1 n c d) i edits t (book_of y 1 n c d)))
    → IfOk r (λ t. IfSome (book_of x 1 first began told).under (λ i. Takes (book_of x 1 first began told) i edits t (book_of y 1 first began told)))
taken_at (Ok t) x y edits first began told le h = h first began told le
taken_at (Err e) x y edits first began told le h = tt

pub opened_at : {E : Type 0} (r : Result Started E) (x y : Session) (kind : BuildKind) (project : Option (List ℕ)) (first n : ℕ) (began c told : List Told) → n ≡ length x.history → c ≡ told
    → IfOk r (λ s. (m : ℕ) (b d : List Told) → Opens kind project (book_of x 1 m b d) s (book_of y 1 (length x.history) d d))
    → IfOk r (λ s. Opens kind project (book_of x 1 first began told) s (book_of y 1 n c told))
opened_at (Ok s) x y kind project first n began c told len same h =
    subst (λ z. Opens kind project (book_of x 1 first began told) s (book_of y 1 z c told)) (sym len)
    (subst (λ z. Opens kind project (book_of x 1 first began told) s (book_of y 1 (length x.history) z told)) (sym same) (h first began told))
opened_at (Err e) x y kind project first n began c told len same h = tt

-- ---- from a host whose command hasn't begun

pub answered_at : {E : Type 0} (r : Result BuildAnswer E) (ms : Meanings) (kind : BuildKind) (project : Option (List ℕ)) (x y : Session) (first n : ℕ) (b c told now : List Told) → first ≡ 0 → b ≡ told
    → IfOk r (λ a. IsAnswered ms kind project (book_of x 1 first b told) a (book_of y 1 n c now))
    → IfOk r (λ a. (m : ℕ) × (d : List Told) × IsAnswered ms kind project (book_of x 1 0 told told) a (book_of y 1 m d now))
answered_at (Ok a) ms kind project x y first n b c told now none same h = (
  n,
  c,
  subst (λ i. IsAnswered ms kind project (book_of x 1 i told told) a (book_of y 1 n c now)) none
      (subst (λ u. IsAnswered ms kind project (book_of x 1 first u told) a (book_of y 1 n c now)) same h),
)
answered_at (Err e) ms kind project x y first n b c told now none same h = tt

pub unanswered_at : {E : Type 0} (r : Result BuildAnswer E) (ms : Meanings) (kind : BuildKind) (project : Option (List ℕ)) (x y : Session) (first n : ℕ) (b c told now : List Told) → first ≡ 0 → b ≡ told
    → OnErr r (IsUnanswered ms kind project (book_of x 1 first b told) (book_of y 1 n c now))
    → OnErr r ((m : ℕ) × (d : List Told) × IsUnanswered ms kind project (book_of x 1 0 told told) (book_of y 1 m d now))
unanswered_at (Ok a) ms kind project x y first n b c told now none same h = tt
unanswered_at (Err e) ms kind project x y first n b c told now none same h = (
  n,
  c,
  subst (λ i. IsUnanswered ms kind project (book_of x 1 i told told) (book_of y 1 n c now)) none
      (subst (λ u. IsUnanswered ms kind project (book_of x 1 first u told) (book_of y 1 n c now)) same h),
)

module _ {A E : Type 0} (i : ℕ) (c told : List Told) (o : BuildOutcome) (x m y : Session) (may : may_build x.state 1 ≡ true) (steps : Steps 1 (check_in o) x m) where
  pub closes_at : (r : Result A E) → OnOk r ((then : Session) × Steps 1 events.EndBatch m then × Steps 1 (events.End root_rule) then y) → OnOk r (Closes (book_of x 1 i c told) o (book_of y 1 i c told))
  closes_at (Ok a) h = closes i c told o x m h.0 y may steps h.1 h.2
  closes_at (Err e) h = tt

  pub cut_at : (r : Result A E) → OnErr r ((y ≡ m) ⊎ Steps 1 events.EndBatch m y) → OnErr r (IsCut (book_of x 1 i c told) o (book_of y 1 i c told))
  cut_at (Ok a) h = tt
  cut_at (Err e) (inl same) = cut_first i c told o x m y may steps same
  cut_at (Err e) (inr batch) = cut_second i c told o x m y y may steps batch refl

pub closed_on : {A E : Type 0} (r : Result A E) (x m y : Session) (rule : _) → rule ≡ root_rule → Steps 1 events.EndBatch x m → OnOk r (Steps 1 (events.End rule) m y)
    → OnOk r ((then : Session) × Steps 1 events.EndBatch x then × Steps 1 (events.End root_rule) then y)
closed_on (Ok a) x m y rule is batch h = (m, batch, subst (λ u. Steps 1 (events.End u) m y) is h)
closed_on (Err e) x m y rule is batch h = tt

-- ---- what is handed is given or refused

pub handed_answered : (s : Moment) (k : ℕ) (i : Item) (kind : BuildKind) → may_build s k ≡ true → IsItem (desc_at s.resources.tree) i
    → given_of (step s k (Service (services.Handed i.project i.index kind))).1.answer ≡ None → ⊥
handed_answered s k i kind may it h = by (has_builder s.desk.builders i) refl
  where
    by : (b : Bool) → has_builder s.desk.builders i ≡ b → ⊥
    by true there = let got = sym (ap given_of (handed_present s k i kind it (it_serves s k may) (is_rooted s k may) there).answer) ∙ h in cc
    by false away = let got = sym (ap given_of (handed_missing s k i kind it (it_serves s k may) (is_rooted s k may) away).answer) ∙ h in cc

-- ---- histories that grow

pub longer : (x y : Session) (n : ℕ) → Goes x y → n ≤ length x.history → n ≤ length y.history
longer x y n goes le = let e = ap length goes.history ∙ length-append x.history goes.entries in omega (arith, e, le)

pub none_some : {X : Type 0} (o : Option X) (x : X) → is_some o ≡ false → o ≡ Some x → ⊥
none_some o x h is = let no : false ≡ true = sym h ∙ ap is_some is in cc
