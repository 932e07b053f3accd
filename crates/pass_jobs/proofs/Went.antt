-- What a call of a pass leaves, as phases see it.
use Rattle.std.proofs.Common.{◌≡◌, ◌∙◌, ℕ, List, [], ◌∷◌, ◌++◌, refl, sym, ap, subst, append-nil}
use Rattle.std.specs.Prelude.{Result, Ok, Err}
use Rattle.std.specs.declared.alloc.AllocError.{AllocError}
use Rattle.core_event.specs.declared.entry.Entry.{Entry}
use Rattle.ws_core.specs.States.{Moment}
use Rattle.build_history.specs.Events.{NoBuilds}
use Rattle.run_order.specs.Lists.{own, Begins, Cut}
use Rattle.run_order.proofs.Lists.{cut_none, cut_whole}
use Rattle.pass_turns.specs.Turns.{IsFaithful, Knows}
use Rattle.phase_pool.specs.Passes.{Makes}
use Rattle.phase_pool.proofs.Passes.{makes_wider}
use Rattle.pass_jobs.specs.Calls.{AllOrNone, AllOrSome, WentOn, pass_of}
use Rattle.pass_jobs.specs.Inside.Floors.{Does, IsHere, known}

-- what a pass made, in what it has seen
own_grows : (k j : Knows Entry) → IsFaithful pass_of k → IsFaithful pass_of j → j.number ≡ k.number → (l : List Entry) → j.mine ≡ k.mine ++ l → own k.number j.seen ≡ own k.number k.seen ++ l
own_grows k j f g n l e = subst (λ m. own m j.seen ≡ own k.number k.seen ++ l) n (g.own ∙ (e ∙ ap (λ z. z ++ l) (sym f.own)))

module _ (s : Moment) (P : List Entry → Type 0) (k j : Knows Entry) (f : IsFaithful pass_of k) (w : WentOn s P k j) where
  -- such entries are new, as phases see the pass
  pub went_makes : Makes P (known k) (known j)
  went_makes = record { number = w.number; begins = w.begins; made = (w.made.0, own_grows k j f w.faithful w.number w.made.0 w.made.1, w.made.2) }

module _ (s : Moment) (Good : ℕ → List Entry → Type 0) where
  -- the pass is here still, where what is known of its builds is so still
  pub here_on : (P : List Entry → Type 0) (k j : Knows Entry) → IsHere s Good k → WentOn s P k j → Good k.number j.seen → IsHere s Good j
  here_on P k j h w good = record { legal = w.legal h.legal; faithful = w.faithful; good = subst (λ n. Good n j.seen) (sym w.number) good }

  -- so it is where the pass made no build
  pub here_quietly : ((n : ℕ) (g h l : List Entry) → Good n g → Begins g h → own n h ≡ own n g ++ l → NoBuilds l → Good n h)
      → (P : List Entry → Type 0) → ((l : List Entry) → P l → NoBuilds l) → (k j : Knows Entry) → IsHere s Good k → WentOn s P k j → IsHere s Good j
  here_quietly stays P quiet k j h w = here_on P k j h w
      (stays k.number k.seen j.seen w.made.0 h.good w.begins (own_grows k j h.faithful w.faithful w.number w.made.0 w.made.1) (quiet w.made.0 w.made.2))

-- ---- what a call did, by what it answered

module _ {A : Type 0} (P : List Entry → Type 0) (k j : Knows Entry) where
  pub all_or_some : (r : Result A AllocError) → Makes (AllOrSome P r) (known k) (known j) → Does r P (known k) (known j)
  all_or_some (Ok x) m = m
  all_or_some (Err e) m = m

  pub all_or_none : (l : List Entry) × P l → (r : Result A AllocError) → Makes (AllOrNone P r) (known k) (known j) → Does r P (known k) (known j)
  all_or_none some (Ok x) m = m
  all_or_none some (Err e) m = makes_wider (λ h. h ≡ []) (Cut P) (known k) (known j) (λ h e. subst (Cut P) (sym e) (cut_none P some)) m

  -- all such entries are the first ones too
  pub all_anyhow : (r : Result A AllocError) → Makes P (known k) (known j) → Does r P (known k) (known j)
  all_anyhow (Ok x) m = m
  all_anyhow (Err e) m = makes_wider P (Cut P) (known k) (known j) (cut_whole P) m

module _ {A : Type 0} (P : List Entry → Type 0) (k j : Knows Entry) (q : Result A AllocError) (did : Does q P (known k) (known j)) where
  -- where it did all, whatever is answered then
  pub ok_does : {B : Type 0} (x : A) → q ≡ Ok x → (r : Result B AllocError) → Does r P (known k) (known j)
  ok_does x is r = all_anyhow P k j r (subst (λ z. Does z P (known k) (known j)) is did)

  -- where it gave up
  pub err_does : (e : AllocError) → q ≡ Err e → Makes (Cut P) (known k) (known j)
  err_does e is = subst (λ z. Does z P (known k) (known j)) is did
