-- What a run of phases leaves of the workspace, the store and the participants with which it began.
use Rattle.std.proofs.Common.{◌≡◌, ℕ, false, List, map, sym, ◌∙◌, ap, subst}
use Rattle.ws_outside.specs.declared.contents.Contents.{Contents}
use Rattle.save_store.specs.declared.saves.Saves.{Saves}
use Rattle.save_round.specs.Told.{Told}
use Rattle.save_history.specs.Kept.{IsKept, Keeper, TellsFaults, disk_of, first_disk}
use Rattle.save_history.specs.Rounds.{HadSaves, rounds_of}
use Rattle.core_event.specs.declared.entry.Entry.{Entry}
use Rattle.ws_core.specs.Sessions.{Session}
use Rattle.ws_core.specs.States.{Moment}
use Rattle.ws_saved.specs.Sound.{IsSound, Space}
use Rattle.ws_top.specs.Areas.{TellsDiskFault}
use Rattle.ws_top.specs.Inside.Running.{KeepsStore}

-- From a workspace that was just opened, with this store, on which participants told this first.
pub record HasRun {D : Type 0} (moment : D → ℕ) (left_since : D → ℕ → Contents → Type 0) (may_leave : D → Contents → Type 0) (faults : D → ℕ)
    (opened : Moment) (store : Saves D) (first : List Told) (x : Session) (k : Keeper D) (now : List Told) : Type 0 where
  pub at : x.opened ≡ opened
  pub began : k.began ≡ store
  pub safe : IsKept moment left_since may_leave faults x k
  pub had : HadSaves (rounds_of x.history).ended first now

module _ {D : Type 0} (moment : D → ℕ) (left_since : D → ℕ → Contents → Type 0) (may_leave : D → Contents → Type 0) (faults : D → ℕ) where
  -- the workspace was made of these parts, and taken apart into those
  pub has_run : {P : Type 0} (tells : P → Told) (a : Session) (store : Saves D) (k : Keeper D) (first : List P) (v w : Space D P) (x : Session) (l : Keeper D) (now : List P)
      → k ≡ record { began = store; store = store; failed = false } → v.core ≡ a → v.keeper ≡ k → v.began ≡ first
      → w.core.opened ≡ v.core.opened → (w.keeper.began ≡ v.keeper.began) × (w.began ≡ v.began)
      → x ≡ w.core → l ≡ w.keeper → now ≡ w.participants → IsSound moment left_since may_leave faults w.core w.keeper (map tells w.began) (map tells w.participants)
      → HasRun moment left_since may_leave faults a.opened store (map tells first) x l (map tells now)
  has_run tells a store k first v w x l now keeps core keeper began opened start xs ls nows sound = record {
    at = ap (λ s. s.opened) xs ∙ opened ∙ ap (λ s. s.opened) core;
    began = ap (λ m. m.began) ls ∙ start.0 ∙ ap (λ m. m.began) keeper ∙ ap (λ m. m.began) keeps;
    safe = subst (λ s. IsKept moment left_since may_leave faults s l) (sym xs) (subst (λ m. IsKept moment left_since may_leave faults w.core m) (sym ls) sound.kept);
    had = subst (λ s. HadSaves (rounds_of s.history).ended (map tells first) (map tells now)) (sym xs)
        (subst (λ ps. HadSaves (rounds_of w.core.history).ended (map tells first) (map tells ps)) (sym nows)
        (subst (λ ps. HadSaves (rounds_of w.core.history).ended (map tells ps) (map tells w.participants)) (start.1 ∙ began) sound.had));
  }

  module _ (opened : Moment) (store : Saves D) (first : List Told) (x : Session) (k : Keeper D) (now : List Told) (ran : HasRun moment left_since may_leave faults opened store first x k now) where
    pub ran_told : TellsFaults k.failed (faults (first_disk k)) (faults (disk_of k))
    ran_told = ran.safe.safe.leaves.calls

    pub ran_fault : (left : D) (n : ℕ) → TellsDiskFault (faults (first_disk k)) (faults left) n → TellsDiskFault (faults store.areas.disk) (faults left) n
    ran_fault left n fault = subst (λ (s : Saves D). TellsDiskFault (faults s.areas.disk) (faults left) n) ran.began fault

    pub ran_store : (left : D) (h : List Entry) → h ≡ x.history → left ≡ disk_of k → KeepsStore moment left_since may_leave faults store left opened h
    ran_store left h all disk = record { space = x; keeper = k; safe = ran.safe; began = ran.began; start = ran.at; history = sym all; disk = disk }
