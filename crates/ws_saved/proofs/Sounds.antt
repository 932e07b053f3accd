-- How what holds of a workspace with its store and its participants goes on.
use Rattle.std.proofs.Common.{◌≡◌, ℕ, List, [], None, refl, sym, ap, ◌∙◌, subst}
use Rattle.ws_outside.specs.declared.contents.Contents.{Contents}
use Rattle.save_round.specs.Told.{Told}
use Rattle.ws_core.specs.Sessions.{Session}
use Rattle.build_host.specs.Hosts.{Goes}
use Rattle.save_history.specs.Kept.{Keeper, IsKept}
use Rattle.save_history.specs.Rounds.{Rounds, HadSaves, no_rounds, rounds_of}
use Rattle.save_history.proofs.Rounds.{had_same, rounds_same}
use Rattle.save_history.proofs.Safe.{kept_on}
use Rattle.ws_saved.specs.Sound.{IsSound}
use Rattle.ws_saved.proofs.Quiet.{WentQuietly, own_plainly}

module _ {D : Type 0} (moment : D → ℕ) (left_since : D → ℕ → Contents → Type 0) (may_leave : D → Contents → Type 0) (faults : D → ℕ) where
  abbrev Sound : Session → Keeper D → List Told → List Told → Type 0
  Sound x k first now = IsSound moment left_since may_leave faults x k first now

  -- it holds of a workspace that was just opened
  pub sound_first : (x : Session) (k : Keeper D) (first began : List Told) → x.history ≡ [] → began ≡ first → IsKept moment left_since may_leave faults x k → Sound x k began first
  sound_first x k first began none is kept =
      let rounds : rounds_of x.history ≡ no_rounds = ap rounds_of none in
      record { kept = kept; home = ap (λ (r : Rounds). r.under) rounds; had = subst (λ (r : Rounds). HadSaves r.ended began first) (sym rounds) (sym is) }

  -- and goes on by entries that make no step of a save
  pub sound_on : (x y : Session) (k k' : Keeper D) (first first' now now' : List Told) → WentQuietly x y → k' ≡ k → first' ≡ first → now' ≡ now → Sound x k first now → Sound y k' first' now'
  sound_on x y k k' first first' now now' went is began same sound =
      let rounds = rounds_same x.history y.history went.entries went.history went.none in
      record {
        kept = subst (λ c. IsKept moment left_since may_leave faults y c) (sym is) (kept_on moment left_since may_leave faults k x y went.entries went.opened went.history went.none sound.kept);
        home = ap (λ (r : Rounds). r.under) rounds ∙ sound.home;
        had = subst (λ f. HadSaves (rounds_of y.history).ended f now') (sym began) (had_same x.history y.history first now now' rounds same sound.had);
      }

  -- so it does over builds
  pub sound_built : (x y : Session) (k : Keeper D) (first now : List Told) → Goes x y → Sound x k first now → Sound y k first now
  sound_built x y k first now goes = sound_on x y k k first first now now (record { opened = goes.opened; entries = goes.entries; history = goes.history; none = own_plainly 1 goes.entries goes.own }) refl refl refl
