-- A store and points that go on.
use Rattle.std.proofs.Common.{◌≡◌, ◌≤◌, ◌<◌, ◌⊎◌, inl, inr, ℕ, ◌+◌, Bool, true, false, List, [], ◌∷◌, ◌++◌, refl, sym, ap, ◌∙◌, subst, arith}
use Rattle.ws_outside.specs.declared.contents.Contents.{Contents}
use Rattle.ws_outside.specs.Disk.{Each, LeavesOnly}
use Rattle.ws_outside.specs.Faults.{Rose}
use Rattle.disk_area.proofs.Moments.{at_start, both, only_wider}
use Rattle.ws_durable.specs.Saved.{Saved, saved}
use Rattle.save_store.specs.declared.saves.Saves.{Saves}
use Rattle.save_store.specs.States.{Holds, HoldsOne}
use Rattle.save_store.specs.Stored.{IsStored}
use Rattle.save_store.proofs.Runs.{stored_holds}
use Rattle.save_history.specs.Points.{Points, Among, AllAmong, IsAsked, first_points, with_acknowledged, with_begun, with_ended}
use Rattle.save_history.specs.Kept.{Keeper, HasRisenBy, IsAhead, IsBacked, IsNumbered, IsSafe, LeavesPoints, TellsFaults, disk_of, first_disk}
use Rattle.save_history.proofs.Points.{IsWhole, all_all, all_behind, all_more, all_on, among_all, last_among, last_is}

-- ---- what areas hold

among_holds : (d : Saved) (es : List Saved) (c : Contents) → Among d es → Holds c d → HoldsOne es c
among_holds d [] c is holds = absurd is
among_holds d (e ∷ es) c (inl is) holds = inl (subst (Holds c) is holds)
among_holds d (e ∷ es) c (inr is) holds = inr (among_holds d es c is holds)

-- what holds one of these holds one of those
pub holds_wider : (ds es : List Saved) → AllAmong ds es → (c : Contents) → HoldsOne ds c → HoldsOne es c
holds_wider [] es all c holds = absurd holds
holds_wider (d ∷ ds) es all c (inl holds) = among_holds d es c all.0 holds
holds_wider (d ∷ ds) es all c (inr holds) = holds_wider ds es all.1 c holds

itself_among : (es : List Saved) → AllAmong es es
itself_among [] = tt
itself_among (e ∷ es) = (inl refl, all_behind e es es (itself_among es))

-- ---- counts

le_split : (m n : ℕ) → m ≤ n → (m < n) ⊎ (m ≡ n)
le_split m n le = grind arith

rose_on : (a b c : ℕ) → a ≤ b → Rose b c → Rose a c
rose_on a b c le (inl rose) = inl (omega (arith, le, rose))
rose_on a b c le (inr last) = by (le_split a b le)
  where
    by : (a < b) ⊎ (a ≡ b) → Rose a c
    by (inl less) = inl (let same = last.1 in omega (arith, less, same))
    by (inr is) = inr (is ∙ last.0, last.1 ∙ sym is)

rose_le : (a b : ℕ) → Rose a b → a ≤ b
rose_le a b (inl rose) = omega (arith, rose)
rose_le a b (inr last) = let same = last.1 in omega (arith, same)

told_le : (failed : Bool) (a b : ℕ) → TellsFaults failed a b → a ≤ b
told_le true a b told = rose_le a b told
told_le false a b told = omega (arith, told)

-- after a call that failed
pub told_rose : (failed : Bool) (a b c : ℕ) → TellsFaults failed a b → Rose b c → TellsFaults true a c
told_rose failed a b c told rose = rose_on a b c (told_le failed a b told) rose

-- and after calls of which none did
pub told_same : (failed : Bool) (a b c : ℕ) → TellsFaults failed a b → c ≡ b → TellsFaults failed a c
told_same failed a b c told same = subst (TellsFaults failed a) (sym same) told

pub risen_first : (n : ℕ) → HasRisenBy 0 n n
risen_first n = inl (omega arith)

pub risen_same : (n a b c : ℕ) → HasRisenBy n a b → c ≡ b → HasRisenBy n a c
risen_same n a b c risen same = subst (HasRisenBy n a) (sym same) risen

pub risen_more : (n a b c : ℕ) → HasRisenBy n a b → Rose b c → HasRisenBy (n + 1) a c
risen_more n a b c (inl risen) (inl rose) = inl (omega (arith, risen, rose))
risen_more n a b c (inl risen) (inr last) = let top = last.0 in let same = last.1 in inr (omega (arith, top, same), omega (arith, risen, same))
risen_more n a b c (inr top) (inl rose) = let t = top.0 in let le = top.1 in inr (omega (arith, t, rose), omega (arith, le, rose))
risen_more n a b c (inr top) (inr last) = let t = top.0 in let le = top.1 in let same = last.1 in inr (omega (arith, t, same), omega (arith, le, same))

le_same : (n : ℕ) → n ≤ n
le_same n = omega arith

le_none : (n : ℕ) → n ≤ n + 0
le_none n = omega arith

le_next : (n : ℕ) → n ≤ n + 1
le_next n = omega arith

-- a bound on a number, by a greater one
bound_more : (n m a b : ℕ) → a ≤ b → n ≤ m + a → n ≤ m + b
bound_more n m a b more le = omega (arith, more, le)

-- ---- a store

-- each crash image of its areas holds the point that was acknowledged last, or one that was begun after it
pub backed_holds : {D : Type 0} (may_leave : D → Contents → Type 0) (p : Points) (saves : Saves D) → IsBacked may_leave p saves → Each (may_leave saves.areas.disk) (HoldsOne (p.acknowledged ∷ p.begun))
backed_holds may_leave p saves b c left =
    holds_wider (saved saves.last ∷ b.begun) (p.acknowledged ∷ p.begun) (inl b.last, all_behind p.acknowledged b.begun p.begun b.among) c (stored_holds may_leave b.begun saves b.stored c left)

-- it was just opened
pub backed_first : {D : Type 0} (may_leave : D → Contents → Type 0) (saves : Saves D) → IsStored may_leave [] saves → IsBacked may_leave (first_points (saved saves.last)) saves
backed_first may_leave saves stored = record { begun = []; stored = stored; last = refl; among = tt }

backed_begun : {D : Type 0} (may_leave : D → Contents → Type 0) (d : Saved) (p : Points) (saves : Saves D) → IsBacked may_leave p saves → IsBacked may_leave (with_begun d p) saves
backed_begun may_leave d p saves b = record { begun = b.begun; stored = b.stored; last = b.last; among = all_more b.begun p.begun (d ∷ []) b.among }

-- a write that failed
backed_unsaved : {D : Type 0} (may_leave : D → Contents → Type 0) (p : Points) (old new : Saves D) (now : Saved) → IsAsked p now → ((begun : List Saved) → IsStored may_leave begun old → IsStored may_leave (begun ++ now ∷ []) new)
    → new.last ≡ old.last → IsBacked may_leave p old → IsBacked may_leave p new
backed_unsaved may_leave p old new now asked unsaved same b = record {
  begun = b.begun ++ now ∷ [];
  stored = unsaved b.begun b.stored;
  last = ap saved same ∙ b.last;
  among = all_on b.begun now p.begun b.among (last_among p.begun now asked.last);
}

-- ---- the store of a run

module _ {D : Type 0} (moment : D → ℕ) (left_since : D → ℕ → Contents → Type 0) (may_leave : D → Contents → Type 0) (faults : D → ℕ) where
  abbrev Leaves : Points → Keeper D → Type 0
  Leaves p k = LeavesPoints moment left_since may_leave faults p k

  abbrev Safe : Points → Keeper D → Type 0
  Safe p k = IsSafe moment left_since may_leave faults p k

  abbrev Ahead : Points → Keeper D → Type 0
  Ahead p k = IsAhead moment left_since may_leave faults p k

  leaves_wider : (p q : Points) (k : Keeper D) → AllAmong p.all q.all → p.count ≤ q.count → Leaves p k → Leaves q k
  leaves_wider p q k all more l = record {
    moments = only_wider moment left_since may_leave (first_disk k) (disk_of k) (HoldsOne q.all) (HoldsOne p.all) l.moments (holds_wider p.all q.all all);
    calls = l.calls;
    numbered = bound_more k.store.areas.top k.began.areas.top p.count q.count more l.numbered;
  }

  -- the store was just opened
  pub safe_first : ((d : D) (c : Contents) → left_since d (moment d) c → may_leave d c) → (saves : Saves D) → IsStored may_leave [] saves → Safe (first_points (saved saves.last)) (record { began = saves; store = saves; failed = false })
  safe_first only_now saves stored = record {
    leaves = record { moments = at_start moment left_since may_leave only_now saves.areas.disk (HoldsOne (saved saves.last ∷ [])) (stored_holds may_leave [] saves stored); calls = refl; numbered = le_none saves.areas.top };
    backed = backed_first may_leave saves stored;
  }

  -- a save was begun
  pub safe_begun : (d : Saved) (p : Points) (k : Keeper D) → Safe p k → Safe (with_begun d p) k
  safe_begun d p k safe = record {
    leaves = leaves_wider p (with_begun d p) k (all_more p.all p.all (d ∷ []) (itself_among p.all)) (le_next p.count) safe.leaves;
    backed = backed_begun may_leave d p k.store safe.backed;
  }

  -- it ended, and wasn't acknowledged
  pub safe_ended : (p : Points) (k : Keeper D) → Safe p k → Safe (with_ended p) k
  safe_ended p k safe = record {
    leaves = leaves_wider p (with_ended p) k (itself_among p.all) (le_same p.count) safe.leaves;
    backed = record { begun = safe.backed.begun; stored = safe.backed.stored; last = safe.backed.last; among = safe.backed.among };
  }

  -- it was acknowledged
  pub safe_acknowledged : (p : Points) (k : Keeper D) → Ahead p k → Safe (with_acknowledged p) k
  safe_acknowledged p k ahead = record {
    leaves = leaves_wider p (with_acknowledged p) k (itself_among p.all) (le_same p.count) ahead.leaves;
    backed = record { begun = []; stored = ahead.stored; last = sym (last_is p.acknowledged (saved k.store.last) p.begun ahead.written.last); among = tt };
  }

  -- the save that was begun last was written
  module _ (p : Points) (whole : IsWhole p) (old new : Keeper D) (now : Saved) (asked : IsAsked p now) (safe : Safe p old) (began : new.began ≡ old.began)
      (run : (begun : List Saved) → IsStored may_leave begun old.store → LeavesOnly moment left_since may_leave (disk_of old) (disk_of new) (HoldsOne (saved old.store.last ∷ begun ++ now ∷ [])))
      (numbered : IsNumbered p new) where
    abbrev touched : List Saved
    touched = saved old.store.last ∷ safe.backed.begun ++ now ∷ []

    wrote_among : AllAmong touched p.all
    wrote_among = (
      subst (λ d. Among d p.all) (sym safe.backed.last) whole.acknowledged,
      all_on safe.backed.begun now p.all (all_all safe.backed.begun p.begun p.all safe.backed.among whole.begun) (among_all now p.begun p.all (last_among p.begun now asked.last) whole.begun),
    )

    wrote_moments : LeavesOnly moment left_since may_leave (first_disk new) (disk_of new) (HoldsOne p.all)
    wrote_moments = subst (λ (b : Saves D). LeavesOnly moment left_since may_leave b.areas.disk (disk_of new) (HoldsOne p.all)) (sym began)
        (both moment left_since may_leave (first_disk old) (disk_of old) (disk_of new) (HoldsOne p.all) (HoldsOne touched) safe.leaves.moments (run safe.backed.begun safe.backed.stored)
        (holds_wider touched p.all wrote_among))

    wrote_leaves : TellsFaults new.failed (faults (first_disk old)) (faults (disk_of new)) → Leaves p new
    wrote_leaves calls = record { moments = wrote_moments; calls = subst (λ (b : Saves D). TellsFaults new.failed (faults b.areas.disk) (faults (disk_of new))) (sym began) calls; numbered = numbered }

    pub wrote_ahead : TellsFaults new.failed (faults (first_disk old)) (faults (disk_of new)) → IsStored may_leave [] new.store → saved new.store.last ≡ now → Ahead p new
    wrote_ahead calls stored last = record { leaves = wrote_leaves calls; stored = stored; written = subst (IsAsked p) (sym last) asked }

    pub wrote_safe : TellsFaults new.failed (faults (first_disk old)) (faults (disk_of new)) → ((begun : List Saved) → IsStored may_leave begun old.store → IsStored may_leave (begun ++ now ∷ []) new.store)
        → new.store.last ≡ old.store.last → Safe p new
    wrote_safe calls unsaved same = record { leaves = wrote_leaves calls; backed = backed_unsaved may_leave p old.store new.store now asked unsaved same safe.backed }
