-- How runs of device calls go on.
use Rattle.std.proofs.Common.{inl, inr, ⊎_elim, ℕ, arith}
use Rattle.ws_outside.specs.declared.contents.Contents.{Contents}
use Rattle.ws_outside.specs.Disk.{Came, Each, Elapses, LeavesOnly}

-- a step, and then another
pub came_on : {Near Far R : Contents → Contents → Type 0} (first mid : Contents → Type 0) → ((d m c : Contents) → Near d m → Far m c → R d c) → Each mid (Came first Near) → (c : Contents) → Came mid Far c → Came first R c
came_on first mid step from c came = let d = from came.0 came.1 in (d.0, d.1, step d.0 came.0 c d.2 came.2)

pub came_wider : {Near R : Contents → Contents → Type 0} (first : Contents → Type 0) → ((d c : Contents) → Near d c → R d c) → (c : Contents) → Came first Near c → Came first R c
came_wider first wider c came = (came.0, came.1, wider came.0 c came.2)

module _ {D : Type 0} (moment : D → ℕ) (left_since : D → ℕ → Contents → Type 0) (may_leave : D → Contents → Type 0) where
  -- before the first call
  pub at_start : ((d : D) (c : Contents) → left_since d (moment d) c → may_leave d c) → (old : D) (P : Contents → Type 0) → Each (may_leave old) P → LeavesOnly moment left_since may_leave old old P
  at_start only_now old P here = record {
    later = omega arith;
    each = λ c left. here c (only_now old c left);
    now = here;
    before = λ t c le left. inl left;
  }

  -- one call more
  pub goes_on : (old mid new : D) (P : Contents → Type 0) → LeavesOnly moment left_since may_leave old mid P → Elapses (moment mid) (moment new) (left_since mid) (left_since new) (may_leave new) → Each (may_leave new) P → LeavesOnly moment left_since may_leave old new P
  goes_on old mid new P run time here = record {
    later = omega (arith, run.later, time.later);
    each = λ c left. ⊎_elim (run.each c) (here c) (time.nothing_else (moment old) c run.later left);
    now = here;
    before = λ t c le left. ⊎_elim (run.before t c le) (λ now. inr (here c now)) (time.nothing_else t c (omega (arith, le, run.later)) left);
  }

  -- a run and a run
  pub both : (old mid new : D) (P Q : Contents → Type 0) → LeavesOnly moment left_since may_leave old mid P → LeavesOnly moment left_since may_leave mid new Q → Each Q P → LeavesOnly moment left_since may_leave old new P
  both old mid new P Q first second wider = record {
    later = omega (arith, first.later, second.later);
    each = λ c left. ⊎_elim (first.each c) (wider c) (second.before (moment old) c first.later left);
    now = λ c left. wider c (second.now c left);
    before = λ t c le left. ⊎_elim (first.before t c le) (λ q. inr (wider c q)) (second.before t c (omega (arith, le, first.later)) left);
  }

  pub only_wider : (old new : D) (P Q : Contents → Type 0) → LeavesOnly moment left_since may_leave old new Q → Each Q P → LeavesOnly moment left_since may_leave old new P
  only_wider old new P Q run wider = record {
    later = run.later;
    each = λ c left. wider c (run.each c left);
    now = λ c left. wider c (run.now c left);
    before = λ t c le left. ⊎_elim (λ past. inl past) (λ q. inr (wider c q)) (run.before t c le left);
  }
