-- What becomes of the areas, and what is told of it.
use Rattle.std.proofs.Common.{◌≡◌, ◌≤◌, ◌⊎◌, inl, inr, ℕ, Bool, true, false, List, [], ◌∷◌, Option, Some, None, refl, sym, ◌∙◌, ap, subst, arith}
use Rattle.std.specs.Prelude.{Ok, Err, IfSome, IsSome, MatchResult, is_some}
use Rattle.ws_outside.specs.declared.contents.Contents.{Contents}
use Rattle.ws_outside.specs.Disk.{Each, LeavesOnly}
use Rattle.ws_outside.specs.Faults.{Rose}
use Rattle.disk_area.specs.declared.damage.Damage.{Damage}
use Rattle.disk_area.proofs.Moments.{at_start, both as run_and_run, only_wider}
use Rattle.ws_durable.specs.declared.durable.Durable.{Durable}
use Rattle.ws_durable.specs.Saved.{Saved, saved}
use Rattle.save_store.specs.declared.faults.OpenFault.{OpenFault}
use Rattle.save_store.specs.declared.faults.OpenFault.TheVariants.{Disk, Damaged, Memory}
use Rattle.save_store.specs.declared.look.Found.{Found}
use Rattle.save_store.specs.declared.saves.Saves.{Saves}
use Rattle.save_store.specs.Damages.{IsDamaged, TellsDamage, FaultOf}
use Rattle.save_store.specs.States.{Holds, HoldsOne}
use Rattle.save_history.specs.Kept.{HasRisenBy, TellsFaults, disk_of, first_disk, points_at}
use Rattle.save_history.specs.Points.{points_of}
use Rattle.save_history.specs.Steps.{failures, steps_of}
use Rattle.save_history.proofs.Backed.{backed_holds}
use Rattle.ws_core.specs.Sessions.{Session}
use Rattle.ws_core.specs.States.{Moment}
use Rattle.core_event.specs.declared.entry.Entry.{Entry}
use Rattle.ws_top.specs.declared.reading.Unread.{Unread}
use Rattle.ws_top.specs.declared.reading.Unread.TheVariants as unread
use Rattle.ws_top.specs.Areas.{EndsDamaged, FindsDamage, IsHeld, KeepsAreas, LeavesAreasOf, LeavesPoints, StaysAsItWas, TellsDiskFault}
use Rattle.ws_top.specs.Inside.Opening.{HasFault, Opens, Refuses, TellsHeld, RunsFrom, LeavesAreas, OpensAreas}
use Rattle.ws_top.specs.Inside.Parts.{SaysBadLine, unread_status}
use Rattle.ws_top.specs.Inside.Running.{KeepsStore, LeavesStore, end_status}
use Rattle.ws_top.specs.Outcomes.{IsUnwritten, WasRun, WasIdle, WasUnopened, TellsState, TellsUnopened, Tells, TellsOrWants, Writes}
use Rattle.ws_top.specs.Texts.{status_line, check_text}
use Rattle.ws_top.proofs.Statuses.{WasTold, WasSaid, apart, not_7, not_idle, not_unopened, refused_idle, refused_run, run_of_unwritten, some_at_5, some_not_none, told_idle, told_other, unrun}

-- ---- options

some_all : {X : Type 0} (P : X → Type 0) (o : Option X) → ((x : X) → P x) → IfSome o P
some_all P None f = tt
some_all P (Some x) f = f x

some_map : {X : Type 0} (P Q : X → Type 0) (o : Option X) → ((x : X) → P x → Q x) → IfSome o P → IfSome o Q
some_map P Q None f h = tt
some_map P Q (Some x) f h = f x h

pub none_is_not : {A : Type 0} (kept : Option Durable) (d : Durable) → kept ≡ Some d → kept ≡ None → A
none_is_not kept d e k = let no : Some d ≡ None = sym e ∙ k in cc

-- ---- statuses

-- no line of a state that wasn't opened is owed
pub unopened_never : (kept : Option Durable) (seen : Option Contents) (a b : Option (List ℕ)) (f g n s : ℕ) (h : List Entry) → n ≡ s → (s ≡ 5 → ⊥) → (s ≡ 7 → ⊥) → (s ≡ 8 → ⊥)
    → TellsUnopened kept seen a b f g n h
unopened_never kept seen a b f g n s h e five seven eight = record {
  nothing = none;
  line_at_5 = λ _ k. apart n s 5 e k five;
  damage_at_7 = λ k. apart n s 7 e k seven;
  line_at_8 = λ _ k. apart n s 8 e k eight;
}
  where
    none : WasUnopened kept n → h ≡ []
    none (inl (k, _)) = apart n s 5 e k five
    none (inr k) = apart n s 7 e k seven

pub told_status : (text : List ℕ) (a b : Option (List ℕ)) (f g n : ℕ) → Tells text a b f g n → WasTold n
told_status text a b f g n (inl (e, _, _)) = inl e
told_status text a b f g n (inr (e, _, _)) = inr e

pub told_unopened : (text : List ℕ) (kept : Option Durable) (seen : Option Contents) (a b : Option (List ℕ)) (f g n : ℕ) (h : List Entry) → Tells text a b f g n → TellsUnopened kept seen a b f g n h
told_unopened text kept seen a b f g n h (inl (e, _, _)) = unopened_never kept seen a b f g n 0 h e (λ k. omega (arith, k)) (λ k. omega (arith, k)) (λ k. omega (arith, k))
told_unopened text kept seen a b f g n h (inr (e, _, _)) = unopened_never kept seen a b f g n 4 h e (λ k. omega (arith, k)) (λ k. omega (arith, k)) (λ k. omega (arith, k))

pub said_status : (text : List ℕ) (a b : Option (List ℕ)) (f g n : ℕ) → TellsOrWants text a b f g n → WasSaid n
said_status text a b f g n (inl t) = inl (told_status text a b f g n t)
said_status text a b f g n (inr (eight, _)) = inr eight

pub said_unopened : (text : List ℕ) (kept : Option Durable) (seen : Option Contents) (a b : Option (List ℕ)) (f g n : ℕ) (h : List Entry) → h ≡ [] → TellsOrWants text a b f g n → TellsUnopened kept seen a b f g n h
said_unopened text kept seen a b f g n h z (inl t) = told_unopened text kept seen a b f g n h t
said_unopened text kept seen a b f g n h z (inr (eight, line)) = record {
  nothing = λ _. z;
  line_at_5 = λ _ k. apart n 8 5 eight k (λ d. omega (arith, d));
  damage_at_7 = λ k. apart n 8 7 eight k (λ d. omega (arith, d));
  line_at_8 = λ _ _. line;
}

refused_ends : (kept : Option Durable) (e : OpenFault) (a b : Option (List ℕ)) (f g n : ℕ) → kept ≡ None → Refuses e a b f g n → WasUnopened kept n ⊎ (n ≡ 8)
refused_ends kept Disk a b f g n none (five, w) = inl (inl (five, none))
refused_ends kept (Damaged damage) a b f g n none (inl (seven, w)) = inl (inr seven)
refused_ends kept (Damaged damage) a b f g n none (inr (eight, w)) = inr eight
refused_ends kept Memory a b f g n none (eight, w) = inr eight

-- where the areas couldn't be read no state was opened
state_none : (kept : Option Durable) (seen : Option Contents) (n : ℕ) (h : List Entry) → kept ≡ None → h ≡ [] → (WasRun kept n → ⊥) → TellsState kept seen n h
state_none kept seen n h none nothing unrun = record {
  held = subst (λ k. IsHeld k seen) (sym none) tt;
  some_if_run = λ r. absurd (unrun r);
  none_if_idle = λ _. none;
  none_if_unopened = λ _. none;
  nothing_if_none = λ _. nothing;
}

pub refused_not_run : (kept : Option Durable) (n : ℕ) → WasUnopened kept n ⊎ (n ≡ 8) → WasRun kept n → ⊥
refused_not_run kept n (inl u) r = refused_run kept n u r
refused_not_run kept n (inr e) r = unrun kept n 8 e (λ k. omega (arith, k)) (λ k. omega (arith, k)) (λ k. omega (arith, k)) r

-- ---- failed calls on the disk

-- none failed
pub disk_calm : (p q n s : ℕ) → n ≡ s → (s ≡ 5 → ⊥) → q ≡ p → TellsDiskFault p q n
disk_calm p q n s is five calm = record { rose_at_5 = λ e. apart n s 5 is e five; either_at_4_and_8 = λ _. inl calm; calm_else = λ _ _ _. calm }

-- one failed where none may be told to have failed
disk_rose : (p q n : ℕ) → n ≡ 5 → Rose p q → TellsDiskFault p q n
disk_rose p q n five rose = record { rose_at_5 = λ _. rose; either_at_4_and_8 = λ _. inr rose; calm_else = λ other _ _. absurd (other five) }

either_of : (failed : Bool) (p q : ℕ) → TellsFaults failed p q → (q ≡ p) ⊎ Rose p q
either_of true p q told = inr told
either_of false p q told = inl told

-- a run that came to its end and was written whole
pub disk_at_end : (failed : Bool) (p q n s : ℕ) → TellsFaults failed p q → s ≡ end_status failed → n ≡ s → TellsDiskFault p q n
disk_at_end true p q n s told at is = disk_rose p q n (is ∙ at) told
disk_at_end false p q n s told at is = disk_calm p q n 0 (is ∙ at) (λ k. omega (arith, k)) told

-- a run of which a write failed, or that memory stopped
pub disk_either : (failed : Bool) (p q n : ℕ) → TellsFaults failed p q → (n ≡ 4) ⊎ (n ≡ 8) → TellsDiskFault p q n
disk_either failed p q n told (inl four) = record {
  rose_at_5 = λ e. apart n 4 5 four e (λ k. omega (arith, k));
  either_at_4_and_8 = λ _. either_of failed p q told;
  calm_else = λ _ other _. absurd (other four);
}
disk_either failed p q n told (inr eight) = record {
  rose_at_5 = λ e. apart n 8 5 eight e (λ k. omega (arith, k));
  either_at_4_and_8 = λ _. either_of failed p q told;
  calm_else = λ _ _ other. absurd (other eight);
}

pub unwritten_end : (failed : Bool) (s : ℕ) → s ≡ end_status failed → IsUnwritten s
unwritten_end true s e = inr e
unwritten_end false s e = inl e

-- ---- areas

module _ {D : Type 0} (moment : D → ℕ) (left_since : D → ℕ → Contents → Type 0) (may_leave : D → Contents → Type 0) (seen : D → Option Contents) (faults : D → ℕ) where
  -- before the first call
  stays_same : ((d : D) (c : Contents) → left_since d (moment d) c → may_leave d c) → (held left : D) → left ≡ held → StaysAsItWas moment left_since may_leave seen held left
  stays_same only_now held left same = subst (λ d. StaysAsItWas moment left_since may_leave seen held d) (sym same) (record {
    contents = refl;
    any_moment = at_start moment left_since may_leave only_now held (may_leave held) (λ c leaves. leaves);
  })

  -- of those of which no state was opened
  pub leaves_none : (held left : D) (kept : Option Durable) (opened : Moment) (h : List Entry) → kept ≡ None → StaysAsItWas moment left_since may_leave seen held left
      → LeavesAreasOf moment left_since may_leave seen faults held left kept opened h
  leaves_none held left kept opened h none stays = subst (λ k. LeavesAreasOf moment left_since may_leave seen faults held left k opened h) (sym none) stays

  pub leaves_same : ((d : D) (c : Contents) → left_since d (moment d) c → may_leave d c) → (held left : D) (kept : Option Durable) (opened : Moment) (h : List Entry) → kept ≡ None → left ≡ held
      → LeavesAreasOf moment left_since may_leave seen faults held left kept opened h
  leaves_same only_now held left kept opened h none same = leaves_none held left kept opened h none (stays_same only_now held left same)

  -- where nothing was saved they hold what they held
  pub unsaved_of : (held left : D) (kept : Option Durable) (opened : Moment) (h : List Entry) → LeavesAreasOf moment left_since may_leave seen faults held left kept opened h → steps_of h ≡ [] → seen left ≡ seen held
  unsaved_of held left None opened h leaves none = leaves.contents
  unsaved_of held left (Some d) opened h leaves none = leaves.unsaved none

  pub unsaved_same : (held left : D) → left ≡ held → seen left ≡ seen held
  unsaved_same held left same = ap seen same

  -- nothing was done with them
  pub areas_untouched : ((d : D) (c : Contents) → left_since d (moment d) c → may_leave d c) → (held left : D) (a b : Option (List ℕ)) (f g : ℕ) (kept : Option Durable) (opened : Moment) (n s : ℕ) (h : List Entry)
      → left ≡ held → kept ≡ None → h ≡ [] → n ≡ s → EndsDamaged s → (s ≡ 5 → ⊥) → (s ≡ 7 → ⊥) → (s ≡ 8 → Writes a b f g (status_line 8))
      → LeavesAreas moment left_since may_leave seen faults held left a b f g kept opened n h
  areas_untouched only_now held left a b f g kept opened n s h same none nothing is ends five seven line = record {
    fault = disk_calm (faults held) (faults left) n s is five (ap faults same);
    unopened = record { nothing = λ _. nothing; line_at_5 = λ _ e. apart n s 5 is e five; damage_at_7 = λ e. apart n s 7 is e seven; line_at_8 = λ _ e. line (sym is ∙ e) };
    damaged = some_all (λ both. FindsDamage both n) (seen held) (λ both damage has. subst EndsDamaged (sym is) ends);
    leaves = leaves_same only_now held left kept opened h none same;
    unfailed = λ _ _. ap faults same;
    idle = λ _. same;
  }

  pub opens_untouched : ((d : D) (c : Contents) → left_since d (moment d) c → may_leave d c) → (held left : D) (a b : Option (List ℕ)) (f g : ℕ) (kept : Option Durable) (opened : Moment) (n s : ℕ) (h : List Entry)
      → left ≡ held → kept ≡ None → h ≡ [] → n ≡ s → EndsDamaged s → (s ≡ 5 → ⊥) → (s ≡ 7 → ⊥) → (s ≡ 8 → Writes a b f g (status_line 8)) → (s ≡ 0 → ⊥) → (s ≡ 4 → ⊥)
      → OpensAreas moment left_since may_leave seen faults held left a b f g kept opened n h
  opens_untouched only_now held left a b f g kept opened n s h same none nothing is ends five seven line zero four = record {
    areas = areas_untouched only_now held left a b f g kept opened n s h same none nothing is ends five seven line;
    state = state_none kept (seen held) n h none nothing (λ r. unrun kept n s is zero four five r);
  }

  -- memory wanted before they were touched
  pub opens_wanted : ((d : D) (c : Contents) → left_since d (moment d) c → may_leave d c) → (held left : D) (a b : Option (List ℕ)) (f g : ℕ) (kept : Option Durable) (opened : Moment) (n : ℕ) (h : List Entry)
      → left ≡ held → kept ≡ None → h ≡ [] → n ≡ 8 → Writes a b f g (status_line 8) → OpensAreas moment left_since may_leave seen faults held left a b f g kept opened n h
  opens_wanted only_now held left a b f g kept opened n h same none nothing is line = opens_untouched only_now held left a b f g kept opened n 8 h same none nothing is
      (inr (inr (inr (inr (inr refl))))) (λ k. omega (arith, k)) (λ k. omega (arith, k)) (λ _. line) (λ k. omega (arith, k)) (λ k. omega (arith, k))

  -- memory wanted while they were read
  areas_wanted : (held left : D) (a b : Option (List ℕ)) (f g : ℕ) (kept : Option Durable) (opened : Moment) (n : ℕ) (h : List Entry)
      → faults left ≡ faults held → StaysAsItWas moment left_since may_leave seen held left → kept ≡ None → h ≡ [] → n ≡ 8 → Writes a b f g (status_line 8)
      → LeavesAreas moment left_since may_leave seen faults held left a b f g kept opened n h
  areas_wanted held left a b f g kept opened n h calm stays none nothing is line = record {
    fault = disk_calm (faults held) (faults left) n 8 is (λ k. omega (arith, k)) calm;
    unopened = record { nothing = λ _. nothing; line_at_5 = λ _ e. apart n 8 5 is e (λ k. omega (arith, k)); damage_at_7 = λ e. absurd (not_7 kept n (inr is) e); line_at_8 = λ _ _. line };
    damaged = some_all (λ both. FindsDamage both n) (seen held) (λ both damage has. inr (inr (inr (inr (inr is)))));
    leaves = leaves_none held left kept opened h none stays;
    unfailed = λ _ _. calm;
    idle = λ w. not_idle kept n (inr is) w;
  }

  -- they couldn't be read
  pub areas_refused : (e : OpenFault) (held left : D) (a b : Option (List ℕ)) (f g : ℕ) (kept : Option Durable) (opened : Moment) (n : ℕ) (h : List Entry)
      → HasFault (seen held) (faults held) (faults left) e → StaysAsItWas moment left_since may_leave seen held left → kept ≡ None → h ≡ [] → Refuses e a b f g n
      → LeavesAreas moment left_since may_leave seen faults held left a b f g kept opened n h
  areas_refused Disk held left a b f g kept opened n h fault stays none nothing (five, w) = record {
    fault = disk_rose (faults held) (faults left) n five fault.cause;
    unopened = record { nothing = λ _. nothing; line_at_5 = λ _ _. w; damage_at_7 = λ e. apart n 5 7 five e (λ k. omega (arith, k)); line_at_8 = λ _ e. apart n 5 8 five e (λ k. omega (arith, k)) };
    damaged = some_all (λ both. FindsDamage both n) (seen held) (λ both damage has. inr (inr (inr (inr (inl five)))));
    leaves = leaves_none held left kept opened h none stays;
    unfailed = λ _ other. absurd (other five);
    idle = λ w. refused_idle kept n (inl (five, none)) w;
  }
  areas_refused (Damaged damage) held left a b f g kept opened n h fault stays none nothing (inl (seven, w)) = record {
    fault = disk_calm (faults held) (faults left) n 7 seven (λ k. omega (arith, k)) fault.cause;
    unopened = record { nothing = λ _. nothing; line_at_5 = λ _ e. apart n 7 5 seven e (λ k. omega (arith, k)); damage_at_7 = λ _. record { damage = damage; is = fault.damage; line = w }; line_at_8 = λ _ e. apart n 7 8 seven e (λ k. omega (arith, k)) };
    damaged = some_all (λ both. FindsDamage both n) (seen held) (λ both damage has. inl seven);
    leaves = leaves_none held left kept opened h none stays;
    unfailed = λ _ _. fault.cause;
    idle = λ w. refused_idle kept n (inr seven) w;
  }
  areas_refused (Damaged damage) held left a b f g kept opened n h fault stays none nothing (inr (eight, w)) = areas_wanted held left a b f g kept opened n h fault.cause stays none nothing eight w
  areas_refused Memory held left a b f g kept opened n h fault stays none nothing (eight, w) = areas_wanted held left a b f g kept opened n h fault.cause stays none nothing eight w

  pub opens_refused : (e : OpenFault) (held left : D) (a b : Option (List ℕ)) (f g : ℕ) (kept : Option Durable) (opened : Moment) (n : ℕ) (h : List Entry)
      → Opens moment left_since may_leave seen faults held left (Err e) → kept ≡ None → h ≡ [] → Refuses e a b f g n
      → OpensAreas moment left_since may_leave seen faults held left a b f g kept opened n h
  opens_refused e held left a b f g kept opened n h o none nothing told = record {
    areas = areas_refused e held left a b f g kept opened n h o.fault o.stays none nothing told;
    state = state_none kept (seen held) n h none nothing (refused_not_run kept n (refused_ends kept e a b f g n none told));
  }

  -- ---- a store that was kept through a run

  pub store_none : (store : Saves D) (left : D) (kept : Option Durable) (opened : Moment) (h : List Entry) → kept ≡ None → left ≡ store.areas.disk → LeavesStore moment left_since may_leave faults store left kept opened h
  store_none store left kept opened h none same = subst (λ k. LeavesStore moment left_since may_leave faults store left k opened h) (sym none) same

  pub store_some : (store : Saves D) (left : D) (kept : Option Durable) (opened : Moment) (h : List Entry) → IsSome kept → KeepsStore moment left_since may_leave faults store left opened h → LeavesStore moment left_since may_leave faults store left kept opened h
  store_some store left None opened h some k = let no : false ≡ true = some in cc
  store_some store left (Some d) opened h some k = k

  module _ (held left : D) (d : Durable) (opened : Moment) (h : List Entry) (store : Saves D) (last : store.last ≡ d) (k : KeepsStore moment left_since may_leave faults store left opened h) where
    same_points : points_at k.space k.keeper ≡ points_of (saved d) opened h
    same_points = ap (λ b. points_of (saved b.last) k.space.opened k.space.history) k.began ∙ ap (λ e. points_of (saved e) k.space.opened k.space.history) last
        ∙ ap (λ o. points_of (saved d) o k.space.history) k.start ∙ ap (points_of (saved d) opened) k.history

    same_first : first_disk k.keeper ≡ store.areas.disk
    same_first = ap (λ b. b.areas.disk) k.began

    -- since the store was opened each crash left a point
    kept_moments : LeavesOnly moment left_since may_leave store.areas.disk left (HoldsOne (points_of (saved d) opened h).all)
    kept_moments = subst (λ x. LeavesOnly moment left_since may_leave x left (HoldsOne (points_of (saved d) opened h).all)) same_first
        (subst (λ x. LeavesOnly moment left_since may_leave (first_disk k.keeper) x (HoldsOne (points_of (saved d) opened h).all)) (sym k.disk)
        (subst (λ p. LeavesOnly moment left_since may_leave (first_disk k.keeper) (disk_of k.keeper) (HoldsOne p.all)) same_points k.safe.safe.leaves.moments))

    -- now it leaves the one that was acknowledged last, or one that was begun after it
    kept_now : Each (may_leave left) (HoldsOne ((points_of (saved d) opened h).acknowledged ∷ (points_of (saved d) opened h).begun))
    kept_now c may = subst (λ p. HoldsOne (p.acknowledged ∷ p.begun) c) same_points
        (backed_holds may_leave (points_at k.space k.keeper) k.keeper.store k.safe.safe.backed c (subst (λ x. may_leave x c) k.disk may))

    kept_points : moment held ≤ moment store.areas.disk → LeavesPoints moment left_since may_leave held left (points_of (saved d) opened h)
    kept_points later = record { since = moment store.areas.disk; later = later; passed = kept_moments.later; each = kept_moments.each; now = kept_now }

    kept_unsaved : steps_of h ≡ [] → left ≡ store.areas.disk
    kept_unsaved none = k.disk ∙ ap (λ b. b.areas.disk) (k.safe.untouched (ap steps_of k.history ∙ none)) ∙ same_first

    kept_counted : HasRisenBy (failures (steps_of h)) (faults store.areas.disk) (faults left)
    kept_counted = subst (λ x. HasRisenBy (failures (steps_of h)) (faults x) (faults left)) same_first
        (subst (λ x. HasRisenBy (failures (steps_of h)) (faults (first_disk k.keeper)) (faults x)) (sym k.disk)
        (subst (λ l. HasRisenBy (failures (steps_of l)) (faults (first_disk k.keeper)) (faults (disk_of k.keeper))) k.history k.safe.counted))

    keeps_areas : Opens moment left_since may_leave seen faults held store.areas.disk (Ok d) → KeepsAreas moment left_since may_leave seen faults held left (saved d) opened h
    keeps_areas o = record {
      points = kept_points o.stays.any_moment.later;
      any_moment = run_and_run moment left_since may_leave held store.areas.disk left (λ c. may_leave held c ⊎ HoldsOne (points_of (saved d) opened h).all c) (HoldsOne (points_of (saved d) opened h).all)
          (only_wider moment left_since may_leave held store.areas.disk (λ c. may_leave held c ⊎ HoldsOne (points_of (saved d) opened h).all c) (may_leave held) o.stays.any_moment (λ c may. inl may))
          kept_moments (λ c holds. inr holds);
      unsaved = λ none. ap seen (kept_unsaved none) ∙ o.stays.contents;
      counted = subst (λ p. HasRisenBy (failures (steps_of h)) p (faults left)) o.calm kept_counted;
    }

  -- the state that they hold was opened; or memory wanted for it
  opens_some : (held left : D) (d : Durable) (a b : Option (List ℕ)) (f g : ℕ) (kept : Option Durable) (opened : Moment) (n : ℕ) (h : List Entry) (store : Saves D) → store.last ≡ d
      → Opens moment left_since may_leave seen faults held store.areas.disk (Ok d) → kept ≡ Some d → TellsDiskFault (faults store.areas.disk) (faults left) n
      → LeavesStore moment left_since may_leave faults store left kept opened h → WasRun kept n ⊎ (n ≡ 8)
      → OpensAreas moment left_since may_leave seen faults held left a b f g kept opened n h
  opens_some held left d a b f g kept opened n h store last o is fault k c = record {
    areas = record {
      fault = subst (λ p. TellsDiskFault p (faults left) n) o.calm fault;
      unopened = record {
        nothing = λ u. not_unopened kept n c u;
        line_at_5 = λ none _. none_is_not kept d is none;
        damage_at_7 = λ e. absurd (not_7 kept n c e);
        line_at_8 = λ none _. none_is_not kept d is none;
      };
      damaged = some_map (λ both. (damage : Damage) → IsDamaged both damage → ⊥) (λ both. FindsDamage both n) (seen held) (λ both no damage has. absurd (no damage has)) o.spoilt;
      leaves = subst (λ k. LeavesAreasOf moment left_since may_leave seen faults held left k opened h) (sym is) (keeps_areas held left d opened h store last (subst (λ k. LeavesStore moment left_since may_leave faults store left k opened h) is k) o);
      unfailed = λ none _. none_is_not kept d is none;
      idle = λ w. not_idle kept n c w;
    };
    state = record {
      held = subst (λ k. IsHeld k (seen held)) (sym is) o.held;
      some_if_run = λ _. ap is_some is;
      none_if_idle = λ w. not_idle kept n c w;
      none_if_unopened = λ u. not_unopened kept n c u;
      nothing_if_none = λ none. none_is_not kept d is none;
    };
  }

  pub opens_from : (held left : D) (d : Durable) (a b : Option (List ℕ)) (f g : ℕ) (kept : Option Durable) (opened : Moment) (n : ℕ) (h : List Entry) (store : Saves D) → store.last ≡ d
      → Opens moment left_since may_leave seen faults held store.areas.disk (Ok d) → RunsFrom (Some d) kept a b f g n h → TellsDiskFault (faults store.areas.disk) (faults left) n
      → LeavesStore moment left_since may_leave faults store left kept opened h → WasRun kept n ⊎ (n ≡ 8)
      → OpensAreas moment left_since may_leave seen faults held left a b f g kept opened n h
  opens_from held left d a b f g kept opened n h store last o (inl is) fault k c = opens_some held left d a b f g kept opened n h store last o is fault k c
  opens_from held left d a b f g kept opened n h store last o (inr (none, eight, nothing, line)) fault k c = record {
    areas = areas_wanted held left a b f g kept opened n h (ap faults same ∙ o.calm) (subst (λ x. StaysAsItWas moment left_since may_leave seen held x) (sym same) o.stays) none nothing eight line;
    state = state_none kept (seen held) n h none nothing (refused_not_run kept n (inr eight));
  }
    where
      same : left ≡ store.areas.disk
      same = subst (λ k. LeavesStore moment left_since may_leave faults store left k opened h) none k

  -- what both areas hold was told, or memory wanted
  pub areas_found : (found : Found) (held left : D) (a b : Option (List ℕ)) (f g : ℕ) (kept : Option Durable) (opened : Moment) (n : ℕ) (h : List Entry)
      → faults left ≡ faults held → StaysAsItWas moment left_since may_leave seen held left → IfSome (seen held) (λ both. (damage : Damage) → IsDamaged both damage → ⊥) → kept ≡ None → h ≡ [] → TellsHeld found a b f g n
      → LeavesAreas moment left_since may_leave seen faults held left a b f g kept opened n h
  areas_found found held left a b f g kept opened n h calm stays whole none nothing (inl t) = let c = told_status (check_text found) a b f g n t in record {
    fault = disk_calm (faults held) (faults left) n n refl (told_other n 5 c (λ k. omega (arith, k)) (λ k. omega (arith, k))) calm;
    unopened = told_unopened (check_text found) kept (seen held) a b f g n h t;
    damaged = some_map (λ both. (damage : Damage) → IsDamaged both damage → ⊥) (λ both. FindsDamage both n) (seen held) (λ both no damage has. absurd (no damage has)) whole;
    leaves = leaves_none held left kept opened h none stays;
    unfailed = λ _ _. calm;
    idle = λ w. told_idle n c w;
  }
  areas_found found held left a b f g kept opened n h calm stays whole none nothing (inr (eight, w)) = areas_wanted held left a b f g kept opened n h calm stays none nothing eight w

  -- a store was opened
  pub opens_ok : (held there : D) (d : Durable) → IfSome (seen held) (λ both. Holds both (saved d)) → faults there ≡ faults held
      → IfSome (seen held) (λ both. (damage : Damage) → IsDamaged both damage → ⊥) → seen there ≡ seen held → LeavesOnly moment left_since may_leave held there (may_leave held)
      → Opens moment left_since may_leave seen faults held there (Ok d)
  opens_ok held there d holds calm whole contents any_moment = record {
    held = holds;
    calm = calm;
    fault = tt;
    spoilt = whole;
    stays = record { contents = contents; any_moment = any_moment };
  }

  -- none was opened
  pub opens_err : (held left : D) (e : OpenFault) → IfSome (seen held) (λ both. TellsDamage (IsDamaged both) e) → FaultOf (faults held) (faults left) e → seen left ≡ seen held → LeavesOnly moment left_since may_leave held left (may_leave held)
      → Opens moment left_since may_leave seen faults held left (Err e)
  opens_err held left e damage cause contents any_moment = record {
    held = tt;
    calm = tt;
    fault = record { damage = damage; cause = cause };
    spoilt = some_all (λ both. (damage : Damage) → IsDamaged both damage → Unit {0}) (seen held) (λ both damage has. tt);
    stays = record { contents = contents; any_moment = any_moment };
  }

  -- the first bad line was told, or memory wanted for it
  pub opens_bad_line : ((d : D) (c : Contents) → left_since d (moment d) c → may_leave d c) → (line : ℕ) (held left : D) (a b : Option (List ℕ)) (f g : ℕ) (kept : Option Durable) (opened : Moment) (n : ℕ) (h : List Entry)
      → left ≡ held → kept ≡ None → h ≡ [] → SaysBadLine line a b f g n → OpensAreas moment left_since may_leave seen faults held left a b f g kept opened n h
  opens_bad_line only_now line held left a b f g kept opened n h same none nothing (inl (six, _)) = opens_untouched only_now held left a b f g kept opened n 6 h same none nothing six
      (inr (inr (inr (inl refl)))) (λ k. omega (arith, k)) (λ k. omega (arith, k)) (λ k. absurd (six_not_8 k)) (λ k. omega (arith, k)) (λ k. omega (arith, k))
    where
      six_not_8 : ◌≡◌ {A = ℕ} 6 8 → ⊥
      six_not_8 k = omega (arith, k)
  opens_bad_line only_now line held left a b f g kept opened n h same none nothing (inr (eight, w)) = opens_wanted only_now held left a b f g kept opened n h same none nothing eight w

  -- the source wasn't read to its end
  pub opens_unread : ((d : D) (c : Contents) → left_since d (moment d) c → may_leave d c) → (why : Unread) (held left : D) (a b : Option (List ℕ)) (f g : ℕ) (kept : Option Durable) (opened : Moment) (n : ℕ) (h : List Entry)
      → left ≡ held → kept ≡ None → h ≡ [] → n ≡ unread_status why → Writes a b f g (status_line (unread_status why)) → OpensAreas moment left_since may_leave seen faults held left a b f g kept opened n h
  opens_unread only_now unread.Fault held left a b f g kept opened n h same none nothing is w = opens_untouched only_now held left a b f g kept opened n 3 h same none nothing is (inr (inl refl)) (λ k. omega (arith, k)) (λ k. omega (arith, k)) (λ k. absurd (three_not_8 k)) (λ k. omega (arith, k)) (λ k. omega (arith, k))
    where
      three_not_8 : ◌≡◌ {A = ℕ} 3 8 → ⊥
      three_not_8 k = omega (arith, k)
  opens_unread only_now unread.TooLong held left a b f g kept opened n h same none nothing is w = opens_untouched only_now held left a b f g kept opened n 9 h same none nothing is (inr (inr (inl refl))) (λ k. omega (arith, k)) (λ k. omega (arith, k)) (λ k. absurd (nine_not_8 k)) (λ k. omega (arith, k)) (λ k. omega (arith, k))
    where
      nine_not_8 : ◌≡◌ {A = ℕ} 9 8 → ⊥
      nine_not_8 k = omega (arith, k)
  opens_unread only_now unread.Memory held left a b f g kept opened n h same none nothing is w = opens_wanted only_now held left a b f g kept opened n h same none nothing is w
