-- What holds of points.
use Rattle.std.proofs.Common.{◌≡◌, inl, inr, List, [], ◌∷◌, ◌++◌, Option, Some, None, refl, sym, ap, ◌∙◌, subst}
use Rattle.save_kind.specs.declared.answer.SaveAnswer.TheVariants as answer
use Rattle.core_event.specs.declared.entry.Entry.{Entry}
use Rattle.ws_durable.specs.Saved.{Saved}
use Rattle.ws_core.specs.States.{Moment}
use Rattle.ws_core.specs.Histories.{after}
use Rattle.ws_core.specs.Durables.{durable_of}
use Rattle.save_history.specs.Steps.{SaveStep, Begins, Keeps, Ends, step_of}
use Rattle.save_history.specs.Points.{Points, Among, AllAmong, IsLast, first_points, last_of, points_from, points_of, with_acknowledged, with_begun, with_ended, with_step}

-- ---- lists of states

pub among_more : (d : Saved) (es fs : List Saved) → Among d es → Among d (es ++ fs)
among_more d [] fs is = absurd is
among_more d (e ∷ es) fs (inl is) = inl is
among_more d (e ∷ es) fs (inr is) = inr (among_more d es fs is)

pub among_last : (d : Saved) (es : List Saved) → Among d (es ++ d ∷ [])
among_last d [] = inl refl
among_last d (e ∷ es) = inr (among_last d es)

pub all_more : (ds es fs : List Saved) → AllAmong ds es → AllAmong ds (es ++ fs)
all_more [] es fs all = tt
all_more (d ∷ ds) es fs all = (among_more d es fs all.0, all_more ds es fs all.1)

pub all_on : (ds : List Saved) (d : Saved) (es : List Saved) → AllAmong ds es → Among d es → AllAmong (ds ++ d ∷ []) es
all_on [] d es all is = (is, tt)
all_on (e ∷ ds) d es all is = (all.0, all_on ds d es all.1 is)

pub among_all : (d : Saved) (ds es : List Saved) → Among d ds → AllAmong ds es → Among d es
among_all d [] es is all = absurd is
among_all d (e ∷ ds) es (inl is) all = subst (λ x. Among x es) (sym is) all.0
among_all d (e ∷ ds) es (inr is) all = among_all d ds es is all.1

pub all_all : (ds es fs : List Saved) → AllAmong ds es → AllAmong es fs → AllAmong ds fs
all_all [] es fs one two = tt
all_all (d ∷ ds) es fs one two = (among_all d es fs one.0 two, all_all ds es fs one.1 two)

pub all_behind : (d : Saved) (ds es : List Saved) → AllAmong ds es → AllAmong ds (d ∷ es)
all_behind d [] es all = tt
all_behind d (e ∷ ds) es all = (inr all.0, all_behind d ds es all.1)

pub last_among : (ds : List Saved) (d : Saved) → IsLast ds d → Among d ds
last_among ds d last = subst (Among d) (sym last.1) (among_last d last.0)

last_behind : (first d : Saved) (ds : List Saved) → last_of first (ds ++ d ∷ []) ≡ d
last_behind first d [] = refl
last_behind first d (e ∷ ds) = last_behind e d ds

pub last_is : (first d : Saved) (ds : List Saved) → IsLast ds d → last_of first ds ≡ d
last_is first d ds last = ap (last_of first) last.1 ∙ last_behind first d last.0

last_in : (first : Saved) (ds es : List Saved) → Among first es → AllAmong ds es → Among (last_of first ds) es
last_in first [] es is all = is
last_in first (d ∷ ds) es is all = last_in d ds es all.0 all.1

-- ---- points

-- the point that was acknowledged last is one of all, and so are those that were begun after it
pub record IsWhole (p : Points) : Type 0 where
  pub acknowledged : Among p.acknowledged p.all
  pub begun : AllAmong p.begun p.all

whole_first : (d : Saved) → IsWhole (first_points d)
whole_first d = record { acknowledged = inl refl; begun = tt }

whole_begun : (d : Saved) (p : Points) → IsWhole p → IsWhole (with_begun d p)
whole_begun d p whole = record {
  acknowledged = among_more p.acknowledged p.all (d ∷ []) whole.acknowledged;
  begun = all_on p.begun d (p.all ++ d ∷ []) (all_more p.begun p.all (d ∷ []) whole.begun) (among_last d p.all);
}

whole_ended : (p : Points) → IsWhole p → IsWhole (with_ended p)
whole_ended p whole = record { acknowledged = whole.acknowledged; begun = whole.begun }

whole_acknowledged : (p : Points) → IsWhole p → IsWhole (with_acknowledged p)
whole_acknowledged p whole = record { acknowledged = last_in p.acknowledged p.begun p.all whole.acknowledged whole.begun; begun = tt }

whole_step : (d : Saved) (o : Option SaveStep) (p : Points) → IsWhole p → IsWhole (with_step d o p)
whole_step d None p whole = whole
whole_step d (Some (Begins kind)) p whole = whole
whole_step d (Some (Keeps states)) p whole = whole_begun d p whole
whole_step d (Some (Ends answer.Saved)) p whole = whole_acknowledged p whole
whole_step d (Some (Ends answer.SaveFailed)) p whole = whole_ended p whole
whole_step d (Some (Ends (answer.ParticipantFailed name))) p whole = whole_ended p whole
whole_step d (Some (Ends answer.SaveTooLarge)) p whole = whole_ended p whole
whole_step d (Some (Ends answer.SaveNumbers)) p whole = whole_ended p whole
whole_step d (Some (Ends answer.NoMemory)) p whole = whole_ended p whole

whole_from : (p : Points) (s : Moment) (h : List Entry) → IsWhole p → IsWhole (points_from p s h)
whole_from p s [] whole = whole
whole_from p s (x ∷ h) whole = whole_from (with_step (durable_of (after s x)) (step_of x.event x.reply.answer) p) (after s x) h (whole_step (durable_of (after s x)) (step_of x.event x.reply.answer) p whole)

-- so it is of the points of every history
pub points_whole : (d : Saved) (s : Moment) (h : List Entry) → IsWhole (points_of d s h)
points_whole d s h = whole_from (first_points d) s h (whole_first d)
