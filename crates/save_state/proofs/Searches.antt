-- A path that is looked for among changes whose paths rise.
use Rattle.std.proofs.Common.{◌≡◌, Bool, true, false, ◌&&◌, cond, List, [], ◌∷◌, ◌++◌, Option, Some, None, Ordering, Result, Ok, Err, refl, sym, ap, ◌∙◌, ◌<◌, length, arith, length-append}
use Rattle.std.specs.Prelude.{IfOk}
use Rattle.std.specs.declared.cmp.Ordering.TheVariants.{Less, Equal, Greater}
use Rattle.std.specs.Option.{option_map}
use Rattle.std.specs.List.{AllByRecursion}
use Rattle.std.specs.Ordering.{is_lt, is_eq, ordering_reverse}
use Rattle.ws_wire.specs.Fields.{Input}
use Rattle.res_path.specs.Paths.{Names, path_cmp, path_eq}
use Rattle.res_path.specs.PathLaws.{path_cmp_total, path_ties}
use Rattle.save_form.specs.Gives.{Gives}
use Rattle.save_form.specs.Laws.{FitEach}
use Rattle.save_form.specs.Lists.{is_above, list}
use Rattle.save_form.specs.declared.stop.Stuck.{Stuck}
use Rattle.save_elem.specs.declared.elem.Elem.{Elem}
use Rattle.save_state.specs.declared.change.Change.{Change}
use Rattle.save_state.specs.Changed.{is_path_below, changed, is_rising}
use Rattle.save_state.specs.Entries.{Entries}
use Rattle.save_state.specs.Fits.{FitsChange}
use Rattle.save_state.specs.States.{change}
use Rattle.save_state.proofs.StateLaws.{changes_lawful}

-- ---- what was read rises

abbrev Rising : Option Change → List Change → Type 0
Rising = FitEach (λ (before : Option Change) (c : Change). is_above is_path_below (option_map (λ (x : Change). x.path) before) c.path ≡ true)

two : (a b : Bool) → (a && b) ≡ true → (a ≡ true) × (b ≡ true)
two true b e = (refl, e)
two false b e = absurd cc

to_rising : (before : Option Change) (cs : List Change) → is_rising before cs ≡ true → Rising before cs
to_rising before [] e = tt
to_rising before (c ∷ cs) e = let p = two _ _ e in (p.0, to_rising (Some c) cs p.1)

from_rising : (before : Option Change) (cs : List Change) → Rising before cs → is_rising before cs ≡ true
from_rising before [] h = refl
from_rising before (c ∷ cs) h = ap (λ (b : Bool). b && is_rising (Some c) cs) h.0 ∙ from_rising (Some c) cs h.1

each_rising : (base : Entries) (before : Option Change) (cs : List Change) → FitEach (FitsChange base) before cs → Rising before cs
each_rising base before [] h = tt
each_rising base before (c ∷ cs) h = (h.0.above, each_rising base (Some c) cs h.1)

pub given_rising : (base : Entries) (r : Result (List Change) Stuck) (i j : Input) → Gives r j ((list (change base)).read i) → IfOk r (λ cs. is_rising None cs ≡ true)
given_rising base (Ok cs) i j given = from_rising None cs (each_rising base None cs ((changes_lawful base).takes i j cs given).1.1)
given_rising base (Err stuck) i j given = tt

-- ---- parts of what rises

less : (r : Ordering) → is_lt r ≡ true → r ≡ Less
less Less h = refl
less Equal h = absurd cc
less Greater h = absurd cc

rising_front : (before : Option Change) (front tail : List Change) → Rising before (front ++ tail) → Rising before front
rising_front before [] tail h = tt
rising_front before (c ∷ front) tail h = (h.0, rising_front (Some c) front tail h.1)

rising_tail : (before : Option Change) (front : List Change) (m : Change) (back : List Change) → Rising before (front ++ m ∷ back) → Rising (Some m) back
rising_tail before [] m back h = h.1
rising_tail before (c ∷ front) m back h = rising_tail (Some c) front m back h.1

alone : (before : Option Change) (cs : List Change) → Rising before cs → Rising None cs
alone before [] h = tt
alone before (c ∷ cs) h = (refl, h.1)

pub front_rises : (cs front : List Change) (m : Change) (back : List Change) → cs ≡ front ++ m ∷ back → is_rising None cs ≡ true → is_rising None front ≡ true
front_rises cs front m back e h = let r : Rising None (front ++ m ∷ back) = to_rising None (front ++ m ∷ back) (rw e at h) in from_rising None front (rising_front None front (m ∷ back) r)

pub back_rises : (cs front : List Change) (m : Change) (back : List Change) → cs ≡ front ++ m ∷ back → is_rising None cs ≡ true → is_rising None back ≡ true
back_rises cs front m back e h = let r : Rising None (front ++ m ∷ back) = to_rising None (front ++ m ∷ back) (rw e at h) in from_rising None back (alone (Some m) back (rising_tail None front m back r))

reach : (b : Change) (front : List Change) (m : Change) (back : List Change) → Rising (Some b) (front ++ m ∷ back) → path_cmp b.path m.path ≡ Less
reach b [] m back h = less (path_cmp b.path m.path) h.0
reach b (c ∷ front) m back h = path_cmp_total.trans b.path c.path m.path (less (path_cmp b.path c.path) h.0) (reach c front m back h.1)

below_front : (before : Option Change) (front : List Change) (m : Change) (back : List Change) → Rising before (front ++ m ∷ back) → AllByRecursion (λ (x : Change). path_cmp x.path m.path ≡ Less) front
below_front before [] m back h = tt
below_front before (c ∷ front) m back h = (reach c front m back h.1, below_front (Some c) front m back h.1)

above_back : (b : Change) (back : List Change) → Rising (Some b) back → AllByRecursion (λ (x : Change). path_cmp b.path x.path ≡ Less) back
above_back b [] h = tt
above_back b (c ∷ back) h =
    let first = less (path_cmp b.path c.path) h.0 in
    (first, lifted back (above_back c back h.1)) where
      lifted : (xs : List Change) → AllByRecursion (λ (x : Change). path_cmp c.path x.path ≡ Less) xs → AllByRecursion (λ (x : Change). path_cmp b.path x.path ≡ Less) xs
      lifted [] a = tt
      lifted (x ∷ xs) a = (path_cmp_total.trans b.path c.path x.path (less (path_cmp b.path c.path) h.0) a.0, lifted xs a.1)

-- ---- which changes count

abbrev AllOther : Names → List Change → Type 0
AllOther p = AllByRecursion (λ (x : Change). path_eq x.path p ≡ false)

other_low : (x p : Names) → path_cmp x p ≡ Less → path_eq x p ≡ false
other_low x p h = path_ties x p ∙ ap is_eq h

other_high : (x p : Names) → path_cmp p x ≡ Less → path_eq x p ≡ false
other_high x p h = path_ties x p ∙ ap is_eq (path_cmp_total.antisymm x p ∙ ap ordering_reverse h)

none_counts : (base : Entries) (cs : List Change) (p : Names) → AllOther p cs → changed base cs p ≡ base p
none_counts base [] p a = refl
none_counts base (c ∷ cs) p a = ap (λ (b : Bool). cond b c.entry (changed base cs p)) a.0 ∙ none_counts base cs p a.1

front_counts : (base : Entries) (front tail : List Change) (p : Names) → AllOther p tail → changed base (front ++ tail) p ≡ changed base front p
front_counts base [] tail p a = none_counts base tail p a
front_counts base (c ∷ front) tail p a = ap (λ (e : Option Elem). cond (path_eq c.path p) c.entry e) (front_counts base front tail p a)

tail_counts : (base : Entries) (front tail : List Change) (p : Names) → AllOther p front → changed base (front ++ tail) p ≡ changed base tail p
tail_counts base [] tail p a = refl
tail_counts base (c ∷ front) tail p a = ap (λ (b : Bool). cond b c.entry (changed base (front ++ tail) p)) a.0 ∙ tail_counts base front tail p a.1

all_high : (p : Names) (m : Change) (xs : List Change) → path_cmp p m.path ≡ Less → AllByRecursion (λ (x : Change). path_cmp m.path x.path ≡ Less) xs → AllOther p xs
all_high p m [] h a = tt
all_high p m (x ∷ xs) h a = (other_high x.path p (path_cmp_total.trans p m.path x.path h a.0), all_high p m xs h a.1)

all_low : (p : Names) (m : Change) (xs : List Change) → path_cmp m.path p ≡ Less → AllByRecursion (λ (x : Change). path_cmp x.path m.path ≡ Less) xs → AllOther p xs
all_low p m [] h a = tt
all_low p m (x ∷ xs) h a = (other_low x.path p (path_cmp_total.trans x.path m.path p a.0 h), all_low p m xs h a.1)

tied_low : (x m p : Names) → path_cmp p m ≡ Equal → path_cmp x m ≡ Less → path_cmp x p ≡ Less
tied_low x m p e h =
    path_cmp_total.antisymm x p ∙ ap ordering_reverse (path_cmp_total.congr p m x e) ∙ sym (path_cmp_total.antisymm x m) ∙ h

all_tied_low : (p : Names) (m : Change) (xs : List Change) → path_cmp p m.path ≡ Equal → AllByRecursion (λ (x : Change). path_cmp x.path m.path ≡ Less) xs → AllOther p xs
all_tied_low p m [] e a = tt
all_tied_low p m (x ∷ xs) e a = (other_low x.path p (tied_low x.path m.path p e a.0), all_tied_low p m xs e a.1)

-- ---- a path below, at and above the one in the middle

pub below_middle : (base : Entries) (cs front : List Change) (m : Change) (back : List Change) (p : Names) → cs ≡ front ++ m ∷ back → is_rising None cs ≡ true → path_cmp p m.path ≡ Less → changed base cs p ≡ changed base front p
below_middle base cs front m back p e h lt =
    let r : Rising None (front ++ m ∷ back) = to_rising None (front ++ m ∷ back) (rw e at h) in
    ap (λ (xs : List Change). changed base xs p) e ∙ front_counts base front (m ∷ back) p (other_high m.path p lt, all_high p m back lt (above_back m back (rising_tail None front m back r)))

pub at_middle : (base : Entries) (cs front : List Change) (m : Change) (back : List Change) (p : Names) → cs ≡ front ++ m ∷ back → is_rising None cs ≡ true → path_cmp p m.path ≡ Equal → changed base cs p ≡ m.entry
at_middle base cs front m back p e h eq =
    let r : Rising None (front ++ m ∷ back) = to_rising None (front ++ m ∷ back) (rw e at h) in
    let same : path_eq m.path p ≡ true = path_ties m.path p ∙ ap is_eq (path_cmp_total.antisymm m.path p ∙ ap ordering_reverse eq) in
    ap (λ (xs : List Change). changed base xs p) e ∙ tail_counts base front (m ∷ back) p (all_tied_low p m front eq (below_front None front m back r)) ∙ ap (λ (b : Bool). cond b m.entry (changed base back p)) same

pub above_middle : (base : Entries) (cs front : List Change) (m : Change) (back : List Change) (p : Names) → cs ≡ front ++ m ∷ back → is_rising None cs ≡ true → path_cmp p m.path ≡ Greater → changed base cs p ≡ changed base back p
above_middle base cs front m back p e h gt =
    let r : Rising None (front ++ m ∷ back) = to_rising None (front ++ m ∷ back) (rw e at h) in
    let low : path_cmp m.path p ≡ Less = path_cmp_total.antisymm m.path p ∙ ap ordering_reverse gt in
    ap (λ (xs : List Change). changed base xs p) e ∙ tail_counts base front (m ∷ back) p (all_low p m front low (below_front None front m back r))
    ∙ ap (λ (b : Bool). cond b m.entry (changed base back p)) (other_low m.path p low)

-- ---- what is left is shorter

pub front_shorter : (cs front : List Change) (m : Change) (back : List Change) → cs ≡ front ++ m ∷ back → length front < length cs
front_shorter cs front m back e = omega (arith, ap length e, length-append front (m ∷ back))

pub back_shorter : (cs front : List Change) (m : Change) (back : List Change) → cs ≡ front ++ m ∷ back → length back < length cs
back_shorter cs front m back e = omega (arith, ap length e, length-append front (m ∷ back))

pub ruleset by_halves = (front_rises, back_rises, below_middle, at_middle, above_middle, front_shorter, back_shorter)
