-- Laws of the forms of elements.
use Rattle.std.proofs.Common.{◌≡◌, ℕ, zero, suc, ◌^◌, ◌<◌, List, length, Option, Some, Bool, refl, sym, ap, subst, lit<}
use Rattle.std.specs.Prelude.{IsSomeAnd, nat_lt}
use Rattle.save_form.specs.Forms.{number, flag, text, pair}
use Rattle.save_form.specs.Laws.{Lawful, StopsFirst, TakesBytes}
use Rattle.save_form.specs.Lists.{list}
use Rattle.save_form.proofs.Fields.{number_lawful, text_lawful}
use Rattle.save_form.proofs.Combined.{lawful_as, pair_lawful, made_lawful, seen_lawful, case_lawful, one_of_lawful, flag_lawful, rising_lawful}
use Rattle.save_form.proofs.Sequences.{list_lawful}
use Rattle.save_form.proofs.Stops.{number_bytes, text_bytes, number_stops, text_stops, pair_stops, made_bytes, made_stops, seen_stops, case_stops, one_of_stops, flag_stops, list_stops, rising_stops}
use Rattle.ws_elem.specs.declared.kind.Kind.{Kind}
use Rattle.ws_elem.specs.declared.kind.Kind.TheVariants.{File, Folder, Project, Root}
use Rattle.ws_elem.specs.Kinds.{kind_number}
use Rattle.save_elem.specs.declared.elem.Sort.{Sort}
use Rattle.save_elem.specs.declared.elem.Sort.TheVariants as sorts
use Rattle.save_elem.specs.declared.elem.Told.{Told}
use Rattle.save_elem.specs.declared.elem.Told.TheVariants.{Int, Bool as Truth, Text}
use Rattle.save_elem.specs.declared.elem.Attr.{Attr}
use Rattle.save_elem.specs.declared.elem.Mark.{Mark}
use Rattle.save_elem.specs.declared.elem.Sync.{Sync}
use Rattle.save_elem.specs.Elems.{kind_of, kind, sort_of, sort_number, sort, sort_told, int_told, truth_told, text_told, value_by, value, is_name_below, attribute, marker, sync, elem}
use Rattle.save_elem.specs.Fits.{FitsValue, FitsAttr, FitsMark, FitsSync, FitsElem}

-- ---- kinds

kind_same : (a b : Kind) (n : ℕ) → kind_number a ≡ n → Some a ≡ Some b → kind_number b ≡ n
kind_same a b n h e = let p : a ≡ b = cc in subst (λ (c : Kind). kind_number c ≡ n) p h

kind_there : (n : ℕ) (k : Kind) → kind_of n ≡ Some k → kind_number k ≡ n
kind_there zero k e = absurd cc
kind_there (suc zero) k e = kind_same File k 1 refl e
kind_there (suc (suc zero)) k e = kind_same Folder k 2 refl e
kind_there (suc (suc (suc zero))) k e = absurd cc
kind_there (suc (suc (suc (suc zero)))) k e = kind_same Project k 4 refl e
kind_there (suc (suc (suc (suc (suc zero))))) k e = absurd cc
kind_there (suc (suc (suc (suc (suc (suc zero)))))) k e = absurd cc
kind_there (suc (suc (suc (suc (suc (suc (suc zero))))))) k e = absurd cc
kind_there (suc (suc (suc (suc (suc (suc (suc (suc zero)))))))) k e = kind_same Root k 8 refl e
kind_there (suc (suc (suc (suc (suc (suc (suc (suc (suc n))))))))) k e = absurd cc

kind_fits : (k : Kind) → (kind_number k < 256 ^ 1) × (kind_of (kind_number k) ≡ Some k)
kind_fits File = (lit< tt, refl)
kind_fits Folder = (lit< tt, refl)
kind_fits Project = (lit< tt, refl)
kind_fits Root = (lit< tt, refl)

pub kind_lawful : Lawful (λ (k : Kind). Unit {0}) kind
kind_lawful = lawful_as kind _ _ (λ k _. tt) (λ k _. kind_fits k) (made_lawful kind_of kind_number (number 1) (λ n. n < 256 ^ 1) kind_there (number_lawful 1))

pub kind_stops : StopsFirst kind
kind_stops = made_stops (λ n. n < 256 ^ 1) kind_of kind_number (number 1) (number_lawful 1) (number_bytes 1 (lit< tt)) (number_stops 1 (lit< tt))

kind_bytes : TakesBytes kind
kind_bytes = made_bytes kind_of kind_number (number 1) (number_bytes 1 (lit< tt))

-- ---- sorts of values

sort_same : (a b : Sort) (n : ℕ) → sort_number a ≡ n → Some a ≡ Some b → sort_number b ≡ n
sort_same a b n h e = let p : a ≡ b = cc in subst (λ (c : Sort). sort_number c ≡ n) p h

sort_there : (n : ℕ) (s : Sort) → sort_of n ≡ Some s → sort_number s ≡ n
sort_there zero s e = sort_same sorts.Int s 0 refl e
sort_there (suc zero) s e = sort_same sorts.Bool s 1 refl e
sort_there (suc (suc zero)) s e = sort_same sorts.Text s 2 refl e
sort_there (suc (suc (suc n))) s e = absurd cc

sort_fits : (s : Sort) → (sort_number s < 256 ^ 1) × (sort_of (sort_number s) ≡ Some s)
sort_fits sorts.Int = (lit< tt, refl)
sort_fits sorts.Bool = (lit< tt, refl)
sort_fits sorts.Text = (lit< tt, refl)

sort_lawful : Lawful (λ (s : Sort). Unit {0}) sort
sort_lawful = lawful_as sort _ _ (λ s _. tt) (λ s _. sort_fits s) (made_lawful sort_of sort_number (number 1) (λ n. n < 256 ^ 1) sort_there (number_lawful 1))

sort_stops : StopsFirst sort
sort_stops = made_stops (λ n. n < 256 ^ 1) sort_of sort_number (number 1) (number_lawful 1) (number_bytes 1 (lit< tt)) (number_stops 1 (lit< tt))

-- ---- values

some_is : {A : Type 0} (a b : A) → Some a ≡ Some b → a ≡ b
some_is a b e = cc

int_back : (v : Told) (n : ℕ) → int_told v ≡ Some n → Int n ≡ v
int_back (Int m) n e = ap (λ (k : ℕ). Int k) (sym (some_is m n e))
int_back (Truth b) n e = absurd cc
int_back (Text t) n e = absurd cc

int_fits : (v : Told) → IsSomeAnd (int_told v) (λ n. n < 256 ^ 4) → FitsValue v × (sort_told v ≡ sorts.Int)
int_fits (Int n) p = (p, refl)
int_fits (Truth b) p = absurd p
int_fits (Text t) p = absurd p

int_fit : (v : Told) → FitsValue v × (sort_told v ≡ sorts.Int) → IsSomeAnd (int_told v) (λ n. n < 256 ^ 4)
int_fit (Int n) p = p.0
int_fit (Truth b) p = let e : sorts.Bool ≡ sorts.Int = p.1 in absurd cc
int_fit (Text t) p = let e : sorts.Text ≡ sorts.Int = p.1 in absurd cc

truth_back : (v : Told) (b : Bool) → truth_told v ≡ Some b → Truth b ≡ v
truth_back (Int m) b e = absurd cc
truth_back (Truth c) b e = ap (λ (k : Bool). Truth k) (sym (some_is c b e))
truth_back (Text t) b e = absurd cc

truth_fits : (v : Told) → IsSomeAnd (truth_told v) (λ _. Unit {0}) → FitsValue v × (sort_told v ≡ sorts.Bool)
truth_fits (Int n) p = absurd p
truth_fits (Truth b) p = (tt, refl)
truth_fits (Text t) p = absurd p

truth_fit : (v : Told) → FitsValue v × (sort_told v ≡ sorts.Bool) → IsSomeAnd (truth_told v) (λ _. Unit {0})
truth_fit (Int n) p = let e : sorts.Int ≡ sorts.Bool = p.1 in absurd cc
truth_fit (Truth b) p = tt
truth_fit (Text t) p = let e : sorts.Text ≡ sorts.Bool = p.1 in absurd cc

text_back : (v : Told) (t : List ℕ) → text_told v ≡ Some t → Text t ≡ v
text_back (Int m) t e = absurd cc
text_back (Truth b) t e = absurd cc
text_back (Text u) t e = ap (λ (k : List ℕ). Text k) (sym (some_is u t e))

text_fits : (v : Told) → IsSomeAnd (text_told v) (λ t. length t < 2 ^ 32) → FitsValue v × (sort_told v ≡ sorts.Text)
text_fits (Int n) p = absurd p
text_fits (Truth b) p = absurd p
text_fits (Text t) p = (p, refl)

text_fit : (v : Told) → FitsValue v × (sort_told v ≡ sorts.Text) → IsSomeAnd (text_told v) (λ t. length t < 2 ^ 32)
text_fit (Int n) p = let e : sorts.Int ≡ sorts.Text = p.1 in absurd cc
text_fit (Truth b) p = let e : sorts.Bool ≡ sorts.Text = p.1 in absurd cc
text_fit (Text t) p = p.0

value_by_lawful : (s : Sort) → Lawful (λ (v : Told). FitsValue v × (sort_told v ≡ s)) (value_by s)
value_by_lawful sorts.Int = lawful_as _ _ _ int_fits int_fit (case_lawful Int int_told (number 4) (λ n. n < 256 ^ 4) (λ n. refl) int_back (number_lawful 4))
value_by_lawful sorts.Bool = lawful_as _ _ _ truth_fits truth_fit (case_lawful Truth truth_told flag (λ _. Unit {0}) (λ b. refl) truth_back flag_lawful)
value_by_lawful sorts.Text = lawful_as _ _ _ text_fits text_fit (case_lawful Text text_told text (λ t. length t < 2 ^ 32) (λ t. refl) text_back text_lawful)

value_by_stops : (s : Sort) → StopsFirst (value_by s)
value_by_stops sorts.Int = case_stops Int int_told (number 4) (number_stops 4 (lit< tt))
value_by_stops sorts.Bool = case_stops Truth truth_told flag flag_stops
value_by_stops sorts.Text = case_stops Text text_told text text_stops

pub value_lawful : Lawful FitsValue value
unfolding value
value_lawful = lawful_as _ _ _ (λ v p. p.1) (λ v p. (tt, p)) (one_of_lawful sort sort_told value_by (λ _. Unit {0}) FitsValue sort_lawful value_by_lawful)

pub value_stops : StopsFirst value
unfolding value
value_stops = one_of_stops (λ _. Unit {0}) sort sort_told value_by sort_lawful sort_stops value_by_stops

-- ---- attributes, markers, synchronisation bytes

pub attribute_lawful : (before : Option Attr) → Lawful (FitsAttr before) (attribute before)
unfolding attribute
attribute_lawful before = lawful_as _ _ _ (λ a p. record { name = p.0.0; above = p.0.1; value = p.1 }) (λ a p. ((p.name, p.above), p.value))
    (seen_lawful _ _ _ _ (λ a. refl) (λ b. refl) (rising_lawful is_name_below (λ (a : Attr). a.name) text (λ _. value) (λ t. length t < 2 ^ 32) (λ _ v. FitsValue v) text_lawful (λ _. value_lawful) before))

pub attribute_stops : (before : Option Attr) → StopsFirst (attribute before)
unfolding attribute
attribute_stops before = seen_stops _ _ _ (rising_stops (λ t. length t < 2 ^ 32) is_name_below (λ (a : Attr). a.name) text (λ _. value) text_lawful text_bytes text_stops (λ _. value_stops) before)

pub marker_lawful : (before : Option Mark) → Lawful (FitsMark before) (marker before)
unfolding marker
marker_lawful before = lawful_as _ _ _ (λ m p. record { id = p.0.0; above = p.0.1; mark_type = p.1.0; attrs = p.1.1 }) (λ m p. ((p.id, p.above), (p.mark_type, p.attrs)))
    (seen_lawful _ _ _ _ (λ a. refl) (λ b. refl) (rising_lawful nat_lt (λ (m : Mark). m.id) (number 8) (λ _. pair text λ _. list attribute) _ _ (number_lawful 8)
    (λ _. pair_lawful _ _ _ _ text_lawful (λ _. list_lawful attribute FitsAttr attribute_lawful)) before))

attributes_stop : StopsFirst (pair text λ _. list attribute)
attributes_stop = pair_stops (λ t. length t < 2 ^ 32) text (λ _. list attribute) text_lawful text_stops (λ _. list_stops attribute FitsAttr attribute_lawful attribute_stops)

pub marker_stops : (before : Option Mark) → StopsFirst (marker before)
unfolding marker
marker_stops before = seen_stops _ _ _ (rising_stops (λ n. n < 256 ^ 8) nat_lt (λ (m : Mark). m.id) (number 8) (λ _. pair text λ _. list attribute) (number_lawful 8) (number_bytes 8 (lit< tt)) (number_stops 8 (lit< tt)) (λ _. attributes_stop) before)

pub sync_lawful : (before : Option Sync) → Lawful (FitsSync before) (sync before)
unfolding sync
sync_lawful before = lawful_as _ _ _ (λ s p. record { partner = p.0.0; above = p.0.1; bytes = p.1 }) (λ s p. ((p.partner, p.above), p.bytes))
    (seen_lawful _ _ _ _ (λ a. refl) (λ b. refl) (rising_lawful nat_lt (λ (s : Sync). s.partner) (number 4) (λ _. text) _ _ (number_lawful 4) (λ _. text_lawful) before))

pub sync_stops : (before : Option Sync) → StopsFirst (sync before)
unfolding sync
sync_stops before = seen_stops _ _ _ (rising_stops (λ n. n < 256 ^ 4) nat_lt (λ (s : Sync). s.partner) (number 4) (λ _. text) (number_lawful 4) (number_bytes 4 (lit< tt)) (number_stops 4 (lit< tt)) (λ _. text_stops) before)

-- ---- elements

pub elem_lawful : Lawful FitsElem elem
unfolding elem
elem_lawful = lawful_as _ _ _
    (λ e p. record { node = p.1.0; stamp = p.1.1.0; desc_stamp = p.1.1.1.1.1.0; desc = p.1.1.1.1.1.1.0; bytes = p.1.1.1.1.1.1.1.0; marks = p.1.1.1.1.1.1.1.1.0; syncs = p.1.1.1.1.1.1.1.1.1 })
    (λ e p. (tt, (p.node, (p.stamp, (tt, (tt, (p.desc_stamp, (p.desc, (p.bytes, (p.marks, p.syncs))))))))))
    (seen_lawful _ _ _ _ (λ a. refl) (λ b. refl)
    (pair_lawful _ _ _ _ kind_lawful λ _. pair_lawful _ _ _ _ (number_lawful 8) λ _. pair_lawful _ _ _ _ (number_lawful 8) λ _. pair_lawful _ _ _ _ flag_lawful λ _. pair_lawful _ _ _ _ flag_lawful λ _.
    pair_lawful _ _ _ _ (number_lawful 8) λ _. pair_lawful _ _ _ _ text_lawful λ _. pair_lawful _ _ _ _ text_lawful λ _. pair_lawful _ _ _ _ (list_lawful marker FitsMark marker_lawful) λ _. list_lawful sync FitsSync sync_lawful))

pub elem_stops : StopsFirst elem
unfolding elem
elem_stops = seen_stops _ _ _
    (pair_stops _ _ _ kind_lawful kind_stops λ _. pair_stops _ _ _ (number_lawful 8) (number_stops 8 (lit< tt)) λ _. pair_stops _ _ _ (number_lawful 8) (number_stops 8 (lit< tt)) λ _. pair_stops _ _ _ flag_lawful flag_stops λ _.
    pair_stops _ _ _ flag_lawful flag_stops λ _. pair_stops _ _ _ (number_lawful 8) (number_stops 8 (lit< tt)) λ _. pair_stops _ _ _ text_lawful text_stops λ _. pair_stops _ _ _ text_lawful text_stops λ _.
    pair_stops _ _ _ (list_lawful marker FitsMark marker_lawful) (list_stops marker FitsMark marker_lawful marker_stops) λ _. list_stops sync FitsSync sync_lawful sync_stops)

-- an element begins with a byte
pub elem_bytes : TakesBytes elem
unfolding elem
elem_bytes at = let a = kind_bytes at in rw a refl
