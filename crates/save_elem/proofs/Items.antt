-- What is built of what is told, item by item.
use Rattle.std.proofs.Common.{◌≡◌, ◌<◌, ◌+◌, ℕ, suc, Bool, true, false, List, [], ◌∷◌, ◌++◌, length, take, drop, map, nat_cmp, slice_index_or, refl, sym, ap, ap₂, ◌∙◌, subst, arith}
use Rattle.std.specs.Prelude.{Option, Some, None, not, cond, nat_lt, Result, Ok, Err, IfOk}
use Rattle.std.specs.Option.{option_map}
use Rattle.std.specs.Cmp.{nat_cmp_total}
use Rattle.std.specs.Cmp.Lexicographic.{nat_list_cmp_total}
use Rattle.std.specs.List.{AllByRecursion}
use Rattle.std.specs.FinMap.{empty, get-empty, insert, entries, values, same_entries_map, nat_cmp-IsAntisymmetric, slice_cmp-IsAntisymmetric}
use Rattle.std.specs.Int.{cast_unsigned, cast_signed, w32}
use Rattle.std.specs.declared.cmp.Ordering.TheVariants.{Greater}
use Rattle.std.proofs.lemmas.Int.{to_z-of_z}
use Rattle.std.proofs.Math.Seq.{split_at}
use Rattle.std.proofs.lemmas.List.{map-append}
use Rattle.std.proofs.lemmas.Grind.{take_at_read}
use Rattle.save_form.specs.Laws.{FitEach}
use Rattle.save_form.specs.Lists.{is_above}
use Rattle.mark_set.proofs.Maps.{all_put}
use Rattle.mark_set.specs.Attributes.{Attributes, AreAttributes, InNameOrder}
use Rattle.mark_set.specs.Forms.{IsName, IsValue}
use Rattle.mark_set.specs.Markers.{Marks, is_transient}
use Rattle.mark_set.specs.declared.marker.Marker.{Marker}
use Rattle.mark_set.specs.declared.value.Value.{Value}
use Rattle.mark_set.specs.declared.value.Value.TheVariants as kept
use Rattle.sync_set.specs.Syncs.{Syncs}
use Rattle.ws_elem.specs.declared.element.Element.{Element}
use Rattle.std.specs.declared.alloc.AllocError.{AllocError}
use Rattle.save_elem.specs.declared.elem.Elem.{Elem}
use Rattle.save_elem.specs.declared.elem.Attr.{Attr}
use Rattle.save_elem.specs.declared.elem.Mark.{Mark}
use Rattle.save_elem.specs.declared.elem.Sync.{Sync}
use Rattle.save_elem.specs.Fits.{FitsAttr, FitsMark, FitsSync}
use Rattle.save_elem.specs.Sound.{IsAttr, IsSaved, AreSaved, IsSound, Finds}
use Rattle.save_elem.specs.Telling.{told_value, told_attr, told_mark, told_sync, saved, lasting, told}
use Rattle.save_elem.proofs.Orders.{to_all, from_all, Chain, sorted_chain, last_entry, none_such, above_is, lt_of}

-- ---- the next item

pub told_next : {A B : Type 0} (f : A → B) (es : List A) (a : A) (items : List B) (i : ℕ) (first : B) → map f es ≡ take i items → i < length items → first ≡ slice_index_or items i first → f a ≡ first → map f (es ++ a ∷ []) ≡ take (i + 1) items
told_next f es a items i first e lt is same =
    map-append f es (a ∷ []) ∙ ap₂ (λ x y. x ++ y ∷ []) e (same ∙ is) ∙ sym (take_at_read items i first lt).1

pub all_next : {A : Type 0} (P : A → Type 0) (es : List A) (a : A) → AllByRecursion P es → P a → AllByRecursion P (es ++ a ∷ [])
all_next P [] a all p = (p, tt)
all_next P (e ∷ es) a all p = (all.0, all_next P es a all.1 p)

-- an item of which nothing is told so
parted : {A : Type 0} (items : List A) (i : ℕ) (first : A) → i < length items → first ≡ slice_index_or items i first → items ≡ take i items ++ first ∷ drop (suc i) items
parted items i first lt is = split_at items i first lt ∙ ap (λ x. take i items ++ x ∷ drop (suc i) items) (sym is)

pub none_next : {A B : Type 0} (f : A → B) (P : A → Type 0) (items : List B) (i : ℕ) (first : B) → i < length items → first ≡ slice_index_or items i first → ((a : A) → (f a ≡ first) × P a → ⊥) → (es : List A) → map f es ≡ items → AllByRecursion P es → ⊥
none_next f P items i first lt is never es e all =
    none_such f P first never (take i items) (drop (suc i) items) es (e ∙ parted items i first lt is) all

-- ---- attributes

attrs_chain : (before : Option Attr) (es : List (List ℕ × Value)) → FitEach FitsAttr before (map told_attr es) → Chain nat_list_cmp_total (option_map (λ (a : Attr). a.name) before) es
attrs_chain before [] h = tt
attrs_chain before (e ∷ es) h = (h.0.above, attrs_chain (Some (told_attr e)) es h.1)

pub in_name_order : (es : List (List ℕ × Value)) (told : List Attr) → map told_attr es ≡ told → FitEach FitsAttr None told → InNameOrder es
in_name_order es told e h = sorted_chain nat_list_cmp_total None es (attrs_chain None es (subst (FitEach FitsAttr None) (sym e) h))

pub to_attributes : (attrs : Attributes) → AllByRecursion IsAttr (entries attrs) → AreAttributes attrs
to_attributes attrs all = from_all nat_list_cmp_total (slice_cmp-IsAntisymmetric nat_cmp-IsAntisymmetric) (λ (name : List ℕ) (v : Value). IsName name × IsValue v) attrs all

pub of_attributes : (attrs : Attributes) → AreAttributes attrs → AllByRecursion IsAttr (entries attrs)
of_attributes attrs h = to_all nat_list_cmp_total (λ (name : List ℕ) (v : Value). IsName name × IsValue v) attrs h

-- ---- what is told so of two is one

value_same : (a b : Value) → IsValue a → IsValue b → told_value a ≡ told_value b → a ≡ b
value_same (kept.Int m) (kept.Int n) p q e =
    let bits : cast_unsigned w32 m ≡ cast_unsigned w32 n = cc in
    ap kept.Int (sym (to_z-of_z w32 m p) ∙ ap (cast_signed w32) bits ∙ to_z-of_z w32 n q)
value_same (kept.Int m) (kept.Bool c) p q e = absurd cc
value_same (kept.Int m) (kept.Text t) p q e = absurd cc
value_same (kept.Bool b) (kept.Int n) p q e = absurd cc
value_same (kept.Bool b) (kept.Bool c) p q e = let same : b ≡ c = cc in ap kept.Bool same
value_same (kept.Bool b) (kept.Text t) p q e = absurd cc
value_same (kept.Text s) (kept.Int n) p q e = absurd cc
value_same (kept.Text s) (kept.Bool c) p q e = absurd cc
value_same (kept.Text s) (kept.Text t) p q e = let same : s ≡ t = cc in ap kept.Text same

pair_same : {A B : Type 0} (a b : A) (x y : B) → a ≡ b → x ≡ y → ◌≡◌ {A = A × B} (a, x) (b, y)
pair_same a b x y p q = λ i. (p i, q i)

attr_same : (a b : List ℕ × Value) → IsAttr a → IsAttr b → told_attr a ≡ told_attr b → a ≡ b
attr_same a b p q e = pair_same a.0 b.0 a.1 b.1 (ap (λ (x : Attr). x.name) e) (value_same a.1 b.1 p.1 q.1 (ap (λ (x : Attr). x.value) e))

-- lists whose items are told alike
list_same : {A B : Type 0} (f : A → B) (P : A → Type 0) → ((a b : A) → P a → P b → f a ≡ f b → a ≡ b) → (xs ys : List A) → AllByRecursion P xs → AllByRecursion P ys → map f xs ≡ map f ys → xs ≡ ys
list_same f P one [] [] p q e = refl
list_same f P one [] (y ∷ ys) p q e = absurd cc
list_same f P one (x ∷ xs) [] p q e = absurd cc
list_same {B = B} f P one (x ∷ xs) (y ∷ ys) p q e =
    let first : f x ≡ f y = cc in
    let rest : map f xs ≡ map f ys = cc in
    ap₂ (λ a more. a ∷ more) (one x y p.0 q.0 first) (list_same f P one xs ys p.1 q.1 rest)

attrs_same : (a b : Attributes) → AreAttributes a → AreAttributes b → map told_attr (entries a) ≡ map told_attr (entries b) → a ≡ b
attrs_same a b p q e = same_entries_map a b (list_same told_attr IsAttr attr_same (entries a) (entries b) (of_attributes a p) (of_attributes b q) e)

mark_is : (m n : Marker) → AreAttributes m.attrs → AreAttributes n.attrs → told_mark m ≡ told_mark n → m ≡ n
mark_is m n p q e =
    let ids : m.id ≡ n.id = ap (λ (x : Mark). x.id) e in
    let types : m.mark_type ≡ n.mark_type = ap (λ (x : Mark). x.mark_type) e in
    let attrs : m.attrs ≡ n.attrs = attrs_same m.attrs n.attrs p q (ap (λ (x : Mark). x.attrs) e) in
    λ i. record { id = ids i; mark_type = types i; attrs = attrs i }

mark_same : (m n : Marker) → IsSaved m.id m → IsSaved n.id n → told_mark m ≡ told_mark n → m ≡ n
mark_same m n p q e = mark_is m n p.attributes q.attributes e

-- what a transient marker tells no marker tells that is saved
pub never_saved : (told : Mark) (marker : Marker) → told_mark marker ≡ told → AreAttributes marker.attrs → is_transient marker ≡ true → (m : Marker) → (told_mark m ≡ told) × IsSaved m.id m → ⊥
never_saved told marker e attributes transient m p =
    let same : m ≡ marker = mark_is m marker p.1.attributes attributes (p.0 ∙ sym e) in
    let both : true ≡ false = sym transient ∙ ap is_transient (sym same) ∙ p.1.lasting in
    absurd cc

-- ---- markers of a set

abbrev pub IsOwn : Marker → Type 0
IsOwn m = IsSaved m.id m

owned : (id : ℕ) (m : Marker) → IsSaved id m → IsOwn m
owned id m s = record { own = refl; named = s.named; attributes = s.attributes; lasting = s.lasting }

each_owned : (es : List (ℕ × Marker)) → AllByRecursion (λ e. IsSaved e.0 e.1) es → AllByRecursion IsOwn (map (λ e. e.1) es)
each_owned [] a = tt
each_owned (e ∷ es) a = (owned e.0 e.1 a.0, each_owned es a.1)

pub saved_entries : (marks : Marks) → AreSaved marks → AllByRecursion (λ e. IsSaved e.0 e.1) (entries marks)
saved_entries marks h = to_all nat_cmp_total IsSaved marks h

saved_all : (ms : List Marker) → AllByRecursion IsOwn ms → saved ms ≡ ms
saved_all [] a = refl
saved_all (m ∷ ms) a = ap (λ (b : Bool). cond (not b) (m ∷ saved ms) (saved ms)) a.0.lasting ∙ ap (λ (l : List Marker). m ∷ l) (saved_all ms a.1)

pub lasting_all : (marks : Marks) → AreSaved marks → lasting marks ≡ values marks
lasting_all marks h = saved_all (values marks) (each_owned (entries marks) (saved_entries marks h))

pub all_owned : (marks : Marks) → AreSaved marks → AllByRecursion IsOwn (lasting marks)
all_owned marks h = subst (AllByRecursion IsOwn) (sym (lasting_all marks h)) (each_owned (entries marks) (saved_entries marks h))

entries_by : (es : List (ℕ × Marker)) → AllByRecursion (λ e. IsSaved e.0 e.1) es → es ≡ map (λ (m : Marker). (m.id, m)) (map (λ e. e.1) es)
entries_by [] a = refl
entries_by (e ∷ es) a = ap₂ (λ (id : ℕ) (l : List (ℕ × Marker)). (id, e.1) ∷ l) (sym a.0.own) (entries_by es a.1)

pub marks_same : (x y : Marks) → AreSaved x → AreSaved y → map told_mark (lasting x) ≡ map told_mark (lasting y) → x ≡ y
marks_same x y p q e =
    let same : values x ≡ values y = sym (lasting_all x p) ∙ list_same told_mark IsOwn mark_same (lasting x) (lasting y) (all_owned x p) (all_owned y q) e ∙ lasting_all y q in
    same_entries_map x y (entries_by (entries x) (saved_entries x p) ∙ ap (λ (ms : List Marker). map (λ (m : Marker). (m.id, m)) ms) same ∙ sym (entries_by (entries y) (saved_entries y q)))

sync_same : (a b : ℕ × List ℕ) → Unit {0} → Unit {0} → told_sync a ≡ told_sync b → a ≡ b
sync_same a b p q e = pair_same a.0 b.0 a.1 b.1 (ap (λ (x : Sync). x.partner) e) (ap (λ (x : Sync). x.bytes) e)

anything : {A : Type 0} (xs : List A) → AllByRecursion (λ (a : A). Unit {0}) xs
anything [] = tt
anything (x ∷ xs) = (tt, anything xs)

pub syncs_same : (x y : Syncs) → map told_sync (entries x) ≡ map told_sync (entries y) → x ≡ y
syncs_same x y e = same_entries_map x y (list_same told_sync (λ (a : ℕ × List ℕ). Unit {0}) sync_same (entries x) (entries y) (anything (entries x)) (anything (entries y)) e)

-- ---- items that rise

module _ {A : Type 0} (fits : Option A → A → Type 0) (key : A → ℕ) (rises : (before : Option A) (x : A) → fits before x → is_above nat_lt (option_map key before) (key x) ≡ true) where
  reach : (b : A) (pre : List A) (first : A) (others : List A) → FitEach fits (Some b) (pre ++ first ∷ others) → key b < key first
  reach b [] first others h = lt_of (key b) (key first) (rises (Some b) first h.0)
  reach b (x ∷ pre) first others h =
      let one = lt_of (key b) (key x) (rises (Some b) x h.0) in
      let more = reach x pre first others h.1 in
      omega arith

  below_first : (before : Option A) (pre : List A) (first : A) (others : List A) → FitEach fits before (pre ++ first ∷ others) → AllByRecursion (λ x. key x < key first) pre
  below_first before [] first others h = tt
  below_first before (x ∷ pre) first others h = (reach x pre first others h.1, below_first (Some x) pre first others h.1)

fit_first : {A : Type 0} (fits : Option A → A → Type 0) (before : Option A) (pre : List A) (first : A) (others : List A) → FitEach fits before (pre ++ first ∷ others) → (b : Option A) × fits b first
fit_first fits before [] first others h = (before, h.0)
fit_first fits before (x ∷ pre) first others h = fit_first fits (Some x) pre first others h.1

-- the item at a place fits behind some other
pub fit_at : {A : Type 0} (fits : Option A → A → Type 0) (items : List A) (i : ℕ) (first : A) → i < length items → first ≡ slice_index_or items i first → FitEach fits None items → (b : Option A) × fits b first
fit_at {A = A} fits items i first lt is h =
    fit_first fits None (take i items) first (drop (suc i) items) (subst (FitEach fits None) (parted items i first lt is) h)

-- ---- one marker more, one partner more

entries_below : (n : ℕ) (es : List (ℕ × Marker)) → AllByRecursion (λ e. IsSaved e.0 e.1) es → AllByRecursion (λ (x : Mark). x.id < n) (map told_mark (map (λ e. e.1) es)) → AllByRecursion (λ e. nat_cmp n e.0 ≡ Greater) es
entries_below n [] a b = tt
entries_below n (e ∷ es) a b = (above_is e.0 n (subst (λ (k : ℕ). k < n) a.0.own b.0), entries_below n es a.1 b.1)

pub mark_next : (marks : Marks) (m : Marker) (items : List Mark) (i : ℕ) (first : Mark) → map told_mark (values marks) ≡ take i items → i < length items → first ≡ slice_index_or items i first → told_mark m ≡ first → AreSaved marks → FitEach FitsMark None items
    → map told_mark (values (insert marks m.id m)) ≡ take (i + 1) items
mark_next marks m items i first e lt is same saved fit =
    let whole = subst (FitEach FitsMark None) (parted items i first lt is) fit in
    let low : AllByRecursion (λ (x : Mark). x.id < first.id) (take i items) = below_first FitsMark (λ (x : Mark). x.id) (λ before x f. f.above) None (take i items) first (drop (suc i) items) whole in
    let id : first.id ≡ m.id = ap (λ (x : Mark). x.id) (sym same) in
    let ids : AllByRecursion (λ (x : Mark). x.id < m.id) (map told_mark (values marks)) = subst (λ (n : ℕ). AllByRecursion (λ (x : Mark). x.id < n) (map told_mark (values marks))) id (subst (AllByRecursion (λ (x : Mark). x.id < first.id)) (sym e) low) in
    let last = last_entry nat_cmp_total marks m.id m (entries_below m.id (entries marks) (saved_entries marks saved) ids) in
    ap (λ (es : List (ℕ × Marker)). map told_mark (map (λ x. x.1) es)) last ∙ ap (map told_mark) (map-append (λ (x : ℕ × Marker). x.1) (entries marks) ((m.id, m) ∷ []))
    ∙ told_next told_mark (values marks) m items i first e lt is same

syncs_below : (n : ℕ) (es : List (ℕ × List ℕ)) → AllByRecursion (λ (x : Sync). x.partner < n) (map told_sync es) → AllByRecursion (λ e. nat_cmp n e.0 ≡ Greater) es
syncs_below n [] b = tt
syncs_below n (e ∷ es) b = (above_is e.0 n b.0, syncs_below n es b.1)

pub sync_next : (syncs : Syncs) (items : List Sync) (i : ℕ) (first : Sync) → map told_sync (entries syncs) ≡ take i items → i < length items → first ≡ slice_index_or items i first → FitEach FitsSync None items
    → map told_sync (entries (insert syncs first.partner first.bytes)) ≡ take (i + 1) items
sync_next syncs items i first e lt is fit =
    let whole = subst (FitEach FitsSync None) (parted items i first lt is) fit in
    let low : AllByRecursion (λ (x : Sync). x.partner < first.partner) (take i items) = below_first FitsSync (λ (x : Sync). x.partner) (λ before x f. f.above) None (take i items) first (drop (suc i) items) whole in
    let last = last_entry nat_cmp_total syncs first.partner first.bytes (syncs_below first.partner (entries syncs) (subst (AllByRecursion (λ (x : Sync). x.partner < first.partner)) (sym e) low)) in
    ap (map told_sync) last ∙ told_next told_sync (entries syncs) (first.partner, first.bytes) items i first e lt is refl

-- ---- what a marker's parts tell

pub mark_told : (id : ℕ) (mark_type : List ℕ) (attrs : Attributes) (told : Mark) → id ≡ told.id → mark_type ≡ told.mark_type → map told_attr (entries attrs) ≡ told.attrs → told_mark (record { id = id; mark_type = mark_type; attrs = attrs }) ≡ told
mark_told id mark_type attrs told p q r = λ i. record { id = p i; mark_type = q i; attrs = r i }

pub none_saved : AreSaved empty
none_saved id = rw (get-empty nat_cmp id) tt

pub saved_next : (marks : Marks) (m : Marker) → AreSaved marks → IsSaved m.id m → AreSaved (insert marks m.id m)
saved_next marks m h p = all_put nat_cmp_total nat_cmp-IsAntisymmetric IsSaved marks m.id m h p

-- ---- elements

pub told_same : (e f : Element) → IsSound e → IsSound f → told e ≡ told f → e ≡ f
told_same e f p q h =
    let kinds : e.kind ≡ f.kind = ap (λ (x : Elem). x.kind) h in
    let nodes : e.node ≡ f.node = ap (λ (x : Elem). x.node) h in
    let stamps : e.stamp ≡ f.stamp = ap (λ (x : Elem). x.stamp) h in
    let opened : e.opened ≡ f.opened = ap (λ (x : Elem). x.opened) h in
    let derived : e.derived ≡ f.derived = ap (λ (x : Elem). x.derived) h in
    let bytes : e.bytes ≡ f.bytes = ap (λ (x : Elem). x.bytes) h in
    let desc_stamps : e.attached.desc_stamp ≡ f.attached.desc_stamp = ap (λ (x : Elem). x.desc_stamp) h in
    let descs : e.attached.desc ≡ f.attached.desc = ap (λ (x : Elem). x.desc) h in
    let marks : e.attached.marks ≡ f.attached.marks = marks_same e.attached.marks f.attached.marks p.marks q.marks (ap (λ (x : Elem). x.marks) h) in
    let syncs : e.attached.syncs ≡ f.attached.syncs = syncs_same e.attached.syncs f.attached.syncs (ap (λ (x : Elem). x.syncs) h) in
    λ i. record { kind = kinds i; opened = opened i; derived = derived i; node = nodes i; stamp = stamps i; bytes = bytes i; attached = record { desc_stamp = desc_stamps i; desc = descs i; marks = marks i; syncs = syncs i } }

-- what is found is the one that is told so
pub only_found : (elem : Elem) (r : Result (Option Element) AllocError) → Finds (λ e. (told e ≡ elem) × IsSound e) r → (e : Element) → IsSound e → told e ≡ elem → IfOk r (λ found. found ≡ Some e)
only_found elem (Ok (Some f)) is e p h = ap (λ (x : Element). Some x) (told_same f e is.1 p (is.0 ∙ sym h))
only_found elem (Ok None) is e p h = absurd (is e (h, p))
only_found elem (Err x) is e p h = tt

-- an element whose parts are told so
pub elem_told : (e : Element) (elem : Elem) → e.kind ≡ elem.kind → e.node ≡ elem.node → e.stamp ≡ elem.stamp → e.opened ≡ elem.opened → e.derived ≡ elem.derived → e.attached.desc_stamp ≡ elem.desc_stamp → e.attached.desc ≡ elem.desc → e.bytes ≡ elem.bytes
    → map told_mark (lasting e.attached.marks) ≡ elem.marks → map told_sync (entries e.attached.syncs) ≡ elem.syncs → told e ≡ elem
elem_told e elem a b c d f g h j k l = λ i. record { kind = a i; node = b i; stamp = c i; opened = d i; derived = f i; desc_stamp = g i; desc = h i; bytes = j i; marks = k i; syncs = l i }
