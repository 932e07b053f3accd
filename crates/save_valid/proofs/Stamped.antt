-- Contents that agree by their stamps.
use Rattle.std.proofs.Common.{◌≡◌, ◌↔◌, ◌⊎◌, inl, inr, ℕ, zero, suc, ◌+◌, ◌<◌, Bool, true, false, cond, List, [], ◌∷◌, ◌++◌, length, drop, get_or, map, refl, sym, ap, ◌∙◌, subst, arith}
use Rattle.std.specs.Prelude.{Option, Some, None, IfSome, IsTrue, Result, Ok, Err, IfOk}
use Rattle.std.specs.declared.alloc.AllocError.{AllocError}
use Rattle.std.specs.declared.cmp.Ordering.{Ordering}
use Rattle.std.specs.declared.cmp.Ordering.TheVariants.{Less, Equal, Greater}
use Rattle.std.specs.List.{AllByRecursion}
use Rattle.std.specs.FinMap.{get, insert, empty, entries, values, find, get-insert, get-empty, get-entries, nat_cmp-IsAntisymmetric}
use Rattle.std.specs.Ordering.{nat_cmp, eq_by_cmp, is_eq}
use Rattle.std.specs.Cmp.{nat_cmp_total, tied_itself}
use Rattle.std.proofs.lemmas.List.{drop_more}
use denote.Ref.{Bor}
use Rattle.res_path.specs.Paths.{Names, path_cmp}
use Rattle.res_path.specs.PathLaws.{path_cmp_total}
use Rattle.ws_elem.specs.declared.element.Element.{Element}
use Rattle.ws_elem.specs.declared.elem_map.ElemMap.{ElemMap}
use Rattle.ws_elem.specs.declared.kind.Kind.{Kind}
use Rattle.ws_elem.specs.declared.kind.Kind.TheVariants.{File, Folder, Project, Root}
use Rattle.ws_elem.specs.Kinds.{is_file}
use Rattle.ws_elem.specs.Stamps.{AgreeByStamps}
use Rattle.ws_elem.specs.Trees.{Tree}
use Rattle.save_elem.proofs.Orders.{to_all}
use Rattle.save_valid.specs.Rules.{maps_at}
use Rattle.save_valid.specs.Inside.Contents.{Known, AgreesWith, kept_file, kept_if, kept, Agree, kept_all, all_elements}

abbrev Same : Element → Element → Type 0
Same e f = e.kind ≡ File → f.kind ≡ File → e.stamp ≡ f.stamp → e.bytes ≡ f.bytes

-- ---- one element more

file_is : (k : Kind) → is_file k ≡ true → k ≡ File
file_is File h = refl
file_is Folder h = absurd cc
file_is Project h = absurd cc
file_is Root h = absurd cc

no_file : (k : Kind) → is_file k ≡ false → k ≡ File → ⊥
no_file k h e = let f : true ≡ false = ap is_file (sym e) ∙ h in cc

is_equal : (r : Ordering) → is_eq r ≡ true → r ≡ Equal
is_equal Less h = absurd cc
is_equal Equal h = refl
is_equal Greater h = absurd cc

if_is : (x : Option (List ℕ)) (bytes : List ℕ) (P : List ℕ → Type 0) → x ≡ Some bytes → IfSome x P → P bytes
if_is x bytes P e h = rw e at h

is_if : (x : Option (List ℕ)) (bytes : List ℕ) (P : List ℕ → Type 0) → x ≡ Some bytes → P bytes → IfSome x P
is_if x bytes P e h = subst (λ (o : Option (List ℕ)). IfSome o P) (sym e) h

none_if : (x : Option (List ℕ)) (P : List ℕ → Type 0) → x ≡ None → IfSome x P
none_if x P e = subst (λ (o : Option (List ℕ)). IfSome o P) (sym e) tt

module _ (m : Known) (e f : Element) (fits : AgreesWith m e) where
  stamped : (b : Bool) → eq_by_cmp nat_cmp f.stamp e.stamp ≡ b → get m e.stamp ≡ None → IfSome (cond b (Some e.bytes) (get m f.stamp)) (λ bytes. bytes ≡ f.bytes) → (IfSome (get m f.stamp) (λ bytes. bytes ≡ f.bytes)) × (e.stamp ≡ f.stamp → e.bytes ≡ f.bytes)
  stamped true i none h = (none_if (get m f.stamp) _ (ap (get m) (nat_cmp-IsAntisymmetric f.stamp e.stamp (is_equal _ i)) ∙ none), λ _. h)
  stamped false i none h = (h, λ same. absurd (let g : true ≡ false = sym (ap is_eq (tied_itself nat_cmp_total e.stamp)) ∙ ap (λ (n : ℕ). eq_by_cmp nat_cmp n e.stamp) same ∙ i in cc))

  unstamped : (b : Bool) → eq_by_cmp nat_cmp f.stamp e.stamp ≡ b → IfSome (get m f.stamp) (λ bytes. bytes ≡ f.bytes) → (e.stamp ≡ f.stamp → e.bytes ≡ f.bytes) → IfSome (cond b (Some e.bytes) (get m f.stamp)) (λ bytes. bytes ≡ f.bytes)
  unstamped true i h g = g (sym (nat_cmp-IsAntisymmetric f.stamp e.stamp (is_equal _ i)))
  unstamped false i h g = h

  inserted : get (insert m e.stamp e.bytes) f.stamp ≡ cond (eq_by_cmp nat_cmp f.stamp e.stamp) (Some e.bytes) (get m f.stamp)
  inserted = get-insert nat_cmp_total m e.stamp e.bytes f.stamp

  file_parts : (o : Option (List ℕ)) → get m e.stamp ≡ o → e.kind ≡ File → AgreesWith (kept_file m e o) f → AgreesWith m f × Same e f
  file_parts None is file h =
      let both = λ (g : f.kind ≡ File). stamped (eq_by_cmp nat_cmp f.stamp e.stamp) refl is (subst (λ (x : Option (List ℕ)). IfSome x (λ bytes. bytes ≡ f.bytes)) inserted (h g)) in
      (λ g. (both g).0, λ _ g. (both g).1)
  file_parts (Some bytes) is file h =
      (h, λ _ g same. sym (if_is (get m e.stamp) bytes (λ b. b ≡ e.bytes) is (fits file)) ∙ if_is (get m f.stamp) bytes (λ b. b ≡ f.bytes) (ap (get m) (sym same) ∙ is) (h g))

  file_whole : (o : Option (List ℕ)) → get m e.stamp ≡ o → e.kind ≡ File → AgreesWith m f → Same e f → AgreesWith (kept_file m e o) f
  file_whole None is file h same = λ g. subst (λ (x : Option (List ℕ)). IfSome x (λ bytes. bytes ≡ f.bytes)) (sym inserted) (unstamped (eq_by_cmp nat_cmp f.stamp e.stamp) refl (h g) (same file g))
  file_whole (Some bytes) is file h same = h

  if_parts : (b : Bool) → is_file e.kind ≡ b → AgreesWith (kept_if m e b) f → AgreesWith m f × Same e f
  if_parts true is h = file_parts (get m e.stamp) refl (file_is e.kind is) h
  if_parts false is h = (h, λ file. absurd (no_file e.kind is file))

  if_whole : (b : Bool) → is_file e.kind ≡ b → AgreesWith m f → Same e f → AgreesWith (kept_if m e b) f
  if_whole true is h same = file_whole (get m e.stamp) refl (file_is e.kind is) h same
  if_whole false is h same = h

-- ---- all of them

abbrev AllAgree : List Element → Type 0
AllAgree [] = Unit {0}
AllAgree (e ∷ es) = AllByRecursion (Same e) es × AllAgree es

each_parts : (m : Known) (e : Element) → AgreesWith m e → (es : List Element) → AllByRecursion (AgreesWith (kept m e)) es → AllByRecursion (AgreesWith m) es × AllByRecursion (Same e) es
each_parts m e fits [] h = (tt, tt)
each_parts m e fits (f ∷ es) h = let p = if_parts m e f fits (is_file e.kind) refl h.0 in let r = each_parts m e fits es h.1 in ((p.0, r.0), (p.1, r.1))

each_whole : (m : Known) (e : Element) → AgreesWith m e → (es : List Element) → AllByRecursion (AgreesWith m) es → AllByRecursion (Same e) es → AllByRecursion (AgreesWith (kept m e)) es
each_whole m e fits [] h g = tt
each_whole m e fits (f ∷ es) h g = (if_whole m e f fits (is_file e.kind) refl h.0 g.0, each_whole m e fits es h.1 g.1)

agree_parts : (m : Known) (es : List Element) → Agree m es → AllByRecursion (AgreesWith m) es × AllAgree es
agree_parts m [] h = (tt, tt)
agree_parts m (e ∷ es) h =
    let r = agree_parts (kept m e) es h.1 in
    let p = each_parts m e h.0 es r.0 in
    ((h.0, p.0), (p.1, r.1))

agree_whole : (m : Known) (es : List Element) → AllByRecursion (AgreesWith m) es → AllAgree es → Agree m es
agree_whole m [] h g = tt
agree_whole m (e ∷ es) h g = (h.0, agree_whole (kept m e) es (each_whole m e h.0 es h.1 g.0) g.1)

none_known : (es : List Element) → AllByRecursion (AgreesWith empty) es
none_known [] = tt
none_known (e ∷ es) = (λ _. none_if (get empty e.stamp) _ (get-empty nat_cmp e.stamp), none_known es)

-- ---- by trees

abbrev In : Element → List Element → Type 0
In e [] = ⊥
In e (x ∷ xs) = (e ≡ x) ⊎ In e xs

all_in : (P : Element → Type 0) (es : List Element) → AllByRecursion P es → (e : Element) → In e es → P e
all_in P [] h e i = absurd i
all_in P (x ∷ es) h e (inl i) = subst P (sym i) h.0
all_in P (x ∷ es) h e (inr i) = all_in P es h.1 e i

turned : (e f : Element) → Same e f → Same f e
turned e f h = λ i j s. sym (h j i (sym s))

two_agree : (es : List Element) → AllAgree es → (e f : Element) → In e es → In f es → Same e f
two_agree [] h e f i j = absurd i
two_agree (x ∷ es) h e f (inl i) (inl j) = λ _ _ _. ap (λ (y : Element). y.bytes) (i ∙ sym j)
two_agree (x ∷ es) h e f (inl i) (inr j) = subst (λ (y : Element). Same y f) (sym i) (all_in (Same x) es h.0 f j)
two_agree (x ∷ es) h e f (inr i) (inl j) = turned f e (subst (λ (y : Element). Same y e) (sym j) (all_in (Same x) es h.0 e i))
two_agree (x ∷ es) h e f (inr i) (inr j) = two_agree es h.1 e f i j

all_agree : (P : Element → Type 0) → ((e f : Element) → P e → P f → Same e f) → (es : List Element) → AllByRecursion P es → AllAgree es
all_agree P h [] a = tt
all_agree P h (e ∷ es) a = (each es a.1, all_agree P h es a.1) where
  each : (fs : List Element) → AllByRecursion P fs → AllByRecursion (Same e) fs
  each [] b = tt
  each (f ∷ fs) b = (h e f a.0 b.0, each fs b.1)

in_front : (xs ys : List Element) (e : Element) → In e xs → In e (xs ++ ys)
in_front [] ys e i = absurd i
in_front (x ∷ xs) ys e (inl i) = inl i
in_front (x ∷ xs) ys e (inr i) = inr (in_front xs ys e i)

in_back : (xs ys : List Element) (e : Element) → In e ys → In e (xs ++ ys)
in_back [] ys e i = i
in_back (x ∷ xs) ys e i = inr (in_back xs ys e i)

in_entries : (es : List (Names × Element)) (p : Names) (e : Element) → find path_cmp p es ≡ Some e → In e (map (λ x. x.1) es)
in_entries [] p e i = absurd cc
in_entries (x ∷ es) p e i = by (is_eq (path_cmp p x.0)) i (λ h. in_entries es p e h) where
  by : (b : Bool) → cond b (Some x.1) (find path_cmp p es) ≡ Some e → (find path_cmp p es ≡ Some e → In e (map (λ x. x.1) es)) → In e (map (λ x. x.1) (x ∷ es))
  by true h next = inl (let s : x.1 ≡ e = cc in sym s)
  by false h next = inr (next h)

in_tree : (t : Tree) (p : Names) (e : Element) → get t p ≡ Some e → In e (values t)
in_tree t p e i = in_entries (entries t) p e (sym (get-entries t p) ∙ i)

in_all : (ts : List Tree) (k : ℕ) (d : Tree) → k < length ts → (e : Element) → In e (values (get_or ts k d)) → In e (all_elements ts)
in_all [] k d lt e i = absurd (omega arith)
in_all (t ∷ ts) zero d lt e i = in_front (values t) (all_elements ts) e i
in_all (t ∷ ts) (suc k) d lt e i = in_back (values t) (all_elements ts) e (in_all ts k d (omega arith) e i)

if_got : (t : Tree) (p : Names) (x : Option Element) → get t p ≡ x → (Q : Element → Type 0) → ((e : Element) → get t p ≡ Some e → Q e) → IfSome x Q
if_got t p None is Q f = tt
if_got t p (Some e) is Q f = f e is

stamps_from : (ts : List Tree) → AllAgree (all_elements ts) → AgreeByStamps ts
stamps_from ts h = λ i d lt j c less p q.
    if_got (get_or ts i d) p (get (get_or ts i d) p) refl _ (λ e is. if_got (get_or ts j c) q (get (get_or ts j c) q) refl _ (λ f js.
    two_agree (all_elements ts) h e f (in_all ts i d lt e (in_tree (get_or ts i d) p e is)) (in_all ts j c less f (in_tree (get_or ts j c) q f js))))

-- where an element stands
abbrev Stands : List Tree → Element → Type 0
Stands ts e = (k : ℕ) × (d : Tree) × (k < length ts) × (p : Names) × (get (get_or ts k d) p ≡ Some e)

itself_got : (t : Tree) (p : Names) (x : Option Element) → get t p ≡ x → IfSome x (λ e. (q : Names) × (get t q ≡ Some e))
itself_got t p None e = tt
itself_got t p (Some x) e = (p, e)

all_values : (P : Element → Type 0) (es : List (Names × Element)) → AllByRecursion (λ x. P x.1) es → AllByRecursion P (map (λ x. x.1) es)
all_values P [] h = tt
all_values P (x ∷ es) h = (h.0, all_values P es h.1)

all_join : (P : Element → Type 0) (xs ys : List Element) → AllByRecursion P xs → AllByRecursion P ys → AllByRecursion P (xs ++ ys)
all_join P [] ys h g = g
all_join P (x ∷ xs) ys h g = (h.0, all_join P xs ys h.1 g)

mapped : (P Q : Element → Type 0) → ((e : Element) → P e → Q e) → (es : List Element) → AllByRecursion P es → AllByRecursion Q es
mapped P Q f [] h = tt
mapped P Q f (e ∷ es) h = (f e h.0, mapped P Q f es h.1)

all_stand : (ts : List Tree) → AllByRecursion (Stands ts) (all_elements ts)
all_stand [] = tt
all_stand (t ∷ ts) =
    all_join (Stands (t ∷ ts)) (values t) (all_elements ts)
    (mapped (λ e. (q : Names) × (get t q ≡ Some e)) (Stands (t ∷ ts)) (λ e h. (0, t, omega arith, h.0, h.1)) (values t)
    (all_values (λ e. (q : Names) × (get t q ≡ Some e)) (entries t) (to_all path_cmp_total (λ _ e. (q : Names) × (get t q ≡ Some e)) t (λ p. itself_got t p (get t p) refl))))
    (mapped (Stands ts) (Stands (t ∷ ts)) (λ e h. (suc h.0, h.1, omega arith, h.3, h.4)) (all_elements ts) (all_stand ts))

if_there : (x : Option Element) (e : Element) (P : Element → Type 0) → x ≡ Some e → IfSome x P → P e
if_there x e P is h = rw is at h

stamps_to : (ts : List Tree) → AgreeByStamps ts → AllAgree (all_elements ts)
stamps_to ts h = all_agree (Stands ts) (λ e f a b.
    let both = h a.0 a.1 a.2 b.0 b.1 b.2 a.3 b.3 in
    if_there (get (get_or ts b.0 b.1) b.3) f (λ f. e.kind ≡ File → f.kind ≡ File → e.stamp ≡ f.stamp → e.bytes ≡ f.bytes) b.4 (if_there (get (get_or ts a.0 a.1) a.3) e _ a.4 both)) (all_elements ts) (all_stand ts)

pub agrees : (ts : List Tree) (known : Known) (r : Result Bool AllocError) → known ≡ empty → IfOk r (λ b. IsTrue b ↔ Agree known (all_elements ts)) → IfOk r (λ b. IsTrue b ↔ AgreeByStamps ts)
agrees ts known (Err e) start h = tt
agrees ts known (Ok b) start h = (
  λ u. stamps_from ts (agree_parts empty (all_elements ts) (subst (λ (m : Known). Agree m (all_elements ts)) start (h.0 u))).1,
  λ s. h.1 (subst (λ (m : Known). Agree m (all_elements ts)) (sym start) (agree_whole empty (all_elements ts) (none_known (all_elements ts)) (stamps_to ts s))),
)

-- ---- tree by tree

join : (m : Known) (xs ys : List Element) → Agree m xs → Agree (kept_all m xs) ys → Agree m (xs ++ ys)
join m [] ys h g = g
join m (x ∷ xs) ys h g = (h.0, join (kept m x) xs ys h.1 g)

split : (m : Known) (xs ys : List Element) → Agree m (xs ++ ys) → Agree m xs × Agree (kept_all m xs) ys
split m [] ys h = (tt, h)
split m (x ∷ xs) ys h = let r = split (kept m x) xs ys h.1 in ((h.0, r.0), r.1)

abbrev left : List (Bor ElemMap) → ℕ → List Element
left trees i = all_elements (maps_at (drop i trees))

next : (trees : List (Bor ElemMap)) (i : ℕ) (t : Bor ElemMap) → i < length trees → t ≡ get_or trees i t → left trees i ≡ values t.now.map ++ left trees (i + 1)
next trees i t lt is = ap (λ (ts : List (Bor ElemMap)). all_elements (maps_at ts)) (drop_more trees i t lt ∙ ap (λ (x : Bor ElemMap). x ∷ drop (i + 1) trees) (sym is))

pub fails : (trees : List (Bor ElemMap)) (i : ℕ) (t : Bor ElemMap) (m start : Known) (b : Bool) → i < length trees → t ≡ get_or trees i t → b ≡ false → (IsTrue b ↔ Agree m (values t.now.map))
    → (Agree m (left trees i) ↔ Agree start (all_elements (maps_at trees))) → IsTrue false ↔ Agree start (all_elements (maps_at trees))
fails trees i t m start b lt is wrong h inv = (
  λ u. absurd (let f : false ≡ true = u in cc),
  λ a. absurd (let f : b ≡ true = h.1 (split m (values t.now.map) (left trees (i + 1)) (subst (Agree m) (next trees i t lt is) (inv.1 a))).0 in cc),
)

pub goes : (trees : List (Bor ElemMap)) (i : ℕ) (t : Bor ElemMap) (m new start : Known) (b : Bool) (r : Result Bool AllocError) → i < length trees → t ≡ get_or trees i t → r ≡ Ok b → b ≡ true → (IsTrue b ↔ Agree m (values t.now.map))
    → (r ≡ Ok true → new ≡ kept_all m (values t.now.map)) → (Agree m (left trees i) ↔ Agree start (all_elements (maps_at trees))) → Agree new (left trees (i + 1)) ↔ Agree start (all_elements (maps_at trees))
goes trees i t m new start b r lt is was right h all inv =
    let known = all (was ∙ ap (λ (c : Bool). Ok c) right) in (
      λ a. inv.0 (subst (Agree m) (sym (next trees i t lt is)) (join m (values t.now.map) (left trees (i + 1)) (h.0 right) (subst (λ (k : Known). Agree k (left trees (i + 1))) known a))),
      λ a. subst (λ (k : Known). Agree k (left trees (i + 1))) (sym known) (split m (values t.now.map) (left trees (i + 1)) (subst (Agree m) (next trees i t lt is) (inv.1 a))).1,
    )
