-- Lists, item by item.
use Rattle.std.proofs.Common.{◌≡◌, ℕ, zero, suc, ◌+◌, ◌<◌, List, [], ◌∷◌, ◌++◌, length, take, get_or, map, refl, sym, ap, ap₂, ◌∙◌, subst, arith}
use Rattle.std.specs.Prelude.{Option, Some, None, IfSome}
use Rattle.std.specs.List.{AllByRecursion}
use Rattle.std.specs.Option.{option_map}
use Rattle.std.proofs.lemmas.Grind.{take_at_read}
use Rattle.std.proofs.lemmas.List.{map-append}
use Rattle.res_path.specs.Names.{IsName}
use Rattle.save_form.specs.Laws.{FitEach}
use Rattle.save_state.specs.declared.change.Change.{Change}
use Rattle.save_state.specs.declared.records.Built.{Built}
use Rattle.save_state.specs.declared.records.Kept.{Kept}
use Rattle.save_state.specs.Entries.{Entries}
use Rattle.save_state.specs.Fits.{FitsChange, FitsChanges, FitsBuilt, FitsKept}
use Rattle.ws_elem.specs.Trees.{Tree}
use Rattle.ws_elem.specs.declared.elem_map.ElemMap.{ElemMap}
use Rattle.save_build.specs.Told.{Tells, AreFit, AreNames, AllTold, IsKeptTree}

pub all_at : {A : Type 0} (P : A → Type 0) (xs : List A) → AllByRecursion P xs → (i : ℕ) (x : A) → i < length xs → x ≡ get_or xs i x → P x
all_at P [] h i x lt is = absurd (omega arith)
all_at P (y ∷ ys) h zero x lt is = subst P (sym is) h.0
all_at P (y ∷ ys) h (suc i) x lt is = all_at P ys h.1 i x (omega arith) is

all_next : {A : Type 0} (P : A → Type 0) (es : List A) (a : A) → AllByRecursion P es → P a → AllByRecursion P (es ++ a ∷ [])
all_next P [] a all p = (p, tt)
all_next P (e ∷ es) a all p = (all.0, all_next P es a all.1 p)

taken_next : {A : Type 0} (xs : List A) (i : ℕ) (x : A) → i < length xs → x ≡ get_or xs i x → take (i + 1) xs ≡ take i xs ++ x ∷ []
taken_next {A = A} xs i x lt is = (take_at_read xs i x lt).1 ∙ ap (λ (y : A). take i xs ++ y ∷ []) (sym is)

-- ---- names

pub names_next : (texts names : List (List ℕ)) (i : ℕ) (text name : List ℕ) → AreNames (take i texts) names → i < length texts → text ≡ get_or texts i text → name ≡ text → IsName name → AreNames (take (i + 1) texts) (names ++ name ∷ [])
names_next texts names i text name h lt is same named =
    (ap₂ (λ (x : List (List ℕ)) (y : List ℕ). x ++ y ∷ []) h.0 same ∙ sym (taken_next texts i text lt is), all_next IsName names name h.1 named)

pub no_names : (texts : List (List ℕ)) (i : ℕ) (text : List ℕ) → i < length texts → text ≡ get_or texts i text → ((name : List ℕ) → (name ≡ text) × IsName name → ⊥) → (names : List (List ℕ)) → AreNames texts names → ⊥
no_names texts i text lt is never names h = never text (refl, all_at IsName texts (subst (AllByRecursion IsName) h.0 h.1) i text lt is)

-- ---- what is told, item by item

told_snoc : {A B : Type 0} (R : B → A → Type 0) (xs : List A) (ys : List B) (x : A) (y : B) → AllTold R xs ys → R y x → AllTold R (xs ++ x ∷ []) (ys ++ y ∷ [])
told_snoc R [] [] x y h r = (r, tt)
told_snoc R [] (z ∷ ys) x y h r = absurd h
told_snoc R (w ∷ xs) [] x y h r = absurd h
told_snoc R (w ∷ xs) (z ∷ ys) x y h r = (h.0, told_snoc R xs ys x y h.1 r)

pub told_next : {A B C : Type 0} (R : B → A → Type 0) (f : C → A) (xs : List C) (ys : List B) (i : ℕ) (x : C) (y : B) → AllTold R (map f xs) (take i ys) → i < length ys → y ≡ get_or ys i y → R y (f x) → AllTold R (map f (xs ++ x ∷ [])) (take (i + 1) ys)
told_next {A = A} {B = B} R f xs ys i x y h lt is r =
    subst (λ (zs : List A). AllTold R zs (take (i + 1) ys)) (sym (map-append f xs (x ∷ [])))
    (subst (AllTold R (map f xs ++ f x ∷ [])) (sym (taken_next ys i y lt is)) (told_snoc R (map f xs) (take i ys) (f x) y h r))

pub none_told : {A B C : Type 0} (R : B → A → Type 0) (f : C → A) (ys : List B) (i : ℕ) (y : B) → i < length ys → y ≡ get_or ys i y → ((x : C) → R y (f x) → ⊥) → (xs : List C) → AllTold R (map f xs) ys → ⊥
none_told R f [] i y lt is never xs h = absurd (omega arith)
none_told R f (z ∷ ys) i y lt is never [] h = h
none_told {A = A} {B = B} R f (z ∷ ys) zero y lt is never (x ∷ xs) h = never x (subst (λ (w : B). R w (f x)) (sym is) h.0)
none_told R f (z ∷ ys) (suc i) y lt is never (x ∷ xs) h = none_told R f ys i y (omega arith) is never xs h.1

-- ---- each of those that fit has changes that fit

fit_at : {A : Type 0} (fits : Option A → A → Type 0) (before : Option A) (items : List A) → FitEach fits before items → (i : ℕ) (x : A) → i < length items → x ≡ get_or items i x → (b : Option A) × fits b x
fit_at fits before [] h i x lt is = absurd (omega arith)
fit_at fits before (y ∷ ys) h zero x lt is = (before, subst (fits before) (sym is) h.0)
fit_at fits before (y ∷ ys) h (suc i) x lt is = fit_at fits (Some y) ys h.1 i x (omega arith) is

pub built_changes : (tree : Entries) (bs : List Built) → FitEach (FitsBuilt tree) None bs → (i : ℕ) (b : Built) → i < length bs → b ≡ get_or bs i b → FitEach (FitsChange tree) None b.changes
built_changes tree bs h i b lt is = (fit_at (FitsBuilt tree) None bs h i b lt is).1.changes.1

some_second : (tree : Entries) (o : Option (List Change)) → IfSome o (FitsChanges tree) → IfSome o (FitEach (FitsChange tree) None)
some_second tree None h = tt
some_second tree (Some cs) h = h.1

pub kept_changes : (tree : Entries) (ks : List Kept) → FitEach (FitsKept tree) None ks → (i : ℕ) (k : Kept) → i < length ks → k ≡ get_or ks i k → IfSome k.changes (FitEach (FitsChange tree) None)
kept_changes tree ks h i k lt is = some_second tree k.changes (fit_at (FitsKept tree) None ks h i k lt is).1.changes

-- ---- a kept tree of which none is told

pub no_kept : (tree : Tree) (o : Option (List Change)) (cs : List Change) → o ≡ Some cs → ((t : ElemMap) → Tells tree cs t.map × AreFit t.map → ⊥) → (k : Option ElemMap) → IsKeptTree tree o (option_map (λ (t : ElemMap). t.map) k) → ⊥
no_kept tree o cs is never k h = none k (subst (λ (x : Option (List Change)). IsKeptTree tree x (option_map (λ (t : ElemMap). t.map) k)) is h) where
  none : (k : Option ElemMap) → IsKeptTree tree (Some cs) (option_map (λ (t : ElemMap). t.map) k) → ⊥
  none None h = h
  none (Some t) h = never t h
