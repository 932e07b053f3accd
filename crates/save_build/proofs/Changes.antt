-- Trees, from the changes that lead to them.
use Rattle.std.proofs.Common.{◌≡◌, ℕ, zero, suc, ◌+◌, ◌<◌, Bool, true, false, cond, ◌&&◌, List, [], ◌∷◌, ◌++◌, length, take, drop, get_or, refl, sym, ap, ◌∙◌, subst, arith}
use Rattle.std.specs.Prelude.{Option, Some, None, IfSome}
use Rattle.std.specs.declared.cmp.Ordering.{Ordering}
use Rattle.std.specs.declared.cmp.Ordering.TheVariants.{Less, Equal, Greater}
use Rattle.std.specs.Option.{option_map}
use Rattle.std.specs.FinMap.{get, get-insert, get-remove}
use Rattle.std.specs.Ordering.{eq_by_cmp, is_eq, ordering_reverse}
use Rattle.std.proofs.Math.Seq.{split_at}
use Rattle.std.proofs.lemmas.List.{drop_more}
use Rattle.res_path.specs.Paths.{Names, IsPath, path_cmp, path_eq}
use Rattle.res_path.specs.PathLaws.{path_cmp_total, path_ties}
use Rattle.res_path.proofs.Prefixes.{path_cmp_exact, path_itself}
use Rattle.ws_elem.specs.declared.element.Element.{Element}
use Rattle.ws_elem.specs.Trees.{Tree, set_at}
use Rattle.save_form.specs.Laws.{FitEach}
use Rattle.save_elem.specs.declared.elem.Elem.{Elem}
use Rattle.save_elem.specs.Fits.{FitsElem}
use Rattle.save_elem.specs.Sound.{IsSound}
use Rattle.save_elem.specs.Telling.{told}
use Rattle.save_state.specs.declared.change.Change.{Change}
use Rattle.save_state.specs.Changed.{changed, is_rising}
use Rattle.save_state.specs.Entries.{Entries}
use Rattle.save_state.specs.Fits.{FitsChange}
use Rattle.save_state.proofs.Searches.{at_middle}
use Rattle.save_build.specs.Told.{told_tree, Tells, IsFit, AreFit}

-- ---- an entry of which no element is told

pub no_entry : (elem : Elem) → ((e : Element) → (told e ≡ elem) × IsSound e → ⊥) → (o : Option Element) → (option_map told o ≡ Some elem) × IfSome o IsSound → ⊥
no_entry elem never None h = let n : None ≡ Some elem = h.0 in cc
no_entry elem never (Some e) h = let same : told e ≡ elem = (let s : Some (told e) ≡ Some elem = h.0 in cc) in never e (same, h.1)

pub ruleset entries = (no_entry)

-- ---- the entry at one path

turned : (o : Ordering) → is_eq (ordering_reverse o) ≡ is_eq o
turned Less = refl
turned Equal = refl
turned Greater = refl

met : (p q : Names) → path_eq q p ≡ eq_by_cmp path_cmp p q
met p q = path_ties q p ∙ ap is_eq (path_cmp_total.antisymm q p) ∙ turned (path_cmp p q)

same_path : (p q : Names) → eq_by_cmp path_cmp p q ≡ true → p ≡ q
same_path p q e = path_cmp_exact p q (equal (path_cmp p q) e) where
  equal : (o : Ordering) → is_eq o ≡ true → o ≡ Equal
  equal Less h = absurd cc
  equal Equal h = refl
  equal Greater h = absurd cc

told_cond : (b : Bool) (x y : Option Element) → option_map told (cond b x y) ≡ cond b (option_map told x) (option_map told y)
told_cond true x y = refl
told_cond false x y = refl

set_get : (t : Tree) (p : Names) (x : Option Element) (q : Names) → get (set_at t p x) q ≡ cond (eq_by_cmp path_cmp q p) x (get t q)
set_get t p None q = get-remove path_cmp_total t p q
set_get t p (Some e) q = get-insert path_cmp_total t p e q

set_told : (t : Tree) (p : Names) (x : Option Element) (q : Names) → told_tree (set_at t p x) q ≡ cond (path_eq p q) (option_map told x) (told_tree t q)
set_told t p x q = ap (option_map told) (set_get t p x q) ∙ told_cond (eq_by_cmp path_cmp q p) x (get t q) ∙ ap (λ (b : Bool). cond b (option_map told x) (told_tree t q)) (sym (met q p))

-- ---- one change more, from the last to the first

set_so : (base : Tree) (cs : List Change) (i : ℕ) (c : Change) (t next : Tree) (x : Option Element) → i < length cs → c ≡ get_or cs i c → Tells base (drop (i + 1) cs) t
    → option_map told x ≡ c.entry → next ≡ set_at t c.path x → Tells base (drop i cs) next
set_so base cs i c t next x lt is so e n q =
    ap (λ (u : Tree). told_tree u q) n ∙ set_told t c.path x q
    ∙ ap (λ (y : Option Elem). cond (path_eq c.path q) y (told_tree t q)) e
    ∙ ap (λ (y : Option Elem). cond (path_eq c.path q) c.entry y) (so q)
    ∙ ap (λ (ds : List Change). changed (told_tree base) ds q) (sym (drop_more cs i c lt ∙ ap (λ (d : Change). d ∷ drop (i + 1) cs) (sym is)))

pub set_next : (base : Tree) (cs : List Change) (i j : ℕ) (c : Change) (t next : Tree) (x : Option Element) → i < length cs → j ≡ i + 1 → c ≡ get_or cs i c → Tells base (drop j cs) t
    → option_map told x ≡ c.entry → next ≡ set_at t c.path x → Tells base (drop i cs) next
set_next base cs i j c t next x lt more is so = set_so base cs i c t next x lt is (subst (λ (n : ℕ). Tells base (drop n cs) t) more so)

fit_by : (b : Bool) (p q : Names) (x y : Option Element) → (b ≡ true → q ≡ p) → IfSome x (IsFit p) → IfSome y (IsFit q) → IfSome (cond b x y) (IsFit q)
fit_by true p q x y same h g = subst (λ (r : Names). IfSome x (IsFit r)) (sym (same refl)) h
fit_by false p q x y same h g = g

pub set_fit : (t : Tree) (p : Names) (x : Option Element) → AreFit t → IfSome x (IsFit p) → AreFit (set_at t p x)
set_fit t p x all h q = subst (λ (o : Option Element). IfSome o (IsFit q)) (sym (set_get t p x q)) (fit_by (eq_by_cmp path_cmp q p) p q x (get t q) (same_path q p) h (all q))

some_fit : (p : Names) (x : Option Element) (y : Option Elem) → IsPath p → IfSome y FitsElem → option_map told x ≡ y → IfSome x IsSound → IfSome x (IsFit p)
some_fit p None y path fits e sound = tt
some_fit p (Some x) y path fits e sound = record { sound = sound; spelled = subst (λ (o : Option Elem). IfSome o FitsElem) (sym e) fits; path = path }

pub fit_next : (c : Change) (t next : Tree) (x : Option Element) → AreFit t → IsPath c.path → IfSome c.entry FitsElem → option_map told x ≡ c.entry → IfSome x IsSound → next ≡ set_at t c.path x → AreFit next
fit_next c t next x all path fits e sound n = subst AreFit (sym n) (set_fit t c.path x all (some_fit c.path x c.entry path fits e sound))

-- ---- each change fits

each_fits : (base : Entries) (before : Option Change) (cs : List Change) → FitEach (FitsChange base) before cs → (i : ℕ) (c : Change) → i < length cs → c ≡ get_or cs i c → IsPath c.path × IfSome c.entry FitsElem
each_fits base before [] h i c lt is = absurd (omega arith)
each_fits base before (d ∷ cs) h zero c lt is = subst (λ (x : Change). IsPath x.path × IfSome x.entry FitsElem) (sym is) (h.0.path, h.0.entry)
each_fits base before (d ∷ cs) h (suc i) c lt is = each_fits base (Some d) cs h.1 i c (omega arith) is

pub at_fits : (base : Entries) (cs : List Change) → FitEach (FitsChange base) None cs → (i : ℕ) (c : Change) → i < length cs → c ≡ get_or cs i c → IsPath c.path × IfSome c.entry FitsElem
at_fits base cs h i c lt is = each_fits base None cs h i c lt is

rises : (base : Entries) (before : Option Change) (cs : List Change) → FitEach (FitsChange base) before cs → is_rising before cs ≡ true
rises base before [] h = refl
rises base before (c ∷ cs) h = ap (λ (b : Bool). b && is_rising (Some c) cs) h.0.above ∙ rises base (Some c) cs h.1

-- ---- a change that no element has

some_of : (x : Option Element) (P : Element → Type 0) (Q : Element → Type 0) → ((e : Element) → P e → Q e) → IfSome x P → IfSome x Q
some_of None P Q f h = tt
some_of (Some e) P Q f h = f e h

pub none_tells : (base : Tree) (cs : List Change) → FitEach (FitsChange (told_tree base)) None cs → (i : ℕ) (c : Change) → i < length cs → c ≡ get_or cs i c
    → ((o : Option Element) → (option_map told o ≡ c.entry) × IfSome o IsSound → ⊥) → (t : Tree) → Tells base cs t → AreFit t → ⊥
none_tells base cs fits i c lt is never t tells fit =
    let parts : cs ≡ take i cs ++ c ∷ drop (suc i) cs = split_at cs i c lt ∙ ap (λ (x : Change). take i cs ++ x ∷ drop (suc i) cs) (sym is) in
    let there : changed (told_tree base) cs c.path ≡ c.entry = at_middle (told_tree base) cs (take i cs) c (drop (suc i) cs) c.path parts (rises (told_tree base) None cs fits) (path_itself c.path) in
    never (get t c.path) (tells c.path ∙ there, some_of (get t c.path) (IsFit c.path) IsSound (λ e f. f.sound) (fit c.path))
