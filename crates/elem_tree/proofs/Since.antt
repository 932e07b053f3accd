-- What became of the tree since a mark.
use Rattle.std.proofs.Common.{◌≡◌, ◌+◌, ◌≤◌, ℕ, arith, List, [], ◌∷◌, refl, sym, ap, ◌∙◌, subst}
use Rattle.std.specs.Prelude.{Option, Some, None, Result, Ok, Err, IfOk, OnOk, OnErr, IfSome}
use Rattle.std.specs.FinMap.{get, empty, get-empty, len}
use Rattle.res_path.specs.Paths.{path_cmp}
use Rattle.ws_elem.specs.Trees.{Tree}
use Rattle.layer_log.specs.Records.{Records, Turns, Leads, Meets, Net, IsNetOf}
use Rattle.elem_tree.specs.declared.layer.Layer as kept
use Rattle.elem_tree.specs.Layers.{Layer, from_mark, tree_before, tree_of_first, records}
use Rattle.elem_tree.specs.Inside.Shown.{Rising, IsCut, shown_all, with_current}
use Rattle.elem_tree.proofs.Gathers.{none_most}
use Rattle.elem_tree.proofs.Marks.{from_cut}

pub if_ok : {T E : Type 0} {P Q : T → Type 0} (r : Result T E) → IfOk r P → ((x : T) → P x → Q x) → IfOk r Q
if_ok (Ok x) p f = f x p
if_ok (Err e) p f = tt

pub if_some : {X : Type 0} {P Q : X → Type 0} (r : Option X) → IfSome r P → ((x : X) → P x → Q x) → IfSome r Q
if_some None p f = tt
if_some (Some x) p f = f x p

pub on_ok : {T E P Q : Type 0} (r : Result T E) → OnOk r P → (P → Q) → OnOk r Q
on_ok (Ok x) p f = f p
on_ok (Err e) p f = tt

pub on_err_of : {T E P Q : Type 0} (r : Result T E) → OnErr r P → (P → Q) → OnErr r Q
on_err_of (Ok x) p f = tt
on_err_of (Err e) p f = f p

pub on_err : {T E P : Type 0} (r : Result T E) → P → OnErr r P
on_err (Ok x) p = tt
on_err (Err e) p = p

-- what follows from either outcome
pub outcome : {T E A B C P : Type 0} (r : Result T E) → OnOk r A → OnOk r B → OnErr r C → (A → B → P) → (C → P) → P
outcome (Ok x) a b c f g = f a b
outcome (Err e) a b c f g = g c

first_leads : (t : Tree) (c : Records) (ls : List Layer) → Leads (tree_before t ls) c t → IfSome (tree_of_first t ls) (λ u. Leads u c t)
first_leads t c [] h = tt
first_leads t c (l ∷ ls) h = h

first_most : (t : Tree) (n : ℕ) (ls : List Layer) → n ≤ records ls → IfSome (tree_of_first t ls) (λ _. n ≤ records ls)
first_most t n [] h = tt
first_most t n (l ∷ ls) h = h

pub since_leads : (t : Tree) (c : Records) (m : ℕ) (ls rest : List kept.Layer) (k : Option kept.Layer) → IsCut m ls rest → Rising (with_current ls k)
    → Leads (tree_before t (shown_all (with_current rest k))) c t → IfSome (tree_of_first t (from_mark m (shown_all (with_current ls k)))) (λ u. Leads u c t)
since_leads t c m ls rest k cut rising h = from_cut (λ xs. IfSome (tree_of_first t xs) (λ u. Leads u c t)) m ls rest k cut rising tt (first_leads t c (shown_all (with_current rest k)) h)

pub since_most : (t : Tree) (n m : ℕ) (ls rest : List kept.Layer) (k : Option kept.Layer) → IsCut m ls rest → Rising (with_current ls k)
    → n ≤ records (shown_all (with_current rest k)) → IfSome (tree_of_first t (from_mark m (shown_all (with_current ls k)))) (λ _. n ≤ records (from_mark m (shown_all (with_current ls k))))
since_most t n m ls rest k cut rising h = from_cut (λ xs. IfSome (tree_of_first t xs) (λ _. n ≤ records xs)) m ls rest k cut rising tt (first_most t n (shown_all (with_current rest k)) h)

pub meets_none : (c d : Records) → c ≡ empty → Meets c d
meets_none c d is p = subst (λ x. IfSome x (λ r. IfSome (get d p) (λ s. r.after ≡ s.before))) (sym (ap (λ m. get m p) is ∙ get-empty path_cmp p)) tt

pub leads_none : (c : Records) (t : Tree) → c ≡ empty → Leads t c t
leads_none c t is p = subst (λ x. Turns (get t p) x (get t p)) (sym (ap (λ m. get m p) is ∙ get-empty path_cmp p)) refl

pub net_since : (none c d : Records) (t u : Tree) → none ≡ empty → IsNetOf none c d → Leads u c t → Net u t d
net_since none c d t u is net leads = net u u t (leads_none none u is) leads

-- each of the changes was a step
pub counted : {E : Type 0} (r : Result Records E) (none : Records) (n old new : ℕ) → none ≡ empty → IfOk r (λ d. len d ≤ len none + n) → OnOk r (new ≡ old + n) → IfOk r (λ d. old + len d ≤ new)
counted (Ok d) none n old new is most cost = let zero = none_most none is in omega (arith, most, cost, zero)
counted (Err e) none n old new is most cost = tt
