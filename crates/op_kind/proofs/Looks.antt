-- What stands at each path of a tree that was changed.
use Rattle.std.proofs.Common.{◌≡◌, Bool, true, false, not, cond, ◌&&◌, [], ◌∷◌, T, refl, sym, ap, ◌∙◌, subst}
use Rattle.std.specs.Prelude.{Option, Some, None}
use Rattle.std.specs.Option.{option_map, option_or}
use Rattle.std.specs.FinMap.{get, insert, entries, entries_sorted, is_sorted, find, get-insert, get-entries, get-retain_keys}
use Rattle.std.specs.FinMap.Entries.{below_all, find-where_key, is_sorted-where_key}
use Rattle.std.specs.Ordering.{eq_by_cmp, is_eq, is_lt}
use Rattle.std.specs.declared.cmp.Ordering.{Ordering}
use Rattle.std.specs.declared.cmp.Ordering.TheVariants.{Less, Equal, Greater}
use Rattle.res_path.specs.Paths.{Names, path_cmp, is_prefix}
use Rattle.res_path.specs.PathLaws.{path_cmp_total}
use Rattle.res_path.proofs.Prefixes.{path_cmp_exact, path_itself}
use Rattle.ws_elem.specs.Trees.{Tree, without, branch}
use Rattle.ws_elem.specs.declared.element.Element.{Element}
use Rattle.ws_elem.proofs.Cuts.{same_at}
use Rattle.op_kind.specs.Entries.{Entries}
use Rattle.op_kind.specs.Members.{is_below, members, without_members, put_all}
use Rattle.op_kind.specs.Effects.{put_some, change_at}
use Rattle.op_kind.proofs.PathsBelow.{never, not_true}
use Rattle.op_kind.proofs.Cases.{at_cond, cond_true, cond_false}

-- what stands at each path
abbrev pub Look : Type 0
Look = Names → Option Element

-- p and q are one
abbrev pub is_at : Names → Names → Bool
is_at q p = eq_by_cmp path_cmp q p

pub at_itself : (p : Names) → is_at p p ≡ true
at_itself p = ap is_eq (path_itself p)

pub at_same : (q p : Names) → q ≡ p → is_at q p ≡ true
at_same q p h = ap (λ r. is_at r p) h ∙ at_itself p

pub at_other : (q p : Names) → (q ≡ p → ⊥) → is_at q p ≡ false
at_other q p h = not_true (is_at q p) (λ e. h (same_at q p e))

pub not_at : (q p : Names) → is_at q p ≡ false → q ≡ p → ⊥
not_at q p h e = never (sym (at_same q p e) ∙ h)

-- ---- one path

pub get-put : (t : Tree) (p : Names) (e : Element) (q : Names) → get (insert t p e) q ≡ cond (is_at q p) (Some e) (get t q)
get-put t p e q = get-insert path_cmp_total t p e q

-- what is at p is changed so
abbrev pub changed_at : Look → Names → (Element → Element) → Look
changed_at f p change q = cond (is_at q p) (option_map change (f q)) (f q)

get-put_some : (t : Tree) (p : Names) (x : Option Element) (q : Names) → get t p ≡ x → (change : Element → Element)
    → get (put_some t p (option_map change x)) q ≡ cond (is_at q p) (option_map change (get t q)) (get t q)
get-put_some t p None q h change = at_cond (λ y. get t q ≡ y) (is_at q p) (option_map change (get t q)) (get t q)
    (λ same. let none : get t q ≡ None = ap (get t) (same_at q p same) ∙ h in none ∙ sym (ap (option_map change) none)) (λ _. refl)
get-put_some t p (Some e) q h change = get-put t p (change e) q ∙ at_cond (λ y. cond (is_at q p) (Some (change e)) (get t q) ≡ y) (is_at q p) (option_map change (get t q)) (get t q)
    (λ same. cond_true (is_at q p) (Some (change e)) (get t q) same ∙ sym (ap (option_map change) (ap (get t) (same_at q p same) ∙ h)))
    (λ other. cond_false (is_at q p) (Some (change e)) (get t q) other)

pub get-change_at : (t : Tree) (p : Names) (change : Element → Element) (q : Names) → get (change_at t p change) q ≡ changed_at (get t) p change q
get-change_at t p change q = get-put_some t p (get t p) q refl change

-- ---- cuts

-- p and all below it are gone
abbrev pub cut : Look → Names → Look
cut f p q = cond (is_prefix p q) None (f q)

turned : (b : Bool) (x : Option Element) → cond (not b) x None ≡ cond b None x
turned true x = refl
turned false x = refl

pub get-without : (t : Tree) (p q : Names) → get (without t p) q ≡ cut (get t) p q
get-without t p q = get-retain_keys t (λ x. not (is_prefix p x)) q (λ x h. ap (λ y. not (is_prefix p y)) (sym (path_cmp_exact q x h))) ∙ turned (is_prefix p q) (get t q)

-- all below p is gone
abbrev pub cut_members : Look → Names → Look
cut_members f p q = cond (is_below p q) None (f q)

pub get-without_members : (t : Tree) (p q : Names) → get (without_members t p) q ≡ cut_members (get t) p q
get-without_members t p q = get-retain_keys t (λ x. not (is_below p x)) q (λ x h. ap (λ y. not (is_below p y)) (sym (path_cmp_exact q x h))) ∙ turned (is_below p q) (get t q)

-- ---- parts

abbrev pub find_at : Names → Entries → Option Element
find_at q es = find path_cmp q es

abbrev pub sorted : Entries → Bool
sorted es = is_sorted path_cmp es

pub find-branch : (t : Tree) (p q : Names) → find_at q (branch t p) ≡ cond (is_prefix p q) (get t q) None
find-branch t p q = find-where_key path_cmp (λ x. is_prefix p x) q (λ x h. ap (is_prefix p) (sym (path_cmp_exact q x h))) (entries t)
    ∙ ap (λ y. cond (is_prefix p q) y None) (sym (get-entries t q))

pub find-members : (t : Tree) (p q : Names) → find_at q (members t p) ≡ cond (is_below p q) (get t q) None
find-members t p q = find-where_key path_cmp (λ x. is_below p x) q (λ x h. ap (is_below p) (sym (path_cmp_exact q x h))) (entries t)
    ∙ ap (λ y. cond (is_below p q) y None) (sym (get-entries t q))

pub sorted-branch : (t : Tree) (p : Names) → T (sorted (branch t p))
sorted-branch t p = is_sorted-where_key path_cmp (λ x. is_prefix p x) (entries t) (entries_sorted t)

pub sorted-members : (t : Tree) (p : Names) → T (sorted (members t p))
sorted-members t p = is_sorted-where_key path_cmp (λ x. is_below p x) (entries t) (entries_sorted t)

-- ---- elements at their paths

-- the last element at q
abbrev pub last_at : Names → Entries → Option Element
last_at q [] = None
last_at q (e ∷ es) = option_or (last_at q es) (cond (is_at q e.0) (Some e.1) None)

or_or : (x : Option Element) (b : Bool) (e : Element) (y : Option Element) → option_or x (cond b (Some e) y) ≡ option_or (option_or x (cond b (Some e) None)) y
or_or None true e y = refl
or_or None false e y = refl
or_or (Some f) b e y = refl

pub get-put_all : (t : Tree) (es : Entries) (q : Names) → get (put_all t es) q ≡ option_or (last_at q es) (get t q)
get-put_all t [] q = refl
get-put_all t (e ∷ es) q = get-put_all (insert t e.0 e.1) es q ∙ ap (option_or (last_at q es)) (get-put t e.0 e.1 q) ∙ or_or (last_at q es) (is_at q e.0) e.1 (get t q)

first : (a b : Bool) → T (a && b) → T a
first true b h = tt
first false b h = h

second : (a b : Bool) → T (a && b) → T b
second true b h = h
second false b h = absurd h

not_tied : (o : Ordering) → T (is_lt o) → is_eq o ≡ false
not_tied Less h = refl
not_tied Equal h = absurd h
not_tied Greater h = absurd h

pub none_above : (q : Names) (es : Entries) → T (below_all path_cmp q es) → find_at q es ≡ None
none_above q [] h = refl
none_above q (e ∷ es) h = cond_false (is_at q e.0) (Some e.1) (find_at q es) (not_tied (path_cmp q e.0) (first (is_lt (path_cmp q e.0)) (below_all path_cmp q es) h))
    ∙ none_above q es (second (is_lt (path_cmp q e.0)) (below_all path_cmp q es) h)

-- in entries that are in order the last one is the only one
pub last_is : (q : Names) (es : Entries) → T (sorted es) → last_at q es ≡ find_at q es
last_is q [] s = refl
last_is q (e ∷ es) s = ap (λ x. option_or x (cond (is_at q e.0) (Some e.1) None)) (last_is q es (second (below_all path_cmp e.0 es) (sorted es) s))
    ∙ at_cond (λ y. option_or (find_at q es) (cond (is_at q e.0) (Some e.1) None) ≡ y) (is_at q e.0) (Some e.1) (find_at q es)
    (λ same. ap (λ x. option_or x (cond (is_at q e.0) (Some e.1) None))
    (none_above q es (subst (λ r. T (below_all path_cmp r es)) (sym (same_at q e.0 same)) (first (below_all path_cmp e.0 es) (sorted es) s)))
    ∙ cond_true (is_at q e.0) (Some e.1) None same)
    (λ other. ap (option_or (find_at q es)) (cond_false (is_at q e.0) (Some e.1) None other) ∙ or_none (find_at q es))
  where
    or_none : (x : Option Element) → option_or x None ≡ x
    or_none None = refl
    or_none (Some f) = refl
