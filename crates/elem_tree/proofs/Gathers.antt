-- What became of each path since a mark.
use Rattle.std.proofs.Common.{◌≡◌, ◌≢◌, ◌+◌, ◌≤◌, ℕ, arith, Bool, true, false, cond, if◌then◌else◌, List, [], ◌∷◌, ◌++◌, length, T, refl, sym, ap, ◌∙◌, subst}
use Rattle.std.specs.Prelude.{Option, Some, None, is_some}
use Rattle.std.specs.FinMap.{get, entries, entries_sorted, get-entries, get-empty, find, is_sorted, len, len-insert, len-remove, len-empty, contains_key, empty}
use Rattle.res_path.specs.Paths.{Names, path_cmp}
use Rattle.res_path.specs.PathLaws.{path_cmp_total}
use Rattle.ws_elem.specs.Trees.{Tree}
use Rattle.ws_elem.specs.declared.element.Element.{Element}
use Rattle.ws_elem.proofs.Kept.{get-set_at}
use Rattle.std.specs.Ordering.{eq_by_cmp}
use Rattle.layer_log.specs.declared.change.Change.{Change}
use Rattle.layer_log.specs.Records.{Records, Leads, Turns}
use Rattle.layer_log.proofs.Looks.{put_here, put_elsewhere, path_cases, find_first, find_later, sorted_tail, none_after}
use Rattle.elem_tree.specs.declared.slot.Slot.{Slot}
use Rattle.elem_tree.specs.Layers.{Befores, Layer, set_back, undone, tree_before, records}
use Rattle.elem_tree.specs.declared.layer.Layer as kept
use Rattle.elem_tree.specs.Inside.Shown.{shown, shown_all, with_current}
use Rattle.elem_tree.specs.Inside.Slots.{Slots, note_of, note_in, with_note, befores_in, befores_of}
use Rattle.elem_tree.specs.Inside.Gathered.{gathered, with_change, gathered_at, Gathers, first_in, GathersAll}
use Rattle.elem_tree.proofs.Slots.{get-befores, get-befores_in}

-- ---- one path

gathered_here : (c : Records) (p : Names) (x : Option (Option Element)) (y : Option Element) → get (gathered_at c p x y) p ≡ gathered (get c p) x y
gathered_here c p x y = by (get c p) refl x
  where
    by : (k : Option Change) → get c p ≡ k → (x : Option (Option Element)) → get (if is_some k then c else with_change c p x y) p ≡ gathered k x y
    by (Some r) e x = e
    by None e None = e
    by None e (Some z) = put_here c p (record { before = z; after = y })

gathered_elsewhere : (c : Records) (p q : Names) (x : Option (Option Element)) (y : Option Element) → q ≢ p → get (gathered_at c p x y) q ≡ get c q
gathered_elsewhere c p q x y h = by (contains_key c p) x
  where
    by : (b : Bool) (x : Option (Option Element)) → get (if b then c else with_change c p x y) q ≡ get c q
    by true x = refl
    by false None = refl
    by false (Some z) = put_elsewhere c p q (record { before = z; after = y }) h

again : (k : Option Change) (x : Option (Option Element)) (y : Option Element) → gathered (gathered k x y) None y ≡ gathered k x y
again (Some r) x y = refl
again None None y = refl
again None (Some z) y = refl

-- ---- one layer

-- what is left makes of the changes what all notes make
pub record Gathering (c : Records) (slots : Slots) (t : Tree) (now : Records) (rest : List (Names × Slot)) : Type 0 where
  pub sorted : T (is_sorted path_cmp rest)
  pub each : (p : Names) → gathered (get now p) (note_in (find path_cmp p rest)) (get t p) ≡ gathered (get c p) (note_in (get slots p)) (get t p)
  pub most : len now + len (befores_in rest) ≤ len c + len (befores_of slots)

pub gathering_begins : (c : Records) (slots : Slots) (t : Tree) → Gathering c slots t c (entries slots)
gathering_begins c slots t = record {
  sorted = entries_sorted slots;
  each = λ p. ap (λ k. gathered (get c p) (note_in k) (get t p)) (sym (get-entries slots p));
  most = omega arith;
}

-- a note more makes one record more, and the slots that note nothing none
one_more : (n : ℕ) (b : Bool) → b ≡ false → cond b n (n + 1) ≡ n + 1
one_more n true h = cc
one_more n false h = refl

no_more : (n m : ℕ) (b : Bool) → b ≡ false → cond b m n ≡ n
no_more n m true h = cc
no_more n m false h = refl

with_note_len : (b : Befores) (p : Names) (x : Option (Option Element)) → get b p ≡ None → len (with_note b p x) ≡ len b + (if is_some x then 1 else 0)
with_note_len b p None h = len-remove path_cmp_total b p ∙ no_more (len b) _ (contains_key b p) (ap is_some h) ∙ plus (len b)
  where
    plus : (n : ℕ) → n ≡ n + 0
    plus n = omega arith
with_note_len b p (Some x) h = len-insert path_cmp_total b p x ∙ one_more (len b) (contains_key b p) (ap is_some h)

at_most : (c : Records) (p : Names) (x : Option (Option Element)) (y : Option Element) → len (gathered_at c p x y) ≤ len c + (if is_some x then 1 else 0)
at_most c p x y = by (contains_key c p) refl x
  where
    more : (n : ℕ) (b : Bool) → b ≡ false → cond b n (n + 1) ≤ n + 1
    more n true h = omega arith
    more n false h = omega arith

    by : (b : Bool) → contains_key c p ≡ b → (x : Option (Option Element)) → len (if b then c else with_change c p x y) ≤ len c + (if is_some x then 1 else 0)
    by true h None = omega arith
    by true h (Some z) = omega arith
    by false h None = omega arith
    by false h (Some z) = subst (λ n. n ≤ len c + 1) (sym (len-insert path_cmp_total c p (record { before = z; after = y }))) (more (len c) (contains_key c p) h)

pub gathering_steps : (c : Records) (slots : Slots) (t : Tree) (now after : Records) (e : Names × Slot) (rest : List (Names × Slot))
    → Gathering c slots t now (e ∷ rest) → after ≡ gathered_at now e.0 (note_of e.1) (get t e.0) → Gathering c slots t after rest
gathering_steps c slots t now after e rest g is =
    let none = none_after e rest g.sorted in
    let long = with_note_len (befores_in rest) e.0 (note_of e.1) (get-befores_in rest e.0 ∙ ap note_in none) in
    let short = subst (λ m. len m ≤ len now + (if is_some (note_of e.1) then 1 else 0)) (sym is) (at_most now e.0 (note_of e.1) (get t e.0)) in
    record {
      sorted = sorted_tail e rest g.sorted;
      each = λ p. path_cases p e.0
          (λ same. subst (λ z. gathered (get after z) (note_in (find path_cmp z rest)) (get t z) ≡ gathered (get c z) (note_in (get slots z)) (get t z)) (sym same)
          (ap (λ k. gathered (get after e.0) (note_in k) (get t e.0)) none ∙ ap (λ m. gathered (get m e.0) None (get t e.0)) is
          ∙ ap (λ k. gathered k None (get t e.0)) (gathered_here now e.0 (note_of e.1) (get t e.0)) ∙ again (get now e.0) (note_of e.1) (get t e.0)
          ∙ ap (λ k. gathered (get now e.0) (note_in k) (get t e.0)) (sym (find_first e rest)) ∙ g.each e.0))
          (λ other. ap (λ k. gathered k (note_in (find path_cmp p rest)) (get t p)) (ap (λ m. get m p) is ∙ gathered_elsewhere now e.0 p (note_of e.1) (get t e.0) other)
          ∙ ap (λ k. gathered (get now p) (note_in k) (get t p)) (sym (find_later p e rest other)) ∙ g.each p);
      most = omega (arith, long, short, g.most);
    }

nothing_left : (k : Option Change) (y : Option Element) → gathered k None y ≡ k
nothing_left None y = refl
nothing_left (Some r) y = refl

pub gathering_ends : (c : Records) (slots : Slots) (t : Tree) (now : Records) → Gathering c slots t now [] → Gathers c now (befores_of slots) t
gathering_ends c slots t now g p = sym (nothing_left (get now p) (get t p)) ∙ g.each p ∙ ap (λ x. gathered (get c p) x (get t p)) (sym (get-befores slots p))

pub gathering_most : (c : Records) (slots : Slots) (t : Tree) (now : Records) → Gathering c slots t now [] → len now ≤ len c + len (befores_of slots)
gathering_most c slots t now g = omega (arith, g.most)

-- ---- some layers

pub gathers_none : (c : Records) (t : Tree) → GathersAll c c [] t
gathers_none c t p = sym (nothing_left (get c p) (get t p))

twice : (k : Option Change) (x : Option (Option Element)) (z : Option (Option Element)) (y : Option Element)
    → gathered (gathered k x y) z y ≡ gathered k (if is_some x then x else z) y
twice (Some r) x z y = refl
twice None None z y = refl
twice None (Some x) z y = refl

-- what the first layer and then the others make, all make
pub gathers_first : (c d e : Records) (l : Layer) (ls : List Layer) (t : Tree) → Gathers c d l.befores t → GathersAll d e ls t → GathersAll c e (l ∷ ls) t
gathers_first c d e l ls t g h p = h p ∙ ap (λ k. gathered k (first_in ls p) (get t p)) (g p) ∙ twice (get c p) (get l.befores p) (first_in ls p) (get t p)

pub gathers_one : (c d : Records) (l : Layer) (t : Tree) → Gathers c d l.befores t → GathersAll c d (l ∷ []) t
gathers_one c d l t g = gathers_first c d d l [] t g (gathers_none d t)

first_append : (ls ks : List Layer) (p : Names) → first_in (ls ++ ks) p ≡ (if is_some (first_in ls p) then first_in ls p else first_in ks p)
first_append [] ks p = refl
first_append (l ∷ ls) ks p = by (get l.befores p) (first_append ls ks p)
  where
    by : (x : Option (Option Element)) → first_in (ls ++ ks) p ≡ (if is_some (first_in ls p) then first_in ls p else first_in ks p)
        → (if is_some x then x else first_in (ls ++ ks) p) ≡ (if is_some (if is_some x then x else first_in ls p) then (if is_some x then x else first_in ls p) else first_in ks p)
    by None h = h
    by (Some x) h = refl

pub gathers_append : (c d e : Records) (ls ks : List Layer) (t : Tree) → GathersAll c d ls t → GathersAll d e ks t → GathersAll c e (ls ++ ks) t
gathers_append c d e ls ks t g h p =
    h p ∙ ap (λ k. gathered k (first_in ks p) (get t p)) (g p) ∙ twice (get c p) (first_in ls p) (first_in ks p) (get t p)
    ∙ ap (λ x. gathered (get c p) x (get t p)) (sym (first_append ls ks p))

-- ---- the tree from which they lead

abbrev pub or_now : Option (Option Element) → Option Element → Option Element
or_now None y = y
or_now (Some x) y = x

sets : (b : Bool) (x : Option Element) (k : Option (Option Element)) (y : Option Element) → cond b x (or_now k y) ≡ or_now (cond b (Some x) k) y
sets true x k y = refl
sets false x k y = refl

get-set_back : (t : Tree) (es : List (Names × Option Element)) (q : Names) → get (set_back t es) q ≡ or_now (find path_cmp q es) (get t q)
get-set_back t [] q = refl
get-set_back t (e ∷ es) q =
    get-set_at (set_back t es) e.0 e.1 q ∙ ap (cond (eq_by_cmp path_cmp q e.0) e.1) (get-set_back t es q) ∙ sets (eq_by_cmp path_cmp q e.0) e.1 (find path_cmp q es) (get t q)

pub get-undone : (t : Tree) (b : Befores) (q : Names) → get (undone t b) q ≡ or_now (get b q) (get t q)
get-undone t b q = get-set_back t (entries b) q ∙ ap (λ k. or_now k (get t q)) (sym (get-entries b q))

pub or_or : (x z : Option (Option Element)) (y : Option Element) → or_now x (or_now z y) ≡ or_now (if is_some x then x else z) y
or_or None z y = refl
or_or (Some x) z y = refl

pub get-before : (t : Tree) (ls : List Layer) (q : Names) → get (tree_before t ls) q ≡ or_now (first_in ls q) (get t q)
get-before t [] q = refl
get-before t (l ∷ ls) q = get-undone (tree_before t ls) l.befores q ∙ ap (or_now (get l.befores q)) (get-before t ls q) ∙ or_or (get l.befores q) (first_in ls q) (get t q)

turns_now : (x : Option (Option Element)) (y : Option Element) → Turns (or_now x y) (gathered None x y) y
turns_now None y = refl
turns_now (Some x) y = (refl, refl)

pub all_lead : (c d : Records) (ls : List Layer) (t : Tree) → c ≡ empty → GathersAll c d ls t → Leads (tree_before t ls) d t
all_lead c d ls t none g p =
    subst (λ x. Turns x (get d p) (get t p)) (sym (get-before t ls p))
    (subst (λ k. Turns (or_now (first_in ls p) (get t p)) k (get t p)) (sym (g p ∙ ap (λ k. gathered k (first_in ls p) (get t p)) (ap (λ m. get m p) none ∙ get-empty path_cmp p)))
    (turns_now (first_in ls p) (get t p)))

-- what the rest makes of the changes is what all make
pub record GatheringAll (c : Records) (all : List kept.Layer) (t : Tree) (now : Records) (rest : List kept.Layer) : Type 0 where
  pub each : (p : Names) → gathered (get now p) (first_in (shown_all rest) p) (get t p) ≡ gathered (get c p) (first_in (shown_all all) p) (get t p)
  pub most : len now + records (shown_all rest) ≤ len c + records (shown_all all)

pub all_begins : (c : Records) (all : List kept.Layer) (t : Tree) → GatheringAll c all t c all
all_begins c all t = record { each = λ p. refl; most = omega arith }

pub all_steps : (c : Records) (all : List kept.Layer) (t : Tree) (now after : Records) (l : kept.Layer) (rest : List kept.Layer)
    → GatheringAll c all t now (l ∷ rest) → Gathers now after (befores_of l.notes) t → len after ≤ len now + len (befores_of l.notes) → GatheringAll c all t after rest
all_steps c all t now after l rest g h most = record {
  each = λ p. ap (λ k. gathered k (first_in (shown_all rest) p) (get t p)) (h p)
      ∙ twice (get now p) (get (befores_of l.notes) p) (first_in (shown_all rest) p) (get t p) ∙ g.each p;
  most = omega (arith, most, g.most);
}

pub all_ends : (c : Records) (all : List kept.Layer) (t : Tree) (now : Records) → GatheringAll c all t now [] → GathersAll c now (shown_all all) t
all_ends c all t now g p = sym (nothing_left (get now p) (get t p)) ∙ g.each p

pub all_most : (c : Records) (all : List kept.Layer) (t : Tree) (now : Records) → GatheringAll c all t now [] → len now ≤ len c + records (shown_all all)
all_most c all t now g = omega (arith, g.most)

records_append : (ls ks : List Layer) → records (ls ++ ks) ≡ records ls + records ks
records_append [] ks = omega arith
records_append (l ∷ ls) ks = let h = records_append ls ks in omega (arith, h)

pub shown_append : (ls ks : List kept.Layer) → shown_all (ls ++ ks) ≡ shown_all ls ++ shown_all ks
shown_append [] ks = refl
shown_append (l ∷ ls) ks = ap (λ xs. shown l ∷ xs) (shown_append ls ks)

append_none : (ls : List Layer) → ls ++ [] ≡ ls
append_none [] = refl
append_none (l ∷ ls) = ap (λ xs. l ∷ xs) (append_none ls)

pub shown_current : (ls : List kept.Layer) (k : Option kept.Layer) → shown_all (with_current ls k) ≡ shown_all ls ++ shown_all (with_current [] k)
shown_current ls None = sym (append_none (shown_all ls))
shown_current ls (Some l) = shown_append ls (l ∷ [])

-- the layers that ended, and then the current one
pub both_gather : (c d e : Records) (ls : List kept.Layer) (k : Option kept.Layer) (t : Tree) → GathersAll c d (shown_all ls) t → GathersAll d e (shown_all (with_current [] k)) t
    → GathersAll c e (shown_all (with_current ls k)) t
both_gather c d e ls k t g h = subst (λ xs. GathersAll c e xs t) (sym (shown_current ls k)) (gathers_append c d e (shown_all ls) (shown_all (with_current [] k)) t g h)

pub both_most : (c d e : Records) (ls : List kept.Layer) (k : Option kept.Layer) → len d ≤ len c + records (shown_all ls) → len e ≤ len d + records (shown_all (with_current [] k))
    → len c ≡ 0 → len e ≤ records (shown_all (with_current ls k))
both_most c d e ls k h g z =
    let sum = ap records (shown_current ls k) ∙ records_append (shown_all ls) (shown_all (with_current [] k)) in
    omega (arith, h, g, z, sum)

pub one_most : (c e : Records) (l : kept.Layer) → len e ≤ len c + len (befores_of l.notes) → len e ≤ len c + records (shown l ∷ [])
one_most c e l h = omega (arith, h)

pub same_most : (c : Records) → len c ≤ len c + records []
same_most c = omega arith

pub none_most : (c : Records) → c ≡ empty → len c ≡ 0
none_most c is = ap len is ∙ len-empty path_cmp Change

pub no_items : {X : Type 0} (xs : List X) → length xs ≡ 0 → xs ≡ []
no_items [] h = refl
no_items (x ∷ xs) h = cc
